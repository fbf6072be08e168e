-- From `ok` and the events to the devices' outputs.
use Rattle.std.proofs.Common.{◌≡◌, ◌≢◌, ℕ, ◌<◌, ◌≤◌, List, [], ◌++◌, map, refl, ap, sym, ◌∙◌, append-nil, arith, subst}
use Rattle.std.specs.Prelude.{Option, Some, None, Ok, Err, IfSome, IsSome}
use Rattle.std.specs.Io.KnownBytes.{Appends}
use Rattle.genie_base.specs.Causes.{Rose}
use Rattle.genie_host.specs.Host.{HostView, HandleState}
use Rattle.genie_model.specs.Sending.{sent_of}
use Rattle.genie_model.specs.State.{State}
use Rattle.genie_script.specs.Judge.{Numbered, events_from}
use Rattle.genie_script.specs.Spelling.{reply_text}
use Rattle.genie_script.specs.declared.line.DeviceLine.{DeviceLine}
use Rattle.genie_replay.specs.declared.script.LineStep.{LineStep}
use Rattle.genie_replay.specs.declared.status.Status.{Status}
use Rattle.genie_replay.specs.declared.status.Status.TheVariants as status
use Rattle.genie_replay.specs.Booted.{Runs, RunsAll, RunsFrom, RunsInPart}
use Rattle.genie_replay.specs.Files.{HandleRose, HasSent, HasSentFront, HoldsOfOutputs, IsWriting, SameFaults, WritesFiles}
use Rattle.genie_replay.specs.Outcome.{okay, texts}
use Rattle.genie_replay.specs.Plays.{Leaves, OnlyRun, Played, PlayedInPart, Plays, PlaysFrom}
use Rattle.genie_replay.specs.Write.{WritesAll}
use Rattle.genie_replay.specs.Lemmas.Filing.{front_none, only_faults, outputs_all, outputs_map}
use Rattle.genie_replay.proofs.Stepping.{later_more, later_same, plain_none}
use Rattle.genie_replay.specs.Lemmas.Writing.{appends_more, ends_all, up_to_behind}

-- `ok` was written, and then the events were run
pub record Begun (old mid after : HostView) : Type 0 where
  pub okay_written : Appends (old.handle 0).bytes (mid.handle 0).bytes okay
  pub outputs : (h : ℕ) → 1 < h → after.handle h ≡ old.handle h
  pub tried : after.tried ≡ old.tried

pub begun : (E : Type 0) (old mid after : HostView) (u : Unit {0}) → WritesAll {E = E} 0 old mid (Ok u) okay → OnlyRun mid after → Begun old mid after
begun E old mid after u w r = record {
  okay_written = w.whole;
  outputs = λ h later. r.others h (λ e. omega (arith, e, later)) (λ e. omega (arith, e, later)) ∙ w.only.others h (λ e. omega (arith, e, later));
  tried = r.tried ∙ w.only.tried;
}

-- the outputs can be written to
pub outputs_writing : (old mid after : HostView) (ds : List DeviceLine) → Begun old mid after → HoldsOfOutputs (IsWriting old) 1 ds → HoldsOfOutputs (IsWriting after) 1 ds
outputs_writing old mid after ds b p = outputs_map (IsWriting old) (IsWriting after) 1 ds (λ n h later m. ap (λ (x : HandleState). x.mode) (b.outputs h later) ∙ m) p

all_sent : (s : State) (old mid after new : HostView) (ds : List DeviceLine) → Begun old mid after → HoldsOfOutputs (HasSent s after new) 1 ds → HoldsOfOutputs (HasSent s old new) 1 ds
all_sent s old mid after new ds b p = outputs_map (HasSent s after new) (HasSent s old new) 1 ds (λ n h later q. let same : after.handle h ≡ old.handle h = b.outputs h later in rw (← same) q) p

fronts_sent : (s : State) (old mid after new : HostView) (ds : List DeviceLine) → Begun old mid after → HoldsOfOutputs (HasSentFront s after new) 1 ds → HoldsOfOutputs (HasSentFront s old new) 1 ds
fronts_sent s old mid after new ds b p = outputs_map (HasSentFront s after new) (HasSentFront s old new) 1 ds (λ n h later q. let same : after.handle h ≡ old.handle h = b.outputs h later in rw (← same) q) p

whole_fronts : (s : State) (old new : HostView) (ds : List DeviceLine) → HoldsOfOutputs (HasSent s old new) 1 ds → HoldsOfOutputs (HasSentFront s old new) 1 ds
whole_fronts s old new ds p = outputs_map (HasSent s old new) (HasSentFront s old new) 1 ds (λ n h later q. (sent_of s n, [], sym (append-nil (sent_of s n)), q)) p

cc_some : (s t : State) → Some s ≡ Some t → s ≡ t
cc_some s t e = cc

all_runs : (start : State) (ds : List DeviceLine) (events : List Numbered) (s : State) (old mid after new : HostView) → Begun old mid after → Played start events (Some s) mid after → HoldsOfOutputs (HasSent s after new) 1 ds → new.handle 0 ≡ after.handle 0 → new.tried ≡ after.tried → RunsAll start ds events old new
all_runs start ds events s old mid after new b p sent replies tried =
    let last : s ≡ p.run.last = cc_some s p.run.last p.machine_is in
    record {
      run = p.run;
      plain = p.plain;
      written = rw replies (appends_more (old.handle 0).bytes (mid.handle 0).bytes (after.handle 0).bytes okay (texts p.run.replies) b.okay_written p.written);
      sent = rw (← last) (all_sent s old mid after new ds b sent);
      tried = tried ∙ b.tried;
    }

part_runs : (start : State) (ds : List DeviceLine) (events : List Numbered) (s : State) (old mid after new : HostView) → Begun old mid after → PlayedInPart start events (Some s) mid after → HoldsOfOutputs (HasSentFront s after new) 1 ds → new.handle 0 ≡ after.handle 0 → new.tried ≡ after.tried → RunsInPart start ds events old new
part_runs start ds events s old mid after new b p sent replies tried =
    let last : s ≡ p.run.last = p.machine_is in
    record {
      done = p.done;
      left = p.left;
      split = p.split;
      run = p.run;
      plain = p.plain;
      written = rw replies (up_to_behind (old.handle 0).bytes (mid.handle 0).bytes (after.handle 0).bytes okay (map reply_text p.run.replies) b.okay_written p.written);
      sent = rw (← last) (fronts_sent s old mid after new ds b sent);
      tried = tried ∙ b.tried;
    }

-- all that was played is a part of it
as_part : (start : State) (events left : List Numbered) (machine : Option State) (old u : HostView) → Played start events machine old u → PlayedInPart start (events ++ left) machine old u
as_part start events left machine old u p = record {
  done = events;
  left = left;
  split = refl;
  run = p.run;
  plain = p.plain;
  machine_is = rw p.machine_is refl;
  written = (texts p.run.replies, ends_all reply_text p.run.replies, p.written);
}

-- the outputs were written whole
all_filed : (st : Status) (start : State) (ds : List DeviceLine) (before : ℕ) (lines : List (List ℕ)) (s : State) (old mid after new : HostView) (E : Type 0) (u : Unit {0}) → st ≢ status.NoMemory → Begun old mid after → Plays before lines start (Some s) mid after st → WritesFiles {E = E} s 1 ds after new (Ok u) → Runs start ds before lines old new st
all_filed status.HostFault start ds before lines s old mid after new E u ne b q f = part_runs start ds (events_from before lines) s old mid after new b q.1 (whole_fronts s after new ds f.whole) (f.kept 0 (omega arith)) f.tried
all_filed status.NoMemory start ds before lines s old mid after new E u ne b q f = absurd (ne refl)
all_filed status.Done start ds before lines s old mid after new E u ne b q f = (q.0, all_runs start ds (events_from before lines) s old mid after new b q.1 f.whole (f.kept 0 (omega arith)) f.tried)
all_filed status.Usage start ds before lines s old mid after new E u ne b q f = (q.0, all_runs start ds (events_from before lines) s old mid after new b q.1 f.whole (f.kept 0 (omega arith)) f.tried)
all_filed (status.BadLine l) start ds before lines s old mid after new E u ne b q f = (q.0, all_runs start ds (events_from before lines) s old mid after new b q.1 f.whole (f.kept 0 (omega arith)) f.tried)
all_filed status.TooLong start ds before lines s old mid after new E u ne b q f = (q.0, all_runs start ds (events_from before lines) s old mid after new b q.1 f.whole (f.kept 0 (omega arith)) f.tried)
all_filed (status.BadBoot l) start ds before lines s old mid after new E u ne b q f = (q.0, all_runs start ds (events_from before lines) s old mid after new b q.1 f.whole (f.kept 0 (omega arith)) f.tried)

whole_part : (start : State) (events : List Numbered) (s : State) (mid after : HostView) → Played start events (Some s) mid after → PlayedInPart start events (Some s) mid after
whole_part start events s mid after q = subst (λ es. PlayedInPart start es (Some s) mid after) (append-nil events) (as_part start events [] (Some s) mid after q)

-- what was played, as a part of the script's events
some_played : (st : Status) (before : ℕ) (lines : List (List ℕ)) (start s : State) (mid after : HostView) → st ≢ status.NoMemory → Plays before lines start (Some s) mid after st → PlayedInPart start (events_from before lines) (Some s) mid after
some_played status.HostFault before lines start s mid after ne q = q.1
some_played status.NoMemory before lines start s mid after ne q = absurd (ne refl)
some_played status.Done before lines start s mid after ne q = whole_part start (events_from before lines) s mid after q.1
some_played status.Usage before lines start s mid after ne q = whole_part start (events_from before lines) s mid after q.1
some_played (status.BadLine l) before lines start s mid after ne q = whole_part start (events_from before lines) s mid after q.1
some_played status.TooLong before lines start s mid after ne q = whole_part start (events_from before lines) s mid after q.1
some_played (status.BadBoot l) before lines start s mid after ne q = whole_part start (events_from before lines) s mid after q.1

-- an output couldn't be written
some_filed : {E : Type 0} (st : Status) (start : State) (ds : List DeviceLine) (before : ℕ) (lines : List (List ℕ)) (s : State) (old mid after new : HostView) (e : E) → st ≢ status.NoMemory → Begun old mid after → Plays before lines start (Some s) mid after st → WritesFiles s 1 ds after new (Err e) → Runs start ds before lines old new status.HostFault
some_filed st start ds before lines s old mid after new e ne b q f = part_runs start ds (events_from before lines) s old mid after new b (some_played st before lines start s mid after ne q) f.front (f.kept 0 (omega arith)) f.tried

-- memory ran out among the events
no_memory : (start : State) (ds : List DeviceLine) (before : ℕ) (lines : List (List ℕ)) (machine : Option State) (old mid after : HostView) → Begun old mid after → PlayedInPart start (events_from before lines) machine mid after → Runs start ds before lines old after status.NoMemory
no_memory start ds before lines machine old mid after b q = record {
  done = q.done;
  left = q.left;
  split = q.split;
  run = q.run;
  plain = q.plain;
  written = up_to_behind (old.handle 0).bytes (mid.handle 0).bytes (after.handle 0).bytes okay (map reply_text q.run.replies) b.okay_written q.written;
  sent = outputs_all (HasSentFront q.run.last old after) 1 ds (λ n h later. let same : after.handle h ≡ old.handle h = b.outputs h later in rw same (front_none (old.handle h).bytes (sent_of q.run.last n)));
  tried = b.tried;
}

-- The same where the host may not tell the script.

pub files_whole : (E : Type 0) (st : Status) (ds : List DeviceLine) (text : Option (List ℕ)) (step : LineStep) (line : List ℕ) (before : ℕ) (start machine : Option State) (old mid after new : HostView) (u : Unit {0})
    → st ≢ status.NoMemory → IsSome machine → Begun old mid after → PlaysFrom start text step line before machine mid after st → IfSome machine (λ s. WritesFiles {E = E} s 1 ds after new (Ok u)) → RunsFrom start ds text step line before old new st
files_whole E st ds text step line before None machine old mid after new u ne some b q f = absurd q
files_whole E st ds None step line before (Some start) machine old mid after new u ne some b q f = tt
files_whole E st ds (Some text) step line before (Some start) None old mid after new u ne some b q f = absurd (cc)
files_whole E st ds (Some text) step line before (Some start) (Some s) old mid after new u ne some b q f = λ lines pending. all_filed st start ds before lines s old mid after new E u ne b (q lines pending) f

pub files_cut : {E : Type 0} (st : Status) (ds : List DeviceLine) (text : Option (List ℕ)) (step : LineStep) (line : List ℕ) (before : ℕ) (start machine : Option State) (old mid after new : HostView) (e : E)
    → st ≢ status.NoMemory → IsSome machine → Begun old mid after → PlaysFrom start text step line before machine mid after st → IfSome machine (λ s. WritesFiles s 1 ds after new (Err e)) → RunsFrom start ds text step line before old new status.HostFault
files_cut st ds text step line before None machine old mid after new e ne some b q f = absurd q
files_cut st ds None step line before (Some start) machine old mid after new e ne some b q f = tt
files_cut st ds (Some text) step line before (Some start) None old mid after new e ne some b q f = absurd (cc)
files_cut st ds (Some text) step line before (Some start) (Some s) old mid after new e ne some b q f = λ lines pending. some_filed st start ds before lines s old mid after new e ne b (q lines pending) f

pub memory_out : (ds : List DeviceLine) (text : Option (List ℕ)) (step : LineStep) (line : List ℕ) (before : ℕ) (start machine : Option State) (old mid after : HostView)
    → Begun old mid after → PlaysFrom start text step line before machine mid after status.NoMemory → RunsFrom start ds text step line before old after status.NoMemory
memory_out ds text step line before None machine old mid after b q = absurd q
memory_out ds None step line before (Some start) machine old mid after b q = tt
memory_out ds (Some text) step line before (Some start) machine old mid after b q = λ lines pending. no_memory start ds before lines machine old mid after b (q lines pending)

-- `ok` was written in part, and no event was stepped
okay_runs : {E : Type 0} (start : State) (ds : List DeviceLine) (before : ℕ) (lines : List (List ℕ)) (old mid : HostView) (e : E) → WritesAll 0 old mid (Err e) okay → Runs start ds before lines old mid status.HostFault
okay_runs start ds before lines old mid e w = record {
  done = [];
  left = events_from before lines;
  split = refl;
  run = record { replies = []; last = start; follows = refl };
  plain = plain_none;
  written = (w.front.0, (w.front.1, w.front.2), w.front.3);
  sent = outputs_all (HasSentFront start old mid) 1 ds (λ n h later. let same : mid.handle h ≡ old.handle h = w.only.others h (λ x. omega (arith, x, later)) in rw same (front_none (old.handle h).bytes (sent_of start n)));
  tried = w.only.tried;
}

pub okay_cut : {E : Type 0} (ds : List DeviceLine) (text : Option (List ℕ)) (step : LineStep) (line : List ℕ) (before : ℕ) (start : Option State) (old mid : HostView) (e : E) → IsSome start → WritesAll 0 old mid (Err e) okay → RunsFrom start ds text step line before old mid status.HostFault
okay_cut ds text step line before None old mid e some w = absurd (cc)
okay_cut ds None step line before (Some start) old mid e some w = tt
okay_cut ds (Some text) step line before (Some start) old mid e some w = λ lines pending. okay_runs start ds before lines old mid e w

-- the counts of faults of a whole run
pub failed_run : (E : Type 0) (st : Status) (most : ℕ) (old mid after new : HostView) (u : Unit {0}) → 1 ≤ most → WritesAll {E = E} 0 old mid (Ok u) okay → Leaves st mid after → SameFaults after new → st ≡ status.HostFault → HandleRose most old new
failed_run E st most old mid after new u within w l f is =
    let rose = l.cause is in
    let first = only_faults 0 old mid w.only w.cause.kept in
    (rose.0, omega (arith, within, rose.1), rw (← first.handles rose.0, f.handles rose.0) rose.2)

rose_later : (before start now : ℕ) → before ≤ start → Rose start now → Rose before now
rose_later before start now low rose = omega (arith, low, rose)

pub failed_file : (E : Type 0) (st : Status) (most : ℕ) (old mid after new : HostView) (u : Unit {0}) → WritesAll {E = E} 0 old mid (Ok u) okay → Leaves st mid after → HandleRose most after new → HandleRose most old new
failed_file E st most old mid after new u w l rose =
    let first = only_faults 0 old mid w.only w.cause.kept in
    (rose.0, rose.1, rose_later (old.handle rose.0).faults (after.handle rose.0).faults (new.handle rose.0).faults (later_more old mid after (later_same old mid first) l.later rose.0) rose.2)
