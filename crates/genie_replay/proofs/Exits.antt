-- How the loop over the lines is left.
use Rattle.std.proofs.Common.{◌≡◌, ◌≢◌, ℕ, ◌+◌, ◌≤◌, List, [], ◌∷◌, ◌++◌, refl, ap, sym, ◌∙◌, append_assoc, arith}
use Rattle.std.specs.Prelude.{◌⊎◌, Option, Some, None, Err, IsSome}
use Rattle.genie_base.specs.Causes.{Rose}
use Rattle.genie_base.specs.declared.event.Event.{Event}
use Rattle.genie_base.specs.declared.reply.Reply.{Reply}
use Rattle.genie_host.specs.Host.{HostView, OnlyHandle}
use Rattle.genie_model.specs.State.{State}
use Rattle.genie_script.specs.Judge.{Numbered}
use Rattle.genie_script.specs.Spelling.{reply_text}
use Rattle.genie_script.specs.declared.judge.Ending.{Ending}
use Rattle.genie_script.specs.declared.judge.Ending.TheVariants as ending
use Rattle.genie_script.specs.declared.judge.Judged.{Judged}
use Rattle.genie_script.specs.declared.judge.Judged.TheVariants.{Passed, Taken, Ends}
use Rattle.genie_replay.specs.declared.script.LineStep.{LineStep}
use Rattle.genie_replay.specs.declared.serving.Stop.TheVariants as stop
use Rattle.genie_replay.specs.declared.status.Status.{Status}
use Rattle.genie_replay.specs.declared.status.Status.TheVariants as status
use Rattle.genie_replay.specs.Files.{SameFaults}
use Rattle.genie_replay.specs.Plays.{Leaves, OnlyRun, Played, PlayedInPart, PlaysFrom, PlaysOf}
use Rattle.genie_replay.specs.Serving.{Served, TakesLine, Untouched, plain_step}
use Rattle.genie_replay.specs.Outcome.{texts, events_of}
use Rattle.genie_replay.specs.Statuses.{status_of}
use Rattle.genie_replay.specs.Lemmas.Remaining.{NextIs, NoneLeft, SomeLeft}
use Rattle.genie_replay.proofs.Stepping.{SoFar, events_more, follows_more, later_more, later_only, later_same, only_more, plain_more}
use Rattle.genie_replay.specs.Lemmas.Writing.{appends_more, ends_all, ends_more}

-- all events were stepped
played : (start machine : Option State) (old u : HostView) (at : ℕ) (Left : List Numbered → Type 0) (events : List Numbered) → (so : SoFar start machine old u at Left) → events ≡ so.done → Played so.first events machine old u
played start machine old u at Left events so is = rw is (record {
  run = so.run;
  plain = so.plain;
  machine_is = so.machine_is;
  written = so.written;
})

ended : (e : Ending) (text : Option (List ℕ)) (step : LineStep) (line : List ℕ) (before : ℕ) (first : State) (machine : Option State) (old u : HostView) (done : List Numbered)
    → ((events : List Numbered) → events ≡ done → Played first events machine old u) → NoneLeft text step line before done e → PlaysOf text step line before first machine old u (status_of e)
ended e None step line before first machine old u done p n = tt
ended ending.End (Some text) step line before first machine old u done p n = λ lines pending. let x = n lines pending in (ap status_of (sym x.1), p _ x.0)
ended (ending.BadLine l) (Some text) step line before first machine old u done p n = λ lines pending. let x = n lines pending in (ap status_of (sym x.1), p _ x.0)
ended ending.TooLong (Some text) step line before first machine old u done p n = λ lines pending. let x = n lines pending in (ap status_of (sym x.1), p _ x.0)
ended (ending.BadBoot l) (Some text) step line before first machine old u done p n = λ lines pending. let x = n lines pending in (ap status_of (sym x.1), p _ x.0)

-- the script ends so
pub at_ending : (e : Ending) (text : Option (List ℕ)) (step : LineStep) (line : List ℕ) (before : ℕ) (start machine : Option State) (old u : HostView) (at : ℕ) (Left : List Numbered → Type 0)
    → (so : SoFar start machine old u at Left) → NoneLeft text step line before so.done e → PlaysFrom start text step line before machine old u (status_of e)
at_ending e text step line before start machine old u at Left so n = rw so.start_is (ended e text step line before so.first machine old u so.done (λ events is. played start machine old u at Left events so is) n)

-- what a line's step says of a stop
pub stopped_ended : (judged : Judged Event) (s : State) (after : Option State) (u w : HostView) (e : Ending) → TakesLine judged s after u w (Err (stop.Ended e)) → (Ends e ≡ judged) × Untouched s after u w
stopped_ended Passed s after u w e t = absurd t
stopped_ended (Taken x) s after u w e t = absurd t
stopped_ended (Ends x) s after u w e t = let same : e ≡ x = cc in (ap Ends same, t.1)

pub record StoppedAt (judged : Judged Event) (R : Event → Type 0) : Type 0 where
  pub event : Event
  pub is : Taken event ≡ judged
  pub how : R event

pub stopped_host : (judged : Judged Event) (s : State) (after : Option State) (u w : HostView) → TakesLine judged s after u w (Err stop.Host) → StoppedAt judged (λ e. Served s e after u w (Err stop.Host))
stopped_host Passed s after u w t = absurd t
stopped_host (Taken x) s after u w t = record { event = x; is = refl; how = t }
stopped_host (Ends x) s after u w t = absurd (cc)

pub stopped_memory : (judged : Judged Event) (s : State) (after : Option State) (u w : HostView) → TakesLine judged s after u w (Err stop.Memory) → (after ≡ None) × (w ≡ u)
stopped_memory Passed s after u w t = absurd t
stopped_memory (Taken x) s after u w t = t
stopped_memory (Ends x) s after u w t = absurd (cc)

fault : (text : Option (List ℕ)) (step : LineStep) (line : List ℕ) (before : ℕ) (first : State) (machine : Option State) (old w : HostView) (done : List Numbered)
    → IsSome machine → ((events left : List Numbered) → events ≡ done ++ left → PlayedInPart first events machine old w) → SomeLeft text step line before done → PlaysOf text step line before first machine old w status.HostFault
fault None step line before first machine old w done some p l = tt
fault (Some text) step line before first machine old w done some p l = λ lines pending. let x = l lines pending in (some, p _ x.0 x.1)

memory : (text : Option (List ℕ)) (step : LineStep) (line : List ℕ) (before : ℕ) (first : State) (machine : Option State) (old w : HostView) (done : List Numbered)
    → ((events left : List Numbered) → events ≡ done ++ left → PlayedInPart first events machine old w) → SomeLeft text step line before done → PlaysOf text step line before first machine old w status.NoMemory
memory None step line before first machine old w done p l = tt
memory (Some text) step line before first machine old w done p l = λ lines pending. let x = l lines pending in p _ x.0 x.1

next_some : (text : Option (List ℕ)) (step : LineStep) (line : List ℕ) (before : ℕ) (done : List Numbered) (n : Numbered) → NextIs text step line before done n → SomeLeft text step line before (done ++ n ∷ [])
next_some None step line before done n x = tt
next_some (Some text) step line before done n x = λ lines pending. let y = x lines pending in (y.0, y.1 ∙ sym (append_assoc done (n ∷ []) y.0))

-- the next line couldn't be read
pub at_unread : (text : Option (List ℕ)) (step : LineStep) (line : List ℕ) (before : ℕ) (start machine : Option State) (old u w : HostView) (at : ℕ) (Left : List Numbered → Type 0)
    → (so : SoFar start machine old u at Left) → OnlyHandle 1 u w → (u.handle 1).faults ≤ (w.handle 1).faults → SomeLeft text step line before so.done → PlaysFrom start text step line before machine old w status.HostFault
at_unread text step line before start machine old u w at Left so only later l =
    let replies : w.handle 0 ≡ u.handle 0 = only.others 0 (λ e. cc) in
    rw so.start_is (fault text step line before so.first machine old w so.done (rw so.machine_is refl) (λ events left split. record {
      done = so.done;
      left = left;
      split = split;
      run = so.run;
      plain = so.plain;
      machine_is = rw so.machine_is refl;
      written = (texts so.run.replies, ends_all reply_text so.run.replies, rw replies so.written);
    }) l)

-- the reply to an event was written in part
pub at_host : (text : Option (List ℕ)) (step : LineStep) (line : List ℕ) (before : ℕ) (start machine after : Option State) (old u w : HostView) (at : ℕ) (Left : List Numbered → Type 0) (e : Event)
    → (so : SoFar start machine old u at Left) → Served so.run.last e after u w (Err stop.Host) → NextIs text step line before so.done (at + 1, e) → PlaysFrom start text step line before after old w status.HostFault
at_host text step line before start machine after old u w at Left e so t next =
    let r : Reply = (plain_step so.run.last e).1 in
    let front = t.reply.front in
    rw so.start_is (fault text step line before so.first after old w (so.done ++ (at + 1, e) ∷ []) (rw t.machine_is refl) (λ events left split. record {
      done = so.done ++ (at + 1, e) ∷ [];
      left = left;
      split = split;
      run = record { replies = so.run.replies ++ r ∷ []; last = (plain_step so.run.last e).0; follows = rw (events_more so.done (at + 1, e)) (follows_more so.first (events_of so.done) so.run.replies so.run.last e so.run.follows) };
      plain = plain_more so.run.replies so.run.last e so.plain;
      machine_is = rw t.machine_is refl;
      written = (
        texts so.run.replies ++ front.0,
        ends_more reply_text so.run.replies r front.0 front.1 front.2,
        appends_more (old.handle 0).bytes (u.handle 0).bytes (w.handle 0).bytes (texts so.run.replies) front.0 so.written front.3,
      );
    }) (next_some text step line before so.done (at + 1, e) next))

-- memory ran out
pub at_memory : (text : Option (List ℕ)) (step : LineStep) (line : List ℕ) (before : ℕ) (start machine after : Option State) (old u w : HostView) (at : ℕ) (Left : List Numbered → Type 0)
    → (so : SoFar start machine old u at Left) → (after ≡ None) × (w ≡ u) → SomeLeft text step line before so.done → PlaysFrom start text step line before after old w status.NoMemory
at_memory text step line before start machine after old u w at Left so t l =
    rw (so.start_is, t.0, t.1) (memory text step line before so.first None old u so.done (λ events left split. record {
      done = so.done;
      left = left;
      split = split;
      run = so.run;
      plain = so.plain;
      machine_is = tt;
      written = (texts so.run.replies, ends_all reply_text so.run.replies, so.written);
    }) l)

-- nothing failed
leaves_same : (s : Status) (old u : HostView) → s ≢ status.HostFault → OnlyRun old u → SameFaults old u → Leaves s old u
leaves_same s old u ne only same = record { only = only; later = later_same old u same; refusals = same.refusals; same = λ n. same; cause = λ e. absurd (ne e) }

not_fault : (e : Ending) → status_of e ≢ status.HostFault
not_fault ending.End = λ x. cc
not_fault (ending.BadLine l) = λ x. cc
not_fault ending.TooLong = λ x. cc
not_fault (ending.BadBoot l) = λ x. cc

pub leaves_ending : (e : Ending) (start machine : Option State) (old u : HostView) (at : ℕ) (Left : List Numbered → Type 0) → SoFar start machine old u at Left → Leaves (status_of e) old u
leaves_ending e start machine old u at Left so = leaves_same (status_of e) old u (not_fault e) so.only so.faults

pub leaves_at : (s : Status) (start machine : Option State) (old u w : HostView) (at : ℕ) (Left : List Numbered → Type 0) → SoFar start machine old u at Left → s ≢ status.HostFault → w ≡ u → Leaves s old w
leaves_at s start machine old u w at Left so ne same = rw same (leaves_same s old u ne so.only so.faults)

-- a call on the replies or the script failed
pub leaves_failed : (h : ℕ) (start machine : Option State) (old u w : HostView) (at : ℕ) (Left : List Numbered → Type 0)
    → SoFar start machine old u at Left → (h ≡ 0) ⊎ (h ≡ 1) → OnlyHandle h u w → (u.handle h).faults ≤ (w.handle h).faults → Rose (u.handle h).faults (w.handle h).faults → Leaves status.HostFault old w
leaves_failed h start machine old u w at Left so which only later rose = record {
  only = only_more h old u w which so.only only;
  later = later_more old u w (later_same old u so.faults) (later_only h u w only later);
  refusals = only.refusals ∙ so.faults.refusals;
  same = λ n. absurd (n refl);
  cause = λ e. let low : h ≤ 1 = grind (arith, which) in (h, low, rw (← so.faults.handles h) rose);
}
