-- The loop over the lines: what holds after each.
use Rattle.std.proofs.Common.{◌≡◌, ◌≢◌, ℕ, ◌+◌, ◌*◌, ◌^◌, ◌<◌, ◌≤◌, List, [], ◌∷◌, ◌++◌, refl, ap, sym, ◌∙◌, append_assoc, append-nil, arith, inl, inr}
use Rattle.std.specs.Prelude.{Ok}
use Rattle.std.specs.Io.KnownBytes.{Appends}
use Rattle.std.proofs.lemmas.List.Elements.{All-weaker}
use Rattle.genie_base.specs.declared.event.Event.{Event}
use Rattle.genie_base.specs.declared.reply.Reply.{Reply}
use Rattle.genie_frame.specs.declared.frame.Meters.{Meters}
use Rattle.genie_host.specs.Host.{HostView, HandleState, OnlyHandle}
use Rattle.genie_object.specs.Costs.{AreBelow}
use Rattle.genie_kernel.specs.Handles.{handles}
use Rattle.genie_script.specs.Judge.{Numbered}
use Rattle.genie_script.specs.declared.judge.Judged.{Judged}
use Rattle.genie_script.specs.declared.judge.Judged.TheVariants.{Passed, Taken, Ends}
use Rattle.genie_replay.specs.Outcome.{events_of}
use Rattle.genie_replay.specs.Lemmas.Writing.{appends_nothing, appends_more}
use Rattle.genie_playing.specs.declared.costs.Listing.{Listing}
use Rattle.genie_playing.specs.Costs.{Answer, all_said, said}
use Rattle.genie_playing.specs.Moments.{HasRoom, IsFresh, IsReady, Moment, Serves, Steps, moment}
use Rattle.genie_playing.specs.Serving.{Answers, TakesLine}
use Rattle.genie_playing.specs.Lemmas.Readying.{ready_kept}
use Rattle.genie_playing.specs.Lemmas.Showing.{IsApart}
use Rattle.genie_playing.specs.Lemmas.Stepping.{between_same, steps_more, steps_on}
use Rattle.genie_playing.specs.Lemmas.Writing.{only_between}

pub events_more : (done : List Numbered) (n : Numbered) → events_of (done ++ n ∷ []) ≡ events_of done ++ n.1 ∷ []
events_more [] n = refl
events_more (m ∷ done) n = ap (λ l. m.1 ∷ l) (events_more done n)

said_more : (l : Listing) (answers : List Answer) (a : Answer) → all_said l (answers ++ a ∷ []) ≡ all_said l answers ++ said l a
said_more l [] a = append-nil (said l a)
said_more l (x ∷ answers) a = ap (λ xs. said l x ++ xs) (said_more l answers a) ∙ sym (append_assoc (said l x) (all_said l answers) (said l a))

-- what the host has besides its handles
pub record SameOuter (old new : HostView) : Type 0 where
  pub tried : new.tried ≡ old.tried
  pub opened : new.opened ≡ old.opened
  pub refusals : new.refusals ≡ old.refusals
  pub replies_count : (new.handle 0).faults ≡ (old.handle 0).faults
  pub script_count : (new.handle 1).faults ≡ (old.handle 1).faults
  pub script_mode : (new.handle 1).mode ≡ (old.handle 1).mode

-- a run so far: what was stepped and written, and, by what is done, what is left
pub record SoFar (l : Listing) (start now : Moment) (at : ℕ) (Left : List Numbered → Type 0) : Type 0 where
  pub done : List Numbered
  pub answers : List Answer
  pub steps : Steps start (events_of done) answers now
  pub written : Appends (start.host.handle 0).bytes (now.host.handle 0).bytes (all_said l answers)
  pub ready : IsReady now.kernel now.host now.store
  pub apart : IsApart start.kernel.config
  pub config : now.kernel.config ≡ start.kernel.config
  pub bound : ℕ
  pub meters : AreBelow bound now.kernel.memory.frames.meters
  pub within : bound ≤ 2 ^ 36 * (at + 1)
  pub landed : now.kernel.memory.frames.landed ≤ 2 ^ 36 * (at + 1)
  pub numbers : now.kernel.next ≤ at + 1
  pub outer : SameOuter start.host now.host
  pub left : Left done

apart_ready : (m : Moment) → IsReady m.kernel m.host m.store → IsApart m.kernel.config
apart_ready m ready = record { own = ready.handles_open.own; unread = ready.unread }

pub so_none : (l : Listing) (m : Moment) (before : ℕ) (Left : List Numbered → Type 0) → IsReady m.kernel m.host m.store → IsFresh m.kernel → Left [] → SoFar l m m before Left
so_none l m before Left ready fresh left = record {
  done = [];
  answers = [];
  steps = between_same m;
  written = appends_nothing (m.host.handle 0).bytes;
  ready = ready;
  apart = apart_ready m ready;
  config = refl;
  bound = 2 ^ 36;
  meters = fresh.meters;
  within = omega arith;
  landed = let low = fresh.landed in omega (arith, low);
  numbers = let one = fresh.numbers in omega (arith, one);
  outer = record { tried = refl; opened = refl; refusals = refl; replies_count = refl; script_count = refl; script_mode = refl };
  left = left;
}

below_more : (m n : ℕ) (x : Meters) → m ≤ n → AreBelow m x → AreBelow n x
below_more m n x more b = record {
  read = omega (arith, more, b.read);
  written = omega (arith, more, b.written);
  copied = omega (arith, more, b.copied);
  zeroed = omega (arith, more, b.zeroed);
  puts = omega (arith, more, b.puts);
  gets = omega (arith, more, b.gets);
  taken = omega (arith, more, b.taken);
}

-- a million events leave room
pub so_room : (l : Listing) (start now : Moment) (at : ℕ) (Left : List Numbered → Type 0) → at < 1000000 → SoFar l start now at Left → HasRoom now.kernel
so_room l start now at Left few so = record {
  meters = below_more so.bound (2 ^ 63) now.kernel.memory.frames.meters (let within = so.within in omega (arith, within, few)) so.meters;
  landed = let low = so.landed in omega (arith, low, few);
  numbers = let low = so.numbers in omega (arith, low, few);
}

-- a line was read
pub so_read : (l : Listing) (start now : Moment) (w : HostView) (at : ℕ) (Left Next : List Numbered → Type 0) → SoFar l start now at Left → OnlyHandle 1 now.host w → (w.handle 1).faults ≡ (now.host.handle 1).faults → ((done : List Numbered) → Left done → Next done) → SoFar l start (moment now.kernel w now.store) at Next
so_read l start now w at Left Next so only count f =
    let replies : w.handle 0 ≡ now.host.handle 0 = only.others 0 (λ e. cc) in
    let between = only_between 1 now.kernel now.host w now.store (inr refl) only (omega (arith, count)) in
    record {
      done = so.done;
      answers = so.answers;
      steps = steps_on start (events_of so.done) so.answers now (moment now.kernel w now.store) so.steps between;
      written = rw replies so.written;
      ready = ready_kept 1 now.kernel now.host w now.store only so.ready;
      apart = so.apart;
      config = so.config;
      bound = so.bound;
      meters = so.meters;
      within = so.within;
      landed = so.landed;
      numbers = so.numbers;
      outer = record {
        tried = only.tried ∙ so.outer.tried;
        opened = only.opened ∙ so.outer.opened;
        refusals = only.refusals ∙ so.outer.refusals;
        replies_count = ap (λ (h : HandleState). h.faults) replies ∙ so.outer.replies_count;
        script_count = count ∙ so.outer.script_count;
        script_mode = only.mode ∙ so.outer.script_mode;
      };
      left = f so.done so.left;
    }

-- a step leaves the handles of the replies and of the script
pub replies_kept : (old new : Moment) (e : Event) (r : Reply) → IsApart old.kernel.config → Serves old e r new → new.host.handle 0 ≡ old.host.handle 0
replies_kept old new e r apart s = s.others.handles_kept 0 (All-weaker (λ (h : ℕ). h ≢ 0) (λ (h : ℕ). 0 ≢ h) (λ h ne e. ne (sym e)) (handles old.kernel.config) apart.own)

pub script_kept : (old new : Moment) (e : Event) (r : Reply) → IsApart old.kernel.config → Serves old e r new → new.host.handle 1 ≡ old.host.handle 1
script_kept old new e r apart s = s.others.handles_kept 1 (All-weaker (λ (h : ℕ). h ≢ 1) (λ (h : ℕ). 1 ≢ h) (λ h ne e. ne (sym e)) (handles old.kernel.config) apart.unread)

-- what a step leaves of the host besides the devices' handles
pub outer_step : (start : HostView) (old new : Moment) (e : Event) (r : Reply) → IsApart old.kernel.config → Serves old e r new → SameOuter start old.host → SameOuter start new.host
outer_step start old new e r apart s o =
    let first = replies_kept old new e r apart s in
    let second = script_kept old new e r apart s in
    record {
      tried = s.others.tried ∙ o.tried;
      opened = s.others.opened ∙ o.opened;
      refusals = s.others.refusals ∙ o.refusals;
      replies_count = ap (λ (h : HandleState). h.faults) first ∙ o.replies_count;
      script_count = ap (λ (h : HandleState). h.faults) second ∙ o.script_count;
      script_mode = ap (λ (h : HandleState). h.mode) second ∙ o.script_mode;
    }

outer_write : (start u w : HostView) → OnlyHandle 0 u w → (w.handle 0).faults ≡ (u.handle 0).faults → SameOuter start u → SameOuter start w
outer_write start u w only count o =
    let script : w.handle 1 ≡ u.handle 1 = only.others 1 (λ e. cc) in
    record {
      tried = only.tried ∙ o.tried;
      opened = only.opened ∙ o.opened;
      refusals = only.refusals ∙ o.refusals;
      replies_count = count ∙ o.replies_count;
      script_count = ap (λ (h : HandleState). h.faults) script ∙ o.script_count;
      script_mode = ap (λ (h : HandleState). h.mode) script ∙ o.script_mode;
    }

-- the kernel that steps is the one that began, as far as its handles go
pub now_apart : (l : Listing) (start now : Moment) (at : ℕ) (Left : List Numbered → Type 0) → SoFar l start now at Left → IsApart now.kernel.config
now_apart l start now at Left so = rw so.config so.apart

-- an event was stepped
so_stepped : (l : Listing) (start now after : Moment) (at : ℕ) (Left Next : List Numbered → Type 0) (e : Event) (x : Unit {0})
    → (so : SoFar l start now at Left) → Answers l now e after (Ok x) → IsReady after.kernel after.host after.store → Next (so.done ++ (at + 1, e) ∷ []) → SoFar l start after (at + 1) Next
so_stepped l start now after at Left Next e x so t ready next =
    let mid = moment after.kernel t.stepped after.store in
    let apart = now_apart l start now at Left so in
    let replies = replies_kept now mid e t.answer.reply apart t.steps.serves in
    let count : (after.host.handle 0).faults ≡ (t.stepped.handle 0).faults = t.write.cause.kept in
    let whole : Appends (t.stepped.handle 0).bytes (after.host.handle 0).bytes (said l t.answer) = t.write.whole in
    let landed = t.steps.serves.rises.landed in
    let before = so.landed in
    let numbers = t.steps.serves.numbers in
    let number = so.numbers in
    let within = so.within in
    record {
      done = so.done ++ (at + 1, e) ∷ [];
      answers = so.answers ++ t.answer ∷ [];
      steps = rw (events_more so.done (at + 1, e)) (steps_more start (events_of so.done) so.answers now e t.answer mid after so.steps t.steps (only_between 0 after.kernel t.stepped after.host after.store (inl refl) t.write.only (omega (arith, count))));
      written = rw said_more (appends_more (start.host.handle 0).bytes (now.host.handle 0).bytes (after.host.handle 0).bytes (all_said l so.answers) (said l t.answer) so.written (rw replies at whole));
      ready = ready;
      apart = so.apart;
      config = t.steps.serves.config ∙ so.config;
      bound = so.bound + 2 ^ 36;
      meters = t.steps.serves.rises.meters so.bound so.meters;
      within = omega (arith, within);
      landed = omega (arith, landed, before);
      numbers = omega (arith, numbers, number);
      outer = outer_write start.host t.stepped after.host t.write.only count (outer_step start.host now mid e t.answer.reply apart t.steps.serves so.outer);
      left = next;
    }

-- a blank line was passed
so_passed : (l : Listing) (start now : Moment) (at : ℕ) (Left Next : List Numbered → Type 0) → (so : SoFar l start now at Left) → Next so.done → SoFar l start now (at + 1) Next
so_passed l start now at Left Next so next =
    let landed = so.landed in
    let number = so.numbers in
    let within = so.within in
    record {
      done = so.done;
      answers = so.answers;
      steps = so.steps;
      written = so.written;
      ready = so.ready;
      apart = so.apart;
      config = so.config;
      bound = so.bound;
      meters = so.meters;
      within = omega (arith, within);
      landed = omega (arith, landed);
      numbers = omega (arith, number);
      outer = so.outer;
      left = next;
    }

-- a line was taken
pub so_taken : (l : Listing) (judged : Judged Event) (start now after : Moment) (at : ℕ) (Left Next : List Numbered → Type 0) (x : Unit {0})
    → (so : SoFar l start now at Left) → TakesLine l judged now after (Ok x) → IsReady after.kernel after.host after.store
    → ((done : List Numbered) → Left done → Passed ≡ judged → Next done) → ((done : List Numbered) (e : Event) → Left done → Taken e ≡ judged → Next (done ++ (at + 1, e) ∷ []))
    → SoFar l start after (at + 1) Next
so_taken l Passed start now after at Left Next x so t ready passed taken = rw t (so_passed l start now at Left Next so (passed so.done so.left refl))
so_taken l (Taken e) start now after at Left Next x so t ready passed taken = so_stepped l start now after at Left Next e x so t ready (taken so.done e so.left refl)
so_taken l (Ends e) start now after at Left Next x so t ready passed taken = absurd t

-- and left the script
pub line_kept : (l : Listing) (judged : Judged Event) (now after : Moment) (x : Unit {0}) → IsApart now.kernel.config → TakesLine l judged now after (Ok x) → after.host.handle 1 ≡ now.host.handle 1
line_kept l Passed now after x apart t = ap (λ (m : Moment). m.host.handle 1) t
line_kept l (Taken e) now after x apart t = t.write.only.others 1 (λ k. cc) ∙ script_kept now (moment after.kernel t.stepped after.store) e t.answer.reply apart t.steps.serves
line_kept l (Ends e) now after x apart t = absurd t
