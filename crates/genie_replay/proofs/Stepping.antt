-- The loop over the lines: what holds after each, and at each exit.
use Rattle.std.proofs.Common.{◌≡◌, ◌≢◌, ℕ, ◌+◌, ◌≤◌, true, false, List, [], ◌∷◌, ◌++◌, refl, ap, sym, ◌∙◌, append_assoc, append-nil, subst, arith, inl, inr}
use Rattle.std.specs.Prelude.{◌⊎◌, Option, Some, None, Ok, IfSome, IsSome, ◌==◌}
use Rattle.std.proofs.lemmas.Bool.Decides.{nat_tests}
use Rattle.std.proofs.lemmas.List.Elements.{All-nil, All-push}
use Rattle.std.specs.Io.KnownBytes.{Appends}
use Rattle.genie_base.specs.Events.{mark_of}
use Rattle.genie_base.specs.declared.event.Event.{Event}
use Rattle.genie_base.specs.declared.reply.Mark.TheVariants.{NoFault}
use Rattle.genie_base.specs.declared.reply.Reply.{Reply}
use Rattle.genie_host.specs.Host.{HostView, HandleState, OnlyHandle}
use Rattle.genie_orderly.specs.Steps.{Grows, ShowNoFault}
use Rattle.genie_model.specs.State.{State}
use Rattle.genie_model.specs.Runs.{Stepped}
use Rattle.genie_model.specs.Step.{Follows, step}
use Rattle.genie_orderly.specs.Lemmas.Growth.{steps_grow, plain_steps_show_no_fault}
use Rattle.genie_script.specs.Judge.{Numbered}
use Rattle.genie_script.specs.Spelling.{reply_text}
use Rattle.genie_script.specs.declared.judge.Judged.{Judged}
use Rattle.genie_script.specs.declared.judge.Judged.TheVariants.{Passed, Taken, Ends}
use Rattle.genie_replay.specs.Files.{SameFaults}
use Rattle.genie_replay.specs.Outcome.{events_of, texts}
use Rattle.genie_replay.specs.Plays.{IsFirst, LaterFaults, OnlyRun}
use Rattle.genie_replay.specs.Serving.{Served, TakesLine, TakesLineFrom, Untouched, plain_step}
use Rattle.genie_replay.specs.Lemmas.Filing.{only_faults, same_faults, same_trans}
use Rattle.genie_replay.specs.Lemmas.Writing.{appends_nothing, appends_more}

-- one event more follows
pub follows_more : (s : State) (es : List Event) (rs : List Reply) (last : State) (e : Event) → Follows s es rs last → Follows s (es ++ e ∷ []) (rs ++ (plain_step last e).1 ∷ []) (plain_step last e).0
follows_more s [] [] last e f =
    let shown = plain_steps_show_no_fault last e in
    subst (λ t. Follows t (e ∷ []) ((plain_step last e).1 ∷ []) (plain_step last e).0) (sym f) (rw shown (refl, refl))
follows_more s [] (r ∷ rs) last e f = absurd f
follows_more s (d ∷ es) [] last e f = absurd f
follows_more s (d ∷ es) (r ∷ rs) last e f = (f.0, follows_more (step s d (mark_of r)).0 es rs last e f.1)

abbrev ShowsNoFault : Reply → Type 0
ShowsNoFault r = mark_of r ≡ NoFault

pub plain_none : ShowNoFault []
plain_none = All-nil ShowsNoFault

pub plain_more : (rs : List Reply) (last : State) (e : Event) → ShowNoFault rs → ShowNoFault (rs ++ (plain_step last e).1 ∷ [])
plain_more rs last e plain = All-push ShowsNoFault rs (plain_step last e).1 plain (plain_steps_show_no_fault last e)

pub events_more : (done : List Numbered) (n : Numbered) → events_of (done ++ n ∷ []) ≡ events_of done ++ n.1 ∷ []
events_more [] n = refl
events_more (m ∷ done) n = ap (λ l. m.1 ∷ l) (events_more done n)

pub texts_more : (rs : List Reply) (r : Reply) → texts (rs ++ r ∷ []) ≡ texts rs ++ reply_text r
texts_more [] r = append-nil (reply_text r)
texts_more (x ∷ rs) r = ap (λ l. reply_text x ++ l) (texts_more rs r) ∙ sym (append_assoc (reply_text x) (texts rs) (reply_text r))

only_none : (v : HostView) → OnlyRun v v
only_none v = record { others = λ k z o. refl; tried = refl; opened = refl }

pub only_more : (h : ℕ) (u v w : HostView) → (h ≡ 0) ⊎ (h ≡ 1) → OnlyRun u v → OnlyHandle h v w → OnlyRun u w
only_more h u v w (inl z) a b = record { others = λ k nz no. b.others k (λ e. nz (e ∙ z)) ∙ a.others k nz no; tried = b.tried ∙ a.tried; opened = b.opened ∙ a.opened }
only_more h u v w (inr o) a b = record { others = λ k nz no. b.others k (λ e. no (e ∙ o)) ∙ a.others k nz no; tried = b.tried ∙ a.tried; opened = b.opened ∙ a.opened }

pub later_same : (u v : HostView) → SameFaults u v → LaterFaults u v
later_same u v s = λ k. let e = s.handles k in omega (arith, e)

pub later_more : (u v w : HostView) → LaterFaults u v → LaterFaults v w → LaterFaults u w
later_more u v w a b = λ k. let x = a k in let y = b k in omega (arith, x, y)

pub later_only : (h : ℕ) (u v : HostView) → OnlyHandle h u v → (u.handle h).faults ≤ (v.handle h).faults → LaterFaults u v
later_only h u v only later = λ k. elim (k == h) as (λ b. (k == h) ≡ b → (u.handle k).faults ≤ (v.handle k).faults) [
  | true ↦ λ e. let same : k ≡ h = grind (arith, nat_tests, e) in rw same later
  | false ↦ λ e. let other : k ≢ h = λ s. grind (arith, nat_tests, e, s) in let kept : (v.handle k).faults ≡ (u.handle k).faults = ap (λ (x : HandleState). x.faults) (only.others k other) in omega (arith, kept)
] refl

-- a run so far: what was stepped and written, and, by what is done, what is left
pub record SoFar (start machine : Option State) (old now : HostView) (at : ℕ) (Left : List Numbered → Type 0) : Type 0 where
  pub first : State
  pub start_is : start ≡ Some first
  pub done : List Numbered
  pub run : Stepped first (events_of done)
  pub plain : ShowNoFault run.replies
  pub machine_is : machine ≡ Some run.last
  pub number : run.last.next ≤ at + 1
  pub written : Appends (old.handle 0).bytes (now.handle 0).bytes (texts run.replies)
  pub script_mode : (now.handle 1).mode ≡ (old.handle 1).mode
  pub only : OnlyRun old now
  pub faults : SameFaults old now
  pub left : Left done

so_far_start : (s : State) (v : HostView) (before : ℕ) (Left : List Numbered → Type 0) → IsFirst s → Left [] → SoFar (Some s) (Some s) v v before Left
so_far_start s v before Left first left = record {
  first = s;
  start_is = refl;
  done = [];
  run = record { replies = []; last = s; follows = refl };
  plain = plain_none;
  machine_is = refl;
  number = omega (arith, first);
  written = appends_nothing (v.handle 0).bytes;
  script_mode = refl;
  only = only_none v;
  faults = same_faults v;
  left = left;
}

pub so_far_none : (start : Option State) (v : HostView) (before : ℕ) (Left : List Numbered → Type 0) → IsSome start → IfSome start IsFirst → Left [] → SoFar start start v v before Left
so_far_none None v before Left some first left = absurd (cc)
so_far_none (Some s) v before Left some first left = so_far_start s v before Left first left

-- a line was read
pub so_read : (start machine : Option State) (old u w : HostView) (at : ℕ) (Left Next : List Numbered → Type 0)
    → SoFar start machine old u at Left → OnlyHandle 1 u w → (w.handle 1).faults ≡ (u.handle 1).faults → ((done : List Numbered) → Left done → Next done) → SoFar start machine old w at Next
so_read start machine old u w at Left Next so only count f =
    let replies : w.handle 0 ≡ u.handle 0 = only.others 0 (λ e. cc) in
    record {
      first = so.first;
      start_is = so.start_is;
      done = so.done;
      run = so.run;
      plain = so.plain;
      machine_is = so.machine_is;
      number = so.number;
      written = rw replies so.written;
      script_mode = only.mode ∙ so.script_mode;
      only = only_more 1 old u w (inr refl) so.only only;
      faults = same_trans old u w so.faults (only_faults 1 u w only count);
      left = f so.done so.left;
    }

-- a blank line was passed
so_passed : (start machine after : Option State) (old u w : HostView) (at : ℕ) (Left Next : List Numbered → Type 0)
    → (so : SoFar start machine old u at Left) → Untouched so.run.last after u w → Next so.done → SoFar start after old w (at + 1) Next
so_passed start machine after old u w at Left Next so t next =
    let number : so.run.last.next ≤ at + 1 = so.number in
    rw (t.host, t.machine_is) (record {
      first = so.first;
      start_is = so.start_is;
      done = so.done;
      run = so.run;
      plain = so.plain;
      machine_is = refl;
      number = omega arith;
      written = so.written;
      script_mode = so.script_mode;
      only = so.only;
      faults = so.faults;
      left = next;
    })

-- an event was stepped
so_stepped : (start machine after : Option State) (old u w : HostView) (at : ℕ) (Left Next : List Numbered → Type 0) (e : Event) (x : Unit {0})
    → (so : SoFar start machine old u at Left) → Served so.run.last e after u w (Ok x) → Next (so.done ++ (at + 1, e) ∷ []) → SoFar start after old w (at + 1) Next
so_stepped start machine after old u w at Left Next e x so t next =
    let grows : Grows so.run.last (plain_step so.run.last e).0 = steps_grow so.run.last e NoFault in
    let rises : (plain_step so.run.last e).0.next ≤ so.run.last.next + 1 = grows.next in
    let number : so.run.last.next ≤ at + 1 = so.number in
    let script : w.handle 1 ≡ u.handle 1 = t.reply.only.others 1 (λ k. cc) in
    record {
      first = so.first;
      start_is = so.start_is;
      done = so.done ++ (at + 1, e) ∷ [];
      run = record { replies = so.run.replies ++ (plain_step so.run.last e).1 ∷ []; last = (plain_step so.run.last e).0; follows = rw (events_more so.done (at + 1, e)) (follows_more so.first (events_of so.done) so.run.replies so.run.last e so.run.follows) };
      plain = plain_more so.run.replies so.run.last e so.plain;
      machine_is = t.machine_is;
      number = omega arith;
      written = rw texts_more (appends_more (old.handle 0).bytes (u.handle 0).bytes (w.handle 0).bytes (texts so.run.replies) (reply_text (plain_step so.run.last e).1) so.written t.reply.whole);
      script_mode = ap (λ (h : HandleState). h.mode) script ∙ so.script_mode;
      only = only_more 0 old u w (inl refl) so.only t.reply.only;
      faults = same_trans old u w so.faults (only_faults 0 u w t.reply.only t.reply.cause.kept);
      left = next;
    }

line_taken : (judged : Judged Event) (start machine after : Option State) (old u w : HostView) (at : ℕ) (Left Next : List Numbered → Type 0) (x : Unit {0})
    → (so : SoFar start machine old u at Left) → TakesLine judged so.run.last after u w (Ok x)
    → (Passed ≡ judged → Next so.done) → ((e : Event) → Taken e ≡ judged → Next (so.done ++ (at + 1, e) ∷ []))
    → SoFar start after old w (at + 1) Next
line_taken Passed start machine after old u w at Left Next x so t passed taken = so_passed start machine after old u w at Left Next so t (passed refl)
line_taken (Taken e) start machine after old u w at Left Next x so t passed taken = so_stepped start machine after old u w at Left Next e x so t (taken e refl)
line_taken (Ends e) start machine after old u w at Left Next x so t passed taken = absurd t

-- a line was taken
pub so_taken : (judged : Judged Event) (start machine after : Option State) (old u w : HostView) (at : ℕ) (Left Next : List Numbered → Type 0) (x : Unit {0})
    → SoFar start machine old u at Left → TakesLineFrom judged machine after u w (Ok x)
    → ((done : List Numbered) → Left done → Passed ≡ judged → Next done) → ((done : List Numbered) (e : Event) → Left done → Taken e ≡ judged → Next (done ++ (at + 1, e) ∷ []))
    → SoFar start after old w (at + 1) Next
so_taken judged start machine after old u w at Left Next x so t passed taken =
    let told : TakesLine judged so.run.last after u w (Ok x) = rw so.machine_is at t in
    line_taken judged start machine after old u w at Left Next x so told (λ e. passed so.done so.left e) (λ ev e. taken so.done ev so.left e)

line_kept : (judged : Judged Event) (s : State) (after : Option State) (u w : HostView) (x : Unit {0}) → TakesLine judged s after u w (Ok x) → w.handle 1 ≡ u.handle 1
line_kept Passed s after u w x t = rw t.host refl
line_kept (Taken e) s after u w x t = t.reply.only.others 1 (λ k. cc)
line_kept (Ends e) s after u w x t = absurd t

-- a line's step leaves the script
pub script_kept : (judged : Judged Event) (machine after : Option State) (u w : HostView) (x : Unit {0}) → TakesLineFrom judged machine after u w (Ok x) → w.handle 1 ≡ u.handle 1
script_kept judged None after u w x t = absurd t
script_kept judged (Some s) after u w x t = line_kept judged s after u w x t
