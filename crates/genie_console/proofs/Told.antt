-- What a console shows of its calls.
use Rattle.std.proofs.Common.{◌≡◌, ◌≢◌, ℕ, ◌+◌, ◌-◌, ◌^◌, ◌<◌, ◌≤◌, min, List, [], ◌∷◌, length, refl, ap, sym, ◌∙◌, arith, inl, inr, true, false, true≢false}
use Rattle.std.specs.Prelude.{Bool, ◌⊎◌, Ok, Err, Result, IfOk, IsErr, is_err, ◌||◌}
use Rattle.std.proofs.lemmas.Bool.Decides.{nat_tests}
use Rattle.std.specs.Io.{WritesAtMost}
use Rattle.genie_base.specs.Causes.{Rose}
use Rattle.genie_host.specs.Host.{HostView, OnlyHandle, Reads, Writes, Reading}
use Rattle.genie_host.specs.OnlyHandle.{only_refl}
use Rattle.genie_console.specs.Replies.{RepliesView, room, gathered, answered, Flushes}
use Rattle.genie_console.specs.Console.{ConsoleView, seen, host_of, handle_of, FlushesFirst, AnswersFailure, Gathers, FlushesAndGathers, WritesReply, Answered, Gathered, Flushed, Finishes}

-- a call on a handle of the host inside
only_inside : (k : ℕ) (u v : HostView) (r : RepliesView) → k ≢ 0 → OnlyHandle k u v → OnlyHandle k (host_of (seen u r)) (host_of (seen v r))
only_inside k u v r apart o = record {
  names = o.names;
  others = λ j ne. let same = o.others j ne in grind (arith, nat_tests, same);
  mode = let same = o.mode in grind (arith, nat_tests, apart, same);
  opened = o.opened;
  tried = o.tried;
  refusals = o.refusals;
}

here : (k : ℕ) (u : HostView) (r : RepliesView) → k ≢ 0 → handle_of (seen u r) k ≡ u.handle k
here k u r apart = grind (arith, nat_tests, apart)

pub writes_inside : {E : Type 0} (k : ℕ) (u v : HostView) (r : RepliesView) (result : Result ℕ E) (from : List ℕ) → k ≢ 0 → Writes k u v result from → Writes k (host_of (seen u r)) (host_of (seen v r)) result from
writes_inside k u v r result from apart w = record { only = only_inside k u v r apart w.only; bytes = rw (here k u r apart, here k v r apart) w.bytes; cause = rw (here k u r apart, here k v r apart) w.cause }

-- a flush, and then a read: the reply output shows neither
pub reads_behind : {E : Type 0} (k : ℕ) (u middle v : HostView) (r r' : RepliesView) (bytes rest : List ℕ) (flushed : Result (Unit {0}) E) (result : Result ℕ E) (into : List ℕ)
    → k ≢ 0 → Flushes u middle bytes rest flushed → r'.faults ≡ r.faults → Reads k middle v result into → Reads k (host_of (seen u r)) (host_of (seen v r')) result into
reads_behind k u middle v r r' bytes rest flushed result into apart f faults w =
    let before : middle.handle k ≡ u.handle k = f.only.others k apart in
    let was : (host_of (seen u r)).handle k ≡ middle.handle k = here k u r apart ∙ sym before in
    let now : (host_of (seen v r')).handle k ≡ v.handle k = here k v r' apart in
    record {
      only = record {
        names = w.only.names ∙ f.only.names;
        others = λ j ne. let inside : j ≢ 0 → v.handle j ≡ u.handle j = λ apart. w.only.others j ne ∙ f.only.others j apart in grind (arith, nat_tests, inside, faults);
        mode = rw (was, now) w.only.mode;
        opened = w.only.opened ∙ f.only.opened;
        tried = w.only.tried ∙ f.only.tried;
        refusals = w.only.refusals ∙ f.only.refusals;
      };
      bytes = rw (was, now) w.bytes;
      cause = rw (was, now) w.cause;
    }

-- a reading handle is one of the host inside
pub reading_inside : (k : ℕ) (u : HostView) (r : RepliesView) → (handle_of (seen u r) k).mode ≡ Reading → k ≢ 0
reading_inside k u r is z = let output : (handle_of (seen u r) 0).mode ≡ Reading = rw z at is in cc

or_false : (b : Bool) → b ≡ (b || false)
or_false true = refl
or_false false = refl

or_true : (b : Bool) → true ≡ (b || true)
or_true true = refl
or_true false = refl

-- unless a failure is to be answered, nothing waits behind a flush
pub none_waits : {E : Type 0} (old new : ConsoleView) (flushed : Result (Unit {0}) E) → FlushesFirst old new flushed → new.replies.has_failed ≡ false → new.replies.waiting ≡ []
none_waits old new (Ok u) f fine = f.flushes.whole
none_waits old new (Err e) f fine = absurd (true≢false (or_true old.replies.has_failed ∙ sym f.remembers ∙ fine))

pub only_replies : (u v : HostView) (r r' : RepliesView) → OnlyHandle 0 u v → OnlyHandle 0 (host_of (seen u r)) (host_of (seen v r'))
only_replies u v r r' o = record {
  names = o.names;
  others = λ j ne. let same = o.others j ne in grind (arith, nat_tests, ne, same);
  mode = refl;
  opened = o.opened;
  tried = o.tried;
  refusals = o.refusals;
}

-- what a write of replies shows
pub record Shows {E : Type 0} (old new : ConsoleView) (result : Result ℕ E) (from : List ℕ) : Type 0 where
  pub bound : WritesAtMost result from
  pub some : IfOk result (λ n. n ≡ 0 → from ≡ [])
  pub step : Writes 0 (host_of old) (host_of new) result from
  pub cause : IsErr result → (old.replies.has_failed ≡ true) ⊎ Rose (old.inner.handle 0).faults (new.inner.handle 0).faults

empty : (xs : List ℕ) → length xs ≡ 0 → xs ≡ []
empty [] none = refl
empty (x ∷ xs) none = absurd (omega arith)

failing : {E : Type 0} (u v : HostView) (r : RepliesView) (rest : List ℕ) (new : ConsoleView) (result : Result ℕ E) (from : List ℕ) → OnlyHandle 0 u v
    → (r.has_failed ≡ true) ⊎ Rose (u.handle 0).faults (v.handle 0).faults → AnswersFailure (seen v (record r { waiting = rest })) new result → Shows (seen u r) new result from
failing u v r rest new (Ok n) from o why a = absurd (true≢false (sym a.failed))
failing u v r rest new (Err e) from o why a =
    let later : r.faults ≤ min (r.faults + 1) (2 ^ 64 - 1) = rw a.counted at a.later in
    rw a.counted (record {
      bound = tt;
      some = tt;
      step = record { only = only_replies u v r (answered (record r { waiting = rest })) o; bytes = tt; cause = record { later = later; failed = omega arith; kept = tt } };
      cause = λ _. why;
    })

gathering : {E : Type 0} (u v : HostView) (r : RepliesView) (rest : List ℕ) (new : ConsoleView) (result : Result ℕ E) (from : List ℕ) → OnlyHandle 0 u v
    → length rest < 2 ^ 16 → Gathers (seen v (record r { waiting = rest })) new result from → Shows (seen u r) new result from
gathering u v r rest new result from o less g = rw (g.appended, g.taken) (record {
  bound = omega arith;
  some = λ none. empty from (omega arith);
  step = record { only = only_replies u v r (gathered (record r { waiting = rest }) (min (length from) (2 ^ 16 - length rest)) from) o; bytes = tt; cause = record { later = omega arith; failed = tt; kept = refl } };
  cause = λ is. absurd (true≢false (sym is));
})

flushing : {E : Type 0} (old new : ConsoleView) (result : Result ℕ E) (from rest : List ℕ) (flushed : Result (Unit {0}) E) (f : FlushesAndGathers old new result from) → f.flushed ≡ flushed → Shows old new result from
flushing old new result from rest (Ok u) f is =
    let g = rw is at f.gathers in gathering old.inner new.inner old.replies [] new result from f.flushes.only (omega arith) g
flushing old new result from rest (Err e) f is =
    let a = rw is at f.failed in let why = rw is at f.flushes.cause.failed in failing old.inner new.inner old.replies f.rest new result from f.flushes.only (inr why) a

pub shows : {E : Type 0} (old new : ConsoleView) (result : Result ℕ E) (from : List ℕ) → WritesReply old new result from → Shows old new result from
shows old new result from (Answered is a) = failing old.inner old.inner old.replies old.replies.waiting new result from (only_refl 0 old.inner) (inl is) a
shows old new result from (Gathered fine less g) = gathering old.inner old.inner old.replies old.replies.waiting new result from (only_refl 0 old.inner) less g
shows old new result from (Flushed fine full f) = flushing old new result from f.rest f.flushed f refl

-- all went, and the bytes wait
pub full_ok : {E : Type 0} (old : ConsoleView) (inner : HostView) (after new : RepliesView) (n : ℕ) (from : List ℕ) → Flushes {E = E} old.inner inner old.replies.waiting after.waiting (Ok tt) → after ≡ record old.replies { waiting = after.waiting }
    → n ≡ min (length from) (room after) → new ≡ gathered after n from → FlushesAndGathers {E = E} old (seen inner new) (Ok n) from
full_ok old inner after new n from f rest count waits =
    let none : after ≡ record old.replies { waiting = [] } = rest ∙ ap (λ (w : List ℕ). record old.replies { waiting = w }) f.whole in
    let taken : n ≡ min (length from) (2 ^ 16) = rw none at count in
    let kept : new ≡ gathered (record old.replies { waiting = [] }) n from = rw none at waits in
    record {
      rest = after.waiting;
      flushed = Ok tt;
      flushes = f;
      gathers = record { taken = ap Ok taken; appended = ap (seen inner) (rw taken at kept) };
      failed = tt;
    }

-- a write failed, and nothing was taken
pub full_err : {E : Type 0} (old : ConsoleView) (inner : HostView) (after new : RepliesView) (e d : E) (from : List ℕ) → Flushes {E = E} old.inner inner old.replies.waiting after.waiting (Err e) → after ≡ record old.replies { waiting = after.waiting }
    → new ≡ answered after → after.faults ≤ new.faults → FlushesAndGathers {E = E} old (seen inner new) (Err d) from
full_err old inner after new e d from f rest counted later =
    record {
      rest = after.waiting;
      flushed = Err e;
      flushes = f;
      gathers = tt;
      failed = record { failed = refl; counted = ap (seen inner) (counted ∙ ap answered rest); later = rw rest at later };
    }

pub remembers_none : {E : Type 0} (old : ConsoleView) (inner : HostView) (after : RepliesView) → Flushes {E = E} old.inner inner old.replies.waiting after.waiting (Ok tt) → after ≡ record old.replies { waiting = after.waiting }
    → FlushesFirst {E = E} old (seen inner after) (Ok tt)
remembers_none old inner after f rest = record {
  flushes = f;
  remembers = ap (λ (r : RepliesView). r.has_failed) rest ∙ or_false old.replies.has_failed;
  faults = ap (λ (r : RepliesView). r.faults) rest;
}

pub remembers_failure : {E : Type 0} (old : ConsoleView) (inner : HostView) (after new : RepliesView) (e : E) → Flushes {E = E} old.inner inner old.replies.waiting after.waiting (Err e) → after ≡ record old.replies { waiting = after.waiting }
    → new ≡ record after { has_failed = true } → FlushesFirst {E = E} old (seen inner new) (Err e)
remembers_failure old inner after new e f rest failed = rw failed (record {
  flushes = f;
  remembers = or_true old.replies.has_failed;
  faults = ap (λ (r : RepliesView). r.faults) rest;
})

-- the end, where a failure was left to be answered or not
pub finished : {E : Type 0} (old : ConsoleView) (inner : HostView) (after new : RepliesView) (taken : Bool) (flushed result : Result (Unit {0}) E) → Flushes old.inner inner old.replies.waiting after.waiting flushed → after ≡ record old.replies { waiting = after.waiting }
    → taken ≡ after.has_failed → new ≡ record after { has_failed = false } → is_err result ≡ (taken || is_err flushed) → Finishes old (seen inner new) result
finished old inner after new taken flushed result f rest was shown answer =
    let before : taken ≡ old.replies.has_failed = was ∙ ap (λ (r : RepliesView). r.has_failed) rest in
    rw shown (record {
      flushed = flushed;
      flushes = f;
      answer = rw before at answer;
      shown = ap (λ (r : RepliesView). record r { has_failed = false }) rest;
    })
