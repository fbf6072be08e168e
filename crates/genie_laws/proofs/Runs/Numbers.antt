-- The numbers that the calls of a run get.
use Rattle.std.proofs.Common.{◌≡◌, ℕ, zero, suc, ◌+◌, true, List, [], ◌∷◌, ◌++◌, length, refl, ap, subst, ◌∙◌, arith, length-append}
use Rattle.std.proofs.lemmas.Bool.{cond_both}
use Rattle.std.specs.Prelude.{Option, Some, None, ◌==◌, if◌then◌else◌}
use Rattle.std.specs.List.{range_with_len}
use Rattle.genie_base.specs.declared.event.Event.{Event}
use Rattle.genie_base.specs.declared.event.Event.TheVariants.{Send, Recv}
use Rattle.genie_base.specs.declared.reply.Reply.{Reply}
use Rattle.genie_base.specs.declared.reply.Reply.TheVariants as reply
use Rattle.genie_base.specs.Events.{mark_of}
use Rattle.genie_model.specs.State.{State, Transfer}
use Rattle.genie_model.specs.Space.{Outcome}
use Rattle.genie_orderly.specs.Steps.{id_of}
use Rattle.genie_laws.specs.Laws.{ids, RunsCount}
use Rattle.genie_model.specs.Step.{accept, failed, may_fail, step}
use Rattle.genie_orderly.specs.Lemmas.KeptCalls.{Did, call_of, accept_did}
use Rattle.genie_model.specs.Lemmas.Steps.{outcome_so}

-- one step's part
record Counted (s : State) (o : Outcome) : Type 0 where
  numbers : id_of o.1 ≡ range_with_len s.next (length (id_of o.1))
  next : o.0.next ≡ s.next + length (id_of o.1)

none : (s t : State) (r : Reply) → t.next ≡ s.next → id_of r ≡ [] → Counted s (t, r)
none s t r e id = record { numbers = rw id refl; next = rw id (omega (arith, e)) }

did_counted : (s : State) (c : Option Transfer) (o : Outcome) → Did s c o → Counted s o
did_counted s None o d = none s o.0 o.1 d.keeps.next d.id
did_counted s (Some t) o d = let next = d.keeps.next in let id = d.id in record { numbers = rw id refl; next = rw id next }

accept_counted : (s : State) (e : Event) → Counted s (accept s e)
accept_counted s e = did_counted s (call_of s e) (accept s e) (accept_did s e)

moved_counted : (s t : State) (k : ℕ) → t.next ≡ s.next → Counted s (if k == 0 then s else t, reply.Fault k)
moved_counted s t k e = none s _ _ (cond_both (k == 0) s t (λ (u : State). u.next ≡ s.next) (λ b. refl) (λ b. e)) refl

-- only a send step and a receive step fail, and neither is a call
failed_counted : (s : State) (e : Event) (k : ℕ) → may_fail s e k ≡ true → Counted s (failed s e k)
failed_counted s (Send d n) k t = moved_counted s _ k (accept_did s (Send d k)).keeps.next
failed_counted s (Recv d n) k t = moved_counted s _ k (accept_did s (Recv d k)).keeps.next
failed_counted s e k t = absurd (cc)

range_append : (a m n : ℕ) → range_with_len a m ++ range_with_len (a + m) n ≡ range_with_len a (m + n)
range_append a zero n = let e : a + 0 ≡ a = omega arith in let f : 0 + n ≡ n = omega arith in rw (e, f) refl
range_append a (suc m) n =
    let e : a + suc m ≡ a + 1 + m = omega arith in
    let f : suc m + n ≡ suc (m + n) = omega arith in
    rw (e, f) (ap (λ l. a ∷ l) (range_append (a + 1) m n))

pub runs_count : RunsCount
runs_count s [] [] last f = record { numbers = refl; next = rw (← f) (omega arith) }
runs_count s (e ∷ es) (r ∷ rs) last f =
    let next : State = (step s e (mark_of r)).0 in
    let one : Counted s (next, r) = subst (λ (x : Reply). Counted s (next, x)) f.0 (outcome_so (Counted s) s e (λ w. none s s _ refl refl) (none s s _ refl refl) (λ _. accept_counted s e) (λ _. failed_counted s e) (mark_of r)) in
    let rest = runs_count next es rs last f.1 in
    let first : List ℕ = id_of r in
    let numbers = one.numbers in
    let later : ids rs ≡ range_with_len (s.next + length first) (length (ids rs)) = rw (← one.next) rest.numbers in
    let long : length (first ++ ids rs) ≡ length first + length (ids rs) = length-append first (ids rs) in
    let both = range_append s.next (length first) (length (ids rs)) in
    let goal : first ++ ids rs ≡ range_with_len s.next (length (first ++ ids rs)) = rw long (ap (λ l. l ++ ids rs) numbers ∙ ap (λ l. range_with_len s.next (length first) ++ l) later ∙ both) in
    let n = one.next in
    let m = rest.next in
    record { numbers = goal; next = omega (arith, n, m, long) }
runs_count s [] (r ∷ rs) last f = absurd f
runs_count s (e ∷ es) [] last f = absurd f
