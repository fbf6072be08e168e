-- What stands under a weak transfer, from its call on until it ends.
use Rattle.std.proofs.Common.{◌≡◌, ℕ, zero, ◌<◌, true, ◌⊎◌, inl, inr, List, [], ◌∷◌, find, All, refl, sym, ap, subst, ◌∙◌, eqb-true, ne_eqb, arith}
use Rattle.std.specs.Prelude.{Option, Some, None, IsTrue}
use Rattle.std.specs.List.{list_any}
use Rattle.std.proofs.lemmas.List.Elements.{All-cons, All-head, All-tail}
use Rattle.genie_base.specs.Events.{is_whole, mark_of}
use Rattle.genie_base.specs.declared.event.Event.{Event}
use Rattle.genie_base.specs.declared.reply.Mark.{Mark}
use Rattle.genie_base.specs.declared.reply.Reply.{Reply}
use Rattle.genie_laws.specs.Integrity.{states, Stores, StandsIn, WasStored, WeakTransfersKeepBytes}
use Rattle.genie_orderly.specs.Orderly.{NumbersRise, IsOrderly}
use Rattle.genie_model.specs.Pending.{is_numbered, covers, pending}
use Rattle.genie_model.specs.Regions.{bytes_of}
use Rattle.genie_model.specs.State.{State, Transfer}
use Rattle.genie_model.specs.Step.{step, Follows}
use Rattle.genie_orderly.specs.Lemmas.AcceptedCalls.{IsAccepted, OnCall, accepted}
use Rattle.genie_laws.proofs.Runs.Numbers.{runs_count}
use Rattle.genie_model.specs.Lemmas.Lists.{or_next, all_has, has_any, find_has, find_append}
use Rattle.genie_orderly.specs.Lemmas.KeptCalls.{Keeps, call_of, with_call, steps_keep}
use Rattle.genie_orderly.specs.Lemmas.AcceptedCalls.{numbers_kept, number_added}
use Rattle.genie_orderly.specs.Steps.{Stays}
use Rattle.genie_model.specs.Lemmas.PendingCalls.{Same, same, remain_found, same_later}
use Rattle.genie_laws.proofs.Covered.Stores.{covered_bytes_stay}

-- a transfer that is pending later was pending, with the same number, and covered the same places
abbrev Was : ℕ → State → State → Type 0
Was n s t = (u : Transfer) → pending t n ≡ Some u → (v : Transfer) × (pending s n ≡ Some v) × Same v u

was_later : (n : ℕ) (s t u : State) → Was n s t → Was n t u → Was n s u
was_later n s t u h g v e = let at = g v e in let was = h at.0 at.1 in (was.0, was.1, same_later was.2 at.2)

or_none : (o : Option Transfer) → o ≡ or_next o None
or_none None = refl
or_none (Some t) = refl

module _ (s : State) (n : ℕ) where
  was_kept : (t u : State) → Keeps t u → NumbersRise t × Was n s t → NumbersRise u × Was n s u
  was_kept t u k h = (numbers_kept t u k h.0, was_later n s t u h.1 (remain_found n k.left h.0.order))

  was_called : n < s.next → (c : Option Transfer) → OnCall (IsAccepted s) c → Was n s (with_call s c)
  was_called given None a u e = (u, e, same u)
  was_called given (Some t) a u e =
      let other = ne_eqb t.number n (λ is. absurd (omega (arith, given, a.number, is))) in
      let beside : find (is_numbered n) (t ∷ []) ≡ None = rw other refl in
      (u, or_none (pending s n) ∙ ap (or_next (pending s n)) (sym beside) ∙ sym (find_append (is_numbered n) s.transfers (t ∷ [])) ∙ e, same u)

  step_was : n < s.next → (e : Event) (m : Mark) → IsTrue (is_whole e) → IsOrderly s → Was n s (step s e m).0
  step_was given e m whole o = (steps_keep (λ t. NumbersRise t × Was n s t) was_kept s e m (o.transfers, λ u i. (u, i, same u))
      (λ none. let a = accepted s e o.config whole none in (number_added s (call_of s e) a o.transfers, was_called given (call_of s e) a))).1

  step_places : n < s.next → (e : Event) (m : Mark) → IsTrue (is_whole e) → IsOrderly s → (t u : Transfer) → pending s n ≡ Some t → pending (step s e m).0 n ≡ Some u → (k x : ℕ) → covers k x u ≡ covers k x t
  step_places given e m whole o t u before after k x =
      let was = step_was given e m whole o u after in
      let both : Some was.0 ≡ Some t = sym was.1 ∙ before in
      let same : was.0 ≡ t = cc in
      was.2.covered k x ∙ ap (covers k x) same

abbrev Whole : Event → Type 0
Whole e = IsTrue (is_whole e)

run_was : Stays IsOrderly → (n : ℕ) (s : State) (es : List Event) (rs : List Reply) (last : State) → n < s.next → IsOrderly s → All Whole es → Follows s es rs last → Was n s last
run_was stay n s [] [] last given o whole f = subst (Was n s) f (λ u i. (u, i, same u))
run_was stay n s (e ∷ es) (r ∷ rs) last given o whole f =
    let next : State = (step s e (mark_of r)).0 in
    let first = All-head Whole e es whole in
    let counted = (runs_count s (e ∷ []) (r ∷ []) next (f.0, refl)).next in
    was_later n s next last (step_was s n given e (mark_of r) first o)
    (run_was stay n next es rs last (omega (arith, given, counted)) (stay s e (mark_of r) first o) (All-tail Whole e es whole) f.1)
run_was stay n s [] (r ∷ rs) last given o whole f = absurd f
run_was stay n s (e ∷ es) [] last given o whole f = absurd f

module _ (k x : ℕ) where
  any_covered : (s : State) (n : ℕ) (t : Transfer) → pending s n ≡ Some t → covers k x t ≡ true → list_any (covers k x) s.transfers ≡ true
  any_covered s n t e c = has_any (covers k x) t s.transfers (find_has (is_numbered n) s.transfers t e).0 c

  stands_first : (s : State) (es : List Event) (rs : List Reply) (byte : List ℕ) → StandsIn (states s es rs) k x byte → bytes_of s k x 1 ≡ byte
  stands_first s (e ∷ es) (r ∷ rs) byte h = h zero s (omega arith)
  stands_first s [] rs byte h = h zero s (omega arith)
  stands_first s (e ∷ es) [] byte h = h zero s (omega arith)

  abbrev Comes : State → List Event → List Reply → List ℕ → Type 0
  Comes s es rs byte = StandsIn (states s es rs) k x byte ⊎ WasStored s es rs k x byte

  module _ (s : State) (e : Event) (es : List Event) (r : Reply) (rs : List Reply) (byte : List ℕ) where
    abbrev next : State
    next = (step s e (mark_of r)).0

    comes : (bytes_of next k x 1 ≡ bytes_of s k x 1) ⊎ Stores s e k x (bytes_of next k x 1) → Comes next es rs byte → Comes s (e ∷ es) (r ∷ rs) byte
    comes (inl kept) (inl stands) = inl (All-cons (λ (t : State). bytes_of t k x 1 ≡ byte) s (states next es rs) (sym kept ∙ stands_first next es rs byte stands) stands)
    comes (inr stored) (inl stands) = inr (inl (subst (Stores s e k x) (stands_first next es rs byte stands) stored, stands))
    comes one (inr later) = inr (inr later)

pub weak_transfers_keep_bytes : Stays IsOrderly → WeakTransfersKeepBytes
weak_transfers_keep_bytes stay s [] [] last n k x t u o whole f before after =
    let both : Some t ≡ Some u = sym before ∙ subst (λ w. pending w n ≡ Some u) (sym f) after in
    let same : t ≡ u = cc in
    record { place = ap (covers k x) (sym same); byte = λ c. inl (All-cons (λ (w : State). bytes_of w k x 1 ≡ bytes_of last k x 1) s [] (ap (λ w. bytes_of w k x 1) f) (λ i d lt. absurd (omega arith))) }
weak_transfers_keep_bytes stay s (e ∷ es) (r ∷ rs) last n k x t u o whole f before after =
    let m : Mark = mark_of r in
    let next : State = (step s e m).0 in
    let first = All-head Whole e es whole in
    let rest = All-tail Whole e es whole in
    let orderly = stay s e m first o in
    let has = find_has (is_numbered n) s.transfers t before in
    let given : n < s.next = subst (λ j. j < s.next) (eqb-true t.number n has.1) (all_has (λ (t : Transfer). t.number < s.next) s.transfers o.transfers.below t has.0) in
    let counted = (runs_count s (e ∷ []) (r ∷ []) next (f.0, refl)).next in
    let was = run_was stay n next es rs last (omega (arith, given, counted)) orderly rest f.1 u after in
    let v : Transfer = was.0 in
    let place = step_places s n given e m first o t v before was.1 k x in
    let later = weak_transfers_keep_bytes stay next es rs last n k x v u orderly rest f.1 was.1 after in
    record {
      place = later.place ∙ place;
      byte = λ c. comes k x s e es r rs (bytes_of last k x 1) (covered_bytes_stay stay s e m k x first o (any_covered k x s n t before c) (any_covered k x next n v was.1 (place ∙ c))) (later.byte (place ∙ c));
    }
weak_transfers_keep_bytes stay s [] (r ∷ rs) last n k x t u o whole f before after = absurd f
weak_transfers_keep_bytes stay s (e ∷ es) [] last n k x t u o whole f before after = absurd f
