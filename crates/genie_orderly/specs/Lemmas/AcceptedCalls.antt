-- What is known of a call that is accepted: its number is the next one, and there is room for it.
use Rattle.std.proofs.Common.{◌≡◌, ℕ, ◌+◌, ◌-◌, ◌*◌, ◌<◌, ◌≤◌, Bool, true, false, List, [], ◌∷◌, length, take, drop, refl, ap, sym, subst, arith, ltb-false, length-append}
use Rattle.std.proofs.Math.Nat.{mul-add-div_right}
use Rattle.std.proofs.lemmas.Bool.{cond_both, and_parts}
use Rattle.std.proofs.lemmas.Bool.Decides.{nat_tests}
use Rattle.std.specs.Prelude.{Option, Some, None, cond, IsTrue, ⊤, nat_le, nat_lt, ◌==◌, ◌&&◌, is_some, unwrap_or}
use Rattle.genie_base.specs.Configs.{Fits}
use Rattle.genie_base.specs.Counts.{span, cost}
use Rattle.genie_base.specs.Events.{is_whole, has_one}
use Rattle.genie_base.specs.Posted.{Address}
use Rattle.genie_base.specs.Regions.{reach, is_reached, is_accessible, contains_range}
use Rattle.genie_base.specs.Transfers.{class_of, is_system}
use Rattle.genie_base.specs.declared.event.Event.{Event}
use Rattle.genie_base.specs.declared.event.Event.TheVariants.{Output, Input}
use Rattle.genie_base.specs.declared.refusal.Refusal.{Refusal}
use Rattle.genie_base.specs.declared.refusal.Refusal.TheVariants.{Range}
use Rattle.genie_base.specs.declared.semantics.Class.{Class}
use Rattle.genie_base.specs.declared.semantics.Class.TheVariants.{Copy, Share, Move, WeakMove}
use Rattle.genie_base.specs.declared.semantics.Direction.TheVariants.{Outward, Inward}
use Rattle.genie_model.specs.State.{State, Region, Transfer}
use Rattle.genie_model.specs.Regions.{extent_of, regions_at, reach_of}
use Rattle.genie_model.specs.Pending.{wired, cost_of}
use Rattle.genie_model.specs.Outputs.{place_reached}
use Rattle.genie_model.specs.Inputs.{posted, address_or_zero}
use Rattle.genie_model.specs.Refusing.{refuse, first_cause, causes, call_causes, target_causes, frames_to_wire}
use Rattle.genie_model.specs.Lemmas.Causes.{none_holds, second_holds, both_none, few_calls}
use Rattle.genie_orderly.specs.Lemmas.KeptCalls.{call_of, Keeps, with_call}
use Rattle.genie_orderly.specs.Lemmas.AcceptedEvents.{page_some}
use Rattle.std.proofs.lemmas.List.Elements.{All-push, All-weaker}
use Rattle.std.proofs.lemmas.List.Quantifiers.{all_pairs_push}
use Rattle.genie_orderly.specs.Orderly.{NumbersRise}
use Rattle.genie_model.specs.Lemmas.PendingCalls.{remain_few, remain_all, remain_order}

pub record IsAccepted (s : State) (t : Transfer) : Type 0 where
  pub number : t.number ≡ s.next
  pub few : length s.transfers < 64
  pub wired : wired s + cost_of s.config.page t ≤ frames_to_wire s

-- of the transfer of a call, where the event is one
abbrev pub OnCall : (Transfer → Type 0) → Option Transfer → Type 0
OnCall P None = ⊤
OnCall P (Some t) = P t

cond_agree : (b : Bool) (x y z : ℕ) → (b ≡ false → y ≡ z) → cond b x y ≡ cond b x z
cond_agree true x y z e = refl
cond_agree false x y z e = e refl

-- k pages further on
span_shift : (page k x n : ℕ) → 0 < page → span page (k * page + x) n ≡ span page x n
span_shift page k x n h =
    cond_agree (n == 0) 0 _ _ (λ f.
    let some : 0 < n = grind (arith, nat_tests) in
    let same : k * page + x + n - 1 ≡ k * page + (x + n - 1) = omega arith in
    rw (same, mul-add-div_right h k (x + n - 1), mul-add-div_right h k x) (omega arith))

reached_start : (page a n : ℕ) (regions : List Region) (r : Region) → reach extent_of page a n regions ≡ Some r → r.start * page ≤ a
reached_start page a n [] r e = absurd (cc)
reached_start page a n (x ∷ regions) r e =
    cond_both (is_reached page a n (extent_of x)) (Some x) (reach extent_of page a n regions) (λ (o : Option Region). o ≡ Some r → r.start * page ≤ a)
    (λ t e. let same : x ≡ r = cc in
    let inside = (and_parts (is_accessible x.state) (contains_range page a n (extent_of x)) t).1 in
    let end : ℕ = (x.start + x.pages) * page in
    let first = (and_parts (nat_le (x.start * page) a) (nat_lt a end) (and_parts (nat_le (x.start * page) a && nat_lt a end) (nat_le (a + n) end) inside).0).0 in
    let low : x.start * page ≤ a = grind (arith, nat_tests) in
    rw (← same) low)
    (λ f e. reached_start page a n regions r e) e

placed_span : (s : State) (a n : ℕ) (o : Option Region) → 0 < s.config.page → ((r : Region) → o ≡ Some r → r.start * s.config.page ≤ a) → is_some o ≡ true → span s.config.page (place_reached s o a) n ≡ span s.config.page a n
placed_span s a n None some low here = absurd (cc)
placed_span s a n (Some r) some low here =
    let page : ℕ = s.config.page in
    let first = low r refl in
    let from : r.start * page + (a - r.start * page) ≡ a = omega arith in
    sym (subst (λ x. span page x n ≡ span page (a - r.start * page) n) from (span_shift page r.start (a - r.start * page) n some))

-- the place of an address in its region begins as many pages as the address
reached_span : (s : State) (p a n : ℕ) → Fits s.config → is_some (reach_of s p a n) ≡ true → span s.config.page (place_reached s (reach_of s p a n) a) n ≡ span s.config.page a n
reached_span s p a n fits here = placed_span s a n (reach_of s p a n) (omega (arith, page_some s.config.page fits.page)) (reached_start s.config.page a n (regions_at s p)) here

has_room : (s : State) (t : Transfer) (frames : ℕ) → t.number ≡ s.next → cost_of s.config.page t ≡ frames → first_cause (call_causes s frames) ≡ None → IsAccepted s t
has_room s t frames number same none = record {
  number = number;
  few = few_calls s frames none;
  wired = rw same (ltb-false (frames_to_wire s) (wired s + frames) (none_holds (call_causes s frames) none 1 (true, Range) (omega arith)));
}

input_number : (s : State) (p : ℕ) (class : Class) (to : Address) (a : Option ℕ) (n : ℕ) → (posted s p class to a n).number ≡ s.next
input_number s p Copy to a n = refl
input_number s p class to a n = refl

copy_address : (a : Option ℕ) → unwrap_or a 0 ≡ address_or_zero a
copy_address None = refl
copy_address (Some a) = refl

no_address : (a : Option ℕ) → has_one true (is_some a) ≡ true → 0 ≡ address_or_zero a
no_address None whole = refl
no_address (Some a) whole = absurd (cc)

input_cost : (s : State) (p : ℕ) (class : Class) (to : Address) (a : Option ℕ) (n : ℕ) → Fits s.config → has_one (is_system class) (is_some a) ≡ true → first_cause (target_causes s p class to.device (address_or_zero a) n) ≡ None
    → cost_of s.config.page (posted s p class to a n) ≡ cost class Inward (span s.config.page (address_or_zero a) n)
input_cost s p Copy to a n fits whole none = ap (λ x. 2 * span s.config.page x n) (copy_address a)
input_cost s p Share to a n fits whole none =
    let rows : List (Bool × Refusal) = target_causes s p Share to.device (address_or_zero a) n in
    reached_span s p (address_or_zero a) n fits (second_holds _ _ (none_holds rows none 2 (true, Range) (omega arith)))
input_cost s p Move to a n fits whole none = ap (λ x. span s.config.page x n) (no_address a whole)
input_cost s p WeakMove to a n fits whole none = ap (λ x. span s.config.page x n) (no_address a whole)

pub accepted : (s : State) (e : Event) → Fits s.config → IsTrue (is_whole e) → refuse s e ≡ None → OnCall (IsAccepted s) (call_of s e)
accepted s (Output p sem d port flow a n) fits whole none =
    let rows : List (Bool × Refusal) = causes s (Output p sem d port flow a n) in
    let reached = second_holds _ _ (none_holds rows none 2 (true, Range) (omega arith)) in
    has_room s _ _ refl (ap (cost (class_of sem) Outward) (reached_span s p a n fits reached)) (both_none (take 5 rows) (drop 5 rows) none).1
accepted s (Input p sem d port flow a n) fits whole none =
    let to : Address = record { device = d; port = port; flow = flow } in
    let frames : ℕ = cost (class_of sem) Inward (span s.config.page (address_or_zero a) n) in
    let both = both_none (target_causes s p (class_of sem) d (address_or_zero a) n) (call_causes s frames) none in
    has_room s _ frames (input_number s p (class_of sem) to a n) (input_cost s p (class_of sem) to a n fits whole both.0) both.1
accepted s e fits whole none = tt

-- the numbers of the pending transfers where no call comes, and where one does
pub numbers_kept : (s t : State) → Keeps s t → NumbersRise s → NumbersRise t
numbers_kept s t k h =
    let few = remain_few k.left in
    record { few = omega (arith, few, h.few); order = remain_order k.left h.order; below = rw (k.next) (remain_all (λ n. n < s.next) k.left h.below) }

pub number_added : (s : State) (c : Option Transfer) → OnCall (IsAccepted s) c → NumbersRise s → NumbersRise (with_call s c)
number_added s None a h = h
number_added s (Some t) a h =
    let long = length-append s.transfers (t ∷ []) in
    let number = a.number in
    record {
      few = omega (arith, long, a.few);
      order = all_pairs_push (λ (u v : Transfer). u.number < v.number) s.transfers t h.order (rw number h.below);
      below = All-push (λ (u : Transfer). u.number < s.next + 1) s.transfers t (All-weaker (λ (u : Transfer). u.number < s.next) (λ (u : Transfer). u.number < s.next + 1) (λ u lt. omega arith) s.transfers h.below) (omega (arith, number));
    }
