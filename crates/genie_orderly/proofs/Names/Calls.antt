-- What transfers name stays there in calls, and so does what the new one names.
use Rattle.std.proofs.Common.{◌≡◌, ℕ, ◌*◌, ◌≤◌, true, false, not, ◌||◌, ◌==◌, inl, inr, List, [], ◌∷◌, ◌++◌, length, refl, sym, ap, subst, ◌∙◌, eqb-true, true≢false, mul_comm, arith}
use Rattle.std.specs.Prelude.{Option, Some, None, is_some}
use Rattle.std.specs.List.{list_any}
use Rattle.std.proofs.lemmas.Bool.{and_parts, and_right, or_from, not-true, false_from_ne_true}
use Rattle.std.proofs.lemmas.List.{length-replicate}
use Rattle.genie_base.specs.Configs.{Fits}
use Rattle.genie_base.specs.Posted.{Address}
use Rattle.genie_base.specs.Transfers.{is_system}
use Rattle.genie_base.specs.declared.region.RegionState.{RegionState}
use Rattle.genie_base.specs.declared.region.RegionState.TheVariants.{In, Held}
use Rattle.genie_base.specs.declared.semantics.Class.{Class}
use Rattle.genie_base.specs.declared.semantics.Class.TheVariants.{Copy, Share, Move, WeakMove}
use Rattle.genie_model.specs.State.{State, Region, Process, Transfer}
use Rattle.genie_model.specs.Tables.{entry}
use Rattle.genie_model.specs.Regions.{regions_at, queue_of, is_region, region_numbered, fresh, reach_of, with_state}
use Rattle.genie_model.specs.Pending.{is_just, names, add_transfer}
use Rattle.genie_model.specs.Space.{zeros_at_place, add_region, is_move}
use Rattle.genie_model.specs.Outputs.{place_reached, number_of, output_of, give_up}
use Rattle.genie_model.specs.Inputs.{pages_for, input_of, has_pages, is_reusable, reusable, moved_in, weak_buffer, with_buffer, number_or_fresh, posted, address_or_zero}
use Rattle.genie_orderly.specs.Orderly.{LiesInRegion, Lies, moves_into, IsOrderly}
use Rattle.genie_model.specs.Lemmas.Lists.{all_has, find_has, any_has, none_from, none_has, any_append}
use Rattle.genie_orderly.specs.Lemmas.FoundRegions.{has_region, found_at}
use Rattle.genie_orderly.specs.Lemmas.NamedRanges.{Fine, AreFine, accessible_free}
use Rattle.genie_orderly.specs.Lemmas.ChangedRegions.{place_keeps_lies}
use Rattle.genie_orderly.specs.Lemmas.AddedRegions.{IsFree, free_lies, added_found, added_held}
use Rattle.genie_orderly.specs.Lemmas.NamingTransfers.{Joins, stand_push, fine_in}
use Rattle.genie_orderly.proofs.Names.SpaceEvents.{Stands, state_stands, add_stands, moved_in_place, fresh_free, give_up_stands}
use Rattle.genie_orderly.specs.Lemmas.BufferRegions.{Reaches, reached, region_is}
use Rattle.genie_orderly.specs.Lemmas.RegionNumbers.{few_numbers}
use Rattle.genie_orderly.specs.Lemmas.AcceptedEvents.{page_some}

joins_none : (transfers : List Transfer) (u : Transfer) → u.region ≡ None → Joins transfers u
joins_none transfers u none = λ k e. absurd (true≢false (sym (rw none at e)))

joins_weak : (transfers : List Transfer) (u : Transfer) (k : ℕ) → is_move u.class ≡ false → u.region ≡ Some k → list_any (moves_into k) transfers ≡ false → Joins transfers u
joins_weak transfers u k weak named none = λ j e. inl (weak, subst (λ n. list_any (moves_into n) transfers ≡ false) (eqb-true k j (rw named at e)) none)

joins_first : (transfers : List Transfer) (u : Transfer) (k : ℕ) → u.region ≡ Some k → list_any (names k) transfers ≡ false → Joins transfers u
joins_first transfers u k named none = λ j e. inr (subst (λ n. list_any (names n) transfers ≡ false) (eqb-true k j (rw named at e)) none)

-- one transfer more
push_stands : (s t : State) (u : Transfer) → t ≡ add_transfer s u → Fine s u u.class u.region → Joins s.transfers u → Stands s → Stands t
push_stands s t u e fine joins h = let g = stand_push s s.transfers u fine joins h in rw e (record { each = g.each; one = g.one })

module _ (s : State) (p : ℕ) (to : Address) (a n : ℕ) (r : Region) (o : IsOrderly s) (e : reach_of s p a n ≡ Some r) (h : Stands s) where
  reaches : Reaches s r a n
  reaches = reached s p a n r o.regions e

  reached_free : list_any (moves_into r.number) s.transfers ≡ false
  reached_free = accessible_free s s.transfers o.numbers h.each r reaches.there reaches.accessible

  reached_lies : (u : Transfer) → u.offset ≡ place_reached s (Some r) a → u.len ≡ n → Lies s u (Some r.number)
  reached_lies u offset len = inl (rw (found_at s o.numbers r reaches.there r.number refl, offset, len) reaches.within)

  still_free : (u : Transfer) → moves_into r.number u ≡ false → list_any (moves_into r.number) (s.transfers ++ u ∷ []) ≡ false
  still_free u not_moved = any_append (moves_into r.number) s.transfers (u ∷ []) ∙ or_from (list_any (moves_into r.number) s.transfers) (moves_into r.number u || false) reached_free (or_from (moves_into r.number u) false not_moved refl)

  output_reached : (class : Class) → Stands (give_up (add_transfer s (output_of s p class to a n (Some r))) class (Some r))
  output_reached Copy = let u = output_of s p Copy to a n (Some r) in push_stands s (add_transfer s u) u refl tt (joins_none s.transfers u refl) h
  output_reached Share = let u = output_of s p Share to a n (Some r) in push_stands s (add_transfer s u) u refl (reached_lies u refl refl) (joins_weak s.transfers u r.number refl refl reached_free) h
  output_reached Move =
      let u = output_of s p Move to a n (Some r) in
      let t = add_transfer s u in
      give_up_stands t (push_stands s t u refl (λ inward. absurd (true≢false (sym inward))) (joins_none s.transfers u refl) h) o.numbers Move r reaches.there (still_free u refl)
  output_reached WeakMove =
      let u = output_of s p WeakMove to a n (Some r) in
      let t = add_transfer s u in
      give_up_stands t (push_stands s t u refl (reached_lies u refl refl) (joins_weak s.transfers u r.number refl refl reached_free) h) o.numbers WeakMove r reaches.there (still_free u refl)

  share_reached : (u : Transfer) → u ≡ input_of s p Share to n None (Some r.number) (place_reached s (Some r) a) → Stands (add_transfer s u)
  share_reached u is = rw is (
      let v = input_of s p Share to n None (Some r.number) (place_reached s (Some r) a) in
      push_stands s (add_transfer s v) v refl (reached_lies v refl refl) (joins_weak s.transfers v r.number refl refl reached_free) h)

pub output_stands : (s : State) (p : ℕ) (class : Class) (to : Address) (a n : ℕ) (found : Option Region) → IsOrderly s → reach_of s p a n ≡ found → is_some found ≡ true → Stands s → Stands (give_up (add_transfer s (output_of s p class to a n found)) class found)
output_stands s p class to a n (Some r) o e here h = output_reached s p to a n r o e h class
output_stands s p class to a n None o e here h = absurd (true≢false (sym here))

share_stands : (s : State) (p : ℕ) (to : Address) (a n : ℕ) (found : Option Region) → IsOrderly s → reach_of s p a n ≡ found → is_some found ≡ true → Stands s → Stands (add_transfer s (input_of s p Share to n None (number_of found) (place_reached s found a)))
share_stands s p to a n None o e here h = absurd (true≢false (sym here))
share_stands s p to a n (Some r) o e here h = share_reached s p to a n r o e h (input_of s p Share to n None (Some r.number) (place_reached s (Some r) a)) refl

enough : (s : State) (n : ℕ) → Fits s.config → n ≤ pages_for s n * s.config.page
enough s n fits = let some = page_some s.config.page fits.page in omega (arith, some, mul_comm s.config.page (pages_for s n))

named_lies : (s : State) (u : Transfer) (class : Class) (named : Option ℕ) (k : ℕ) → Fine s u class named → is_just named k ≡ true → Lies s u (Some k)
named_lies s u class None k h e = absurd (true≢false (sym e))
named_lies s u Copy (Some n) k h e = absurd h
named_lies s u Share (Some n) k h e = subst (λ j. Lies s u (Some j)) (eqb-true n k e) h
named_lies s u Move (Some n) k h e = subst (λ j. Lies s u (Some j)) (eqb-true n k e) (inl h.1.1)
named_lies s u WeakMove (Some n) k h e = subst (λ j. Lies s u (Some j)) (eqb-true n k e) h

pub free_unnamed : (s : State) (transfers : List Transfer) (k : ℕ) → IsFree s k → AreFine s transfers → list_any (names k) transfers ≡ false
free_unnamed s transfers k free fine = none_from (names k) transfers (λ u has. false_from_ne_true (names k u) (λ e. free_lies s k u free (named_lies s u u.class u.region k (all_has (fine_in s) transfers fine u has) e)))

-- a buffer is made
module _ (s : State) (p : ℕ) (to : Address) (n : ℕ) (o : IsOrderly s) (x : Process) (alive : entry s.processes p ≡ Some x) (h : Stands s) where
  free_number : IsFree s (fresh s)
  free_number = fresh_free s (few_numbers s o)

  made_lies : (state : RegionState) (u : Transfer) → u.offset ≡ 0 → u.len ≡ n → LiesInRegion u (region_numbered (add_region s p (zeros_at_place s state p (pages_for s n))) (fresh s))
  made_lies state u offset len =
      let r = zeros_at_place s state p (pages_for s n) in
      let all = enough s n o.config in
      rw (added_found s p r free_number x alive, offset, len) (omega (arith, all, length-replicate {A = ℕ} (pages_for s n * s.config.page) 0))

  made_stands : (state : RegionState) (u : Transfer) → u.region ≡ Some (fresh s) → Fine (add_region s p (zeros_at_place s state p (pages_for s n))) u u.class u.region → Stands (add_transfer (add_region s p (zeros_at_place s state p (pages_for s n))) u)
  made_stands state u named fine =
      let r = zeros_at_place s state p (pages_for s n) in
      let t = add_region s p r in
      push_stands t (add_transfer t u) u refl fine (joins_first s.transfers u (fresh s) named (free_unnamed s s.transfers (fresh s) free_number h.each)) (add_stands s s.transfers h p r free_number)

  weak_stands : (found : Option ℕ) → reusable s p (pages_for s n) ≡ found → Stands (add_transfer (weak_buffer s p n found) (input_of s p WeakMove to n None (number_or_fresh s found) 0))
  weak_stands None e = let u = input_of s p WeakMove to n None (Some (fresh s)) 0 in made_stands In u refl (inl (made_lies In u refl refl))
  weak_stands (Some k) e =
      let pages = pages_for s n in
      let u = input_of s p WeakMove to n None (Some k) 0 in
      let t = moved_in s k in
      let found = (find_has (is_reusable s p pages) (queue_of (entry s.processes p)) k e).1 in
      let both = and_parts (list_any (has_pages k pages) (regions_at s p)) (not (list_any (names k) s.transfers)) found in
      let unnamed : list_any (names k) s.transfers ≡ false = not-true (list_any (names k) s.transfers) both.1 in
      let some = any_has (has_pages k pages) (regions_at s p) both.0 in
      let r = some.0 in
      let is = and_parts (is_region k r) (r.pages == pages) some.2 in
      let there = found_at s o.numbers r (has_region s p r some.1) k (eqb-true r.number k is.0) in
      let bytes = (region_is s.config.page s.processes o.regions p r some.1).bytes in
      let all = enough s n o.config in
      let long : pages * s.config.page ≡ length r.bytes = ap (λ j. j * s.config.page) (sym (eqb-true r.pages pages is.1)) ∙ sym bytes in
      let unmoved = none_from (moves_into k) s.transfers (λ v has. and_right (is_move v.class) (names k v) (none_has (names k) v s.transfers has unnamed)) in
      push_stands t (add_transfer t u) u refl
      (place_keeps_lies s t k (with_state In) (moved_in_place s k) u k (inl (rw there (omega (arith, all, long)))))
      (joins_first s.transfers u k refl unnamed)
      (state_stands s s.transfers h t k (with_state In) (moved_in_place s k) unmoved)

  pub input_stands : (class : Class) (addr : Option ℕ) → (is_system class ≡ false → is_some (reach_of s p (address_or_zero addr) n) ≡ true) → Stands (add_transfer (with_buffer s p class n) (posted s p class to addr n))
  input_stands Copy addr here = let u = input_of s p Copy to n addr None 0 in push_stands s (add_transfer s u) u refl tt (joins_none s.transfers u refl) h
  input_stands Share addr here = share_stands s p to (address_or_zero addr) n (reach_of s p (address_or_zero addr) n) o refl (here refl) h
  input_stands Move addr here =
      let u = input_of s p Move to n None (Some (fresh s)) 0 in
      made_stands Held u refl (refl, (added_held s p (zeros_at_place s Held p (pages_for s n)) free_number x alive refl, made_lies Held u refl refl))
  input_stands WeakMove addr here = weak_stands (reusable s p (pages_for s n)) refl
