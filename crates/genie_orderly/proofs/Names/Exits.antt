-- What transfers name stays there where a process ends.
use Rattle.std.proofs.Common.{◌≡◌, ℕ, Bool, true, false, not, ◌&&◌, inl, inr, ⊎_elim, ◌++◌, map, filter, find, get_or, ◌≢◌, refl, sym, ap, subst, ◌∙◌, append_assoc, eqb-true, eq-eqb, true≢false}
use Rattle.std.specs.Prelude.{Option, Some, None, IsTrue, if◌then◌else◌}
use Rattle.std.specs.List.{list_any}
use Rattle.std.proofs.lemmas.Bool.{cases_Bool, cond_both}
use Rattle.std.proofs.lemmas.List.{map-append}
use Rattle.std.proofs.lemmas.List.Elements.{All-map, All-filter}
use Rattle.genie_base.specs.declared.semantics.Class.{Class}
use Rattle.genie_base.specs.declared.semantics.Class.TheVariants.{Copy, Share, Move, WeakMove}
use Rattle.genie_model.specs.State.{State, Region, Process, Transfer}
use Rattle.genie_model.specs.Regions.{regions_of, regions_at, is_region, region_numbered}
use Rattle.genie_model.specs.Pending.{is_just, names}
use Rattle.genie_model.specs.Space.{exit, is_move, disowned, is_posted_by}
use Rattle.genie_orderly.specs.Orderly.{holds, orphan_numbers, NumbersDiffer, moves_into}
use Rattle.genie_model.specs.Lemmas.Lists.{Has, has_left, has_right, has_either, or_next, find_append, find_has, any_found, find_none, pairs_right, pairs_beside, entry_set}
use Rattle.genie_orderly.specs.Lemmas.FoundRegions.{all_of, region_found, has_region, splits, find_middle, Differ, numbers_in, differ, only_region, orphans_beside, orphans_from, found_at, no_orphan_at}
use Rattle.genie_orderly.specs.Lemmas.NamedRanges.{Holds, KeepsLies, Fine, fine_stays, held_region, Stand}
use Rattle.genie_orderly.specs.Lemmas.ChangedRegions.{holds_it, lies_in_orphan}
use Rattle.genie_orderly.specs.Lemmas.NamingTransfers.{any_kept, count_kept, fewer, fine_in}

-- a transfer without its owner
gone_fine : (s t : State) (u : Transfer) (class : Class) (named new : Option ℕ) → KeepsLies s t → new ≡ (if is_move class then None else named) → Fine s u class named → Fine t (record u { owner = None; region = new }) class new
gone_fine s t u Copy None new lies e h = rw e tt
gone_fine s t u Share None new lies e h = absurd h
gone_fine s t u WeakMove None new lies e h = absurd h
gone_fine s t u Move named new lies e h = rw e (λ inward. refl)
gone_fine s t u Copy (Some k) new lies e h = absurd h
gone_fine s t u Share (Some k) new lies e h = rw e (lies u k h)
gone_fine s t u WeakMove (Some k) new lies e h = rw e (lies u k h)

moves_before : (b : Bool) (named : Option ℕ) (k : ℕ) → (b && is_just (if b then None else named) k) ≡ true → (b && is_just named k) ≡ true
moves_before true named k e = absurd (true≢false (sym e))
moves_before false named k e = e

names_before : (b : Bool) (named : Option ℕ) (k : ℕ) → is_just (if b then None else named) k ≡ true → is_just named k ≡ true
names_before true named k e = absurd (true≢false (sym e))
names_before false named k e = e

module _ (s : State) (p : ℕ) (differs : NumbersDiffer s) where
  abbrev left : State
  left = (exit s p).0

  left_all : all_of left.processes ≡ (splits s.processes p).before ++ (splits s.processes p).after
  left_all = (splits s.processes p).set None (λ _. refl)

  whole_differ : Differ (numbers_in (splits s.processes p).before ++ (numbers_in (regions_at s p) ++ (numbers_in (splits s.processes p).after ++ orphan_numbers s.orphans)))
  whole_differ =
      let cut = splits s.processes p in
      subst Differ (ap (λ l. numbers_in l ++ orphan_numbers s.orphans) cut.whole ∙ simp (map-append, append_assoc)) (differ s differs)

  left_differ : Differ (numbers_in (all_of left.processes) ++ orphan_numbers s.orphans)
  left_differ =
      let cut = splits s.processes p in
      subst Differ (sym (ap (λ l. numbers_in l ++ orphan_numbers s.orphans) left_all ∙ simp (map-append, append_assoc)))
      (pairs_beside (λ (a b : ℕ). a ≢ b) (numbers_in cut.before) (numbers_in (regions_at s p)) (numbers_in cut.after ++ orphan_numbers s.orphans) whole_differ)

  left_beside : (k : ℕ) → list_any (is_region k) (regions_at s p) ≡ false → region_numbered left k ≡ region_numbered s k
  left_beside k f =
      let cut = splits s.processes p in
      region_found left k ∙ ap (find (is_region k)) left_all ∙ find_append (is_region k) cut.before cut.after
      ∙ ap (λ (o : Option Region). or_next (find (is_region k) cut.before) (or_next o (find (is_region k) cut.after))) (sym (find_none (is_region k) (regions_at s p) f))
      ∙ sym (find_middle k cut.before (regions_at s p) cut.after) ∙ ap (find (is_region k)) (sym cut.whole) ∙ sym (region_found s k)

  left_lies : KeepsLies s left
  left_lies u k h = ⊎_elim
      (λ (t : list_any (is_region k) (regions_at s p) ≡ true).
      let first = any_found (is_region k) (regions_at s p) t in
      let x = first.0 in
      let has = find_has (is_region k) (regions_at s p) x first.1 in
      let there = has_region s p x has.0 in
      let number = eqb-true x.number k has.1 in
      let whole = found_at s differs x there k number in
      let none = no_orphan_at s differs x there k number in
      let apart = pairs_right (λ (a b : ℕ). a ≢ b) (numbers_in (splits s.processes p).before) (numbers_in (regions_at s p) ++ (numbers_in (splits s.processes p).after ++ orphan_numbers s.orphans)) whole_differ in
      let made = orphans_from k (regions_at s p) s.orphans (numbers_in (splits s.processes p).after ++ orphan_numbers s.orphans) x apart first.1 none in
      inr (rw made (⊎_elim (λ i. lies_in_orphan u x (rw whole at i)) (λ i. absurd (rw none at i)) h)))
      (λ (f : list_any (is_region k) (regions_at s p) ≡ false). ⊎_elim (λ i. inl (rw (left_beside k f) i)) (λ i. inr (rw (orphans_beside k (regions_at s p) s.orphans f) i)) h)
      (cases_Bool (list_any (is_region k) (regions_at s p)))

  other_holds : (o : Option ℕ) (k : ℕ) → is_just o p ≡ false → IsTrue (holds s o k) → IsTrue (holds left o k)
  other_holds None k other h = h
  other_holds (Some n) k other h = entry_set (λ (o : Option Process). list_any (holds_it k) (regions_of o) ≡ true) s.processes p n None h (λ same. absurd (true≢false (sym (eq-eqb n p same) ∙ other)))

  -- what another process holds stays
  left_held : (u : Transfer) (k : ℕ) → is_just u.owner p ≡ false → Holds s u k → Holds left u k
  left_held u k other h =
      let cut = splits s.processes p in
      let holds = other_holds u.owner k other h.0 in
      let held = held_region left u.owner k holds in
      let r = held.0 in
      let new = only_region s.orphans (all_of left.processes) left_differ r held.1 in
      let before : Has r (all_of s.processes) = subst (Has r) (sym cut.whole) (⊎_elim (has_left r cut.before (regions_at s p ++ cut.after))
      (λ e. has_right r cut.before (regions_at s p ++ cut.after) (has_right r (regions_at s p) cut.after e)) (has_either r cut.before cut.after (subst (Has r) left_all held.1))) in
      let old = only_region s.orphans (all_of s.processes) (differ s differs) r before in
      let same : region_numbered left k ≡ region_numbered s k = subst (λ n. region_numbered left n ≡ region_numbered s n) held.2 (region_found left r.number ∙ new ∙ sym (region_found s r.number ∙ old)) in
      (holds, rw same h.1)

  left_fine : (u : Transfer) → Fine s u u.class u.region → Fine left (disowned p u) (disowned p u).class (disowned p u).region
  left_fine u h = cond_both (is_just u.owner p) (record u { owner = None; region = if is_move u.class then None else u.region }) u (λ (v : Transfer). Fine left v v.class v.region)
      (λ _. gone_fine s left u u.class u.region (if is_move u.class then None else u.region) left_lies refl h)
      (λ other. fine_stays s left u u.class u.region left_lies (λ k _. left_held u k other) h)

  moves_disowned : (k : ℕ) (u : Transfer) → moves_into k (disowned p u) ≡ true → moves_into k u ≡ true
  moves_disowned k u = cond_both (is_just u.owner p) (record u { owner = None; region = if is_move u.class then None else u.region }) u (λ (v : Transfer). moves_into k v ≡ true → moves_into k u ≡ true)
      (λ _. moves_before (is_move u.class) u.region k) (λ _ e. e)

  names_disowned : (k : ℕ) (u : Transfer) → names k (disowned p u) ≡ true → names k u ≡ true
  names_disowned k u = cond_both (is_just u.owner p) (record u { owner = None; region = if is_move u.class then None else u.region }) u (λ (v : Transfer). names k v ≡ true → names k u ≡ true)
      (λ _. names_before (is_move u.class) u.region k) (λ _ e. e)

  pub exit_stands : Stand s s.transfers → Stand left (map (disowned p) (filter (λ t. not (is_posted_by p t)) s.transfers))
  exit_stands h =
      let stays = λ (t : Transfer). not (is_posted_by p t) in
      record {
        each = All-map (fine_in left) (disowned p) (filter stays s.transfers) (λ i d lt. left_fine (get_or (filter stays s.transfers) i d) (All-filter stays (fine_in s) s.transfers h.each i d lt));
        one = fewer (map (disowned p) (filter stays s.transfers)) s.transfers (λ k. any_kept (moves_into k) stays (disowned p) (moves_disowned k) s.transfers) (λ k. count_kept (names k) stays (disowned p) (names_disowned k) s.transfers) h.one;
      }
