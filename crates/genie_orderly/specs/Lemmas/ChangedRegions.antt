-- What transfers name stays there where a region is changed in place or removed.
use Rattle.std.proofs.Common.{◌≡◌, ℕ, ◌+◌, ◌-◌, ◌<◌, ◌≤◌, Bool, true, false, not, ◌&&◌, ◌==◌, inl, inr, ⊎_elim, List, [], ◌∷◌, length, map, filter, find, refl, sym, ap, subst, ◌∙◌, eqb-true, eq-eqb, arith}
use Rattle.std.specs.Prelude.{Option, Some, None, IsTrue, slice_index}
use Rattle.std.specs.Option.{option_map}
use Rattle.std.specs.List.{list_any}
use Rattle.std.proofs.lemmas.Bool.{cases_Bool, cond_both, and_parts, and_from, or_left, or_right}
use Rattle.std.proofs.lemmas.List.{map-append}
use Rattle.std.proofs.lemmas.List.Elements.{filter-append}
use Rattle.std.proofs.lemmas.Bool.Decides.{nat_tests}
use Rattle.genie_base.specs.Lemmas.Overlaid.{length-overlaid}
use Rattle.genie_model.specs.State.{State, Region, Orphan, Process, Transfer}
use Rattle.genie_model.specs.Tables.{entry}
use Rattle.genie_model.specs.Regions.{regions_of, regions_at, is_region, is_orphan, region_numbered, orphan_numbered, is_within_range, change_process, changed, changed_in, with_bytes, stored_at, stored_in_orphan, put}
use Rattle.genie_model.specs.Space.{placed, as_orphan, without_region, remove}
use Rattle.genie_orderly.specs.Orderly.{LiesInRegion, LiesInOrphan, Lies, has_place, is_held, holds}
use Rattle.genie_model.specs.Lemmas.Lists.{find_map, find_filter, find_none, find_put_other, find_put_here, any_filter, any_map}
use Rattle.genie_orderly.specs.Lemmas.FoundRegions.{all_of, region_found, all_by, entry_by}
use Rattle.genie_orderly.specs.Lemmas.NamedRanges.{KeepsLies, KeepsHeld}

abbrev pub holds_it : ℕ → Region → Bool
holds_it k r = is_region k r && is_held r.state

pub holds_by : (s t : State) (k : ℕ) → ((p : ℕ) → list_any (holds_it k) (regions_at s p) ≡ true → list_any (holds_it k) (regions_at t p) ≡ true) → (o : Option ℕ) → IsTrue (holds s o k) → IsTrue (holds t o k)
holds_by s t k h None e = e
holds_by s t k h (Some p) e = h p e

pub swap_test : (a b : ℕ) → (a == b) ≡ false → (b == a) ≡ false
swap_test a b e = grind (arith, nat_tests)

-- region j is changed, and keeps its number and how many bytes it has; orphans keep their places
pub record InPlace (s t : State) (j : ℕ) (f : Region → Region) : Type 0 where
  pub number : (r : Region) → (f r).number ≡ r.number
  pub long : (r : Region) → length (f r).bytes ≡ length r.bytes
  pub all : all_of t.processes ≡ map (changed j f) (all_of s.processes)
  pub at : (p : ℕ) → regions_at t p ≡ map (changed j f) (regions_at s p)
  pub orphans : (u : Transfer) (k : ℕ) → LiesInOrphan u (orphan_numbered s k) → LiesInOrphan u (orphan_numbered t k)

module _ (s t : State) (j : ℕ) (f : Region → Region) (in_place : InPlace s t j f) where
  changed_number : (k : ℕ) (r : Region) → is_region k (changed j f r) ≡ is_region k r
  changed_number k r = cond_both (r.number == j) (f r) r (λ (q : Region). (q.number == k) ≡ (r.number == k)) (λ _. ap (λ n. n == k) (in_place.number r)) (λ _. refl)

  pub place_found : (k : ℕ) → region_numbered t k ≡ option_map (changed j f) (region_numbered s k)
  place_found k = region_found t k ∙ ap (find (is_region k)) in_place.all ∙ find_map (is_region k) (changed j f) (changed_number k) (all_of s.processes) ∙ ap (option_map (changed j f)) (sym (region_found s k))

  lies_changed : (u : Transfer) (o : Option Region) → LiesInRegion u o → LiesInRegion u (option_map (changed j f) o)
  lies_changed u None h = h
  lies_changed u (Some r) h = cond_both (r.number == j) (f r) r (λ (q : Region). u.offset + u.len ≤ length q.bytes) (λ _. rw (in_place.long r) h) (λ _. h)

  in_region : (u : Transfer) (k : ℕ) → LiesInRegion u (region_numbered s k) → LiesInRegion u (region_numbered t k)
  in_region u k h = rw (place_found k) (lies_changed u (region_numbered s k) h)

  pub place_keeps_lies : KeepsLies s t
  place_keeps_lies u k h = ⊎_elim (λ r. inl (in_region u k r)) (λ o. inr (in_place.orphans u k o)) h

  holds_changed : (k : ℕ) → ((r : Region) → holds_it k r ≡ true → is_held (changed j f r).state ≡ true) → KeepsHeld s t k
  holds_changed k same u h = (
    holds_by s t k (λ p e. rw (in_place.at p) (any_map (holds_it k) (holds_it k) (changed j f) (λ r e. and_from (is_region k (changed j f r)) (is_held (changed j f r).state) (changed_number k r ∙ (and_parts (is_region k r) (is_held r.state) e).0) (same r e)) (regions_at s p) e)) u.owner h.0,
    in_region u k h.1,
  )

  -- other regions are held as they were
  pub place_keeps_others : (k : ℕ) → (k == j) ≡ false → KeepsHeld s t k
  place_keeps_others k other = holds_changed k (λ r e.
      let both = and_parts (is_region k r) (is_held r.state) e in
      let differs : (r.number == j) ≡ false = rw (eqb-true r.number k both.0) other in
      rw differs both.1)

  -- and this one where its state stays
  pub place_keeps_held : ((r : Region) → (f r).state ≡ r.state) → (k : ℕ) → KeepsHeld s t k
  place_keeps_held state k = holds_changed k (λ r e. cond_both (r.number == j) (f r) r (λ (q : Region). is_held q.state ≡ true) (λ _. rw (state r) (and_parts (is_region k r) (is_held r.state) e).1) (λ _. (and_parts (is_region k r) (is_held r.state) e).1))

-- where each process changes region j
pub in_place_by : (s t : State) (j : ℕ) (f : Region → Region) (g : Process → Process) → t.processes ≡ map (change_process g) s.processes → ((p : Process) → (g p).regions ≡ map (changed j f) p.regions) → ((r : Region) → (f r).number ≡ r.number) → ((r : Region) → length (f r).bytes ≡ length r.bytes)
    → ((u : Transfer) (k : ℕ) → LiesInOrphan u (orphan_numbered s k) → LiesInOrphan u (orphan_numbered t k)) → InPlace s t j f
in_place_by s t j f g processes each number long orphans = record {
  number = number;
  long = long;
  all = ap all_of processes ∙ all_by (map (changed j f)) refl (map-append (changed j f)) g each s.processes;
  at = λ p. ap (λ l. regions_of (entry l p)) processes ∙ entry_by (map (changed j f)) refl (map-append (changed j f)) g each s.processes p;
  orphans = orphans;
}

stored_number : (k x j : ℕ) (new : List ℕ) (o : Orphan) → is_orphan j (stored_in_orphan k x new o) ≡ is_orphan j o
stored_number k x j new o = cond_both (o.number == k) (record o { bytes = map (stored_at x new) o.bytes }) o (λ (q : Orphan). (q.number == j) ≡ (o.number == j)) (λ _. refl) (λ _. refl)

-- stored bytes keep their places
pub place_stored : (x : ℕ) (new : List ℕ) (e : ℕ × ℕ) → (stored_at x new e).0 ≡ e.0
place_stored x new e = cond_both (is_within_range x (length new) e) (e.0, slice_index new (e.0 - x)) e (λ (y : ℕ × ℕ). y.0 ≡ e.0) (λ _. refl) (λ _. refl)

stored_place : (x y : ℕ) (new : List ℕ) (e : ℕ × ℕ) → (e.0 == y) ≡ true → ((stored_at x new e).0 == y) ≡ true
stored_place x y new e t = cond_both (is_within_range x (length new) e) (e.0, slice_index new (e.0 - x)) e (λ (d : ℕ × ℕ). (d.0 == y) ≡ true) (λ _. t) (λ _. t)

stored_lies : (k x : ℕ) (new : List ℕ) (u : Transfer) (o : Option Orphan) → LiesInOrphan u o → LiesInOrphan u (option_map (stored_in_orphan k x new) o)
stored_lies k x new u None h = h
stored_lies k x new u (Some o) h = λ y low high. cond_both (o.number == k) (record o { bytes = map (stored_at x new) o.bytes }) o (λ (q : Orphan). has_place y q ≡ true)
    (λ _. any_map (λ (e : ℕ × ℕ). e.0 == y) (λ (e : ℕ × ℕ). e.0 == y) (stored_at x new) (stored_place x y new) o.bytes (h y low high)) (λ _. h y low high)

pub put_orphan : (s : State) (k x : ℕ) (new : List ℕ) (j : ℕ) → orphan_numbered (put s k x new) j ≡ option_map (stored_in_orphan k x new) (orphan_numbered s j)
put_orphan s k x new j = find_map (is_orphan j) (stored_in_orphan k x new) (stored_number k x j new) s.orphans

pub put_in_place : (s : State) (k x : ℕ) (new : List ℕ) → InPlace s (put s k x new) k (with_bytes x new)
put_in_place s k x new = in_place_by s (put s k x new) k (with_bytes x new) (changed_in k (with_bytes x new)) refl (λ p. refl) (λ r. refl) (λ r. length-overlaid x new r.bytes)
    (λ u j h. rw (put_orphan s k x new j) (stored_lies k x new u (orphan_numbered s j) h))

placed_has : (x y : ℕ) (bytes : List ℕ) → x ≤ y → y < x + length bytes → list_any (λ (e : ℕ × ℕ). e.0 == y) (placed x bytes) ≡ true
placed_has x y [] low high = absurd (omega arith)
placed_has x y (b ∷ bytes) low high = ⊎_elim (λ (t : (x == y) ≡ true). or_left (x == y) (list_any (λ (e : ℕ × ℕ). e.0 == y) (placed (x + 1) bytes)) t)
    (λ (f : (x == y) ≡ false). or_right (x == y) (list_any (λ (e : ℕ × ℕ). e.0 == y) (placed (x + 1) bytes)) (placed_has (x + 1) y bytes (grind (arith, nat_tests)) (omega arith)))
    (cases_Bool (x == y))

-- what lay in a region lies in its orphan
pub lies_in_orphan : (u : Transfer) (r : Region) → LiesInRegion u (Some r) → LiesInOrphan u (Some (as_orphan r))
lies_in_orphan u r h = λ x low high. placed_has 0 x r.bytes (omega arith) (omega arith)

-- a region is removed
module _ (s : State) (r : Region) where
  stays_beside : (k : ℕ) → (k == r.number) ≡ false → region_numbered (remove s r) k ≡ region_numbered s k
  stays_beside k other = region_found (remove s r) k
      ∙ ap (find (is_region k)) (all_by (filter (λ (q : Region). not (is_region r.number q))) refl (filter-append (λ (q : Region). not (is_region r.number q))) (without_region r.number) (λ p. refl) s.processes)
      ∙ find_filter (is_region k) (λ q. not (is_region r.number q)) (λ q e. rw (eqb-true q.number k e, other) refl) (all_of s.processes)
      ∙ sym (region_found s k)

  pub remove_keeps_lies : region_numbered s r.number ≡ Some r → list_any (is_orphan r.number) s.orphans ≡ false → KeepsLies s (remove s r)
  remove_keeps_lies is none u k h = ⊎_elim
      (λ (same : (k == r.number) ≡ true).
      let e = eqb-true k r.number same in
      let made = find_put_here (is_orphan r.number) (λ (o : Orphan). o.number) (as_orphan r) (eq-eqb r.number r.number refl) s.orphans none in
      subst (λ n. Lies (remove s r) u (Some n)) (sym e) (inr (rw made (⊎_elim (λ i. lies_in_orphan u r (rw is at i)) (λ i. absurd (rw (find_none (is_orphan r.number) s.orphans none) at i)) (subst (λ n. Lies s u (Some n)) e h)))))
      (λ (other : (k == r.number) ≡ false).
      let kept = find_put_other (is_orphan k) (λ (o : Orphan). o.number) (as_orphan r) (swap_test k r.number other) s.orphans in
      ⊎_elim (λ i. inl (rw (stays_beside k other) i)) (λ i. inr (rw kept i)) h)
      (cases_Bool (k == r.number))

  pub remove_keeps_held : (k : ℕ) → (k == r.number) ≡ false → KeepsHeld s (remove s r) k
  remove_keeps_held k other u h = (
    holds_by s (remove s r) k (λ p e. rw (entry_by (filter (λ (q : Region). not (is_region r.number q))) refl (filter-append (λ (q : Region). not (is_region r.number q))) (without_region r.number) (λ p. refl) s.processes p)
        (any_filter (holds_it k) (λ q. not (is_region r.number q)) (λ q t. rw (eqb-true q.number k (and_parts (is_region k q) (is_held q.state) t).0, other) refl) (regions_at s p) e)) u.owner h.0,
    rw (stays_beside k other) h.1,
  )
