-- What transfers name stays there where a region or a process is added.
use Rattle.std.proofs.Common.{◌≡◌, ℕ, ◌+◌, Bool, true, false, ◌||◌, ◌==◌, inl, inr, ⊎_elim, List, [], ◌∷◌, ◌++◌, length, find, cond, refl, sym, ap, ap₂, subst, ◌∙◌, eqb-true, eq-eqb}
use Rattle.std.specs.Prelude.{Option, Some, None, IsTrue, nat_le}
use Rattle.std.specs.List.{list_any}
use Rattle.std.proofs.lemmas.Bool.{cases_Bool, cond_both, and_from, or_parts}
use Rattle.std.proofs.lemmas.List.{length-append, length-map}
use Rattle.genie_base.specs.Regions.{add_in_order}
use Rattle.genie_model.specs.State.{State, Region, Process, Transfer}
use Rattle.genie_model.specs.Tables.{entry}
use Rattle.genie_model.specs.Regions.{extent_of, regions_of, regions_at, is_region, is_orphan, has_number, is_used, region_numbered, change_process}
use Rattle.genie_model.specs.Space.{with_region, add_region, spawned}
use Rattle.genie_orderly.specs.Orderly.{LiesInRegion, Lies, is_held, holds, orphan_numbers, numbers}
use Rattle.genie_model.specs.Lemmas.Lists.{Has, or_next, any_has, has_any, find_none, any_append, entry_set, entry_same}
use Rattle.genie_orderly.specs.Lemmas.FoundRegions.{all_of, region_found, joined_numbers, splits, find_middle}
use Rattle.genie_orderly.specs.Lemmas.NamedRanges.{KeepsLies, KeepsHeld}
use Rattle.genie_orderly.specs.Lemmas.ChangedRegions.{holds_it, holds_by}

in_order_beside : (k : ℕ) (r : Region) → (r.number == k) ≡ false → (rs : List Region) → find (is_region k) (add_in_order extent_of r rs) ≡ find (is_region k) rs
in_order_beside k r f [] = rw f refl
in_order_beside k r f (q ∷ rs) = cond_both (nat_le (q.start + q.pages) r.start) (q ∷ add_in_order extent_of r rs) (r ∷ q ∷ rs) (λ l. find (is_region k) l ≡ find (is_region k) (q ∷ rs))
    (λ _. ap (λ o. cond (is_region k q) (Some q) o) (in_order_beside k r f rs)) (λ _. rw f refl)

in_order_found : (r : Region) (rs : List Region) → list_any (is_region r.number) rs ≡ false → find (is_region r.number) (add_in_order extent_of r rs) ≡ Some r
in_order_found r [] e = rw (eq-eqb r.number r.number refl) refl
in_order_found r (q ∷ rs) e =
    let both = or_parts (is_region r.number q) (list_any (is_region r.number) rs) e in
    let first : (q.number == r.number) ≡ false = both.0 in
    cond_both (nat_le (q.start + q.pages) r.start) (q ∷ add_in_order extent_of r rs) (r ∷ q ∷ rs) (λ l. find (is_region r.number) l ≡ Some r)
    (λ _. rw first (in_order_found r rs both.1)) (λ _. rw (eq-eqb r.number r.number refl) refl)

in_order_has : (x r : Region) (rs : List Region) → Has x (r ∷ rs) → Has x (add_in_order extent_of r rs)
in_order_has x r [] h = h
in_order_has x r (q ∷ rs) h = cond_both (nat_le (q.start + q.pages) r.start) (q ∷ add_in_order extent_of r rs) (r ∷ q ∷ rs) (λ l. Has x l)
    (λ _. ⊎_elim (λ e. inr (in_order_has x r rs (inl e))) (λ later. ⊎_elim inl (λ e. inr (in_order_has x r rs (inr e))) later) h) (λ _. h)

entry_beside : (k : ℕ) (r : Region) → (r.number == k) ≡ false → (o : Option Process) → find (is_region k) (regions_of (change_process (with_region r) o)) ≡ find (is_region k) (regions_of o)
entry_beside k r f None = refl
entry_beside k r f (Some p) = in_order_beside k r f p.regions

entry_more : (test : Region → Bool) (r : Region) (o : Option Process) → list_any test (regions_of o) ≡ true → list_any test (regions_of (change_process (with_region r) o)) ≡ true
entry_more test r None e = e
entry_more test r (Some p) e = let some = any_has test p.regions e in has_any test some.0 (add_in_order extent_of r p.regions) (in_order_has some.0 r p.regions (inr some.1)) some.2

-- no region and no orphan has this number
pub record IsFree (s : State) (k : ℕ) : Type 0 where
  pub regions : list_any (is_region k) (all_of s.processes) ≡ false
  pub orphans : list_any (is_orphan k) s.orphans ≡ false

joined_any : (k : ℕ) (ps : List (Option Process)) → list_any (is_region k) (all_of ps) ≡ list_any (has_number k) ps
joined_any k [] = refl
joined_any k (p ∷ ps) = any_append (is_region k) (regions_of p) (all_of ps) ∙ ap (λ b. list_any (is_region k) (regions_of p) || b) (joined_any k ps)

pub unused_free : (s : State) (k : ℕ) → is_used s k ≡ false → IsFree s k
unused_free s k e = let both = or_parts (list_any (is_orphan k) s.orphans) (list_any (has_number k) s.processes) e in record { regions = joined_any k s.processes ∙ both.1; orphans = both.0 }

-- nothing lies where a number is free
pub free_lies : (s : State) (k : ℕ) (u : Transfer) → IsFree s k → Lies s u (Some k) → ⊥
free_lies s k u free h = ⊎_elim (λ i. rw (region_found s k ∙ find_none (is_region k) (all_of s.processes) free.regions) at i) (λ i. rw (find_none (is_orphan k) s.orphans free.orphans) at i) h

added_all : (s : State) (p : ℕ) (r : Region) → all_of (add_region s p r).processes ≡ (splits s.processes p).before ++ (regions_of (change_process (with_region r) (entry s.processes p)) ++ (splits s.processes p).after)
added_all s p r = (splits s.processes p).set (change_process (with_region r) (entry s.processes p)) (λ e. ap (λ (o : Option Process). regions_of (change_process (with_region r) o)) e)

pub numbers_few : (s : State) → length (numbers s) ≡ length (all_of s.processes) + length s.orphans
numbers_few s = ap (λ l. length (l ++ orphan_numbers s.orphans)) (joined_numbers s.processes) ∙ simp (length-append, length-map)

-- a region with a number that is free is added
module _ (s : State) (p : ℕ) (r : Region) (free : IsFree s r.number) where
  added_beside : (k : ℕ) → (r.number == k) ≡ false → region_numbered (add_region s p r) k ≡ region_numbered s k
  added_beside k f =
      let parts = splits s.processes p in
      region_found (add_region s p r) k ∙ ap (find (is_region k)) (added_all s p r)
      ∙ find_middle k parts.before (regions_of (change_process (with_region r) (entry s.processes p))) parts.after
      ∙ ap (λ o. or_next (find (is_region k) parts.before) (or_next o (find (is_region k) parts.after))) (entry_beside k r f (entry s.processes p))
      ∙ sym (find_middle k parts.before (regions_of (entry s.processes p)) parts.after)
      ∙ ap (find (is_region k)) (sym parts.whole) ∙ sym (region_found s k)

  added_lies : (u : Transfer) (k : ℕ) → LiesInRegion u (region_numbered s k) → LiesInRegion u (region_numbered (add_region s p r) k)
  added_lies u k h = ⊎_elim (λ (same : (r.number == k) ≡ true). absurd (free_lies s r.number u free (inl (subst (λ n. LiesInRegion u (region_numbered s n)) (sym (eqb-true r.number k same)) h))))
      (λ (other : (r.number == k) ≡ false). rw (added_beside k other) h) (cases_Bool (r.number == k))

  pub add_keeps_lies : KeepsLies s (add_region s p r)
  add_keeps_lies u k h = ⊎_elim (λ i. inl (added_lies u k i)) inr h

  pub add_keeps_held : (k : ℕ) → KeepsHeld s (add_region s p r) k
  add_keeps_held k u h = (
    holds_by s (add_region s p r) k (λ n e. entry_set (λ (o : Option Process). list_any (holds_it k) (regions_of o) ≡ true) s.processes p n (change_process (with_region r) (entry s.processes p)) e
        (λ same. entry_more (holds_it k) r (entry s.processes p) (subst (λ m. list_any (holds_it k) (regions_at s m) ≡ true) same e))) u.owner h.0,
    added_lies u k h.1,
  )

  -- it is there
  pub added_found : (x : Process) → entry s.processes p ≡ Some x → region_numbered (add_region s p r) r.number ≡ Some r
  added_found x alive =
      let parts = splits s.processes p in
      let test = is_region r.number in
      let none = sym (any_append test parts.before (regions_of (entry s.processes p) ++ parts.after)) ∙ ap (list_any test) (sym parts.whole) ∙ free.regions in
      let first = or_parts (list_any test parts.before) (list_any test (regions_of (entry s.processes p) ++ parts.after)) none in
      let next = or_parts (list_any test (regions_of (entry s.processes p))) (list_any test parts.after) (sym (any_append test (regions_of (entry s.processes p)) parts.after) ∙ first.1) in
      region_found (add_region s p r) r.number ∙ ap (find test) (added_all s p r)
      ∙ find_middle r.number parts.before (regions_of (change_process (with_region r) (entry s.processes p))) parts.after
      ∙ ap₂ (λ a b. or_next a (or_next b (find test parts.after))) (find_none test parts.before first.0)
      (ap (λ (o : Option Process). find test (regions_of (change_process (with_region r) o))) alive ∙ in_order_found r x.regions (subst (λ (o : Option Process). list_any test (regions_of o) ≡ false) alive next.0))

  pub added_held : (x : Process) → entry s.processes p ≡ Some x → is_held r.state ≡ true → IsTrue (holds (add_region s p r) (Some p) r.number)
  added_held x alive held =
      subst (λ (o : Option Process). list_any (holds_it r.number) (regions_of o) ≡ true)
      (sym (entry_same s.processes p x (change_process (with_region r) (entry s.processes p)) alive ∙ ap (change_process (with_region r)) alive))
      (has_any (holds_it r.number) r (add_in_order extent_of r x.regions) (in_order_has r r x.regions (inl refl)) (and_from (is_region r.number r) (is_held r.state) (eq-eqb r.number r.number refl) held))

-- a process without a region is added
module _ (s : State) (p : ℕ) (none : entry s.processes p ≡ None) where
  pub spawned_all : all_of (spawned s p).processes ≡ all_of s.processes
  spawned_all = let parts = splits s.processes p in parts.set (Some (record { queue = []; regions = [] })) (λ _. refl) ∙ ap (λ (o : Option Process). parts.before ++ (regions_of o ++ parts.after)) (sym none) ∙ sym parts.whole

  spawned_found : (k : ℕ) → region_numbered (spawned s p) k ≡ region_numbered s k
  spawned_found k = region_found (spawned s p) k ∙ ap (find (is_region k)) spawned_all ∙ sym (region_found s k)

  pub spawn_keeps_lies : KeepsLies s (spawned s p)
  spawn_keeps_lies u k h = ⊎_elim (λ i. inl (rw (spawned_found k) i)) inr h

  pub spawn_keeps_held : (k : ℕ) → KeepsHeld s (spawned s p) k
  spawn_keeps_held k u h = (
    holds_by s (spawned s p) k (λ n e. entry_set (λ (o : Option Process). list_any (holds_it k) (regions_of o) ≡ true) s.processes p n (Some (record { queue = []; regions = [] })) e
        (λ same. rw (same, none) at e)) u.owner h.0,
    rw (spawned_found k) h.1,
  )
