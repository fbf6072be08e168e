-- What the number of a region or an orphan finds, and what it finds where regions or orphans are changed.
use Rattle.std.proofs.Common.{◌≡◌, ℕ, zero, suc, false, ◌==◌, inl, inr, List, [], ◌∷◌, ◌++◌, map, find, flat_map, AllPairs, ◌≢◌, refl, sym, ap, ap₂, subst, ◌∙◌, append_assoc, eqb-true, eq-eqb, ne_eqb, true, Bool}
use Rattle.std.specs.Prelude.{Option, Some, None, slice_set, ⊤}
use Rattle.std.specs.Option.{option_flatten, option_and_then}
use Rattle.std.specs.List.{list_any}
use Rattle.std.proofs.lemmas.Bool.{cond_both, cond-true, cond-false, or_parts}
use Rattle.std.proofs.lemmas.List.{map-append}
use Rattle.genie_model.specs.State.{State, Region, Orphan, Process, Transfer}
use Rattle.genie_model.specs.Tables.{entry}
use Rattle.genie_model.specs.Regions.{regions_of, regions_at, is_region, is_orphan, has_number, region_numbered, change_process, orphan_numbered}
use Rattle.genie_model.specs.Space.{as_orphan, add_orphan, add_orphans}
use Rattle.genie_orderly.specs.Orderly.{region_numbers, orphan_numbers, NumbersDiffer}
use Rattle.genie_model.specs.Pending.{is_just}
use Rattle.genie_model.specs.Ending.{region_of}
use Rattle.genie_model.specs.Lemmas.Lists.{Has, or_next, has_left, has_right, has_map, none_from, find_append, find_first, find_none, none_found, find_put_other, find_put_here, pairs_head, pairs_tail, entry_map, find_has}

abbrev pub all_of : List (Option Process) → List Region
all_of processes = flat_map regions_of processes

found_joined : (k : ℕ) (ps : List (Option Process)) → find (is_region k) (regions_of (option_flatten (find (has_number k) ps))) ≡ find (is_region k) (all_of ps)
found_joined k [] = refl
found_joined k (p ∷ ps) = cond_both (has_number k p) (Some p) (find (has_number k) ps) (λ o. find (is_region k) (regions_of (option_flatten o)) ≡ find (is_region k) (all_of (p ∷ ps)))
    (λ t. sym (find_first (is_region k) (regions_of p) (all_of ps) t))
    (λ f. let none = find_none (is_region k) (regions_of p) f in found_joined k ps ∙ sym (find_append (is_region k) (regions_of p) (all_of ps) ∙ rw none refl))

-- the first one in all processes
pub region_found : (s : State) (k : ℕ) → region_numbered s k ≡ find (is_region k) (all_of s.processes)
region_found s k = found_joined k s.processes

-- it is there, with that number
pub number_has : (s : State) (k : ℕ) (r : Region) → region_numbered s k ≡ Some r → Has r (all_of s.processes) × (is_region k r ≡ true)
number_has s k r e = find_has (is_region k) (all_of s.processes) r (sym (region_found s k) ∙ e)

has_all : (ps : List (Option Process)) (p : ℕ) (r : Region) → Has r (regions_of (entry ps p)) → Has r (all_of ps)
has_all [] p r h = absurd h
has_all (x ∷ ps) zero r h = has_left r (regions_of x) (all_of ps) h
has_all (x ∷ ps) (suc p) r h = has_right r (regions_of x) (all_of ps) (has_all ps p r h)

pub has_region : (s : State) (p : ℕ) (r : Region) → Has r (regions_at s p) → Has r (all_of s.processes)
has_region s p r h = has_all s.processes p r h

-- the region that a transfer names
pub named_region : (s : State) (named : Option ℕ) (r : Region) → option_and_then (region_numbered s) named ≡ Some r → Has r (all_of s.processes) × (is_just named r.number ≡ true)
named_region s None r e = absurd (cc)
named_region s (Some k) r e = let f = number_has s k r e in (f.0, eq-eqb k r.number (sym (eqb-true r.number k f.1)))

-- the region is one of the state
abbrev pub IsThere : State → Option Region → Type 0
IsThere s None = ⊤
IsThere s (Some r) = Has r (all_of s.processes)

is_there : (s : State) (o : Option Region) → ((r : Region) → o ≡ Some r → Has r (all_of s.processes)) → IsThere s o
is_there s None h = tt
is_there s (Some r) h = h r refl

pub at_there : (s : State) (p : ℕ) (test : Region → Bool) → IsThere s (find test (regions_at s p))
at_there s p test = is_there s (find test (regions_at s p)) (λ r e. has_region s p r (find_has test (regions_at s p) r e).0)

pub region_there : (s : State) (t : Transfer) → IsThere s (region_of s t)
region_there s t = is_there s (region_of s t) (λ r e. (named_region s t.region r e).0)

-- where the regions of each process are changed, as by a map or a filter
module _ (F : List Region → List Region) (empty : F [] ≡ []) (joins : (xs ys : List Region) → F (xs ++ ys) ≡ F xs ++ F ys) (g : Process → Process) (each : (p : Process) → (g p).regions ≡ F p.regions) where
  one_by : (o : Option Process) → regions_of (change_process g o) ≡ F (regions_of o)
  one_by None = sym empty
  one_by (Some p) = each p

  pub all_by : (ps : List (Option Process)) → all_of (map (change_process g) ps) ≡ F (all_of ps)
  all_by [] = sym empty
  all_by (p ∷ ps) = ap₂ ◌++◌ (one_by p) (all_by ps) ∙ sym (joins (regions_of p) (all_of ps))

  pub entry_by : (ps : List (Option Process)) (p : ℕ) → regions_of (entry (map (change_process g) ps) p) ≡ F (regions_of (entry ps p))
  entry_by ps p = ap regions_of (entry_map (change_process g) refl ps p) ∙ one_by (entry ps p)

-- or those of one
pub record Splits (ps : List (Option Process)) (p : ℕ) : Type 0 where
  pub before : List Region
  pub after : List Region
  pub whole : all_of ps ≡ before ++ (regions_of (entry ps p) ++ after)
  pub set : (q : Option Process) → (entry ps p ≡ None → regions_of q ≡ []) → all_of (slice_set ps p q) ≡ before ++ (regions_of q ++ after)

pub splits : (ps : List (Option Process)) (p : ℕ) → Splits ps p
splits [] p = record { before = []; after = []; whole = refl; set = λ q e. rw (e refl) refl }
splits (x ∷ ps) zero = record { before = []; after = all_of ps; whole = refl; set = λ q e. refl }
splits (x ∷ ps) (suc p) =
    let later = splits ps p in
    record {
      before = regions_of x ++ later.before;
      after = later.after;
      whole = ap (λ l. regions_of x ++ l) later.whole ∙ sym (append_assoc (regions_of x) later.before _);
      set = λ q e. ap (λ l. regions_of x ++ l) (later.set q e) ∙ sym (append_assoc (regions_of x) later.before _);
    }

pub find_middle : (k : ℕ) (xs ms ys : List Region) → find (is_region k) (xs ++ (ms ++ ys)) ≡ or_next (find (is_region k) xs) (or_next (find (is_region k) ms) (find (is_region k) ys))
find_middle k xs ms ys = find_append (is_region k) xs (ms ++ ys) ∙ ap (λ o. or_next (find (is_region k) xs) o) (find_append (is_region k) ms ys)

abbrev pub Differ : List ℕ → Type 0
Differ ns = AllPairs (λ (a b : ℕ). a ≢ b) ns

abbrev pub numbers_in : List Region → List ℕ
numbers_in regions = map (λ (r : Region). r.number) regions

pub joined_numbers : (ps : List (Option Process)) → flat_map region_numbers ps ≡ numbers_in (all_of ps)
joined_numbers [] = refl
joined_numbers (p ∷ ps) = ap (λ l. region_numbers p ++ l) (joined_numbers ps) ∙ sym (map-append (λ (r : Region). r.number) (regions_of p) (all_of ps))

pub differ : (s : State) → NumbersDiffer s → Differ (numbers_in (all_of s.processes) ++ orphan_numbers s.orphans)
differ s h = subst (λ l. Differ (l ++ orphan_numbers s.orphans)) (joined_numbers s.processes) h

-- where numbers differ, a region is the one that its number finds, and its number finds no orphan
module _ (os : List Orphan) where
  pub only_region : (rs : List Region) → Differ (numbers_in rs ++ orphan_numbers os) → (r : Region) → Has r rs → find (is_region r.number) rs ≡ Some r
  only_region [] h r e = absurd e
  only_region (q ∷ rs) h r (inl e) = subst (λ (x : Region). find (is_region x.number) (q ∷ rs) ≡ Some x) e (cond-true (q.number == q.number) (Some q) (find (is_region q.number) rs) (eq-eqb q.number q.number refl))
  only_region (q ∷ rs) h r (inr e) =
      let apart = pairs_head (λ (a b : ℕ). a ≢ b) q.number (numbers_in rs ++ orphan_numbers os) h r.number (has_left r.number (numbers_in rs) (orphan_numbers os) (has_map (λ (x : Region). x.number) r rs e)) in
      cond-false (q.number == r.number) (Some q) (find (is_region r.number) rs) (ne_eqb q.number r.number apart) ∙ only_region rs (pairs_tail (λ (a b : ℕ). a ≢ b) q.number (numbers_in rs ++ orphan_numbers os) h) r e

  pub no_orphan : (rs : List Region) → Differ (numbers_in rs ++ orphan_numbers os) → (r : Region) → Has r rs → list_any (is_orphan r.number) os ≡ false
  no_orphan [] h r e = absurd e
  no_orphan (q ∷ rs) h r (inl e) = subst (λ (x : Region). list_any (is_orphan x.number) os ≡ false) e (none_from (is_orphan q.number) os
      (λ o there. ne_eqb o.number q.number (λ same. pairs_head (λ (a b : ℕ). a ≢ b) q.number (numbers_in rs ++ orphan_numbers os) h o.number (has_right o.number (numbers_in rs) (orphan_numbers os) (has_map (λ (x : Orphan). x.number) o os there)) (sym same))))
  no_orphan (q ∷ rs) h r (inr e) = no_orphan rs (pairs_tail (λ (a b : ℕ). a ≢ b) q.number (numbers_in rs ++ orphan_numbers os) h) r e

module _ (s : State) (differs : NumbersDiffer s) (r : Region) (there : Has r (all_of s.processes)) (k : ℕ) (is : r.number ≡ k) where
  pub found_at : region_numbered s k ≡ Some r
  found_at = region_found s k ∙ subst (λ n. find (is_region n) (all_of s.processes) ≡ Some r) is (only_region s.orphans (all_of s.processes) (differ s differs) r there)

  pub no_orphan_at : orphan_numbered s k ≡ None
  no_orphan_at = find_none (is_orphan k) s.orphans (subst (λ n. list_any (is_orphan n) s.orphans ≡ false) is (no_orphan s.orphans (all_of s.processes) (differ s differs) r there))

-- regions become orphans, one after the other
pub orphans_beside : (k : ℕ) (rs : List Region) (os : List Orphan) → list_any (is_region k) rs ≡ false → find (is_orphan k) (add_orphans rs os) ≡ find (is_orphan k) os
orphans_beside k [] os e = refl
orphans_beside k (r ∷ rs) os e =
    let both = or_parts (is_region k r) (list_any (is_region k) rs) e in
    orphans_beside k rs (add_orphan r os) both.1 ∙ find_put_other (is_orphan k) (λ (o : Orphan). o.number) (as_orphan r) both.0 os

pub orphans_from : (k : ℕ) (rs : List Region) (os : List Orphan) (ns : List ℕ) (r : Region) → Differ (numbers_in rs ++ ns) → find (is_region k) rs ≡ Some r → find (is_orphan k) os ≡ None → find (is_orphan k) (add_orphans rs os) ≡ Some (as_orphan r)
orphans_from k [] os ns r h e none = absurd (cc)
orphans_from k (q ∷ rs) os ns r h e none = cond_both (q.number == k) (Some q) (find (is_region k) rs) (λ o. o ≡ Some r → find (is_orphan k) (add_orphans rs (add_orphan q os)) ≡ Some (as_orphan r))
    (λ t f.
    let same : q ≡ r = cc in
    let number = eqb-true q.number k t in
    let no_other = none_from (is_region k) rs (λ x there. ne_eqb x.number k (λ again. pairs_head (λ (a b : ℕ). a ≢ b) q.number (numbers_in rs ++ ns) h x.number (has_left x.number (numbers_in rs) ns (has_map (λ (y : Region). y.number) x rs there)) (number ∙ sym again))) in
    orphans_beside k rs (add_orphan q os) no_other ∙ find_put_here (is_orphan k) (λ (o : Orphan). o.number) (as_orphan q) t os (none_found (is_orphan k) os none) ∙ ap (λ (x : Region). Some (as_orphan x)) same)
    (λ t f. orphans_from k rs (add_orphan q os) ns r (pairs_tail (λ (a b : ℕ). a ≢ b) q.number (numbers_in rs ++ ns) h) f (find_put_other (is_orphan k) (λ (o : Orphan). o.number) (as_orphan q) t os ∙ none))
    e
