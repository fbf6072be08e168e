-- What changes of regions and orphans do to their numbers.
use Rattle.std.proofs.Common.{◌≡◌, ℕ, zero, suc, ◌+◌, ◌<◌, ◌≤◌, lt-ltb, true, false, not, ◌==◌, nat_lt, nat_le, List, [], ◌∷◌, ◌++◌, length, map, filter, flat_map, refl, sym, ap, ap₂, subst, ◌∙◌, ⊎_elim, eqb-true, ltb-false, arith, inl, inr}
use Rattle.std.specs.Prelude.{Option, Some, None, slice_set}
use Rattle.std.proofs.lemmas.Bool.{cases_Bool, cond_both, not-true}
use Rattle.genie_base.specs.Regions.{add_in_order}
use Rattle.genie_base.specs.declared.region.RegionState.TheVariants.{Out, In}
use Rattle.genie_model.specs.State.{State, Region, Orphan, Process, Transfer}
use Rattle.genie_model.specs.Tables.{entry}
use Rattle.genie_model.specs.Regions.{extent_of, regions_at, is_region, has_number, is_used, changed, changed_in, change_process, change_region, with_bytes, with_state, stored_in_orphan, put}
use Rattle.genie_model.specs.Space.{with_region, add_region, copy_of, add_copies, spawned, as_orphan, add_orphan, add_orphans, without_region, remove, cut, is_named, tidy, exit}
use Rattle.genie_model.specs.Outputs.{moved_out_of, moved_out}
use Rattle.genie_model.specs.Inputs.{moved_in_of, moved_in}
use Rattle.genie_orderly.specs.Orderly.{region_numbers, orphan_numbers, numbers}
use Rattle.genie_orderly.specs.Lemmas.RegionNumbers.{one, once, times, times-append, no_longer, used_times, fresh_unused, fresh_below}
use Rattle.genie_orderly.specs.Lemmas.FoundRegions.{all_of, numbers_in, joined_numbers}
use Rattle.genie_model.specs.Lemmas.Lists.{Has}

-- how often a number is that of a region
abbrev pub region_times : ℕ → State → ℕ
region_times k s = times k (flat_map region_numbers s.processes)

pub numbers_times : (k : ℕ) (s : State) → times k (numbers s) ≡ region_times k s + times k (orphan_numbers s.orphans)
numbers_times k s = times-append k (flat_map region_numbers s.processes) (orphan_numbers s.orphans)

-- another process at a place of the table
set_times : (k : ℕ) (processes : List (Option Process)) (p : ℕ) (new : Option Process)
    → times k (flat_map region_numbers (slice_set processes p new)) + times k (region_numbers (entry processes p)) ≤ times k (flat_map region_numbers processes) + times k (region_numbers new)
set_times k [] p new = omega arith
set_times k (x ∷ processes) zero new = omega (arith, times-append k (region_numbers x) (flat_map region_numbers processes), times-append k (region_numbers new) (flat_map region_numbers processes))
set_times k (x ∷ processes) (suc p) new = omega (arith, set_times k processes p new, times-append k (region_numbers x) (flat_map region_numbers processes), times-append k (region_numbers x) (flat_map region_numbers (slice_set processes p new)))

in_order_times : (k : ℕ) (r : Region) (regions : List Region) → times k (map (λ (x : Region). x.number) (add_in_order extent_of r regions)) ≡ one (r.number == k) + times k (map (λ (x : Region). x.number) regions)
in_order_times k r [] = refl
in_order_times k r (x ∷ regions) =
    cond_both (nat_le (x.start + x.pages) r.start) (x ∷ add_in_order extent_of r regions) (r ∷ x ∷ regions) (λ l. times k (map (λ (x : Region). x.number) l) ≡ one (r.number == k) + (one (x.number == k) + times k (map (λ (x : Region). x.number) regions)))
    (λ e. omega (arith, in_order_times k r regions))
    (λ e. refl)

in_process_times : (k : ℕ) (r : Region) (p : Option Process) → times k (region_numbers (change_process (with_region r) p)) ≤ one (r.number == k) + times k (region_numbers p)
in_process_times k r None = omega arith
in_process_times k r (Some p) = omega (arith, in_order_times k r p.regions)

-- a region more adds its number at most
pub added_times : (s : State) (p : ℕ) (r : Region) (k : ℕ) → times k (numbers (add_region s p r)) ≤ times k (r.number ∷ numbers s)
added_times s p r k = omega (arith, numbers_times k s, numbers_times k (add_region s p r), set_times k s.processes p (change_process (with_region r) (entry s.processes p)), in_process_times k r (entry s.processes p))

pub added_length : (s : State) (p : ℕ) (r : Region) → length (numbers (add_region s p r)) ≤ length (numbers s) + 1
added_length s p r = omega (arith, no_longer (numbers (add_region s p r)) (r.number ∷ numbers s) (added_times s p r))

pub spawned_times : (s : State) (p k : ℕ) → times k (numbers (spawned s p)) ≤ times k (numbers s)
spawned_times s p k = omega (arith, numbers_times k s, numbers_times k (spawned s p), set_times k s.processes p (Some (record { queue = []; regions = [] })))

-- no number stands twice, and none that is 577 or more
abbrev pub Once : State → Type 0
Once s = (k : ℕ) → times k (numbers s) ≤ one (nat_lt k 577)

pub added_once : (s : State) (p : ℕ) (r : Region) → Once s → is_used s r.number ≡ false → r.number < 577 → Once (add_region s p r)
added_once s p r most unused low k =
    let none = ltb-false 0 (times r.number (numbers s)) (sym (used_times s r.number) ∙ unused) in
    ⊎_elim
    (λ (e : (r.number == k) ≡ true). let zero_times = subst (λ j. times j (numbers s) ≤ 0) (eqb-true r.number k e) none in let below = subst (λ j. j < 577) (eqb-true r.number k e) low in omega (arith, added_times s p r k, zero_times, ap one e, ap one (lt-ltb k 577 below)))
    (λ (e : (r.number == k) ≡ false). omega (arith, added_times s p r k, most k, ap one e))
    (cases_Bool (r.number == k))

-- copies with numbers that aren't used
pub copies_once : (s : State) (q : ℕ) (regions : List Region) → length (numbers s) + length regions ≤ 576 → Once s → Once (add_copies s q regions)
copies_once s q [] few most = most
copies_once s q (r ∷ regions) few most = copies_once (add_region s q (copy_of s r)) q regions (omega (arith, few, added_length s q (copy_of s r))) (added_once s q (copy_of s r) most (fresh_unused s (omega (arith, few))) (fresh_below s (omega (arith, few))))

-- every process keeps the numbers of its regions
each_kept : (f : Process → Process) → ((p : Process) → region_numbers (Some (f p)) ≡ region_numbers (Some p)) → (processes : List (Option Process)) → flat_map region_numbers (map (change_process f) processes) ≡ flat_map region_numbers processes
each_kept f same [] = refl
each_kept f same (None ∷ processes) = each_kept f same processes
each_kept f same (Some p ∷ processes) = ap₂ ◌++◌ (same p) (each_kept f same processes)

changed_kept : (k : ℕ) (f : Region → Region) → ((r : Region) → (f r).number ≡ r.number) → (regions : List Region) → map (λ (r : Region). r.number) (map (changed k f) regions) ≡ map (λ (r : Region). r.number) regions
changed_kept k f same [] = refl
changed_kept k f same (r ∷ regions) = ap₂ ◌∷◌ (cond_both (r.number == k) (f r) r (λ x. x.number ≡ r.number) (λ e. same r) (λ e. refl)) (changed_kept k f same regions)

pub change_kept : (s : State) (k : ℕ) (f : Region → Region) → ((r : Region) → (f r).number ≡ r.number) → numbers (change_region s k f) ≡ numbers s
change_kept s k f same = ap (λ l. l ++ orphan_numbers s.orphans) (each_kept (changed_in k f) (λ p. changed_kept k f same p.regions) s.processes)

moved_out_kept : (k : ℕ) (p : Process) → region_numbers (Some (moved_out_of k p)) ≡ region_numbers (Some p)
moved_out_kept k p = cond_both (has_number k (Some p)) _ p (λ x. region_numbers (Some x) ≡ region_numbers (Some p)) (λ e. changed_kept k (with_state Out) (λ r. refl) p.regions) (λ e. refl)

pub out_kept : (s : State) (k : ℕ) → numbers (moved_out s k) ≡ numbers s
out_kept s k = ap (λ l. l ++ orphan_numbers s.orphans) (each_kept (moved_out_of k) (moved_out_kept k) s.processes)

pub in_kept : (s : State) (k : ℕ) → numbers (moved_in s k) ≡ numbers s
in_kept s k = ap (λ l. l ++ orphan_numbers s.orphans) (each_kept (moved_in_of k) (λ p. changed_kept k (with_state In) (λ r. refl) p.regions) s.processes)

stored_kept : (k x : ℕ) (new : List ℕ) (orphans : List Orphan) → orphan_numbers (map (stored_in_orphan k x new) orphans) ≡ orphan_numbers orphans
stored_kept k x new [] = refl
stored_kept k x new (o ∷ orphans) = ap₂ ◌∷◌ (cond_both (o.number == k) _ o (λ y. y.number ≡ o.number) (λ e. refl) (λ e. refl)) (stored_kept k x new orphans)

pub put_kept : (s : State) (k x : ℕ) (new : List ℕ) → numbers (put s k x new) ≡ numbers s
put_kept s k x new = ap₂ ◌++◌ (each_kept (changed_in k (with_bytes x new)) (λ p. changed_kept k (with_bytes x new) (λ r. refl) p.regions) s.processes) (stored_kept k x new s.orphans)

-- orphans that go take their numbers along
tidy_orphans : (k : ℕ) (transfers : List Transfer) (orphans : List Orphan) → times k (orphan_numbers (map (cut transfers) (filter (is_named transfers) orphans))) ≤ times k (orphan_numbers orphans)
tidy_orphans k transfers [] = omega arith
tidy_orphans k transfers (o ∷ orphans) =
    let rest = tidy_orphans k transfers orphans in
    cond_both (is_named transfers o) (o ∷ filter (is_named transfers) orphans) (filter (is_named transfers) orphans) (λ l. times k (orphan_numbers (map (cut transfers) l)) ≤ one (o.number == k) + times k (orphan_numbers orphans)) (λ e. omega (arith, rest)) (λ e. omega (arith, rest))

pub tidy_once : (s : State) → Once s → Once (tidy s)
tidy_once s most k = omega (arith, most k, numbers_times k s, numbers_times k (tidy s), tidy_orphans k s.transfers s.orphans)

-- a region that goes leaves its number to an orphan
orphan_times : (k : ℕ) (r : Region) (orphans : List Orphan) → times k (orphan_numbers (add_orphan r orphans)) ≡ one (r.number == k) + times k (orphan_numbers orphans)
orphan_times k r [] = refl
orphan_times k r (o ∷ orphans) =
    cond_both (nat_lt r.number o.number) (as_orphan r ∷ o ∷ orphans) (o ∷ add_orphan r orphans) (λ l. times k (orphan_numbers l) ≡ one (r.number == k) + (one (o.number == k) + times k (orphan_numbers orphans)))
    (λ e. refl)
    (λ e. omega (arith, orphan_times k r orphans))

pub orphans_times : (k : ℕ) (regions : List Region) (orphans : List Orphan) → times k (orphan_numbers (add_orphans regions orphans)) ≡ times k (map (λ (r : Region). r.number) regions) + times k (orphan_numbers orphans)
orphans_times k [] orphans = omega arith
orphans_times k (r ∷ regions) orphans = omega (arith, orphans_times k regions (add_orphan r orphans), orphan_times k r orphans)

regions_without : (n k : ℕ) (regions : List Region) → (times k (map (λ (r : Region). r.number) (filter (λ r. not (is_region n r)) regions)) ≤ times k (map (λ (r : Region). r.number) regions)) × (times n (map (λ (r : Region). r.number) (filter (λ r. not (is_region n r)) regions)) ≡ 0)
regions_without n k [] = (omega arith, refl)
regions_without n k (r ∷ regions) =
    let rest = regions_without n k regions in
    cond_both (not (r.number == n)) (r ∷ filter (λ r. not (is_region n r)) regions) (filter (λ r. not (is_region n r)) regions)
    (λ l. (times k (map (λ (r : Region). r.number) l) ≤ one (r.number == k) + times k (map (λ (r : Region). r.number) regions)) × (times n (map (λ (r : Region). r.number) l) ≡ 0))
    (λ e. (omega (arith, rest.0), omega (arith, rest.1, ap one (not-true (r.number == n) e))))
    (λ e. (omega (arith, rest.0), rest.1))

processes_without : (n k : ℕ) (processes : List (Option Process)) → (times k (flat_map region_numbers (map (change_process (without_region n)) processes)) ≤ times k (flat_map region_numbers processes)) × (times n (flat_map region_numbers (map (change_process (without_region n)) processes)) ≡ 0)
processes_without n k [] = (omega arith, refl)
processes_without n k (None ∷ processes) = processes_without n k processes
processes_without n k (Some p ∷ processes) =
    let first = regions_without n k p.regions in
    let rest = processes_without n k processes in
    let left : Option Process = Some (without_region n p) in
    let others : List (Option Process) = map (change_process (without_region n)) processes in (
      omega (arith, first.0, rest.0, times-append k (region_numbers (Some p)) (flat_map region_numbers processes), times-append k (region_numbers left) (flat_map region_numbers others)),
      omega (arith, first.1, rest.1, times-append n (region_numbers left) (flat_map region_numbers others)),
    )

there_times : (rs : List Region) (r : Region) → Has r rs → 1 ≤ times r.number (numbers_in rs)
there_times [] r h = absurd h
there_times (q ∷ rs) r (inl e) = subst (λ (x : Region). 1 ≤ times x.number (numbers_in (q ∷ rs))) e (omega (arith, once q.number))
there_times (q ∷ rs) r (inr h) = omega (arith, there_times rs r h)

pub removed_times : (s : State) (r : Region) → Has r (all_of s.processes) → (k : ℕ) → times k (numbers (remove s r)) ≤ times k (numbers s)
removed_times s r there k =
    let counts : 1 ≤ region_times r.number s = subst (λ l. 1 ≤ times r.number l) (sym (joined_numbers s.processes)) (there_times (all_of s.processes) r there) in
    let left = processes_without r.number k s.processes in
    let all = numbers_times k s in
    let all_left = numbers_times k (remove s r) in
    let orphans = orphan_times k r s.orphans in
    ⊎_elim
    (λ (e : (r.number == k) ≡ true). let same = eqb-true r.number k e in let gone = subst (λ j. times j (flat_map region_numbers (map (change_process (without_region r.number)) s.processes)) ≡ 0) same left.1 in let here = subst (λ j. 1 ≤ region_times j s) same counts in omega (arith, gone, here, all, all_left, orphans, ap one e))
    (λ (e : (r.number == k) ≡ false). omega (arith, left.0, all, all_left, orphans, ap one e))
    (cases_Bool (r.number == k))

pub exited_times : (s : State) (p k : ℕ) → times k (numbers (exit s p).0) ≤ times k (numbers s)
exited_times s p k = omega (arith, numbers_times k s, numbers_times k (exit s p).0, set_times k s.processes p None, orphans_times k (regions_at s p) s.orphans)
