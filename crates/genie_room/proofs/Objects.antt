-- How many objects there are.
use Rattle.std.proofs.Common.{◌≡◌, ℕ, ◌<◌, ◌≤◌, ◌+◌, ◌*◌, suc, zero, Bool, true, false, not, List, [], refl, arith, ap, length, map, get_or}
use Rattle.std.specs.Prelude.{count_by, All, Option, None, if◌then◌else◌}
use Rattle.std.proofs.lemmas.Bool.{eq-eqb}
use Rattle.std.proofs.lemmas.List.{length-map, length-append}
use Rattle.std.proofs.lemmas.List.Concat.{length-flat_map}
use Rattle.genie_base.specs.Lemmas.Places.{num}
use Rattle.genie_object.specs.declared.objects.Entry.{Entry}
use Rattle.genie_object.specs.Objects.{is_absent, object_at}
use Rattle.genie_region.specs.declared.region.Region.{Region}
use Rattle.genie_hiding.specs.declared.hidden.Hidden.{Hidden}
use Rattle.genie_hiding.specs.Hidden.{is_of}
use Rattle.genie_kernel.specs.Backed.{AreBacked, AreFew, all_regions, has_object, hidden_region}
use Rattle.genie_kernel.specs.Regions.{owned_regions, regions_of}
use Rattle.genie_room.specs.Lemmas.Totals.{total, total_more, total_plus, total_same, total_above, total_sums, total_counts, total_below, sum_places, sum_all, sum_ones}

present : (b : Bool) → (if b then 0 else 1) ≡ num (not b)
present true = refl
present false = refl

-- each hidden region is of one of the first n processes
hidden_total : (n : ℕ) (hidden : List Hidden) → All (λ (h : Hidden). h.pid < n) hidden → length hidden ≤ total (λ p. count_by (is_of p) hidden) n
hidden_total n hidden a =
    let each = sum_all (λ h. 1) (λ h. total (λ p. num (is_of p h)) n) hidden (λ k d l.
    let h = get_or hidden k d in
    let one = ap num (eq-eqb h.pid h.pid refl) in
    omega (arith, one, total_above (λ p. num (is_of p h)) n h.pid (a k d l))) in
    omega (arith, each, sum_ones hidden, total_sums (λ p h. num (is_of p h)) n hidden)

thirty_two : (n : ℕ) → total (λ j. 32) n ≡ n * 32
thirty_two zero = refl
thirty_two (suc n) = omega (arith, thirty_two n)

module _ (objects : List (List Entry)) (processes : List (Option (List Region))) (hidden : List Hidden) (backed : AreBacked objects (all_regions processes hidden)) (few : AreFew processes hidden) (places : length processes ≡ 16) where
  abbrev regions : List Region
  regions = all_regions processes hidden

  abbrev regions_at : ℕ → List Region
  regions_at p = regions_of (get_or processes p None)

  -- each object is that of a region
  objects_few : count_by (λ es. not (is_absent es)) objects ≤ length regions
  objects_few =
      let each = total_more (λ o. num (not (is_absent (object_at objects o)))) (λ o. count_by (has_object o) regions) (length objects) (λ o l. omega (arith, present (is_absent (object_at objects o)), backed.one o)) in
      let once = total_counts has_object (length objects) regions (λ (r : Region). total_same r.object.0 (length objects)) in
      omega (arith, sum_places (λ es. num (not (is_absent es))) [] objects, each, once)

  regions_few : length regions ≤ total (λ p. length (regions_at p) + count_by (is_of p) hidden) (length processes)
  regions_few =
      let below : All (λ (h : Hidden). h.pid < length processes) hidden = λ k d l. omega (arith, few.process k d l, places) in
      let parts = total_plus (λ p. length (regions_at p)) (λ p. count_by (is_of p) hidden) (length processes) in
      omega (arith, length-append (owned_regions processes) (map hidden_region hidden), length-map hidden hidden_region, length-flat_map regions_of processes, sum_places (λ p. length (regions_of p)) None processes, parts, hidden_total (length processes) hidden below)

  pub objects_below : (pid : ℕ) → pid < 16 → length (regions_at pid) + count_by (is_of pid) hidden < 32 → count_by (λ es. not (is_absent es)) objects < 512
  objects_below pid l fewer =
      let below = total_below (λ p. length (regions_at p) + count_by (is_of p) hidden) 32 (length processes) pid (omega (arith, l, places)) few.few fewer in
      omega (arith, objects_few, regions_few, below, thirty_two (length processes), places)
