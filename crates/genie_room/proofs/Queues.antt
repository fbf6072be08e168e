-- How long the weak queue of a process is.
use Rattle.std.proofs.Common.{◌≡◌, ℕ, ◌≤◌, suc, Bool, true, false, List, [], refl, arith, ap, length, map, get_or, ◌∙◌, subst}
use Rattle.std.specs.Prelude.{◌==◌, ◌&&◌, count_by, sum_by, replicate, IfSome}
use Rattle.std.proofs.lemmas.Bool.{eq-eqb}
use Rattle.std.proofs.lemmas.List.Sums.{get_or-le-sum_by}
use Rattle.genie_base.specs.Lemmas.Mapped.{sum_by-map}
use Rattle.genie_base.specs.Lemmas.Places.{num}
use Rattle.genie_region.specs.declared.region.Region.{Region}
use Rattle.genie_model.specs.State as flat
use Rattle.genie_orderly.specs.Orderly.{ListsOut, is_out, is_out_region}
use Rattle.genie_kernel.specs.Regions.{regions_of, region_view, process_view}
use Rattle.genie_kernel.specs.Lemmas.Processes.{process_entry}
use Rattle.genie_room.specs.Places.{QueuesSuffice}
use Rattle.genie_room.specs.Lemmas.Totals.{total, total_more, total_none, total_same, total_above, total_sums, sum_all, sum_ones, count_split}

numbered : (m : ℕ) (b : Bool) (n : ℕ) → total (λ k. num ((m == k) && b)) n ≤ num b
numbered m b n = elim b as (λ c. total (λ k. num ((m == k) && c)) n ≤ num c) [
  | true ↦ omega (arith, total_more (λ k. num ((m == k) && true)) (λ k. num (m == k)) n (λ k l. kept (m == k)), total_same m n)
  | false ↦ omega (arith, total_more (λ k. num ((m == k) && false)) (λ k. 0) n (λ k l. none (m == k)), total_none n)
]
  where
    kept : (a : Bool) → num (a && true) ≤ num a
    kept true = omega arith
    kept false = omega arith

    none : (a : Bool) → num (a && false) ≤ 0
    none true = omega arith
    none false = omega arith

-- a queue that lists Out regions is at most as long as there are
listed : (queue : List ℕ) (regions : List flat.Region) → ((n : ℕ) → count_by (λ m. m == n) queue ≡ count_by (is_out_region n) regions) → length queue ≤ count_by (λ (r : flat.Region). is_out r.state) regions
listed queue regions same =
    let n = suc (sum_by (λ m. m) queue) in
    let first = sum_all (λ m. 1) (λ m. total (λ k. num (m == k)) n) queue (λ i d l.
    let m = get_or queue i d in
    let one = ap num (eq-eqb m m refl) in
    omega (arith, one, total_above (λ k. num (m == k)) n m (omega (arith, get_or-le-sum_by (λ m. m) queue i d l)))) in
    let middle = total_more (λ k. count_by (λ m. m == k) queue) (λ k. count_by (is_out_region k) regions) n (λ k l. omega (arith, same k)) in
    let last = sum_all (λ r. total (λ k. num (is_out_region k r)) n) (λ (r : flat.Region). num (is_out r.state)) regions (λ i d l. numbered (get_or regions i d).number (is_out (get_or regions i d).state) n) in
    omega (arith, first, middle, last, sum_ones queue, total_sums (λ k m. num (m == k)) n queue, total_sums (λ k r. num (is_out_region k r)) n regions)

pub queues_suffice : QueuesSuffice
queues_suffice k p regions good e =
    let s : ℕ → ℕ → List ℕ = λ o i. replicate k.config.page 0 in
    let queue = get_or k.queues p [] in
    let is = process_entry s k.spaces.processes k.queues p ∙ ap (λ x. process_view s x queue) e in
    let out : ListsOut (record { queue = queue; regions = map (region_view s) regions }) = subst (λ x. IfSome x ListsOut) is (good.orderly.weak p) in
    let few = ap (λ x. length (regions_of x)) e in
    omega (arith, few, good.few.few p, listed queue (map (region_view s) regions) out, sum_by-map (λ (r : flat.Region). num (is_out r.state)) (region_view s) regions, count_split (λ (r : Region). is_out r.state) regions)
