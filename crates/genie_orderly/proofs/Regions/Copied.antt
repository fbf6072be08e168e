-- How many regions are copied.
use Rattle.std.proofs.Common.{ℕ, ◌≤◌, length, arith, Bool}
use Rattle.std.specs.Prelude.{Option}
use Rattle.std.proofs.lemmas.List.Sums.{length-filter, count_by-le-length}
use Rattle.genie_base.specs.Regions.{is_accessible}
use Rattle.genie_model.specs.State.{State, Region, Process}
use Rattle.genie_model.specs.Regions.{regions_of, regions_at}
use Rattle.genie_model.specs.Space.{accessible}
use Rattle.genie_orderly.specs.Orderly.{RegionsAreApart}
use Rattle.genie_model.specs.Lemmas.Lists.{at_entry}

-- no more than 32 regions are copied
pub accessible_few : (s : State) (p : ℕ) → RegionsAreApart s → length (accessible (regions_at s p)) ≤ 32
accessible_few s p apart =
    let test : Region → Bool = λ r. is_accessible r.state in
    let few = at_entry (λ (x : Option Process). length (regions_of x) ≤ 32) s.processes p (omega arith) (λ k d lt. (apart k d lt).few) in
    omega (arith, few, length-filter test (regions_at s p), count_by-le-length test (regions_at s p))
