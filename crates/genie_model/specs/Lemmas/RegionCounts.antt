-- A list of regions with one more.
use Rattle.std.proofs.Common.{◌≡◌, ℕ, ◌+◌, ◌<◌, ◌≤◌, suc, List, [], ◌∷◌, length, true, false, refl, ap, ◌∙◌, arith}
use Rattle.std.specs.Prelude.{Option, Some, None, nat_le, cond}
use Rattle.genie_model.specs.State.{State, Region, Process}
use Rattle.genie_model.specs.Regions.{extent_of, regions_of, regions_at, change_process}
use Rattle.genie_model.specs.Space.{with_region, add_region}
use Rattle.genie_model.specs.Tables.{entry}
use Rattle.genie_model.specs.Lemmas.Lists.{entry_set}
use Rattle.genie_base.specs.Regions.{Extent, add_in_order}

-- one more in its place
module _ {X : Type 0} (extent : X → Extent) where
  pub length_added : (x : X) (xs : List X) → length (add_in_order extent x xs) ≡ suc (length xs)
  length_added x [] = refl
  length_added x (y ∷ ys) = elim (nat_le ((extent y).start + (extent y).pages) (extent x).start) as (λ b. length (cond b (y ∷ add_in_order extent x ys) (x ∷ y ∷ ys)) ≡ suc (suc (length ys))) [ true ↦ ap suc (length_added x ys) | false ↦ refl ]

in_process_few : (r : Region) (p : Option Process) → length (regions_of (change_process (with_region r) p)) ≤ length (regions_of p) + 1
in_process_few r None = omega arith
in_process_few r (Some p) = omega (arith, length_added extent_of r p.regions)

-- a process has at most one region more
pub added_few : (s : State) (p : ℕ) (r : Region) → length (regions_at (add_region s p r) p) ≤ length (regions_at s p) + 1
added_few s p r = entry_set (λ (o : Option Process). length (regions_of o) ≤ length (regions_at s p) + 1) s.processes p p (change_process (with_region r) (entry s.processes p)) (omega arith) (λ _. in_process_few r (entry s.processes p))
