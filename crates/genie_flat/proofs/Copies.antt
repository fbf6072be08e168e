-- Copies of regions, one after the other.
use Rattle.std.proofs.Common.{◌≡◌, ℕ, ◌+◌, ◌<◌, List, [], ◌∷◌, length, drop, get_or, add-one, refl, sym, ap, ◌∙◌}
use Rattle.std.specs.Prelude.{map}
use Rattle.std.proofs.Math.Seq.{drop-cons}
use Rattle.genie_base.specs.declared.region.RegionState.TheVariants.{Live}
use Rattle.genie_model.specs.State.{State, Region}
use Rattle.genie_model.specs.Regions.{with_state}
use Rattle.genie_model.specs.Space.{add_region, copy_of, add_copies}

-- a copy of a live copy is a copy
pub copies_live : (s : State) (q : ℕ) (regions : List Region) → add_copies s q (map (with_state Live) regions) ≡ add_copies s q regions
copies_live s q [] = refl
copies_live s q (r ∷ regions) = copies_live (add_region s q (copy_of s r)) q regions

-- one copy more
pub copies_more : (s new all : State) (q : ℕ) (regions : List Region) (i : ℕ) (d : Region) → i < length regions → add_copies s q (drop i regions) ≡ all → new ≡ add_region s q (copy_of s (get_or regions i d)) → add_copies new q (drop (i + 1) regions) ≡ all
copies_more s new all q regions i d h so is = rw (is, add-one) (sym (ap (add_copies s q) (drop-cons regions i d h)) ∙ so)
