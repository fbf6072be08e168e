-- Which numbers are marked.
use Rattle.std.specs.Prelude.{◌≡◌, ℕ, ◌<◌, ◌≤◌, Bool, true, false, ◌||◌, List, length, Option, slice_index_or}
use Rattle.std.specs.List.{list_any}
use Rattle.genie_region.specs.declared.region.Region.{Region}
use Rattle.genie_kernel.specs.Regions.{has_id, regions_of}

abbrev pub is_marked : List Bool → ℕ → Bool
is_marked marks n = slice_index_or marks n false

-- the process has a region of this number
abbrev pub has_region : ℕ → Option (List Region) → Bool
has_region n p = list_any (has_id n) (regions_of p)

-- the numbers that pass are marked besides
pub record Marks (q : ℕ → Bool) (old new : List Bool) : Type 0 where
  pub size : length new ≡ length old
  pub each : (n : ℕ) → n < length old → is_marked new n ≡ (is_marked old n || q n)

-- all numbers before it are marked, and it isn't, unless all are
pub record IsLeast (marks : List Bool) (n : ℕ) : Type 0 where
  pub before : (j : ℕ) → j < n → is_marked marks j ≡ true
  pub free : n < length marks → is_marked marks n ≡ false
  pub most : n ≤ length marks
