-- The objects of the regions, owned and hidden, and the permissions of their entries.
use Rattle.std.specs.Prelude.{◌≡◌, ℕ, ◌+◌, ◌≤◌, ◌<◌, Bool, false, if◌then◌else◌, ◌==◌, List, ◌++◌, length, map, count_by, All, Option, None, slice_index_or}
use Rattle.genie_object.specs.declared.objects.Entry.{Entry}
use Rattle.genie_object.specs.Objects.{is_absent, object_at, entry_at}
use Rattle.genie_region.specs.declared.region.Region.{Region}
use Rattle.genie_space.specs.Translations.{IsBacked}
use Rattle.genie_hiding.specs.declared.hidden.Hidden.{Hidden}
use Rattle.genie_hiding.specs.Hidden.{is_of}
use Rattle.genie_kernel.specs.Regions.{regions_of, owned_regions}

abbrev pub hidden_region : Hidden → Region
hidden_region h = h.region

-- the regions of all processes, and the hidden ones
abbrev pub all_regions : List (Option (List Region)) → List Hidden → List Region
all_regions processes hidden = owned_regions processes ++ map hidden_region hidden

abbrev pub has_object : ℕ → Region → Bool
has_object o r = r.object.0 == o

-- each region has an object with an entry for each of its pages; an object that is there is that of one region, and no
-- region has one that isn't there
pub record AreBacked (objects : List (List Entry)) (regions : List Region) : Type 0 where
  pub each : All (IsBacked objects) regions
  pub some : All (λ (r : Region). 0 < r.pages) regions
  pub one : (o : ℕ) → count_by (has_object o) regions ≡ (if is_absent (object_at objects o) then 0 else 1)

-- hidden regions are of the 16 processes, and owned and hidden regions of one process are together at most 32
pub record AreFew (processes : List (Option (List Region))) (hidden : List Hidden) : Type 0 where
  pub process : All (λ (h : Hidden). h.pid < 16) hidden
  pub few : (pid : ℕ) → length (regions_of (slice_index_or processes pid None)) + count_by (is_of pid) hidden ≤ 32

-- no entry of a region that may not be written permits writing
abbrev pub IsGuarded : List (List Entry) → Region → Type 0
IsGuarded objects r = r.writable ≡ false → (i : ℕ) → (entry_at objects r.object.0 i).writable ≡ false

abbrev pub AreGuarded : List (List Entry) → List Region → Type 0
AreGuarded objects regions = All (IsGuarded objects) regions
