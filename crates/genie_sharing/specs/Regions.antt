-- Regions that are copies of others, with objects of their own.
use Rattle.std.specs.Prelude.{◌≡◌, ◌≢◌, ℕ, ◌<◌, Bool, false, ◌==◌, List, [], length, find, All, None, Some}
use Rattle.std.specs.List.{AllPairs, list_any}
use Rattle.genie_store.specs.StoreView.{StoreView}
use Rattle.genie_object.specs.declared.memory.Memory.{Memory}
use Rattle.genie_object.specs.Leaving.{IsEmpty, IsUnheld}
use Rattle.genie_object.specs.Objects.{entry_at, object_at}
use Rattle.genie_region.specs.declared.region.Region.{Region}
use Rattle.genie_region.specs.Layouts.{starts_at}
use Rattle.genie_hiding.specs.Hidden.{is_among}
use Rattle.genie_sharing.specs.Copying.{Copies, copies_work}

-- an entry of one of these regions' objects
abbrev pub has_object : ℕ → Region → Bool
has_object o r = r.object.0 == o

abbrev pub is_copied : List Region → ℕ → ℕ → Bool
is_copied copies o i = list_any (has_object o) copies

-- the region is to be a copy of the one that starts at its page: it has as many entries, all of them empty
pub record IsCopyOf (m : Memory) (hidden : List ℕ) (regions copies : List Region) (c : Region) : Type 0 where
  pub region : Region
  pub found : find (starts_at c.start) regions ≡ Some region
  pub there : object_at m.objects region.object.0 ≢ []
  pub apart : list_any (has_object region.object.0) copies ≡ false
  pub size : length (object_at m.objects c.object.0) ≡ length (object_at m.objects region.object.0)
  pub empty : (i : ℕ) → IsEmpty m c.object.0 i
  pub from_owned : is_among region.object.0 hidden ≡ false
  pub to_owned : is_among c.object.0 hidden ≡ false

-- so it is with each of these, and no two have the same object
pub record AreCopies (m : Memory) (hidden : List ℕ) (regions copies : List Region) : Type 0 where
  pub each : All (IsCopyOf m hidden regions copies) copies
  pub differ : AllPairs (λ (a b : Region). a.object.0 ≢ b.object.0) copies

-- each entry of the copy shows what that of its region showed, and names its page unless a device holds that
pub record ShowsRegion (old new : Memory) (source : ℕ → ℕ → ℕ) (regions : List Region) (c : Region) : Type 0 where
  pub from : (r : Region) (i : ℕ) → find (starts_at c.start) regions ≡ Some r → i < length (object_at old.objects r.object.0) → source c.object.0 i ≡ r.object.0
  pub same : (r : Region) (i : ℕ) → find (starts_at c.start) regions ≡ Some r → i < length (object_at old.objects r.object.0) → IsUnheld old r.object.0 i → (entry_at new.objects c.object.0 i).page ≡ (entry_at old.objects r.object.0 i).page

-- so does each copy
pub record CopiesRegions (hidden : List ℕ) (regions copies : List Region) (old new : Memory) (v w : StoreView) : Type 0 where
  pub entries : Copies hidden (is_copied copies) old new v w
  pub each : All (ShowsRegion old new entries.source regions) copies

-- the bytes that are moved to copy the region that starts where this one starts
abbrev pub region_work : Memory → List Region → Region → ℕ
region_work m regions c = elim (find (starts_at c.start) regions) [ None ↦ 0 | Some r ↦ copies_work m r.object.0 (length (object_at m.objects r.object.0)) ]
