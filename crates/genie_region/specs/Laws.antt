-- What the definitions of placement and order imply.
use Rattle.std.specs.Prelude.{◌≡◌, ℕ, ◌+◌, ◌≤◌, false, true, List, Some, None}
use Rattle.genie_base.specs.Regions.{AreInOrder, add_in_order, is_free, place}
use Rattle.genie_region.specs.declared.region.Region.{Region}
use Rattle.genie_region.specs.Layouts.{extent, IsLowestFit}

-- from the place on so many pages of the system area are free, and from no lower page of it
abbrev pub PlaceIsLowest : Type 0
PlaceIsLowest = (regions : List Region) (pages start : ℕ) → place extent pages regions ≡ Some start → IsLowestFit pages regions start × (start + pages ≤ 1024)

-- without a place, from no page of the system area on are so many free
abbrev pub NoPlaceIsFull : Type 0
NoPlaceIsFull = (regions : List Region) (pages start : ℕ) → place extent pages regions ≡ None → 512 ≤ start → start + pages ≤ 1024 → is_free extent start pages regions ≡ false

-- one more region where its pages are free overlaps none, and the order stays
abbrev pub OrderStays : Type 0
OrderStays = (regions : List Region) (new : Region) → AreInOrder extent regions → is_free extent new.start new.pages regions ≡ true → AreInOrder extent (add_in_order extent new regions)
