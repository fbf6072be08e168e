-- Laws of orphans: once a transfer or a region is gone, or there is one transfer more.
use Rattle.std.specs.Prelude.{◌≡◌, ◌≢◌, ℕ, ◌*◌, ◌/◌, ◌<◌, ◌≤◌, Bool, true, false, List, [], ◌∷◌, ◌++◌, length, map, filter, find, Option, None, Some}
use Rattle.std.specs.List.{list_any}
use Rattle.genie_device.specs.Device.{DeviceView}
use Rattle.genie_frame.specs.FrameTable.{IsShaped}
use Rattle.genie_input.specs.Pools.{PoolState}
use Rattle.genie_object.specs.declared.memory.Memory.{Memory}
use Rattle.genie_object.specs.Memory.{seen}
use Rattle.genie_region.specs.declared.region.Region.{Region}
use Rattle.genie_model.specs.Space.{cut, is_named, add_orphan}
use Rattle.genie_model.specs.Tables.{without}
use Rattle.genie_kernel.specs.declared.transfer.Transfer.{Transfer}
use Rattle.genie_kernel.specs.Calls.{region_number, names_weakly}
use Rattle.genie_kernel.specs.Held.{PageOf, HoldsPages, region_named}
use Rattle.genie_kernel.specs.Loans.{frames_of, first_of}
use Rattle.genie_kernel.specs.Orphans.{covers, byte_under, is_orphan, is_owned, orphan_byte, orphans_view}
use Rattle.genie_kernel.specs.Planned.{LendsRange}
use Rattle.genie_kernel.specs.Regions.{region_view}
use Rattle.genie_kernel.specs.Transfers.{transfers_view}
use Rattle.genie_changes.specs.Places.{byte_at, LiesInFrames}

-- a transfer shows at each place that it covers the byte of the page's frame
abbrev pub ByteOfPage : Type 0
ByteOfPage = (page : ℕ) (s : ℕ → List ℕ) (frame_of : PageOf → ℕ) (k x : ℕ) (t : Transfer) → 0 < page → LiesInFrames page s frame_of t → covers k x t ≡ true → byte_under s x (Some t) ≡ (x, byte_at page s frame_of k x) ∷ []

-- the frames of a weak transfer of an orphan are nobody's, so they show their bytes
abbrev pub OrphanLies : Type 0
OrphanLies = (m : Memory) (slots : ℕ → List ℕ) (regions : List Region) (page_in : ℕ → PageOf) (frame_of : PageOf → ℕ) (t : Transfer) → IsShaped m.frames.page m.frames.owners m.frames.counts m.frames.bytes → region_named regions (region_number t) ≡ None → LendsRange m.frames.page t.offset t.len (frames_of t.loans) (first_of t.loans) t.len → HoldsPages m.frames.page m regions page_in frame_of t → LiesInFrames m.frames.page (seen m slots).kept_bytes frame_of t

-- the transfers that name an orphan of these lie in frames
abbrev pub OrphansLie : ℕ → (ℕ → List ℕ) → (PageOf → ℕ) → List Region → List Transfer → Type 0
OrphansLie page s frame_of regions transfers = (k x : ℕ) (t : Transfer) → is_orphan regions transfers k ≡ true → find (covers k x) transfers ≡ Some t → LiesInFrames page s frame_of t

-- the orphans once a transfer is pending no more are those that `tidy` leaves
abbrev pub OrphansShrink : Type 0
OrphansShrink = (page : ℕ) (s : ℕ → List ℕ) (devices : List (Option DeviceView)) (pools : List (Option PoolState)) (frame_of : PageOf → ℕ) (p : Transfer → Bool) (regions : List Region) (ts : List Transfer) → 0 < page → OrphansLie page s frame_of regions ts → OrphansLie page s frame_of regions (without p ts)
    → orphans_view page s regions (without p ts) ≡ map (cut (transfers_view s devices pools (without p ts))) (filter (is_named (transfers_view s devices pools (without p ts))) (orphans_view page s regions ts))

-- the orphans of these regions show under the new bytes what they showed
abbrev pub OrphansStay : (ℕ → List ℕ) → (ℕ → List ℕ) → List Region → List Transfer → Type 0
OrphansStay old new regions transfers = (k x : ℕ) → is_orphan regions transfers k ≡ true → orphan_byte new transfers k x ≡ orphan_byte old transfers k x

-- the pages of a region that goes stay under the loans on them, with their bytes
pub record LeavesPages (page : ℕ) (entries : ℕ → ℕ → List ℕ) (new : ℕ → List ℕ) (frame_of : PageOf → ℕ) (r : Region) (transfers : List Transfer) : Type 0 where
  pub inside : (x : ℕ) → list_any (covers r.id.0 x) transfers ≡ true → x < r.pages * page
  pub lie : (x : ℕ) (t : Transfer) → find (covers r.id.0 x) transfers ≡ Some t → LiesInFrames page new frame_of t
  pub bytes : (x : ℕ) → list_any (covers r.id.0 x) transfers ≡ true → new (frame_of (record { region = Some r.id.0; index = x / page })) ≡ entries r.object.0 (x / page)
  pub full : (i : ℕ) → length (entries r.object.0 i) ≡ page

-- region r was one of those before, and is none of those after; no other one comes or goes
pub record IsWithout (r : Region) (before after : List Region) : Type 0 where
  pub was : is_owned before r.id.0 ≡ true
  pub gone : is_owned after r.id.0 ≡ false
  pub others : (k : ℕ) → k ≢ r.id.0 → is_owned after k ≡ is_owned before k

-- the orphans once a region is removed
abbrev pub OrphansGrow : Type 0
OrphansGrow = (page : ℕ) (entries : ℕ → ℕ → List ℕ) (old new : ℕ → List ℕ) (devices : List (Option DeviceView)) (pools : List (Option PoolState)) (frame_of : PageOf → ℕ) (r : Region) (before after : List Region) (ts : List Transfer) → 0 < page → r.pages ≤ 64 → r.id.0 < 577 → IsWithout r before after → OrphansStay old new before ts → LeavesPages page entries new frame_of r ts
    → orphans_view page new after ts ≡ map (cut (transfers_view old devices pools ts)) (filter (is_named (transfers_view old devices pools ts)) (add_orphan (region_view entries r) (orphans_view page old before ts)))

-- the orphans with one transfer more, which names a region of a process or none
abbrev pub OrphansSame : Type 0
OrphansSame = (page : ℕ) (s : ℕ → List ℕ) (regions : List Region) (t : Transfer) (ts : List Transfer) → ((k : ℕ) → names_weakly k t ≡ true → is_owned regions k ≡ true) → orphans_view page s regions (ts ++ t ∷ []) ≡ orphans_view page s regions ts
