-- The pages that devices hold: those under weak loans.
use Rattle.std.specs.Prelude.{◌≡◌, ℕ, ◌+◌, ◌/◌, ◌<◌, not, List, length, filter, find, All, Option, None, Some, slice_index_or}
use Rattle.genie_frame.specs.declared.frame.Owner.TheVariants.{Nobody}
use Rattle.genie_frame.specs.FrameTable.{owner_at}
use Rattle.genie_object.specs.declared.memory.Memory.{Memory}
use Rattle.genie_object.specs.Memory.{entry_frame}
use Rattle.genie_region.specs.declared.region.Region.{Region}
use Rattle.genie_kernel.specs.declared.transfer.Transfer.{Transfer}
use Rattle.genie_kernel.specs.Loans.{frames_of}
use Rattle.genie_kernel.specs.Calls.{region_number, is_strong_call}
use Rattle.genie_kernel.specs.Regions.{has_id}

-- a page of a region or an orphan
pub record PageOf : Type 0 where
  pub region : Option ℕ
  pub index : ℕ

-- the page that loan j of a weak transfer is of
abbrev pub page_of_loan : ℕ → Transfer → ℕ → PageOf
page_of_loan page t j = record { region = region_number t; index = t.offset / page + j }

-- a page of a region is in the frame; one of an orphan has a frame of nobody's
abbrev pub IsInFrame : Memory → Option Region → ℕ → ℕ → Type 0
IsInFrame m None i f = owner_at m.frames f ≡ Nobody
IsInFrame m (Some r) i f = entry_frame m r.object.0 i ≡ Some f

-- the region of this number, where a process has it
abbrev pub region_named : List Region → Option ℕ → Option Region
region_named regions None = None
region_named regions (Some k) = find (has_id k) regions

abbrev pub IsHeldIn : Memory → List Region → PageOf → ℕ → Type 0
IsHeldIn m regions p f = IsInFrame m (region_named regions p.region) p.index f

abbrev pub weak_transfers : List Transfer → List Transfer
weak_transfers transfers = filter (λ t. not (is_strong_call t)) transfers

-- the pages and frames of a weak transfer's loans, in order: page_in says which page a frame holds, and frame_of which
-- frame a page is in
pub record HoldsPages (page : ℕ) (m : Memory) (regions : List Region) (page_in : ℕ → PageOf) (frame_of : PageOf → ℕ) (t : Transfer) : Type 0 where
  pub pages : (j : ℕ) → j < length (frames_of t.loans) → page_in (slice_index_or (frames_of t.loans) j 0) ≡ page_of_loan page t j
  pub frames : (j : ℕ) → j < length (frames_of t.loans) → frame_of (page_of_loan page t j) ≡ slice_index_or (frames_of t.loans) j 0
  pub held : (j : ℕ) → j < length (frames_of t.loans) → IsHeldIn m regions (page_of_loan page t j) (slice_index_or (frames_of t.loans) j 0)

-- each frame that is lent weakly holds one page, and each page that is lent weakly is in one frame
pub record AreHeldPages (page : ℕ) (m : Memory) (regions : List Region) (transfers : List Transfer) : Type 0 where
  pub page_in : ℕ → PageOf
  pub frame_of : PageOf → ℕ
  pub each : All (HoldsPages page m regions page_in frame_of) (weak_transfers transfers)
