-- What the invariant gives of what other laws ask.
use Rattle.std.specs.Prelude.{◌≡◌, ℕ, ◌<◌, Bool, true, List, length, find, Some}
use Rattle.genie_frame.specs.declared.frame.Owner.TheVariants.{Nobody}
use Rattle.genie_frame.specs.FrameTable.{IsShaped, owner_at, counts_at, is_held}
use Rattle.genie_object.specs.declared.memory.Memory.{Memory}
use Rattle.genie_object.specs.Memory.{entry_frame, seen}
use Rattle.genie_region.specs.declared.region.Region.{Region}
use Rattle.genie_model.specs.Tables.{without}
use Rattle.genie_kernel.specs.declared.kernel.Kernel.{Kernel}
use Rattle.genie_kernel.specs.declared.transfer.Transfer.{Transfer}
use Rattle.genie_kernel.specs.Good.{IsGood}
use Rattle.genie_kernel.specs.Held.{weak_transfers}
use Rattle.genie_kernel.specs.Regions.{has_id, owned_regions}
use Rattle.genie_changes.specs.Orphans.{OrphansLie, LeavesPages}
use Rattle.genie_changes.specs.Pages.{EachFrame}

-- a device holds each frame of a weak transfer
abbrev pub WeakFramesAreHeld : Type 0
WeakFramesAreHeld = (k : Kernel) → IsGood k → EachFrame (λ f. is_held (counts_at k.memory.frames f) ≡ true) (weak_transfers k.transfers)

-- nobody's frames show a page of bytes
abbrev pub ShowsPages : ℕ → Memory → (ℕ → List ℕ) → Type 0
ShowsPages page m s = (f : ℕ) → owner_at m.frames f ≡ Nobody → length (s f) ≡ page

-- so they do of a sound memory
abbrev pub NobodysFramesShow : Type 0
NobodysFramesShow = (m : Memory) (slots : ℕ → List ℕ) → IsShaped m.frames.page m.frames.owners m.frames.counts m.frames.bytes → ShowsPages m.frames.page m (seen m slots).kept_bytes

-- then the transfers that name an orphan lie in frames, and so do those without one of them
abbrev pub OrphansLieInFrames : Type 0
OrphansLieInFrames = (k : Kernel) (s : ℕ → List ℕ) (g : IsGood k) → ShowsPages k.config.page k.memory s → OrphansLie k.config.page s g.held.frame_of (owned_regions k.spaces.processes) k.transfers

abbrev pub OthersLieInFrames : Type 0
OthersLieInFrames = (k : Kernel) (s : ℕ → List ℕ) (p : Transfer → Bool) (g : IsGood k) → ShowsPages k.config.page k.memory s → OrphansLie k.config.page s g.held.frame_of (owned_regions k.spaces.processes) (without p k.transfers)

-- where a device holds a page of region r, the frame shows what the entry showed
pub record ShowsLeft (k : Kernel) (r : Region) (entries : ℕ → ℕ → List ℕ) (new : ℕ → List ℕ) : Type 0 where
  pub shown : (i f : ℕ) → entry_frame k.memory r.object.0 i ≡ Some f → is_held (counts_at k.memory.frames f) ≡ true → new f ≡ entries r.object.0 i
  pub full : (i : ℕ) → length (entries r.object.0 i) ≡ k.config.page

-- then its pages stay under the loans on them, with their bytes
abbrev pub RegionsLeavePages : Type 0
RegionsLeavePages = (k : Kernel) (r : Region) (entries : ℕ → ℕ → List ℕ) (new : ℕ → List ℕ) (g : IsGood k) → 0 < k.config.page → find (has_id r.id.0) (owned_regions k.spaces.processes) ≡ Some r → ShowsLeft k r entries new → LeavesPages k.config.page entries new g.held.frame_of r k.transfers
