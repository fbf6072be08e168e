-- A buffer of the system's that is lent for a strong input.
use Rattle.std.specs.Prelude.{◌≡◌, ℕ, ◌+◌, ◌≤◌, length, Bool, true, false, Option, None, Some, if◌then◌else◌}
use Rattle.genie_base.specs.Counts.{span}
use Rattle.genie_base.specs.declared.config.DeviceConfig.{DeviceConfig}
use Rattle.genie_frame.specs.declared.frame.Owner.TheVariants.{System}
use Rattle.genie_frame.specs.FrameTable.{FrameTable}
use Rattle.genie_object.specs.declared.memory.Memory.{Memory}
use Rattle.genie_object.specs.Sound.{IsSound}
use Rattle.genie_plan.specs.Buffers.{AreLentFresh}
use Rattle.genie_plan.specs.Fresh.{ShowsBesides}
use Rattle.genie_plan.specs.Plans.{input_frames}
use Rattle.genie_store.specs.StoreView.{StoreView}
use Rattle.genie_model.specs.Pending.{is_early}
use Rattle.genie_model.specs.Tables.{entry}
use Rattle.genie_kernel.specs.declared.kernel.Kernel.{Kernel}
use Rattle.genie_kernel.specs.declared.transfer.Loans.{Loans}
use Rattle.genie_kernel.specs.declared.transfer.Loans.TheVariants.{Nothing, Outward, Inward}
use Rattle.genie_kernel.specs.Loans.{frames_of}
use Rattle.genie_kernel.specs.Planned.{LendsRange, is_early_device}
use Rattle.genie_changes.specs.Making.{IsMoved, with_memory}

abbrev pub is_early_place : Option DeviceConfig → Bool
is_early_place None = false
is_early_place (Some c) = is_early c.kind

-- how many frames it has: those of its pages on an early device, and none on another
abbrev pub frames_for : (page : ℕ) → Bool → (at len : ℕ) → ℕ
frames_for page early at len = if early then span page at len else 0

-- on an early device the range from place `at` on lies in frames that are lent for it, and on another nothing is lent
abbrev pub LendsAt : (page at len : ℕ) → Bool → Loans → Type 0
LendsAt page at len false loans = loans ≡ Nothing
LendsAt page at len true Nothing = ⊥
LendsAt page at len true (Outward p) = ⊥
LendsAt page at len true (Inward p) = LendsRange page at len (input_frames p.loans.items) p.first p.len

-- the frames, with another count of those that were handed out
abbrev pub with_taken : FrameTable → ℕ → FrameTable
with_taken t count = record t { meters = record (t.meters) { taken = count } }

-- free frames became transfer n's and are lent for its range, whether each was handed out or not; all else is as before
pub record LendsBuffer (n at len : ℕ) (early : Bool) (old new : Memory) (loans : Loans) : Type 0 where
  pub sound : IsSound new
  pub lends : LendsAt old.frames.page at len early loans
  pub count : ℕ
  pub fresh : AreLentFresh (System n) (frames_of loans) old.frames (with_taken new.frames count)
  pub taken : new.frames.meters.taken ≤ old.frames.meters.taken + length (frames_of loans)
  pub low : old.frames.meters.taken ≤ new.frames.meters.taken
  pub shows : ShowsBesides (frames_of loans) old new
  pub pages : new.pages ≡ old.pages
  pub objects : new.objects ≡ old.objects
  pub slots : new.slots ≡ old.slots

-- room was made, and then the buffer lent
pub record LendsStrong (old new : Kernel) (v w : StoreView) (n dev at len : ℕ) (loans : Loans) : Type 0 where
  pub mid : Memory
  pub clock : ℕ
  pub moved : IsMoved old (with_memory old mid clock) v w
  pub only : new ≡ with_memory old new.memory clock
  pub buffer : LendsBuffer n at len (is_early_device (entry old.devices dev)) mid new.memory loans
