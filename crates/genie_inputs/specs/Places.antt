-- The pages of a region that are lent for a weak input.
use Rattle.std.specs.Prelude.{◌≡◌, ℕ, ◌+◌, ◌/◌, ◌^◌, ◌<◌, Bool, true, false, List, [], length}
use Rattle.genie_base.specs.Counts.{span}
use Rattle.genie_frame.specs.FrameTable.{FrameTable, counts_at}
use Rattle.genie_store.specs.StoreView.{StoreView}
use Rattle.genie_input.specs.Lending.{HasLent, LiesIn}
use Rattle.genie_object.specs.declared.objects.Entry.{Entry}
use Rattle.genie_object.specs.declared.memory.Memory.{Memory}
use Rattle.genie_object.specs.Memory.{seen_with}
use Rattle.genie_object.specs.Sound.{IsSized}
use Rattle.genie_object.specs.Touching.{is_in_range}
use Rattle.genie_plan.specs.Loans as kind
use Rattle.genie_plan.specs.Loans.{input_loans}
use Rattle.genie_plan.specs.Plans.{times, input_frames}
use Rattle.genie_plan.specs.Wiring.{Wired}
use Rattle.genie_region.specs.declared.region.Region.{Region}
use Rattle.genie_kernel.specs.declared.kernel.Kernel.{Kernel}
use Rattle.genie_kernel.specs.declared.transfer.Loans.{Loans}
use Rattle.genie_kernel.specs.declared.transfer.Loans.TheVariants.{Nothing, Outward, Inward}
use Rattle.genie_changes.specs.Making.{IsMoved, with_memory}
use Rattle.genie_plan.specs.declared.plan.InPlan.{InPlan}
use Rattle.genie_spaces.specs.Lemmas.Forbidding.{with_entries}
use Rattle.genie_spaces.specs.Permissions.{Guards}

-- each of these frames is there, and has room for its wire
pub record CanBeWired (t : FrameTable) (frames : List ℕ) : Type 0 where
  pub there : (f : ℕ) → 0 < times frames f → f < length t.owners
  pub room : (f : ℕ) → (counts_at t f).wires + times frames f < 2 ^ 32

abbrev pub wired_frames : Bool → List ℕ → List ℕ
wired_frames true frames = frames
wired_frames false frames = []

-- a basic call wires these frames, and an emulated one none; nothing else changes
pub record Wires (basic : Bool) (frames : List ℕ) (old new : Memory) : Type 0 where
  pub wired : Wired (wired_frames basic frames) old.frames new.frames
  pub only : new ≡ record old { frames = new.frames }

-- the pages of the range are lent for input, without a permission that the region doesn't have, and then wired
pub record LendsRangeOf (r : Region) (off len : ℕ) (basic : Bool) (old new : Memory) (p : InPlan) : Type 0 where
  pub lent : Memory
  pub loans : HasLent kind.Input (is_in_range r.object.0 (off / old.frames.page) (span old.frames.page off len)) r.object.0 (off / old.frames.page) (input_loans p.loans.items) old lent
  pub lies : LiesIn lent r.object.0 off len (input_frames p.loans.items) p.first p.len
  pub entries : List (List Entry)
  pub guards : Guards r.object.0 r.writable lent.objects entries
  pub wires : Wires basic (input_frames p.loans.items) (with_entries lent entries) new

abbrev pub LendsPlan : Region → (off len : ℕ) → Bool → Memory → Memory → Loans → Type 0
LendsPlan r off len basic old new Nothing = ⊥
LendsPlan r off len basic old new (Outward p) = ⊥
LendsPlan r off len basic old new (Inward p) = LendsRangeOf r off len basic old new p

-- room was made, and then the pages of the range were lent; what is seen is as before
pub record LendsPages (old new : Kernel) (v w : StoreView) (r : Region) (off len : ℕ) (basic : Bool) (loans : Loans) : Type 0 where
  pub mid : Memory
  pub clock : ℕ
  pub middle : StoreView
  pub moved : IsMoved old (with_memory old mid clock) v middle
  pub only : new ≡ with_memory old new.memory clock
  pub sized : IsSized new.memory w
  pub shows : seen_with new.memory w ≡ seen_with mid middle
  pub plan : LendsPlan r off len basic mid new.memory loans
