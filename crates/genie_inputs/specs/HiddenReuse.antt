-- A hidden region whose frames are used again.
use Rattle.std.specs.Prelude.{◌≡◌, ℕ, ◌<◌, Bool, true, false, ◌&&◌, nat_le, List, [], ◌∷◌, ◌++◌, count_by, position, remove, slice_index_or, Option, Some}
use Rattle.genie_base.specs.Counts.{span}
use Rattle.genie_base.specs.Regions.{place}
use Rattle.genie_base.specs.Transfers.{class_of, is_emulated}
use Rattle.genie_base.specs.declared.reply.Reply.{Reply}
use Rattle.genie_base.specs.declared.reply.Reply.TheVariants as reply
use Rattle.genie_base.specs.declared.semantics.Class.TheVariants.{Move}
use Rattle.genie_frame.specs.FrameTable.{counts_at, is_free, is_lent}
use Rattle.genie_hiding.specs.declared.hidden.Hidden.{Hidden}
use Rattle.genie_hiding.specs.Hidden.{no_hidden, is_same, region_at, IsTakenBack}
use Rattle.genie_object.specs.declared.memory.Memory.{Memory}
use Rattle.genie_object.specs.Memory.{entry_frame}
use Rattle.genie_plan.specs.Plans.{times}
use Rattle.genie_region.specs.declared.region.Region.{Region}
use Rattle.genie_region.specs.Layouts.{extent}
use Rattle.genie_store.specs.StoreView.{StoreView}
use Rattle.genie_model.specs.Tables.{entry}
use Rattle.genie_kernel.specs.declared.kernel.Kernel.{Kernel}
use Rattle.genie_kernel.specs.declared.transfer.Loans.{Loans}
use Rattle.genie_kernel.specs.declared.transfer.Transfer.{Transfer}
use Rattle.genie_kernel.specs.Loans.{frames_of}
use Rattle.genie_kernel.specs.Regions.{regions_of}
use Rattle.genie_spaces.specs.Clearing.{Clears, HasRoom}
use Rattle.genie_inputs.specs.declared.call.Call.{Call}
use Rattle.genie_inputs.specs.declared.place.Placement.{Placement}
use Rattle.genie_inputs.specs.Buffers.{LendsStrong, is_early_place}
use Rattle.genie_inputs.specs.Claiming.{LendsObject}
use Rattle.genie_inputs.specs.Reusing.{pages_of}

-- the hidden region of that process, start and size that was hidden first
abbrev pub oldest_hidden : (p start pages : ℕ) → List Hidden → Option Region
oldest_hidden p start pages kept = region_at (position (is_same p start pages) kept) kept

-- an emulated call on an early device, where as many frames are free as the call's bytes need
abbrev pub may_reuse : Kernel → Call → Bool
may_reuse k c = is_emulated c.sem && (is_early_place (entry k.config.devices c.dev) && nat_le (span k.config.page 0 c.len) (count_by is_free k.memory.frames.owners))

-- each frame of the region's pages on which no loan was out is lent now
abbrev pub LendsFramesOf : Memory → Region → Loans → Type 0
LendsFramesOf m r loans = (i f : ℕ) → entry_frame m r.object.0 i ≡ Some f → is_lent (counts_at m.frames f) ≡ false → 0 < times (frames_of loans) f

-- the oldest hidden region of the place is no longer kept, and a buffer is lent in the place of its object
pub record TakesHidden (old new : Kernel) (n : ℕ) (c : Call) (at : Placement) (loans : Loans) : Type 0 where
  pub may : may_reuse old c ≡ true
  pub index : ℕ
  pub first : position (is_same c.pid at.start at.pages) old.hidden ≡ Some index
  pub back : IsTakenBack old.memory (remove old.hidden index) (slice_index_or old.hidden index no_hidden).region
  pub only : new ≡ record old { memory = new.memory; hidden = remove old.hidden index }
  pub object : LendsObject n c.len (slice_index_or old.hidden index no_hidden).region.object.0 old.memory new.memory loans

-- hidden regions have gone so that the process has room for one region more, and then the buffer was lent
pub record HoldsBuffer (old new : Kernel) (v w : StoreView) (n : ℕ) (c : Call) (loans : Loans) : Type 0 where
  pub cleared : Kernel
  pub clears : Clears old cleared
  pub room : HasRoom c.pid cleared
  pub lends : LendsStrong cleared new v w n c.dev 0 c.len loans

-- so it is with the oldest hidden region of the place and the size that the new one has
abbrev pub ReusesFrames : Kernel → Call → Placement → Loans → Type 0
ReusesFrames k c at loans = (r : Region) → may_reuse k c ≡ true → oldest_hidden c.pid at.start at.pages k.hidden ≡ Some r → LendsFramesOf k.memory r loans

-- there is one transfer more, which has a loan on each frame of the region's pages that carried none
pub record Reuses (old new : Kernel) (r : Region) : Type 0 where
  pub transfer : Transfer
  pub is_new : new.transfers ≡ old.transfers ++ transfer ∷ []
  pub lends : LendsFramesOf old.memory r transfer.loans

-- an input by emulated move on an early device, before which as many frames are free as its buffer needs, uses a hidden
-- region again: the oldest one of its process that has the place and the size of the new region
abbrev pub ReusesHidden : Kernel → Kernel → Call → Reply → Type 0
ReusesHidden old new c answer = (n start : ℕ) (r : Region) → class_of c.sem ≡ Move → may_reuse old c ≡ true → answer ≡ reply.Id n → place extent (pages_of old c) (regions_of (entry old.spaces.processes c.pid)) ≡ Some start → oldest_hidden c.pid start (pages_of old c) old.hidden ≡ Some r → Reuses old new r
