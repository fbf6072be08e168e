-- What an output call leaves, and what it answers.
use Rattle.std.specs.Prelude.{◌≡◌, ◌<◌, ◌≤◌, ◌-◌, ◌+◌, ◌^◌, None, Some, count_by, if◌then◌else◌}
use Rattle.genie_base.specs.Counts.{span}
use Rattle.genie_base.specs.Events.{mark_of}
use Rattle.genie_base.specs.declared.reply.Reply.{Reply}
use Rattle.genie_frame.specs.FrameTable.{is_free}
use Rattle.genie_host.specs.Host.{HostView}
use Rattle.genie_store.specs.StoreView.{StoreView}
use Rattle.genie_object.specs.declared.objects.Range.{Range}
use Rattle.genie_object.specs.Costs.{AreBelow}
use Rattle.genie_object.specs.Sound.{IsSized}
use Rattle.genie_region.specs.declared.region.Region.{Region}
use Rattle.genie_model.specs.Refusing.{refuse}
use Rattle.genie_kernel.specs.declared.kernel.Kernel.{Kernel}
use Rattle.genie_kernel.specs.Good.{IsGood}
use Rattle.genie_kernel.specs.Kept.{Kept}
use Rattle.genie_kernel.specs.Steps.{StepsTold, StoreCause}
use Rattle.genie_kernel.specs.View.{view, outline}
use Rattle.genie_copying.specs.Bounds.{output_bound, stores_nothing}
use Rattle.genie_copying.specs.Ranges.{pages_at}
use Rattle.genie_copying.specs.Spending.{CopiesAtMost}
use Rattle.genie_outputs.specs.declared.call.Call.{Call}
use Rattle.genie_outputs.specs.Calls.{Reaches, event_of, place_in, range_of}

-- the kernel is good and sized, keeps the frames that are lent, and has made one step of the flat machine; the store's
-- failure is answered only where it failed
pub record IsAnswered (old : Kernel) (c : Call) (new : Kernel) (v w : StoreView) (reply : Reply) : Type 0 where
  pub good : IsGood new
  pub sized : IsSized new.memory w
  pub kept : Kept old new
  pub config : new.config ≡ old.config
  pub numbers : new.next ≤ old.next + 1
  pub step : (host : HostView) → StepsTold (view old host v) (event_of c) (view new host w) reply
  pub cause : StoreCause (mark_of reply) v.faults w.faults

-- the call may be made over this range of the region that it reaches: the kernel is good and accepts it, and frames are
-- free for its pages
pub record IsReady (k : Kernel) (c : Call) (r : Region) (range : Range) (v : StoreView) : Type 0 where
  pub good : IsGood k
  pub sized : IsSized k.memory v
  pub meters : AreBelow (2 ^ 63 + 2 ^ 20) k.memory.frames.meters
  pub accepted : refuse (outline k) (event_of c) ≡ None
  pub numbered : k.next < 2 ^ 32 - 1
  pub reached : Reaches k c r
  pub range_is : range ≡ range_of k.config.page c r
  pub free : span k.config.page (place_in k.config.page c r) c.len ≤ count_by is_free k.memory.frames.owners

-- no more is copied than the table's row for this call and reply has, over the pages of the range
abbrev pub KeepsToRow : Kernel → Call → Range → Kernel → Reply → Type 0
KeepsToRow old c range new r = CopiesAtMost (if stores_nothing r then 0 else output_bound old c.sem c.len (Some (pages_at old.config.page range.object.0 range.off range.len))) old.memory new.memory
