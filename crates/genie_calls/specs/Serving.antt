-- What an event leaves of the kernel, the host and the store, and what it may answer.
use Rattle.std.specs.Prelude.{◌≡◌, ℕ, ◌+◌, ◌^◌, ◌≤◌, Bool, true, false, ◌&&◌, find, IfSome, ⊤}
use Rattle.genie_base.specs.Events.{mark_of}
use Rattle.genie_base.specs.declared.config.Config.{Config}
use Rattle.genie_base.specs.declared.event.Event.{Event}
use Rattle.genie_base.specs.declared.event.Event.TheVariants.{Send, Recv, Finish}
use Rattle.genie_base.specs.declared.reply.Mark.{Mark}
use Rattle.genie_base.specs.declared.reply.Mark.TheVariants.{NoFault}
use Rattle.genie_base.specs.declared.reply.Reply.{Reply}
use Rattle.genie_device.specs.Device.{handle_of}
use Rattle.genie_host.specs.Host.{HostView, OnlyHandle}
use Rattle.genie_store.specs.StoreView.{StoreView}
use Rattle.genie_object.specs.Sound.{IsSized}
use Rattle.genie_model.specs.Step.{uses_store}
use Rattle.genie_model.specs.Tables.{entry}
use Rattle.genie_kernel.specs.declared.kernel.Kernel.{Kernel}
use Rattle.genie_kernel.specs.declared.transfer.Transfer.{Transfer}
use Rattle.genie_model.specs.Pending.{is_inward}
use Rattle.genie_kernel.specs.Calls.{has_number}
use Rattle.genie_kernel.specs.Good.{IsGood}
use Rattle.genie_kernel.specs.Handles.{HasHandles, KeepsOthers}
use Rattle.genie_kernel.specs.Kept.{Kept}
use Rattle.genie_kernel.specs.Rising.{MetersRise}
use Rattle.genie_kernel.specs.Steps.{StepsTold, DeviceCause, StoreCause}
use Rattle.genie_kernel.specs.Told.{input_at, output_at}
use Rattle.genie_kernel.specs.View.{view}
use Rattle.genie_arrivals.specs.LateCosts.{is_exchanged}
use Rattle.genie_copying.specs.Bounds.{KeepsToBound}
use Rattle.genie_copying.specs.Getting.{pages_most}
use Rattle.genie_changes.specs.Filling.{StepsFilled}
use Rattle.genie_changes.specs.Paged.{IsPaged}
use Rattle.genie_calls.specs.Sharing.{Shares}

-- what outside the kernel an event may touch: nothing, the store, or the handle of a device
pub data Outside : Type 0 where
  Nothing : Outside
  TheStore : Outside
  TheHandle : ℕ → Outside

abbrev pub store_or_nothing : Bool → Outside
store_or_nothing true = TheStore
store_or_nothing false = Nothing

-- a device sends to its output, and receives from its input
abbrev pub touched_by : Config → Event → Outside
touched_by c (Send d n) = TheHandle (handle_of (output_at (entry c.devices d)))
touched_by c (Recv d n) = TheHandle (handle_of (input_at (entry c.devices d)))
touched_by c e = store_or_nothing (uses_store e)

-- nothing outside changes, and no failure is shown
pub record TouchesNothing (mark : Mark) (old new : HostView) (v w : StoreView) : Type 0 where
  pub unfailed : mark ≡ NoFault
  pub host : new ≡ old
  pub store : w ≡ v

-- the host stays, and a failure of the store is shown only where the store's count rose
pub record TouchesStore (mark : Mark) (old new : HostView) (v w : StoreView) : Type 0 where
  pub host : new ≡ old
  pub cause : StoreCause mark v.faults w.faults

-- the store stays, and of the host all but this handle; a device's failure is shown only where the handle's count rose
pub record TouchesHandle (handle : ℕ) (mark : Mark) (old new : HostView) (v w : StoreView) : Type 0 where
  pub only : OnlyHandle handle old new
  pub cause : DeviceCause mark (old.handle handle).faults (new.handle handle).faults
  pub store : w ≡ v

abbrev pub Touches : Outside → Mark → HostView → HostView → StoreView → StoreView → Type 0
Touches Nothing mark old new v w = TouchesNothing mark old new v w
Touches TheStore mark old new v w = TouchesStore mark old new v w
Touches (TheHandle h) mark old new v w = TouchesHandle h mark old new v w

-- the table of copying bounds these events: all but the end of an input on a pooled device where the table has pages exchanged
-- with those of its buffer
abbrev pub IsTabled : Kernel → Event → Type 0
IsTabled k (Finish id) = IfSome (find (has_number id) k.transfers) (λ (t : Transfer). (is_inward t.dir && is_exchanged k.config t) ≡ false)
IsTabled k e = ⊤

-- bytes land in an event as far as a receive step takes them; of the end of an input this says nothing
abbrev pub LandsWithin : Kernel → Event → Kernel → Type 0
LandsWithin old (Recv d n) new = new.memory.frames.landed ≤ old.memory.frames.landed + n
LandsWithin old (Finish id) new = ⊤
LandsWithin old e new = new.memory.frames.landed ≡ old.memory.frames.landed

-- no more pages come from the store than the event names; of the end of an input this says nothing
abbrev pub GetsWithin : Kernel → Event → Kernel → Type 0
GetsWithin old (Finish id) new = ⊤
GetsWithin old e new = new.memory.frames.meters.gets ≤ old.memory.frames.meters.gets + pages_most old e

-- the kernel is good over a store of its size, and keeps what is lent and its configuration; what it stands for and the
-- reply are those of the flat machine's step; a failure has its cause, and the handles stay open; one number at most is given
-- out; the meters rise by so much at most, no more is copied than the table allows, and what may be shared is; over bytes that the host
-- doesn't tell it is a step too, whatever they are
pub record Served (old new : Kernel) (e : Event) (before after : HostView) (v w : StoreView) (reply : Reply) : Type 0 where
  pub good : IsGood new
  pub sized : IsSized new.memory w
  pub kept : Kept old new
  pub config : new.config ≡ old.config
  pub numbers : new.next ≤ old.next + 1
  pub step : StepsTold (view old before v) e (view new after w) reply
  pub touches : Touches (touched_by old.config e) (mark_of reply) before after v w
  pub handles : HasHandles new.config after
  pub others : KeepsOthers old.config before after
  pub rises : MetersRise (2 ^ 36) old.memory.frames new.memory.frames
  pub copying : IsTabled old e → KeepsToBound old e new reply
  pub sharing : Shares old e new reply
  pub filled : StepsFilled old e new reply before after v w
  pub lands : LandsWithin old e new
  pub gets : GetsWithin old e new

-- so it is of an event that touches neither the host nor the store, whatever they are
abbrev pub ServedAlone : Kernel → Event → Kernel → Reply → Type 0
ServedAlone old e new reply = (host : HostView) (v : StoreView) → HasHandles old.config host → IsSized old.memory v → IsPaged v → Served old new e host host v v reply

-- and of one that touches the store alone
abbrev pub ServedByStore : Kernel → Event → Kernel → StoreView → StoreView → Reply → Type 0
ServedByStore old e new v w reply = (host : HostView) → HasHandles old.config host → Served old new e host host v w reply

-- and of one that touches the host alone
abbrev pub ServedByHost : Kernel → Event → Kernel → HostView → HostView → Reply → Type 0
ServedByHost old e new before after reply = (v : StoreView) → IsSized old.memory v → IsPaged v → Served old new e before after v v reply
