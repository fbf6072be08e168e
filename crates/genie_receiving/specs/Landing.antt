-- The payload part of a receive step, in a kernel.
use Rattle.std.specs.Prelude.{◌≡◌, ℕ, ◌+◌, ◌≤◌, min, List, [], true, false, find, Option, None, Some, IfSome, IsSome, slice_set, if◌then◌else◌}
use Rattle.genie_base.specs.declared.reply.Reply.{Reply}
use Rattle.genie_base.specs.declared.reply.Reply.TheVariants as reply
use Rattle.genie_host.specs.Host.{HostView}
use Rattle.genie_device.specs.Device.{DeviceView, IsReading}
use Rattle.genie_device.specs.Kept.{IsAllowed}
use Rattle.genie_frame.specs.FrameTable.{FrameTable}
use Rattle.genie_plan.specs.declared.plan.InPlan.{InPlan}
use Rattle.genie_plan.specs.Plans.{CanLand, OnlyRange, input_frames, range_bytes}
use Rattle.genie_model.specs.Receiving.{note_of}
use Rattle.genie_model.specs.Tables.{entry}
use Rattle.genie_model.specs.declared.phase.Phase.TheVariants.{Moving, Ready}
use Rattle.genie_kernel.specs.declared.kernel.Kernel.{Kernel}
use Rattle.genie_kernel.specs.declared.transfer.Loans.{Loans}
use Rattle.genie_kernel.specs.declared.transfer.Loans.TheVariants.{Nothing, Outward, Inward}
use Rattle.genie_kernel.specs.declared.transfer.Transfer.{Transfer}
use Rattle.genie_kernel.specs.Calls.{has_number}
use Rattle.genie_changes.specs.Working.{Work, worked}
use Rattle.genie_receiving.specs.declared.course.Course.{Course}
use Rattle.genie_receiving.specs.declared.course.Course.TheVariants.{GoesOn, Ends, IsTruncated}
use Rattle.genie_receiving.specs.declared.payload.Moved.{Moved}
use Rattle.genie_receiving.specs.Payload.{MovesPayload}

-- a datagram is present, and the input of its device is open
abbrev pub MayMove : Option DeviceView → HostView → Type 0
MayMove None host = ⊥
MayMove (Some v) host = IsSome v.present × IsReading v.config.input host

-- bytes may land in the frames that are lent for a transfer
abbrev pub IsInward : Loans → Type 0
IsInward Nothing = ⊥
IsInward (Outward p) = ⊥
IsInward (Inward p) = Unit {0}

abbrev pub HasPlan : Option Transfer → Type 0
HasPlan None = ⊥
HasPlan (Some t) = IsInward t.loans

abbrev pub MayLandIn : FrameTable → Loans → Type 0
MayLandIn f Nothing = ⊥
MayLandIn f (Outward p) = ⊥
MayLandIn f (Inward p) = CanLand f (input_frames p.loans.items) p.first p.len

abbrev pub MayLand : FrameTable → Option Transfer → Type 0
MayLand f None = ⊥
MayLand f (Some t) = MayLandIn f t.loans

-- payload bytes of device d land in the frames of input id
pub record LandsFor (d id h n : ℕ) (old new : HostView) (devices devices_now : List (Option DeviceView)) (frames frames_now : FrameTable) (transfers : List Transfer) (moved : Moved) : Type 0 where
  pub before : DeviceView
  pub after : DeviceView
  pub there : entry devices d ≡ Some before
  pub plan : InPlan
  pub planned : (t : Transfer) → find (has_number id) transfers ≡ Some t → t.loans ≡ Inward plan
  pub moves : MovesPayload h n old new before after (range_bytes frames (input_frames plan.loans.items) plan.first plan.len) (range_bytes frames_now (input_frames plan.loans.items) plan.first plan.len) moved
  pub device : devices_now ≡ slice_set devices d (Some after)
  pub only : OnlyRange (input_frames plan.loans.items) plan.first plan.len frames frames_now
  pub later : frames.landed ≤ frames_now.landed
  pub most : frames_now.landed ≤ frames.landed + n
  pub allowed : IfSome before.present (IsAllowed before.config.kind before.limit)

-- where a step leaves an input, so many bytes of whose datagram of len bytes have come
abbrev pub work_of : Course → ℕ → ℕ → Transfer → Work
work_of GoesOn so_far len t = record { phase = Moving; buffer = None; stored = min so_far t.len; note = t.note }
work_of Ends so_far len t = record { phase = Ready; buffer = None; stored = min so_far t.len; note = note_of false len t.len }
work_of IsTruncated so_far len t = record { phase = Ready; buffer = None; stored = min so_far t.len; note = note_of true len t.len }

-- what a step answers that has moved payload bytes behind h bytes of the header
abbrev pub reply_to : Moved → ℕ → Reply
reply_to moved h = if moved.faulted then reply.Fault (h + moved.bytes) else reply.Got (h + moved.bytes)

-- payload bytes are moved into input id, and nothing else of the kernel changes
pub record ReceivesInto (d id len h n : ℕ) (old new : HostView) (before after : Kernel) (r : Reply) : Type 0 where
  pub moved : Moved
  pub lands : LandsFor d id h n old new before.devices after.devices before.memory.frames after.memory.frames before.transfers moved
  pub works : (t : Transfer) → find (has_number id) before.transfers ≡ Some t → after.transfers ≡ worked (has_number id) (work_of moved.course moved.so_far len t) before.transfers
  pub only : after ≡ record before { memory = record (before.memory) { frames = after.memory.frames }; devices = after.devices; transfers = after.transfers }
  pub reply_is : r ≡ reply_to moved h

-- payload bytes of device d are thrown away
pub record SkipsPayload (d n : ℕ) (old new : HostView) (devices devices_now : List (Option DeviceView)) (r : Reply) : Type 0 where
  pub before : DeviceView
  pub after : DeviceView
  pub moved : Moved
  pub there : entry devices d ≡ Some before
  pub moves : MovesPayload 0 n old new before after [] [] moved
  pub device : devices_now ≡ slice_set devices d (Some after)
  pub allowed : IfSome before.present (IsAllowed before.config.kind before.limit)
  pub reply_is : r ≡ reply_to moved 0
