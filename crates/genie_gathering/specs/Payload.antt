-- The payload part of a receive step, on a device with buffers of its own.
use Rattle.std.specs.Prelude.{◌≡◌, ℕ, ◌+◌, ◌==◌, Bool, true, false, List, Option, None, Some, IfSome, IsSome, slice_set, if◌then◌else◌}
use Rattle.genie_base.specs.declared.reply.Reply.{Reply}
use Rattle.genie_base.specs.declared.reply.Reply.TheVariants as reply
use Rattle.genie_host.specs.Host.{HostView}
use Rattle.genie_device.specs.Device.{DeviceView, IsReading, handle_of, is_outboard, left_of, moved_of, after_body}
use Rattle.genie_device.specs.Kept.{IsAllowed, AreBuffers}
use Rattle.genie_device.specs.Receiving.{TakesPayload}
use Rattle.genie_device.specs.declared.steps.BodyEnd.{BodyEnd}
use Rattle.genie_device.specs.declared.steps.BodyEnd.TheVariants.{More, Whole, Truncated, Faulted}
use Rattle.genie_model.specs.Tables.{entry}
use Rattle.genie_gathering.specs.declared.payload.Course.{Course}
use Rattle.genie_gathering.specs.declared.payload.Course.TheVariants.{GoesOn, Ends, IsTruncated}
use Rattle.genie_gathering.specs.declared.payload.Moved.{Moved}

-- what a step of a payload leaves of its datagram, behind h bytes of its header
abbrev pub course_of : BodyEnd → ℕ → Course
course_of More h = GoesOn
course_of Whole h = Ends
course_of Truncated h = if h == 0 then IsTruncated else GoesOn
course_of Faulted h = GoesOn

abbrev pub is_faulted : BodyEnd → Bool
is_faulted More = false
is_faulted Whole = false
is_faulted Truncated = false
is_faulted Faulted = true

-- what it answers where the datagram goes on
abbrev pub reply_to : Moved → ℕ → Reply
reply_to moved h = if moved.faulted then reply.Fault (h + moved.bytes) else reply.Got (h + moved.bytes)

-- a datagram is present in an outboard device whose input is open
pub record MayMoveIn (v : DeviceView) (host : HostView) : Type 0 where
  pub outboard : is_outboard v.config.kind ≡ true
  pub present : IsSome v.present
  pub reading : IsReading v.config.input host

abbrev pub MayMove : Option DeviceView → HostView → Type 0
MayMove None host = ⊥
MayMove (Some v) host = MayMoveIn v host

-- payload bytes are taken from the input and stand in the buffer that the datagram fills
pub record MovesPayload (h n : ℕ) (old new : HostView) (before after : DeviceView) (moved : Moved) : Type 0 where
  pub taken : List ℕ
  pub end : BodyEnd
  pub takes : TakesPayload (handle_of before.config.input) (left_of before.present) n old new taken moved.bytes end
  pub device : after ≡ after_body taken before
  pub course : moved.course ≡ course_of end h
  pub so_far : moved.so_far ≡ moved_of after.present
  pub faulted : moved.faulted ≡ is_faulted end
  pub allowed : IfSome before.present (IsAllowed before.config.kind before.limit)
  pub buffers : AreBuffers before.limit before.present before.buffers

-- so it is at device d
pub record MovesAt (d h n : ℕ) (old new : HostView) (devices devices_now : List (Option DeviceView)) (moved : Moved) : Type 0 where
  pub before : DeviceView
  pub after : DeviceView
  pub there : entry devices d ≡ Some before
  pub moves : MovesPayload h n old new before after moved
  pub only : devices_now ≡ slice_set devices d (Some after)
