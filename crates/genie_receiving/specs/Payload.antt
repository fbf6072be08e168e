-- The payload part of a receive step, on a device.
use Rattle.std.specs.Prelude.{◌≡◌, ℕ, ◌+◌, List, length}
use Rattle.genie_host.specs.Host.{HostView}
use Rattle.genie_device.specs.Device.{DeviceView, handle_of, left_of, moved_of, buffer_of, landing_after, after_body}
use Rattle.genie_device.specs.Receiving.{TakesPayload}
use Rattle.genie_device.specs.declared.steps.BodyEnd.{BodyEnd}
use Rattle.genie_receiving.specs.declared.payload.Moved.{Moved}
use Rattle.genie_receiving.specs.Course.{course_of, ended, is_faulted}

-- payload bytes are taken from the input and stand in the landing, behind h bytes of the header in the same step; and the
-- datagram is over where it has ended
pub record MovesPayload (h n : ℕ) (old new : HostView) (before after : DeviceView) (content content_now : List ℕ) (moved : Moved) : Type 0 where
  pub taken : List ℕ
  pub end : BodyEnd
  pub takes : TakesPayload (handle_of before.config.input) (left_of before.present) n old new taken moved.bytes end
  pub landed : content_now ≡ landing_after (buffer_of before.present) (moved_of before.present) taken content
  pub device : after ≡ ended (course_of end h) (after_body taken before)
  pub course : moved.course ≡ course_of end h
  pub so_far : moved.so_far ≡ moved_of before.present + length taken
  pub faulted : moved.faulted ≡ is_faulted end
