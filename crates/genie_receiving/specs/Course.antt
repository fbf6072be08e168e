-- What a step of a payload leaves of its datagram.
use Rattle.std.specs.Prelude.{ℕ, ◌==◌, Bool, true, false, if◌then◌else◌}
use Rattle.genie_device.specs.Device.{DeviceView, finished}
use Rattle.genie_device.specs.declared.steps.BodyEnd.{BodyEnd}
use Rattle.genie_device.specs.declared.steps.BodyEnd.TheVariants.{More, Whole, Truncated, Faulted}
use Rattle.genie_receiving.specs.declared.course.Course.{Course}
use Rattle.genie_receiving.specs.declared.course.Course.TheVariants.{GoesOn, Ends, IsTruncated}

-- behind h bytes of its header
abbrev pub course_of : BodyEnd → ℕ → Course
course_of More h = GoesOn
course_of Whole h = Ends
course_of Truncated h = if h == 0 then IsTruncated else GoesOn
course_of Faulted h = GoesOn

abbrev pub is_faulted : BodyEnd → Bool
is_faulted More = false
is_faulted Whole = false
is_faulted Truncated = false
is_faulted Faulted = true

-- the device without the datagram, where that is over
abbrev pub ended : Course → DeviceView → DeviceView
ended GoesOn v = v
ended Ends v = finished v
ended IsTruncated v = finished v
