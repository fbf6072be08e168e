use Rattle.std.proofs.Common.{◌≡◌, true, arith}
use Rattle.genie_script.specs.Judge.{is_device_text}
use Rattle.genie_replay.proofs.Boots.{adding_device, adding_passed, devices_refused}
use Rattle.genie_replay.proofs.booting.read_devices.Goals.{in-Passed, in-Taken+in-Ok}
use Rattle.genie_replay.proofs.booting.read_devices.Goals as goal

pub returns-in-Ends-clause-devices : goal.returns-in-Ends-clause-devices
returns-in-Ends-clause-devices g c =
    let read = rw c.in-Ok-Line.field-0-is at c.in-Ok-Line.ensures in
    let is : is_device_text c.next_line.new.line ≡ true = grind (arith, c.as_slice.ensures.bytes, c.is_device_line.ensures, c.if-not-is_device_line.false) in
    let said = rw c.as_slice-in-lines.ensures.bytes at c.in-Ends.ensures.said in
    devices_refused _ _ c.args.name.now c.args.part c.args.before _ _ _ c.next_line.new.line c.lines.part c.lines.at c.in-Ends.ending c.lines.invariant.same read.line c.lines-test.true is said

pub lines-preserved : goal.lines-preserved
lines-preserved g c =
    let so = c.lines.invariant in
    let read = rw c.in-Ok-Line.field-0-is at c.in-Ok-Line.ensures in
    let is : is_device_text c.next_line.new.line ≡ true = grind (arith, c.as_slice.ensures.bytes, c.is_device_line.ensures, c.if-not-is_device_line.false) in
    elim c.match-judge_device.branch [
      | in-Passed w ↦
          let said = rw c.as_slice-in-lines.ensures.bytes at w.in-Passed.ensures.said in
          rw w.part-is (adding_passed _ c.args.name.now c.args.part c.args.before _ _ _ _ _ _ c.next_line.new.line c.lines.part c.lines.at so read.only read.cause.kept read.line c.lines-test.true is said)
      | in-Taken+in-Ok w ↦
          let said = rw c.as_slice-in-lines.ensures.bytes at w.in-Taken.ensures.said in
          rw w.part-is (adding_device _ c.args.name.now c.args.part c.args.before _ _ _ _ _ _ c.next_line.new.line c.lines.part _ c.lines.at w.in-Taken.device so read.only read.cause.kept read.line c.lines-test.true is said w.in-Ok.ensures.added w.in-Taken.ensures.place)
    ]
