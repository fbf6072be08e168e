use Rattle.std.proofs.Common.{◌+◌, ◌∙◌, ap}
use Rattle.std.specs.Io.KnownBytes.{prepend_known}
use Rattle.genie_host.specs.Host.{HandleState}
use Rattle.genie_script.specs.declared.judge.Ending.TheVariants as ending
use Rattle.genie_replay.specs.Lemmas.Remaining.{LeftText, left_end, left_ended, left_long, left_many, left_next, left_none, left_passed, left_read, left_taken, some_left_text}
use Rattle.genie_playing.specs.Lemmas.Readying.{ready_kept}
use Rattle.genie_playing.proofs.Exits.{at_ending, at_host, at_stop, at_unread, config_stop, leaves_ending, leaves_stop, leaves_unread, leaves_unwritten, stopped_ended, stopped_host}
use Rattle.genie_playing.proofs.Playing.{line_kept, now_apart, so_none, so_read, so_room, so_taken}
use Rattle.genie_playing.proofs.play.play.Goals as goal

pub lines-init : goal.lines-init
lines-init g c = so_none _ _ c.args.before _ c.requires.ready c.requires.fresh (left_none _ c.args.step c.args.line.now c.args.before)

pub take_line-requires-clause-ready : goal.take_line-requires-clause-ready
take_line-requires-clause-ready g c = c.lines.invariant.ready

pub take_line-requires-clause-room : goal.take_line-requires-clause-room
take_line-requires-clause-room g c = so_room _ _ _ c.lines.at _ c.lines-test.true c.lines.invariant

pub returns-in-End-clause-ready : goal.returns-in-End-clause-ready
returns-in-End-clause-ready g c = c.lines.invariant.ready

pub returns-in-End-clause-played : goal.returns-in-End-clause-played
returns-in-End-clause-played g c =
    let so = c.lines.invariant in
    at_ending _ ending.End _ c.args.step c.args.line.now c.args.before _ _ c.lines.at _ so (left_end _ _ c.args.step c.args.line.now c.lines.line c.args.before c.lines.at so.done (rw c.in-End.is at so.left))

pub returns-in-End-clause-config : goal.returns-in-End-clause-config
returns-in-End-clause-config g c = c.lines.invariant.config

pub returns-in-End-clause-leaves : goal.returns-in-End-clause-leaves
returns-in-End-clause-leaves g c = leaves_ending _ ending.End _ _ c.lines.at _ c.lines.invariant

pub returns-in-TooLong-clause-ready : goal.returns-in-TooLong-clause-ready
returns-in-TooLong-clause-ready g c = c.lines.invariant.ready

pub returns-in-TooLong-clause-played : goal.returns-in-TooLong-clause-played
returns-in-TooLong-clause-played g c =
    let so = c.lines.invariant in
    at_ending _ ending.TooLong _ c.args.step c.args.line.now c.args.before _ _ c.lines.at _ so (left_long _ _ c.args.step c.args.line.now c.lines.line c.args.before c.lines.at so.done (rw c.in-TooLong.is at so.left))

pub returns-in-TooLong-clause-config : goal.returns-in-TooLong-clause-config
returns-in-TooLong-clause-config g c = c.lines.invariant.config

pub returns-in-TooLong-clause-leaves : goal.returns-in-TooLong-clause-leaves
returns-in-TooLong-clause-leaves g c = leaves_ending _ ending.TooLong _ _ c.lines.at _ c.lines.invariant

pub returns-in-Err-Ended-clause-played : goal.returns-in-Err-Ended-clause-played
returns-in-Err-Ended-clause-played g c =
    let so = c.lines.invariant in
    let e = c.in-Err-Ended.ending in
    let stop = stopped_ended _ _ _ _ e (rw (c.as_slice.ensures.bytes, c.in-Err-Ended.field-0-is) at c.in-Err-Ended.ensures.takes) in
    let none = left_ended _ _ c.args.step c.args.line.now c.lines.line c.args.before c.lines.at so.done e c.lines-test.true (rw c.in-Line.is at so.left) stop.0 in
    at_stop _ e _ _ c.args.step c.args.line.now c.args.before _ _ _ c.lines.at _ (rw c.in-Err-Ended.field-0-is at c.of.ensures) stop.1 so none

pub returns-in-Err-Ended-clause-config : goal.returns-in-Err-Ended-clause-config
returns-in-Err-Ended-clause-config g c =
    let stop = stopped_ended _ _ _ _ c.in-Err-Ended.ending (rw (c.as_slice.ensures.bytes, c.in-Err-Ended.field-0-is) at c.in-Err-Ended.ensures.takes) in
    config_stop _ _ _ _ c.lines.at _ stop.1 c.lines.invariant

pub returns-in-Err-Ended-clause-leaves : goal.returns-in-Err-Ended-clause-leaves
returns-in-Err-Ended-clause-leaves g c =
    let stop = stopped_ended _ _ _ _ c.in-Err-Ended.ending (rw (c.as_slice.ensures.bytes, c.in-Err-Ended.field-0-is) at c.in-Err-Ended.ensures.takes) in
    leaves_stop _ c.in-Err-Ended.ending _ _ _ _ c.lines.at _ (rw c.in-Err-Ended.field-0-is at c.of.ensures) stop.1 c.lines.invariant

pub returns-in-Err-Host-clause-played : goal.returns-in-Err-Host-clause-played
returns-in-Err-Host-clause-played g c =
    let so = c.lines.invariant in
    let stop = stopped_host _ _ _ _ (rw (c.as_slice.ensures.bytes, c.in-Err-Host.field-0-is) at c.in-Err-Host.ensures.takes) in
    at_host _ _ c.args.step c.args.line.now c.args.before _ _ _ c.lines.at _ stop.event so stop.how
    (left_next _ _ c.args.step c.args.line.now c.lines.line c.args.before c.lines.at so.done stop.event c.lines-test.true (rw c.in-Line.is at so.left) stop.is)

pub returns-in-Err-Host-clause-config : goal.returns-in-Err-Host-clause-config
returns-in-Err-Host-clause-config g c =
    let stop = stopped_host _ _ _ _ (rw (c.as_slice.ensures.bytes, c.in-Err-Host.field-0-is) at c.in-Err-Host.ensures.takes) in
    stop.how.steps.serves.config ∙ c.lines.invariant.config

pub returns-in-Err-Host-clause-leaves : goal.returns-in-Err-Host-clause-leaves
returns-in-Err-Host-clause-leaves g c =
    let stop = stopped_host _ _ _ _ (rw (c.as_slice.ensures.bytes, c.in-Err-Host.field-0-is) at c.in-Err-Host.ensures.takes) in
    leaves_unwritten _ _ _ _ c.lines.at _ stop.event c.lines.invariant stop.how

pub returns-in-Err-clause-ready : goal.returns-in-Err-clause-ready
returns-in-Err-clause-ready g c = ready_kept 1 _ _ _ _ c.in-Err.ensures.only c.take_line.ensures.ready

pub returns-in-Err-clause-played : goal.returns-in-Err-clause-played
returns-in-Err-clause-played g c =
    let taken = rw c.as_slice.ensures.bytes at c.in-Ok.ensures.takes in
    let so = so_taken _ _ _ _ _ c.lines.at _ (LeftText _ _ c.args.step c.args.line.now c.args.before (c.lines.at + 1)) _ c.lines.invariant taken c.take_line.ensures.ready
    (λ done l e. left_passed _ _ c.args.step c.args.line.now c.lines.line c.args.before c.lines.at done c.lines-test.true (rw c.in-Line.is at l) e)
    (λ done ev l e. left_taken _ _ c.args.step c.args.line.now c.lines.line c.args.before c.lines.at done ev c.lines-test.true (rw c.in-Line.is at l) e) in
    at_unread _ _ c.args.step c.args.line.now c.args.before _ _ _ _ _ so c.in-Err.ensures.only c.in-Err.ensures.cause.later (some_left_text _ _ c.args.step c.args.line.now c.args.before _ so.done so.left)

pub returns-in-Err-clause-config : goal.returns-in-Err-clause-config
returns-in-Err-clause-config g c =
    let taken = rw c.as_slice.ensures.bytes at c.in-Ok.ensures.takes in
    let so = so_taken _ _ _ _ _ c.lines.at _ (LeftText _ _ c.args.step c.args.line.now c.args.before (c.lines.at + 1)) _ c.lines.invariant taken c.take_line.ensures.ready
    (λ done l e. left_passed _ _ c.args.step c.args.line.now c.lines.line c.args.before c.lines.at done c.lines-test.true (rw c.in-Line.is at l) e)
    (λ done ev l e. left_taken _ _ c.args.step c.args.line.now c.lines.line c.args.before c.lines.at done ev c.lines-test.true (rw c.in-Line.is at l) e) in
    so.config

pub returns-in-Err-clause-leaves : goal.returns-in-Err-clause-leaves
returns-in-Err-clause-leaves g c =
    let taken = rw c.as_slice.ensures.bytes at c.in-Ok.ensures.takes in
    let so = so_taken _ _ _ _ _ c.lines.at _ (LeftText _ _ c.args.step c.args.line.now c.args.before (c.lines.at + 1)) _ c.lines.invariant taken c.take_line.ensures.ready
    (λ done l e. left_passed _ _ c.args.step c.args.line.now c.lines.line c.args.before c.lines.at done c.lines-test.true (rw c.in-Line.is at l) e)
    (λ done ev l e. left_taken _ _ c.args.step c.args.line.now c.lines.line c.args.before c.lines.at done ev c.lines-test.true (rw c.in-Line.is at l) e) in
    leaves_unread _ _ _ _ _ _ so c.in-Err.ensures.only c.in-Err.ensures.cause.failed

pub lines-preserved : goal.lines-preserved
lines-preserved g c =
    let taken = rw c.as_slice.ensures.bytes at c.in-Ok.ensures.takes in
    let so = so_taken _ _ _ _ _ c.lines.at _ (LeftText _ _ c.args.step c.args.line.now c.args.before (c.lines.at + 1)) _ c.lines.invariant taken c.take_line.ensures.ready
    (λ done l e. left_passed _ _ c.args.step c.args.line.now c.lines.line c.args.before c.lines.at done c.lines-test.true (rw c.in-Line.is at l) e)
    (λ done ev l e. left_taken _ _ c.args.step c.args.line.now c.lines.line c.args.before c.lines.at done ev c.lines-test.true (rw c.in-Line.is at l) e) in
    let kept = line_kept _ _ _ _ _ (now_apart _ _ _ c.lines.at _ c.lines.invariant) taken in
    let line = rw (ap (λ (h : HandleState). prepend_known c.lines.script h.bytes) kept) at c.in-Ok-next_line.ensures.line in
    so_read _ _ _ _ _ _ _ so c.in-Ok-next_line.ensures.only c.in-Ok-next_line.ensures.cause.kept (λ done l. left_read _ _ _ _ c.args.step c.args.line.now c.in-Ok-next_line.step c.next_line.new.line c.args.before _ done line l)

pub returns-in-End-step-clause-ready : goal.returns-in-End-step-clause-ready
returns-in-End-step-clause-ready g c = c.lines.invariant.ready

pub returns-in-End-step-clause-played : goal.returns-in-End-step-clause-played
returns-in-End-step-clause-played g c =
    let so = c.lines.invariant in
    at_ending _ ending.End _ c.args.step c.args.line.now c.args.before _ _ c.lines.at _ so (left_end _ _ c.args.step c.args.line.now c.lines.line c.args.before c.lines.at so.done (rw c.in-End-step.is at so.left))

pub returns-in-End-step-clause-config : goal.returns-in-End-step-clause-config
returns-in-End-step-clause-config g c = c.lines.invariant.config

pub returns-in-End-step-clause-leaves : goal.returns-in-End-step-clause-leaves
returns-in-End-step-clause-leaves g c = leaves_ending _ ending.End _ _ c.lines.at _ c.lines.invariant

pub returns-in-Line-step-clause-ready : goal.returns-in-Line-step-clause-ready
returns-in-Line-step-clause-ready g c = c.lines.invariant.ready

pub returns-in-Line-step-clause-played : goal.returns-in-Line-step-clause-played
returns-in-Line-step-clause-played g c =
    let so = c.lines.invariant in
    at_ending _ ending.TooLong _ c.args.step c.args.line.now c.args.before _ _ c.lines.at _ so (left_many _ _ c.args.step c.args.line.now c.lines.line c.args.before c.lines.at so.done c.lines-test.false (rw c.in-Line-step.is at so.left))

pub returns-in-Line-step-clause-config : goal.returns-in-Line-step-clause-config
returns-in-Line-step-clause-config g c = c.lines.invariant.config

pub returns-in-Line-step-clause-leaves : goal.returns-in-Line-step-clause-leaves
returns-in-Line-step-clause-leaves g c = leaves_ending _ ending.TooLong _ _ c.lines.at _ c.lines.invariant

pub returns-in-TooLong-step-clause-ready : goal.returns-in-TooLong-step-clause-ready
returns-in-TooLong-step-clause-ready g c = c.lines.invariant.ready

pub returns-in-TooLong-step-clause-played : goal.returns-in-TooLong-step-clause-played
returns-in-TooLong-step-clause-played g c =
    let so = c.lines.invariant in
    at_ending _ ending.TooLong _ c.args.step c.args.line.now c.args.before _ _ c.lines.at _ so (left_long _ _ c.args.step c.args.line.now c.lines.line c.args.before c.lines.at so.done (rw c.in-TooLong-step.is at so.left))

pub returns-in-TooLong-step-clause-config : goal.returns-in-TooLong-step-clause-config
returns-in-TooLong-step-clause-config g c = c.lines.invariant.config

pub returns-in-TooLong-step-clause-leaves : goal.returns-in-TooLong-step-clause-leaves
returns-in-TooLong-step-clause-leaves g c = leaves_ending _ ending.TooLong _ _ c.lines.at _ c.lines.invariant
