use Rattle.std.proofs.Common.{◌+◌, ap}
use Rattle.std.specs.Io.KnownBytes.{prepend_known}
use Rattle.genie_host.specs.Host.{HandleState}
use Rattle.genie_script.specs.declared.judge.Ending.TheVariants as ending
use Rattle.genie_replay.proofs.Exits.{at_ending, at_host, at_memory, at_unread, stopped_ended, stopped_host, stopped_memory}
use Rattle.genie_replay.specs.Lemmas.Remaining.{LeftText, left_end, left_ended, left_long, left_many, left_next, left_none, left_passed, left_read, left_taken, some_left, some_left_text}
use Rattle.genie_replay.proofs.Stepping.{script_kept, so_far_none, so_read, so_taken}
use Rattle.genie_replay.proofs.play.play.Goals as goal

pub lines-init : goal.lines-init
lines-init g c = so_far_none c.args.flat.now _ c.args.before _ c.requires.machine c.requires.first (left_none _ c.args.step c.args.line.now c.args.before)

pub returns-in-Err-Host-clause-played : goal.returns-in-Err-Host-clause-played
returns-in-Err-Host-clause-played g c =
    let so = c.lines.invariant in
    let stop = stopped_host _ so.run.last _ _ _ (rw (c.as_slice.ensures.bytes, c.in-Err-Host.field-0-is, so.machine_is) at c.in-Err-Host.ensures) in
    at_host _ c.args.step c.args.line.now c.args.before _ _ _ _ _ _ c.lines.at _ stop.event so stop.how
    (left_next _ _ c.args.step c.args.line.now c.lines.line c.args.before c.lines.at so.done stop.event c.lines-test.true (rw c.in-Line.is at so.left) stop.is)

pub returns-in-Err-Memory-clause-played : goal.returns-in-Err-Memory-clause-played
returns-in-Err-Memory-clause-played g c =
    let so = c.lines.invariant in
    let stop = stopped_memory _ so.run.last _ _ _ (rw (c.as_slice.ensures.bytes, c.in-Err-Memory.field-0-is, so.machine_is) at c.in-Err-Memory.ensures) in
    at_memory _ c.args.step c.args.line.now c.args.before _ _ _ _ _ _ c.lines.at _ so stop (some_left _ _ c.args.step c.args.line.now c.lines.step c.lines.line c.args.before c.lines.at so.done so.left)

pub returns-in-Err-clause-played : goal.returns-in-Err-clause-played
returns-in-Err-clause-played g c =
    let taken = rw c.as_slice.ensures.bytes at c.in-Ok.ensures in
    let so = so_taken _ _ _ _ _ _ _ c.lines.at _ (LeftText _ _ c.args.step c.args.line.now c.args.before (c.lines.at + 1)) _ c.lines.invariant taken
    (λ done l e. left_passed _ _ c.args.step c.args.line.now c.lines.line c.args.before c.lines.at done c.lines-test.true (rw c.in-Line.is at l) e)
    (λ done ev l e. left_taken _ _ c.args.step c.args.line.now c.lines.line c.args.before c.lines.at done ev c.lines-test.true (rw c.in-Line.is at l) e) in
    at_unread _ c.args.step c.args.line.now c.args.before _ _ _ _ _ _ _ so c.in-Err.ensures.only c.in-Err.ensures.cause.later (some_left_text _ _ c.args.step c.args.line.now c.args.before _ so.done so.left)

pub lines-preserved : goal.lines-preserved
lines-preserved g c =
    let taken = rw c.as_slice.ensures.bytes at c.in-Ok.ensures in
    let so = so_taken _ _ _ _ _ _ _ c.lines.at _ (LeftText _ _ c.args.step c.args.line.now c.args.before (c.lines.at + 1)) _ c.lines.invariant taken
    (λ done l e. left_passed _ _ c.args.step c.args.line.now c.lines.line c.args.before c.lines.at done c.lines-test.true (rw c.in-Line.is at l) e)
    (λ done ev l e. left_taken _ _ c.args.step c.args.line.now c.lines.line c.args.before c.lines.at done ev c.lines-test.true (rw c.in-Line.is at l) e) in
    let kept = script_kept _ _ _ _ _ _ taken in
    let line = rw (ap (λ (h : HandleState). prepend_known c.lines.script h.bytes) kept) at c.in-Ok-next_line.ensures.line in
    so_read _ _ _ _ _ _ _ _ so c.in-Ok-next_line.ensures.only c.in-Ok-next_line.ensures.cause.kept (λ done l. left_read _ _ _ _ c.args.step c.args.line.now c.in-Ok-next_line.step c.next_line.new.line c.args.before _ done line l)

pub returns-in-End-clause-played : goal.returns-in-End-clause-played
returns-in-End-clause-played g c =
    let so = c.lines.invariant in
    at_ending ending.End _ c.args.step c.args.line.now c.args.before _ _ _ _ c.lines.at _ so (left_end _ _ c.args.step c.args.line.now c.lines.line c.args.before c.lines.at so.done (rw c.in-End.is at so.left))

pub returns-in-TooLong-clause-played : goal.returns-in-TooLong-clause-played
returns-in-TooLong-clause-played g c =
    let so = c.lines.invariant in
    at_ending ending.TooLong _ c.args.step c.args.line.now c.args.before _ _ _ _ c.lines.at _ so (left_long _ _ c.args.step c.args.line.now c.lines.line c.args.before c.lines.at so.done (rw c.in-TooLong.is at so.left))

pub returns-in-Err-Ended-clause-played : goal.returns-in-Err-Ended-clause-played
returns-in-Err-Ended-clause-played g c =
    let so = c.lines.invariant in
    let e = c.in-Err-Ended.ending in
    let stop = stopped_ended _ so.run.last _ _ _ e (rw (c.as_slice.ensures.bytes, c.in-Err-Ended.field-0-is, so.machine_is) at c.in-Err-Ended.ensures) in
    let none = left_ended _ _ c.args.step c.args.line.now c.lines.line c.args.before c.lines.at so.done e c.lines-test.true (rw c.in-Line.is at so.left) stop.0 in
    rw (c.of.ensures, stop.1.machine_is, ← so.machine_is, stop.1.host) (at_ending e _ c.args.step c.args.line.now c.args.before _ _ _ _ c.lines.at _ so none)

pub returns-in-End-step-clause-played : goal.returns-in-End-step-clause-played
returns-in-End-step-clause-played g c =
    let so = c.lines.invariant in
    at_ending ending.End _ c.args.step c.args.line.now c.args.before _ _ _ _ c.lines.at _ so (left_end _ _ c.args.step c.args.line.now c.lines.line c.args.before c.lines.at so.done (rw c.in-End-step.is at so.left))

pub returns-in-Line-step-clause-played : goal.returns-in-Line-step-clause-played
returns-in-Line-step-clause-played g c =
    let so = c.lines.invariant in
    at_ending ending.TooLong _ c.args.step c.args.line.now c.args.before _ _ _ _ c.lines.at _ so (left_many _ _ c.args.step c.args.line.now c.lines.line c.args.before c.lines.at so.done c.lines-test.false (rw c.in-Line-step.is at so.left))

pub returns-in-TooLong-step-clause-played : goal.returns-in-TooLong-step-clause-played
returns-in-TooLong-step-clause-played g c =
    let so = c.lines.invariant in
    at_ending ending.TooLong _ c.args.step c.args.line.now c.args.before _ _ _ _ c.lines.at _ so (left_long _ _ c.args.step c.args.line.now c.lines.line c.args.before c.lines.at so.done (rw c.in-TooLong-step.is at so.left))
