use Rattle.std.proofs.Common.{rules, arith}
use Rattle.std.proofs.lemmas.Grind.{common_steps}
use Rattle.genie_replay.proofs.Reading.{line_cut, line_end, line_last, line_done, line_long, line_to}
use Rattle.genie_replay.proofs.script.Script.next_line.Goals as goal

pub returns-then-is_empty-clause-line : goal.returns-then-is_empty-clause-line
returns-then-is_empty-clause-line g c =
    let at_end = rw c.in-Ok-None.field-0-is at c.in-Ok-None.ensures in
    (line_end _ _ _ _ c.bytes.line c.bytes.invariant.taken at_end.bytes (grind (arith, common_steps))).0

pub returns-then-is_empty-clause-taken : goal.returns-then-is_empty-clause-taken
returns-then-is_empty-clause-taken g c =
    let at_end = rw c.in-Ok-None.field-0-is at c.in-Ok-None.ensures in
    (line_end _ _ _ _ c.bytes.line c.bytes.invariant.taken at_end.bytes (grind (arith, common_steps))).1

pub returns-in-Ok-None-clause-line : goal.returns-in-Ok-None-clause-line
returns-in-Ok-None-clause-line g c =
    let at_end = rw c.in-Ok-None.field-0-is at c.in-Ok-None.ensures in
    (line_last _ _ _ _ c.bytes.line c.bytes.invariant.taken c.bytes.invariant.plain c.bytes.invariant.short at_end.bytes (grind (arith, common_steps))).0

pub returns-in-Ok-None-clause-taken : goal.returns-in-Ok-None-clause-taken
returns-in-Ok-None-clause-taken g c =
    let at_end = rw c.in-Ok-None.field-0-is at c.in-Ok-None.ensures in
    (line_last _ _ _ _ c.bytes.line c.bytes.invariant.taken c.bytes.invariant.plain c.bytes.invariant.short at_end.bytes (grind (arith, common_steps))).1

pub returns-then-byte-eq10-clause-line : goal.returns-then-byte-eq10-clause-line
returns-then-byte-eq10-clause-line g c =
    let taken = rw c.in-Ok-Some.field-0-is at c.in-Ok-Some.ensures in
    (line_done _ _ _ _ c.bytes.line _ c.bytes.invariant.taken c.bytes.invariant.plain c.bytes.invariant.short taken.bytes (search rules)).0

pub returns-then-byte-eq10-clause-taken : goal.returns-then-byte-eq10-clause-taken
returns-then-byte-eq10-clause-taken g c =
    let taken = rw c.in-Ok-Some.field-0-is at c.in-Ok-Some.ensures in
    (line_done _ _ _ _ c.bytes.line _ c.bytes.invariant.taken c.bytes.invariant.plain c.bytes.invariant.short taken.bytes (search rules)).1

pub returns-then-len-eq-LONGEST_LINE-clause-line : goal.returns-then-len-eq-LONGEST_LINE-clause-line
returns-then-len-eq-LONGEST_LINE-clause-line g c =
    let taken = rw c.in-Ok-Some.field-0-is at c.in-Ok-Some.ensures in
    (line_long _ _ _ _ c.bytes.line _ c.bytes.invariant.taken c.bytes.invariant.plain (search rules) taken.bytes (search rules)).0

pub returns-then-len-eq-LONGEST_LINE-clause-taken : goal.returns-then-len-eq-LONGEST_LINE-clause-taken
returns-then-len-eq-LONGEST_LINE-clause-taken g c =
    let taken = rw c.in-Ok-Some.field-0-is at c.in-Ok-Some.ensures in
    (line_long _ _ _ _ c.bytes.line _ c.bytes.invariant.taken c.bytes.invariant.plain (search rules) taken.bytes (search rules)).1

pub returns-in-Err-clause-taken : goal.returns-in-Err-clause-taken
returns-in-Err-clause-taken g c = line_cut _ _ _ _ _ c.bytes.line c.bytes.invariant.taken c.in-Err.ensures.bytes

pub bytes-preserved : goal.bytes-preserved
bytes-preserved g c =
    let taken = rw c.in-Ok-Some.field-0-is at c.in-Ok-Some.ensures in
    line_to c.args.handle _ _ _ _ _ _ _ _ _ c.bytes.line c.push.new.self _ c.bytes.invariant taken.only taken.cause.kept taken.bytes (search rules) (search rules) c.push.ensures (rw c.len.ensures.count at taken.ahead)
