use Rattle.std.specs.Prelude.{◌-◌}
use Rattle.genie_plan.specs.Plans.{input_frames}
use Rattle.genie_finish.proofs.Copying.{CopiedSoFar}
use Rattle.genie_finish.proofs.copy.copy_range.Given as goal

abbrev pub invariant-pieces : goal.invariant-pieces
invariant-pieces l = CopiedSoFar l.fn.memory l.memory l.range.object.0 l.range.off l.range.len l.first (input_frames l.loans) l.done

abbrev pub decreases-pieces : goal.decreases-pieces
decreases-pieces l = l.range.len - l.done
