use Rattle.genie_plan.specs.Plans.{input_frames}
use Rattle.genie_plan.specs.Lemmas.Fresh.{FreshSoFar}
use Rattle.genie_plan.proofs.buffer.lend_fresh.Given as goal

abbrev pub invariant-each : goal.invariant-each
invariant-each g l = FreshSoFar l.owner (input_frames l.loans.items) l.i l.initial.frames l.frames
