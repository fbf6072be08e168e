use Rattle.std.specs.Prelude.{take}
use Rattle.genie_plan.specs.Plans.{input_frames}
use Rattle.genie_input.specs.Pools.{AreFreed}
use Rattle.genie_input.proofs.pool.end_loans.Given as goal

abbrev pub invariant-each : goal.invariant-each
invariant-each l = AreFreed (take l.i (input_frames l.loans)) l.initial.frames l.frames
