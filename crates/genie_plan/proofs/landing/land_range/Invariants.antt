use Rattle.std.proofs.Common.{length, ◌-◌}
use Rattle.genie_plan.specs.Plans.{input_frames}
use Rattle.genie_plan.specs.Lemmas.Ranges.{Landed}
use Rattle.genie_plan.proofs.landing.land_range.Given as goal

abbrev pub invariant-pieces : goal.invariant-pieces
invariant-pieces l = Landed (input_frames l.loans) l.first l.len l.at l.bytes l.initial.frames l.frames l.done

abbrev pub decreases-pieces : goal.decreases-pieces
decreases-pieces l = length l.bytes - l.done
