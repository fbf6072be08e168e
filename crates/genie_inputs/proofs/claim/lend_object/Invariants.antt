use Rattle.genie_plan.specs.Plans.{input_frames}
use Rattle.genie_inputs.proofs.Claimed.{ClaimedSoFar}
use Rattle.genie_inputs.proofs.claim.lend_object.Given as goal

abbrev pub invariant-entries : goal.invariant-entries
invariant-entries l = ClaimedSoFar l.id.0 l.object.0 (input_frames l.loans.items) l.index l.fn.memory l.memory
