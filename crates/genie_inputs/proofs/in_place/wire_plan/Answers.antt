use Rattle.std.proofs.Common.{◌<◌, List, subst}
use Rattle.genie_frame.specs.declared.frame.InLoan.{InLoan}
use Rattle.genie_plan.specs.Plans.{times, input_frames}
use Rattle.genie_inputs.proofs.in_place.wire_plan.Goals as goal

pub wire_inputs-requires-clause-there : goal.wire_inputs-requires-clause-there
wire_inputs-requires-clause-there c = λ f l. c.requires.there f (subst (λ (loans : List InLoan). 0 < times (input_frames loans) f) c.as_slice.ensures.value l)
