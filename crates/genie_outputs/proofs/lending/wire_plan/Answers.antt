use Rattle.std.proofs.Common.{List, ◌<◌, subst}
use Rattle.genie_frame.specs.declared.frame.OutLoan.{OutLoan}
use Rattle.genie_plan.specs.Plans.{output_frames, times}
use Rattle.genie_outputs.proofs.lending.wire_plan.Goals as goal

pub wire_outputs-requires-clause-there : goal.wire_outputs-requires-clause-there
wire_outputs-requires-clause-there c = λ f l. c.requires.there f (subst (λ (z : List OutLoan). 0 < times (output_frames z) f) c.as_slice.ensures.value l)
