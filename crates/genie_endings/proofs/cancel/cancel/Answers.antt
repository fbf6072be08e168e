use Rattle.genie_endings.proofs.Phases.{cancel_pending}
use Rattle.genie_endings.proofs.cancel.cancel.Goals as goal

pub class_of_call-requires : goal.class_of_call-requires
class_of_call-requires c = cancel_pending c.args.kernel.now c.args.id c.requires.accepted
