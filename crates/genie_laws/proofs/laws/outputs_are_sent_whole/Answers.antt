-- What a device has sent whole.
use Rattle.genie_laws.proofs.Outputs.Whole.{outputs_are_sent_whole}
use Rattle.genie_laws.proofs.laws.outputs_are_sent_whole.Goals as goal

pub returns : goal.returns
returns c = outputs_are_sent_whole c.boot_is_orderly.ensures c.steps_stay_orderly.ensures c.runs_stay_orderly.ensures
