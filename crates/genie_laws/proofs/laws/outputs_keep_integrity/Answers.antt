-- What a device has sent is a front of the records of its accepted outputs.
use Rattle.genie_laws.proofs.Outputs.Sent.{outputs_keep_integrity}
use Rattle.genie_laws.proofs.laws.outputs_keep_integrity.Goals as goal

pub returns : goal.returns
returns c = outputs_keep_integrity c.boot_is_orderly.ensures c.steps_stay_orderly.ensures
