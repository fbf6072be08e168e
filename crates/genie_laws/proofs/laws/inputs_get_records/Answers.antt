-- What devices take of their input.
use Rattle.genie_laws.proofs.Streams.Runs.{inputs_get_records}
use Rattle.genie_laws.proofs.laws.inputs_get_records.Goals as goal

pub returns : goal.returns
returns c = inputs_get_records c.boot_is_orderly.ensures c.steps_stay_orderly.ensures
