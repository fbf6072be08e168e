-- Every state that a run reaches is orderly, and integrity is kept.
use Rattle.genie_runs.proofs.Reached.{runs_are_sound}
use Rattle.genie_runs.proofs.laws.runs_are_sound.Goals as goal

pub returns : goal.returns
returns c = runs_are_sound c.runs_stay_orderly.ensures c.outputs_keep_integrity.ensures c.outputs_are_sent_whole.ensures c.inputs_get_records.ensures c.dones_store_taken.ensures c.landed_bytes_are_next.ensures c.weak_transfers_keep_bytes.ensures c.scripts_keep_limits.ensures
