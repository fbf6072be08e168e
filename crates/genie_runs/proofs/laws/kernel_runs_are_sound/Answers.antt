-- Every state of a run by the kernel is sound.
use Rattle.genie_runs.proofs.ByKernel.{kernel_runs_are_sound}
use Rattle.genie_runs.proofs.laws.kernel_runs_are_sound.Goals as goal

pub returns : goal.returns
returns c = kernel_runs_are_sound c.runs_stay_orderly.ensures c.outputs_keep_integrity.ensures c.outputs_are_sent_whole.ensures c.inputs_get_records.ensures c.dones_store_taken.ensures c.landed_bytes_are_next.ensures c.weak_transfers_keep_bytes.ensures c.scripts_keep_limits.ensures
