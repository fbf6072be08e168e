-- The bytes under a pending weak transfer.
use Rattle.genie_laws.proofs.laws.weak_transfers_keep_bytes.Goals as goal
use Rattle.genie_laws.proofs.Covered.Runs.{weak_transfers_keep_bytes}

pub returns : goal.returns
returns c = weak_transfers_keep_bytes c.steps_stay_orderly.ensures
