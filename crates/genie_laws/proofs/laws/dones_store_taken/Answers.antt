-- What a `done` stores of what was taken.
use Rattle.genie_laws.proofs.Streams.Stored.{dones_store_taken}
use Rattle.genie_laws.proofs.laws.dones_store_taken.Goals as goal

pub returns : goal.returns
returns c = dones_store_taken
