-- What `done` of an input stores.
use Rattle.genie_laws.proofs.Ends.Payloads.{done_stores_records}
use Rattle.genie_laws.proofs.laws.done_stores_records.Goals as goal

pub returns : goal.returns
returns c = done_stores_records
