use Rattle.genie_changes.proofs.Paging.{paged_told}
use Rattle.genie_changes.proofs.settled.paged_events_are_told.Goals as goal

pub returns : goal.returns
returns c = paged_told
