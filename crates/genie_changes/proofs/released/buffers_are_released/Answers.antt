use Rattle.genie_changes.proofs.BufferFreed.{released_ends, released_shows}
use Rattle.genie_changes.proofs.released.buffers_are_released.Goals as goal

pub returns-clause-ends : goal.returns-clause-ends
returns-clause-ends c k n t b s found mine = released_ends k n t b s found mine

pub returns-clause-shows : goal.returns-clause-shows
returns-clause-shows c k n t b f s found mine fills = released_shows k n t b s found mine f fills
