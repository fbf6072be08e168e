use Rattle.genie_changes.proofs.RegionGone.{removal_keeps, removal_settles}
use Rattle.genie_changes.proofs.StateGone.{outlines_show, removal_shows, removal_state}
use Rattle.genie_changes.proofs.removal.removed_regions.Goals as goal

pub returns-clause-settles : goal.returns-clause-settles
returns-clause-settles c = removal_settles

pub returns-clause-keeps : goal.returns-clause-keeps
returns-clause-keeps c = removal_keeps

pub returns-clause-shows : goal.returns-clause-shows
returns-clause-shows c = removal_shows

pub returns-clause-outlines : goal.returns-clause-outlines
returns-clause-outlines c = outlines_show

pub returns-clause-state : goal.returns-clause-state
returns-clause-state c = removal_state
