use Rattle.genie_changes.proofs.RegionHidden.{hiding_keeps, hiding_settles}
use Rattle.genie_changes.proofs.StateHidden.{hiding_shows, hiding_state}
use Rattle.genie_changes.proofs.hiding.hidden_regions.Goals as goal

pub returns-clause-settles : goal.returns-clause-settles
returns-clause-settles c = hiding_settles

pub returns-clause-keeps : goal.returns-clause-keeps
returns-clause-keeps c = hiding_keeps

pub returns-clause-shows : goal.returns-clause-shows
returns-clause-shows c = hiding_shows

pub returns-clause-state : goal.returns-clause-state
returns-clause-state c = hiding_state
