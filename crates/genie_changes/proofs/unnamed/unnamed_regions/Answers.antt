use Rattle.genie_changes.proofs.UnnamedGone.{removal_shows_others, outlines_show_regions, unnamed_state, unnamed_removal}
use Rattle.genie_changes.proofs.unnamed.unnamed_regions.Goals as goal

pub returns-clause-shows : goal.returns-clause-shows
returns-clause-shows c = removal_shows_others

pub returns-clause-outlines : goal.returns-clause-outlines
returns-clause-outlines c = outlines_show_regions

pub returns-clause-state : goal.returns-clause-state
returns-clause-state c = unnamed_state

pub returns-clause-removal : goal.returns-clause-removal
returns-clause-removal c = unnamed_removal
