use Rattle.genie_changes.proofs.RegionTurned.{moved_out_lists, moved_out_state}
use Rattle.genie_changes.proofs.turned.moved_out_regions.Goals as goal

pub returns-clause-lists : goal.returns-clause-lists
returns-clause-lists c = moved_out_lists

pub returns-clause-state : goal.returns-clause-state
returns-clause-state c = moved_out_state
