use Rattle.genie_changes.proofs.RegionTurned.{turned_settles, turned_state}
use Rattle.genie_changes.proofs.turned.turned_regions.Goals as goal

pub returns-clause-settles : goal.returns-clause-settles
returns-clause-settles c k p n state regions queue s there lists = turned_settles k p n state regions queue s there lists

pub returns-clause-state : goal.returns-clause-state
returns-clause-state c k p n state regions queue b f s there = turned_state k p n state regions queue s there b f
