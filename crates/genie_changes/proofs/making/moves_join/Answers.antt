use Rattle.genie_changes.proofs.Moved.{kept_since, moves_on}
use Rattle.genie_changes.proofs.making.moves_join.Goals as goal

pub returns-clause-on : goal.returns-clause-on
returns-clause-on c = moves_on

pub returns-clause-kept : goal.returns-clause-kept
returns-clause-kept c = kept_since
