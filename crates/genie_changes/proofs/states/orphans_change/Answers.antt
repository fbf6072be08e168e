use Rattle.genie_changes.proofs.Begun.{orphans_same}
use Rattle.genie_changes.proofs.Gained.{orphans_grow}
use Rattle.genie_changes.proofs.Left.{orphans_shrink}
use Rattle.genie_changes.proofs.states.orphans_change.Goals as goal

pub returns-clause-shrink : goal.returns-clause-shrink
returns-clause-shrink c = orphans_shrink

pub returns-clause-grow : goal.returns-clause-grow
returns-clause-grow c = orphans_grow

pub returns-clause-same : goal.returns-clause-same
returns-clause-same c = orphans_same
