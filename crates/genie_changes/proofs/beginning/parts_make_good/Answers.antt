use Rattle.genie_changes.proofs.Starting.{good_parts, parts_good}
use Rattle.genie_changes.proofs.beginning.parts_make_good.Goals as goal

pub returns-clause-good : goal.returns-clause-good
returns-clause-good c = parts_good

pub returns-clause-parts : goal.returns-clause-parts
returns-clause-parts c = good_parts
