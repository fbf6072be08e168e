use Rattle.genie_changes.proofs.Matching.{posted_less, posted_beside_less, posted_more, posted_beside_more}
use Rattle.genie_changes.proofs.parts.posted_changes.Goals as goal

pub returns-clause-less : goal.returns-clause-less
returns-clause-less c = posted_less

pub returns-clause-beside_less : goal.returns-clause-beside_less
returns-clause-beside_less c = posted_beside_less

pub returns-clause-more : goal.returns-clause-more
returns-clause-more c = posted_more

pub returns-clause-beside_more : goal.returns-clause-beside_more
returns-clause-beside_more c = posted_beside_more
