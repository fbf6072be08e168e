use Rattle.std.proofs.Common.{◌∙◌}
use Rattle.genie_cases.proofs.outputs.shows.Goals as goal

pub returns-in_err-a-clause-counts : goal.returns-in_err-a-clause-counts
returns-in_err-a-clause-counts g c = c.read.ensures.counts

pub returns-in_err-b-clause-counts : goal.returns-in_err-b-clause-counts
returns-in_err-b-clause-counts g c = c.read-2.ensures.counts ∙ c.read.ensures.counts

pub returns-in_err-c-clause-counts : goal.returns-in_err-c-clause-counts
returns-in_err-c-clause-counts g c = c.read-3.ensures.counts ∙ c.read-2.ensures.counts ∙ c.read.ensures.counts

pub returns-then-eq-2-clause-counts : goal.returns-then-eq-2-clause-counts
returns-then-eq-2-clause-counts g c = c.read-3.ensures.counts ∙ c.read-2.ensures.counts ∙ c.read.ensures.counts

pub returns-else-eq-2-clause-counts : goal.returns-else-eq-2-clause-counts
returns-else-eq-2-clause-counts g c = c.read-3.ensures.counts ∙ c.read-2.ensures.counts ∙ c.read.ensures.counts
