use Rattle.std.proofs.Common.{◌∙◌}
use Rattle.genie_cases.proofs.outputs.write_ones.Goals as goal

pub returns-in_err-write-clause-counts : goal.returns-in_err-write-clause-counts
returns-in_err-write-clause-counts g c = c.write.ensures.counts

pub returns-in_err-write-2-clause-counts : goal.returns-in_err-write-2-clause-counts
returns-in_err-write-2-clause-counts g c = c.write-2.ensures.counts ∙ c.write.ensures.counts

pub returns-clause-counts : goal.returns-clause-counts
returns-clause-counts g c = c.write-3.ensures.counts ∙ c.write-2.ensures.counts ∙ c.write.ensures.counts
