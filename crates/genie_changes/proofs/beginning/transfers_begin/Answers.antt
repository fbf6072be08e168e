use Rattle.genie_changes.proofs.Starting.{begun_kept, begun_parts}
use Rattle.genie_changes.proofs.beginning.transfers_begin.Goals as goal

pub returns-clause-parts : goal.returns-clause-parts
returns-clause-parts c = λ k m t g n b. begun_parts k m t g b n

pub returns-clause-kept : goal.returns-clause-kept
returns-clause-kept c = begun_kept
