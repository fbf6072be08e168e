use Rattle.std.proofs.Common.{sym, ap, ◌∙◌}
use Rattle.std.specs.Prelude.{find}
use Rattle.genie_region.specs.Layouts.{starts_at}
use Rattle.genie_kernel.specs.declared.kernel.Kernel.{Kernel}
use Rattle.genie_spaces.proofs.Unmapping.{may_unmap, started_found, unmaps}
use Rattle.genie_spaces.proofs.unmap.unmap.Goals as goal

pub regions-requires : goal.regions-requires
regions-requires c = (may_unmap c.args.kernel.now c.args.pid c.args.page c.requires.accepted).alive

pub remove_region-requires-clause-settled : goal.remove_region-requires-clause-settled
remove_region-requires-clause-settled c = c.removal_laws.ensures.settled c.args.kernel.now c.requires.good

pub remove_region-requires-clause-there : goal.remove_region-requires-clause-there
remove_region-requires-clause-there c = started_found c.args.kernel.now c.args.pid c.args.page c.in-Some.region (c.removal_laws.ensures.settled c.args.kernel.now c.requires.good) (sym (ap (find (starts_at c.args.page)) c.regions.ensures) ∙ sym c.starting_at.ensures ∙ c.in-Some.is)

pub unreachable-requires : goal.unreachable-requires
unreachable-requires c = (may_unmap c.args.kernel.now c.args.pid c.args.page c.requires.accepted).some (sym (ap (find (starts_at c.args.page)) c.regions.ensures) ∙ sym c.starting_at.ensures ∙ c.in-None.is)

pub returns-clause-served : goal.returns-clause-served
returns-clause-served c =
    unmaps c.removal_laws.ensures c.args.kernel.now c.remove_region.new.kernel c.args.pid c.args.page c.in-Some.region c.requires.good c.requires.accepted (sym (ap (find (starts_at c.args.page)) c.regions.ensures) ∙ sym c.starting_at.ensures ∙ c.in-Some.is) c.remove_region.ensures

pub returns-clause-numbers : goal.returns-clause-numbers
returns-clause-numbers c = ap (λ (k : Kernel). k.next) c.remove_region.ensures.left
