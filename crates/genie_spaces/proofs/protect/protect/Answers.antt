use Rattle.std.proofs.Common.{sym, ap, ◌∙◌}
use Rattle.std.specs.Prelude.{find}
use Rattle.genie_region.specs.Layouts.{starts_at}
use Rattle.genie_kernel.specs.declared.kernel.Kernel.{Kernel}
use Rattle.genie_spaces.proofs.Protecting.{may_protect, found_numbered, found_object, protects}
use Rattle.genie_spaces.proofs.protect.protect.Goals as goal

pub regions-requires : goal.regions-requires
regions-requires c = (may_protect c.args.kernel.now c.args.pid c.args.page c.args.writable c.requires.accepted).alive

pub guard-requires : goal.guard-requires
guard-requires c = found_object c.args.kernel.now c.args.pid c.args.page c.in-Some.region c.requires.good (sym (ap (find (starts_at c.args.page)) c.regions.ensures) ∙ sym c.starting_at.ensures ∙ c.in-Some.is)

pub set_mode-requires-clause-there : goal.set_mode-requires-clause-there
set_mode-requires-clause-there c = found_numbered c.args.kernel.now c.args.pid c.args.page c.in-Some.region (sym (ap (find (starts_at c.args.page)) c.regions.ensures) ∙ sym c.starting_at.ensures ∙ c.in-Some.is)

pub unreachable-requires : goal.unreachable-requires
unreachable-requires c = (may_protect c.args.kernel.now c.args.pid c.args.page c.args.writable c.requires.accepted).some (sym (ap (find (starts_at c.args.page)) c.regions.ensures) ∙ sym c.starting_at.ensures ∙ c.in-None.is)

pub returns-clause-served : goal.returns-clause-served
returns-clause-served c = protects c.region_laws.ensures c.args.kernel.now c.set_mode.new.kernel c.args.pid c.args.page c.args.writable c.in-Some.region c.guard.new.objects c.requires.good c.requires.accepted (sym (ap (find (starts_at c.args.page)) c.regions.ensures) ∙ sym c.starting_at.ensures ∙ c.in-Some.is) c.guard.ensures c.set_mode.ensures

pub returns-clause-numbers : goal.returns-clause-numbers
returns-clause-numbers c = ap (λ (k : Kernel). k.next) c.set_mode.ensures
