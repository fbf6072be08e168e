use Rattle.std.proofs.Common.{◌≡◌, arith, false, sym, ◌∙◌}
use Rattle.std.specs.List.{list_any}
use Rattle.genie_model.specs.Lemmas.Lists.{none_found}
use Rattle.genie_model.specs.Tables.{entry}
use Rattle.genie_kernel.specs.Regions.{has_id, regions_of}
use Rattle.genie_arrivals.proofs.Owning.{more_below, owned_nowhere}
use Rattle.genie_arrivals.proofs.owned.find_region.Goals as goal

pub processes-preserved : goal.processes-preserved
processes-preserved c = more_below (λ p. list_any (has_id c.args.id.0) (regions_of (entry c.args.spaces.now.processes p)) ≡ false) c.processes.pid c.processes.invariant (none_found (has_id c.args.id.0) (regions_of (entry c.args.spaces.now.processes c.processes.pid)) (sym c.region_of.ensures ∙ c.in-None.is))

pub returns-clause-none : goal.returns-clause-none
returns-clause-none c = λ none. owned_nowhere c.args.id.0 c.args.spaces.now.processes (λ p l. c.processes.invariant p (omega (arith, l, c.alive.ensures.table, c.processes-test.false)))
