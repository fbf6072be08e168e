use Rattle.genie_plan.specs.Lemmas.Wiring.{wires_keep_all, unwires_keep_all}
use Rattle.genie_plan.proofs.laws.wires_show_what_was_seen.Goals as goal

pub returns-clause-on : goal.returns-clause-on
returns-clause-on c = wires_keep_all

pub returns-clause-off : goal.returns-clause-off
returns-clause-off c = unwires_keep_all
