use Rattle.std.proofs.Common.{sym, refl, ap, ◌∙◌}
use Rattle.std.specs.Prelude.{is_some}
use Rattle.genie_region.specs.declared.region.Region.{Region}
use Rattle.genie_region.specs.Layouts.{has_id}
use Rattle.genie_base.specs.Lemmas.Searches.{position_there}
use Rattle.genie_region.proofs.Orders.{changed_at, layout_with}
use Rattle.genie_region.proofs.regions.change_state.Goals as goal

pub unwrap-at-requires : goal.unwrap-at-requires
unwrap-at-requires c = ap is_some c.place_of_id.ensures ∙ position_there (has_id c.args.id) c.args.regions.now c.requires.there

pub returns-clause-changed : goal.returns-clause-changed
returns-clause-changed c = changed_at c.args.id (λ (r : Region). record r { state = c.args.state }) c.args.regions.now c.unwrap-at.result c.requires.layout (sym c.place_of_id.ensures ∙ c.unwrap-at.ensures)

pub returns-clause-layout : goal.returns-clause-layout
returns-clause-layout c = rw (changed_at c.args.id (λ (r : Region). record r { state = c.args.state }) c.args.regions.now c.unwrap-at.result c.requires.layout (sym c.place_of_id.ensures ∙ c.unwrap-at.ensures)) (layout_with c.args.id (λ (r : Region). record r { state = c.args.state }) c.args.regions.now (record { id = λ r. refl; start = λ r. refl; pages = λ r. refl }) c.requires.layout)
