use Rattle.std.proofs.Common.{◌≡◌, sym, ap, ◌∙◌}
use Rattle.std.specs.Prelude.{is_some, position, Some}
use Rattle.genie_region.specs.Layouts.{IsLayout, has_id, without}
use Rattle.genie_base.specs.Lemmas.Searches.{position_there}
use Rattle.genie_region.proofs.Orders.{found_at, removed_at, layout_without}
use Rattle.genie_region.proofs.regions.Regions.remove.Goals as goal

pub unwrap-at-requires : goal.unwrap-at-requires
unwrap-at-requires c = ap is_some (c.place_of_id.ensures ∙ ap (position (has_id c.args.id)) (c.as_slice.ensures.value ∙ c.self.view_is)) ∙ position_there (has_id c.args.id) c.args.self.now c.requires

place : (c : goal.After-remove) → position (has_id c.args.id) c.self.inside.regions.items ≡ Some c.unwrap-at.result
place c = ap (position (has_id c.args.id)) (sym c.as_slice.ensures.value) ∙ sym c.place_of_id.ensures ∙ c.unwrap-at.ensures

one_less : (c : goal.After-remove) → c.remove.new.self.items ≡ without c.args.id c.self.inside.regions.items
one_less c = removed_at c.args.id c.self.inside.regions.items c.remove.new.self.items c.unwrap-at.result c.self.invariant (place c) c.remove.ensures.items

layout : (c : goal.After-remove) → IsLayout c.remove.new.self.items
layout c = rw (one_less c) (layout_without c.args.id c.self.inside.regions.items c.self.invariant)

pub invariant_of-self : goal.invariant_of-self
invariant_of-self c = layout c

pub returns-clause-removed : goal.returns-clause-removed
returns-clause-removed c = rw (← c.self.view_is) (found_at c.args.id c.self.inside.regions.items c.unwrap-at.result c.remove.result c.self.invariant (place c) c.remove.ensures.value)

pub returns-clause-others : goal.returns-clause-others
returns-clause-others c = rw (← c.self.view_is) (one_less c)

pub returns-clause-layout : goal.returns-clause-layout
returns-clause-layout c = layout c
