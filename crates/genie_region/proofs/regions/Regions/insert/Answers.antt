use Rattle.std.proofs.Common.{◌≡◌, sym, ap, ◌∙◌}
use Rattle.std.specs.List.{insert}
use Rattle.genie_base.specs.Regions.{add_in_order}
use Rattle.genie_region.specs.Layouts.{IsLayout, extent}
use Rattle.genie_region.proofs.Orders.{added, layout_added}
use Rattle.genie_region.proofs.regions.Regions.insert.Goals as goal

one_more : (c : goal.After-insert) → c.insert.new.self.items ≡ add_in_order extent c.args.region c.args.self.now
one_more c = rw (← c.self.view_is, ← c.as_slice.ensures.value) (added c.args.region c.as_slice.result.now c.insert.new.self.items c.count_ended-at.result c.count_ended-at.ensures.within c.count_ended-at.ensures.point (c.insert.ensures.items ∙ ap (λ rs. insert rs c.count_ended-at.result c.args.region) (sym c.as_slice.ensures.value)))

layout : (c : goal.After-insert) → IsLayout c.insert.new.self.items
layout c = rw (one_more c) (layout_added c.args.region c.args.self.now (rw (← c.self.view_is) c.self.invariant) c.requires.room c.requires.free c.requires.new)

pub invariant_of-self : goal.invariant_of-self
invariant_of-self c = layout c

pub returns-clause-added : goal.returns-clause-added
returns-clause-added c = one_more c

pub returns-clause-layout : goal.returns-clause-layout
returns-clause-layout c = layout c
