use Rattle.genie_arrivals.proofs.laws.change_laws.Goals as goal

pub returns : goal.returns
returns c = record {
  changed = c.region_states.ensures.changed;
  few = c.few_regions.ensures.changed;
  backed = c.backed_regions.ensures.changed;
  guarded = c.guarded_regions.ensures.changed;
  held = c.held_over_regions.ensures.held;
  finds = c.held_over_regions.ensures.changed;
  found = c.removed_region.ensures.found;
}
