use Rattle.genie_spaces.proofs.laws.region_laws.Goals as goal

pub returns : goal.returns
returns c = record {
  orderly = c.accepted_events_step.ensures.orderly;
  added = c.region_states.ensures.added;
  changed = c.region_states.ensures.changed;
  few_more = c.few_regions.ensures.more;
  few_changed = c.few_regions.ensures.changed;
  backed_more = c.backed_regions.ensures.more;
  backed_changed = c.backed_regions.ensures.changed;
  guarded_more = c.guarded_regions.ensures.more;
  guarded_changed = c.guarded_regions.ensures.changed;
  held = c.held_over_regions.ensures.held;
  finds_more = c.held_over_regions.ensures.more;
  finds_changed = c.held_over_regions.ensures.changed;
}
