use Rattle.genie_spaces.proofs.laws.removal_laws.Goals as goal

pub returns : goal.returns
returns c = record {
  orderly = c.accepted_events_step.ensures.orderly;
  settled = c.good_kernels_are_settled.ensures.settled;
  good = c.good_kernels_are_settled.ensures.good;
  settles = c.removed_regions.ensures.settles;
  keeps = c.removed_regions.ensures.keeps;
  shows = c.removed_regions.ensures.shows;
  outlines = c.removed_regions.ensures.outlines;
  state = c.removed_regions.ensures.state;
}
