use Rattle.genie_outputs.proofs.laws.removal_laws.Goals as goal

pub returns : goal.returns
returns c = record {
  settled = c.good_kernels_are_settled.ensures.settled;
  rising = c.numbers_differ.ensures.transfers;
  good = c.good_kernels_are_settled.ensures.good;
  settles = c.removed_regions.ensures.settles;
  keeps = c.removed_regions.ensures.keeps;
  shows = c.removed_regions.ensures.shows;
  outlines = c.removed_regions.ensures.outlines;
  state = c.removed_regions.ensures.state;
}
