use Rattle.genie_outputs.proofs.laws.hiding_laws.Goals as goal

pub returns : goal.returns
returns c = record {
  settles = c.hidden_regions.ensures.settles;
  keeps = c.hidden_regions.ensures.keeps;
  shows = c.hidden_regions.ensures.shows;
  state = c.hidden_regions.ensures.state;
}
