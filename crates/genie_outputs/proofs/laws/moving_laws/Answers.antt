use Rattle.genie_outputs.proofs.laws.moving_laws.Goals as goal

pub returns : goal.returns
returns c = record {
  parts = c.regions_move_out.ensures.parts;
  state = c.regions_move_out.ensures.state;
  only = c.numbers_differ.ensures.regions;
  queues = c.queues_suffice.ensures;
}
