use Rattle.genie_outputs.proofs.laws.output_laws.Goals as goal

pub returns : goal.returns
returns c = record {
  orderly = c.accepted_events_step.ensures.orderly;
  good = c.parts_make_good.ensures.good;
  waits = c.new_ones_wait.ensures;
  parts = c.transfers_begin.ensures.parts;
  kept = c.transfers_begin.ensures.kept;
  weak = c.weak_transfers_begin.ensures;
  added = c.added_state.ensures.state;
  moved = c.memory_moves.ensures.calls;
  on = c.moves_join.ensures.on;
  since = c.moves_join.ensures.kept;
  fits = c.regions_fit.ensures.regions;
  begin = c.calls_can_begin.ensures;
  places = c.places_suffice.ensures;
  low = c.counts_are_low.ensures;
}
