use Rattle.genie_arrivals.proofs.laws.copy_laws.Goals as goal

pub returns : goal.returns
returns c = record {
  copies = c.copies_are_available.ensures;
  short = c.plans_are_short.ensures;
  places = c.places_suffice.ensures;
  buffers = c.buffers_suffice.ensures;
  fit = c.regions_fit.ensures.regions;
  calls = c.memory_moves.ensures.calls;
  on = c.moves_join.ensures.on;
  kept = c.moves_join.ensures.kept;
}
