use Rattle.genie_inputs.proofs.laws.input_laws.Goals as goal

pub returns : goal.returns
returns c = record {
  room = c.calls_can_begin.ensures;
  rise = c.numbers_differ.ensures.transfers;
  small = c.regions_fit.ensures.regions;
  only = c.numbers_differ.ensures.regions;
  listed = c.numbers_differ.ensures.listed;
  spaced = c.spaced_tables.ensures;
  tidied = c.view_is_tidy.ensures;
  orderly = c.accepted_events_step.ensures.orderly;
  alone = c.accepted_events_step.ensures.alone;
  added = c.added_state.ensures.state;
  made = c.parts_make_good.ensures.good;
  has = c.parts_make_good.ensures.parts;
  waits = c.new_ones_wait.ensures;
  parts = c.transfers_begin.ensures.parts;
  kept = c.transfers_begin.ensures.kept;
  weak = c.weak_transfers_begin.ensures;
}
