use Rattle.genie_receiving.proofs.laws.receive_laws.Goals as goal

pub returns : goal.returns
returns c = record {
  orderly = c.accepted_events_step.ensures.orderly;
  rise = c.numbers_differ.ensures.transfers;
  leaves = c.regions_leave_pages.ensures;
  show = c.orphans_lie.ensures.show;
  lie = c.orphans_lie.ensures.all;
  byte = c.orphans_lie_in_frames.ensures.byte;
  orphans = c.worked_view.ensures.orphans;
  transfers = c.worked_view.ensures.transfers;
  counted = c.worked_loans.ensures.counted;
  owned = c.worked_loans.ensures.owned;
  held = c.worked_loans.ensures.held;
  planned = c.worked_loans.ensures.planned;
  fitting = c.worked_loans.ensures.fitting;
  posted = c.worked_posted.ensures.worked;
  taken = c.worked_posted.ensures.taken;
  first = c.worked_devices.ensures.first;
  sending = c.worked_devices.ensures.sending;
  receiving = c.worked_devices.ensures.receiving;
  arrived = c.worked_arrival.ensures;
}
