use Rattle.genie_arrivals.proofs.laws.end_laws.Goals as goal

pub returns : goal.returns
returns c = record {
  orderly = c.accepted_events_step.ensures.orderly;
  settled = c.good_kernels_are_settled.ensures.settled;
  good = c.good_kernels_are_settled.ensures.good;
  ends = c.transfers_end.ensures.ends;
  unbuffered = c.transfers_end.ensures.unbuffered;
  lends = c.loans_are_given_back.ensures.settled;
  given = c.loans_are_given_back.ensures.others;
  ended = c.loans_are_given_back.ensures.ends;
  kept = c.loans_are_given_back.ensures.kept;
  shows = c.loans_are_given_back.ensures.shown;
  outlines = c.loans_are_given_back.ensures.outlines;
  leaves = c.transfers_leave.ensures;
  posted = c.posted_changes.ensures.beside_less;
}
