use Rattle.genie_spaces.proofs.laws.exit_laws.Goals as goal

pub returns : goal.returns
returns c = record {
  removal = c.removal_laws.ensures;
  alike = c.kept_bytes_are_alike.ensures;
  ends = c.transfers_end.ensures.ends;
  unbuffered = c.transfers_end.ensures.unbuffered;
  others = c.loans_are_given_back.ensures.others;
  sound = c.loans_are_given_back.ensures.settled;
  loans = c.loans_are_given_back.ensures.ends;
  shown = c.loans_are_given_back.ensures.shown;
  blind = c.loans_are_given_back.ensures.outlines;
  leaves = c.settled_transfers_leave.ensures;
  posted = c.posted_changes.ensures.less;
  goes = c.processes_go.ensures.settled;
  gone = c.processes_go.ensures.state;
}
