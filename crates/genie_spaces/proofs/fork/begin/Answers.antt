use Rattle.genie_spaces.proofs.Ended.{still_accepted}
use Rattle.genie_spaces.proofs.fork.begin.Goals as goal

pub make_copies-requires-clause-accepted : goal.make_copies-requires-clause-accepted
make_copies-requires-clause-accepted c = still_accepted c.args.kernel.now c.drop_hidden.new.kernel c.args.pid c.args.child c.drop_hidden.ensures.clears c.requires.accepted

pub returns : goal.returns
returns c = record {
  cleared = c.drop_hidden.new.kernel;
  clears = c.drop_hidden.ensures.clears;
  unhidden = c.drop_hidden.ensures.none;
  only = c.make_copies.ensures.only;
  ordered = c.make_copies.ensures.ordered;
  made = c.make_copies.ensures.copies;
}
