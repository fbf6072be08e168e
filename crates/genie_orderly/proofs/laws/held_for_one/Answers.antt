-- Each transfer names what it may.
use Rattle.genie_orderly.proofs.laws.held_for_one.Goals as goal
use Rattle.genie_orderly.proofs.Names.Steps.{held_for_one}

pub returns : goal.returns
returns c = held_for_one
