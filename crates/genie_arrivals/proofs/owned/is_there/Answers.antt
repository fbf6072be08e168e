use Rattle.std.proofs.Common.{sym}
use Rattle.genie_arrivals.proofs.Owning.{named_there}
use Rattle.genie_arrivals.proofs.owned.is_there.Goals as goal

pub returns-in-Some : goal.returns-in-Some
returns-in-Some c = sym (named_there c.args.spaces.now c.args.transfer.now c.in-Some.field-0 c.in-Some.ensures.found)
