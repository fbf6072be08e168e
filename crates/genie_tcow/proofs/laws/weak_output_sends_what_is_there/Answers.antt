use Rattle.genie_tcow.proofs.Later.{sends_as_is}
use Rattle.genie_tcow.proofs.laws.weak_output_sends_what_is_there.Goals as goal

pub returns : goal.returns
returns c = sends_as_is
