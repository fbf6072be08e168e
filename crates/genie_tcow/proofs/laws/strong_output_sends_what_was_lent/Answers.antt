use Rattle.genie_tcow.proofs.Later.{sends_as_lent}
use Rattle.genie_tcow.proofs.laws.strong_output_sends_what_was_lent.Goals as goal

pub returns : goal.returns
returns c = sends_as_lent
