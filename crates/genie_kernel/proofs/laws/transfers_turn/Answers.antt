use Rattle.genie_kernel.specs.Lemmas.Turning.{transfers_turn}
use Rattle.genie_kernel.proofs.laws.transfers_turn.Goals as goal

pub returns : goal.returns
returns c = transfers_turn
