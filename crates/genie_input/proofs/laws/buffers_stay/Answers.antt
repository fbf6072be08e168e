use Rattle.genie_input.proofs.Buffers as proved
use Rattle.genie_input.proofs.laws.buffers_stay.Goals as goal

pub returns : goal.returns
returns c = proved.buffers_stay
