use Rattle.genie_wire.proofs.Numbers.{reads_back}
use Rattle.genie_wire.proofs.header.headers_read_back.Goals as goal

pub returns : goal.returns
returns c = reads_back
