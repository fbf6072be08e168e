use Rattle.genie_changes.proofs.Spaces.{kept_alike}
use Rattle.genie_changes.proofs.gone.kept_bytes_are_alike.Goals as goal

pub returns : goal.returns
returns c = kept_alike
