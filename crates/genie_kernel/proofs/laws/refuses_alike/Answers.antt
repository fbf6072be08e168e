use Rattle.genie_kernel.specs.Lemmas.Blind.{refuses_alike}
use Rattle.genie_kernel.proofs.laws.refuses_alike.Goals as goal

pub returns : goal.returns
returns c = refuses_alike
