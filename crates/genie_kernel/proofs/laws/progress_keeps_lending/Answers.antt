use Rattle.genie_kernel.specs.Lemmas.Progress.{progress_keeps}
use Rattle.genie_kernel.proofs.laws.progress_keeps_lending.Goals as goal

pub returns : goal.returns
returns c = progress_keeps
