-- Runs by the kernel are alike.
use Rattle.genie_runs.proofs.ByKernel.{kernel_runs_alike}
use Rattle.genie_runs.proofs.laws.kernel_runs_alike.Goals as goal

pub returns : goal.returns
returns c = kernel_runs_alike c.runs_alike.ensures
