use Rattle.std.proofs.Common.{length, ℕ}
use Rattle.genie_kernel_rows.proofs.plain.+give_inputs.Given as goal

abbrev pub decreases-give_inputs : goal.decreases-give_inputs
decreases-give_inputs l = length l.devices.now
