use Rattle.std.proofs.Common.{◌-◌, length}
use Rattle.genie_kernel_rows.proofs.settling.+is_unlent.Given as goal

abbrev pub decreases-is_unlent : goal.decreases-is_unlent
decreases-is_unlent l = length l.frames.now.owners - l.f
