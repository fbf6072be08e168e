use Rattle.genie_kernel.specs.Booting.{HasPools}
use Rattle.genie_kernel.proofs.kernel.make_pools.Given as goal

abbrev pub invariant-devices : goal.invariant-devices
invariant-devices l = HasPools l.config l.d l.memory l.pools
