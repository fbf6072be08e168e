use Rattle.genie_calls.specs.Closing.{LendsPools, KeepsPages}
use Rattle.genie_calls.proofs.close.end_pools.Given as goal

abbrev pub invariant-devices : goal.invariant-devices
invariant-devices l = LendsPools l.d l.memory l.pools × KeepsPages l.fn.memory l.memory
