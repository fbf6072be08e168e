use Rattle.std.proofs.Common.{◌+◌, subst, sym, ap, get_or}
use Rattle.std.specs.Prelude.{slice_set}
use Rattle.genie_calls.specs.Closing.{LendsPools, PoolEnds}
use Rattle.genie_calls.proofs.Ending.{pages_trans}
use Rattle.genie_calls.proofs.Pools.{at_place, pooled_at, pool_less}
use Rattle.genie_calls.proofs.close.end_pools.Goals as goal

pub end_pool-requires-clause-pooled : goal.end_pool-requires-clause-pooled
end_pool-requires-clause-pooled c =
    let d = c.devices.d in
    pooled_at d d c.devices.memory c.devices.pools (get_or c.devices.pools d c.index-pools-d.result) c.devices.invariant.0 (sym (at_place c.devices.pools d c.index-pools-d.result c.devices.memory d c.devices-test.true c.devices.invariant.0))

pub devices-preserved : goal.devices-preserved
devices-preserved c =
    let d = c.devices.d in
    let memory = c.end_pool.new.memory in
    let less = pool_less d c.devices.memory memory c.devices.pools c.devices-test.true c.devices.invariant.0 (subst (λ o. PoolEnds o c.devices.memory memory) (at_place c.devices.pools d c.index-pools-d.result c.devices.memory d c.devices-test.true c.devices.invariant.0) c.end_pool.ensures.ends) in
    (subst (LendsPools (d + 1) memory) (ap (slice_set c.devices.pools d) (sym c.end_pool.ensures.none)) less, pages_trans c.args.memory.now c.devices.memory memory c.devices.invariant.1 c.end_pool.ensures.ends.keeps)
