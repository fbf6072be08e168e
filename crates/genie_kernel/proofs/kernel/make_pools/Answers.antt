use Rattle.std.proofs.Common.{◌≡◌, arith, subst}
use Rattle.genie_kernel.specs.Booting.{HasPools}
use Rattle.genie_kernel.proofs.Pools.{device_fits, pool_fits, few_taken, more_pools}
use Rattle.genie_kernel.proofs.kernel.make_pools.Goals as goal

pub devices-init : goal.devices-init
devices-init c = c.requires.none

pub pool_at-pool-requires-clause-sound : goal.pool_at-pool-requires-clause-sound
pool_at-pool-requires-clause-sound c = c.devices.invariant.sound

pub pool_at-pool-requires-clause-fits : goal.pool_at-pool-requires-clause-fits
pool_at-pool-requires-clause-fits c = device_fits c.args.config.now c.devices.d c.devices.memory c.devices.pools c.devices-test.true c.requires.fits c.devices.invariant

pub pool_at-pool-requires-clause-free : goal.pool_at-pool-requires-clause-free
pool_at-pool-requires-clause-free c = pool_fits c.args.config.now c.devices.d c.devices.memory c.devices.pools c.requires.fits c.devices.invariant

pub pool_at-pool-requires-clause-meter : goal.pool_at-pool-requires-clause-meter
pool_at-pool-requires-clause-meter c = omega (arith, few_taken c.args.config.now c.devices.d c.devices.memory c.devices.pools c.requires.fits c.devices.invariant)

pub devices-preserved : goal.devices-preserved
devices-preserved c = more_pools c.args.config.now c.devices.d c.devices.memory c.pool_at-pool.new.memory c.devices.pools c.pool_at-pool.result c.devices.invariant c.devices-test.true c.pool_at-pool.ensures

pub returns : goal.returns
returns c =
    let most = c.devices.auto.d-end in
    let least = c.devices-test.false in
    let all : c.devices.d ≡ 8 = omega (arith, most, least) in
    subst (λ n. HasPools c.args.config.now n c.devices.memory c.devices.pools) all c.devices.invariant
