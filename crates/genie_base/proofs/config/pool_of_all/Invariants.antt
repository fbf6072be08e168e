use Rattle.std.proofs.Common.{◌≡◌, ◌≤◌, ◌*◌, ◌^◌, take}
use Rattle.std.specs.Prelude.{sum_by}
use Rattle.std.specs.Option.{option_map}
use Rattle.genie_base.specs.Configs.{device_config, device_pool}
use Rattle.genie_base.proofs.config.pool_of_all.Given as goal

abbrev pub invariant-loop-device : goal.invariant-loop-device
invariant-loop-device l = record {
  so_far : l.frames ≡ sum_by (λ d. device_pool (option_map device_config d)) (take l.device-index l.devices);
  small : l.frames ≤ 2 ^ 40 * l.device-index;
}
