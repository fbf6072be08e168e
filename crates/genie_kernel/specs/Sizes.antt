-- The sizes of a kernel's tables, which no step changes.
use Rattle.std.specs.Prelude.{◌≡◌, ℕ, ◌+◌, Bool, true, false, List, length, Option, None, Some, ⊤}
use Rattle.genie_base.specs.Configs.{most}
use Rattle.genie_base.specs.declared.config.Config.{Config}
use Rattle.genie_base.specs.declared.config.DeviceConfig.{DeviceConfig}
use Rattle.genie_base.specs.declared.config.Kind.{Kind}
use Rattle.genie_base.specs.declared.config.Kind.TheVariants.{Early, Pooled, Outboard}
use Rattle.genie_device.specs.Device.{DeviceView}
use Rattle.genie_input.specs.Pools.{PoolState, IsPool}
use Rattle.genie_object.specs.declared.memory.Memory.{Memory}
use Rattle.genie_space.specs.Spaces.{AddressSpaces}
use Rattle.genie_model.specs.Tables.{entry}

abbrev pub is_pooled : Kind → Bool
is_pooled Early = false
is_pooled Pooled = true
is_pooled Outboard = false

-- the device is that of its configuration
pub record IsDeviceOf (page : ℕ) (c : DeviceConfig) (v : DeviceView) : Type 0 where
  pub config : v.config ≡ c
  pub limit : v.limit ≡ most c.kind page

-- a pooled device has a pool of as many buffers as its depth
pub record IsPoolOf (c : DeviceConfig) (p : PoolState) : Type 0 where
  pub pooled : is_pooled c.kind ≡ true
  pub depth : length p.buffers ≡ c.depth
  pub pool : IsPool p.buffers p.loans

abbrev pub HasPool : DeviceConfig → Option PoolState → Type 0
HasPool c None = is_pooled c.kind ≡ false
HasPool c (Some p) = IsPoolOf c p

-- a device, with a pool where it is a pooled one, is there exactly where the configuration has one
abbrev pub IsEquipped : ℕ → Option DeviceConfig → Option DeviceView → Option PoolState → Type 0
IsEquipped page None None None = ⊤
IsEquipped page None None (Some p) = ⊥
IsEquipped page None (Some v) pool = ⊥
IsEquipped page (Some c) None pool = ⊥
IsEquipped page (Some c) (Some v) pool = IsDeviceOf page c v × HasPool c pool

pub record IsSizedMemory (config : Config) (m : Memory) : Type 0 where
  pub page : m.frames.page ≡ config.page
  pub frames : length m.frames.owners ≡ config.frames
  pub slots : length m.slots ≡ config.slots
  pub pages : m.pages.most ≡ config.frames + config.slots

pub record AreSizedSpaces (config : Config) (spaces : AddressSpaces) (queues : List (List ℕ)) : Type 0 where
  pub page : spaces.page ≡ config.page
  pub processes : length spaces.processes ≡ 16
  pub queue_places : length queues ≡ 16

pub record AreSizedDevices (config : Config) (devices : List (Option DeviceView)) (pools : List (Option PoolState)) : Type 0 where
  pub device_places : length devices ≡ 8
  pub pool_places : length pools ≡ 8
  pub each : (d : ℕ) → IsEquipped config.page (entry config.devices d) (entry devices d) (entry pools d)
