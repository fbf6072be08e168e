-- A kernel after boot.
use Rattle.std.specs.Prelude.{◌≡◌, ◌⊎◌, ℕ, ◌+◌, ◌<◌, ◌≤◌, List, [], length, map, replicate, take, sum_by, count_by, All, Option, None, Some, ⊤, false}
use Rattle.std.specs.Option.{option_map}
use Rattle.genie_base.specs.Configs.{config_of, device_config, device_pool}
use Rattle.genie_base.specs.declared.config.Config.{Config}
use Rattle.genie_base.specs.declared.config.DeviceConfig.{DeviceConfig}
use Rattle.genie_device.specs.Device.{idle_device}
use Rattle.genie_frame.specs.declared.frame.Meters.{Meters}
use Rattle.genie_frame.specs.declared.frame.Owner.{Owner}
use Rattle.genie_frame.specs.declared.frame.Owner.TheVariants.{Free, Pool}
use Rattle.genie_frame.specs.FrameTable.{owner_at, counts_at, is_free, no_meters}
use Rattle.genie_input.specs.Pools.{PoolState}
use Rattle.genie_plan.specs.Plans.{input_frames}
use Rattle.genie_plan.specs.Buffers.{AreLentFresh}
use Rattle.genie_input.specs.declared.pool.BufferState.TheVariants as buffer
use Rattle.genie_object.specs.declared.memory.Memory.{Memory}
use Rattle.genie_object.specs.Pages.{no_page, is_there}
use Rattle.genie_object.specs.Sound.{IsSound}
use Rattle.genie_space.specs.Spaces.{no_process}
use Rattle.genie_model.specs.State.{boot}
use Rattle.genie_model.specs.Tables.{entry}
use Rattle.genie_kernel.specs.declared.kernel.Kernel.{Kernel}
use Rattle.genie_kernel.specs.Counted.{lent_of, pool_on}
use Rattle.genie_kernel.specs.Sizes.{HasPool}
use Rattle.genie_kernel.specs.View.{Bytes, state_of}

-- the frames of the pools of the first n devices
abbrev pub pooled_frames : List (Option DeviceConfig) → ℕ → ℕ
pooled_frames devices n = sum_by device_pool (take n (map (option_map device_config) devices))

-- nothing was counted but the frames that were taken
abbrev pub only_taken : ℕ → Meters
only_taken n = record no_meters { taken = n }

abbrev pub frames_of_pool : Option PoolState → List ℕ
frames_of_pool None = []
frames_of_pool (Some p) = input_frames p.loans

-- all buffers of the pool of a device are free
abbrev pub IsIdlePool : DeviceConfig → Option PoolState → Type 0
IsIdlePool c None = ⊤
IsIdlePool c (Some p) = p.buffers ≡ replicate c.depth buffer.Free

abbrev pub HasIdlePool : Option DeviceConfig → Option PoolState → Type 0
HasIdlePool None pool = pool ≡ None
HasIdlePool (Some c) pool = HasPool c pool × IsIdlePool c pool

-- a frame of a device's pool, or a free one
abbrev pub IsPooledOrFree : Owner → Type 0
IsPooledOrFree owner = (owner ≡ Free) ⊎ ((d : ℕ) × (owner ≡ Pool d))

-- memory without a page or an object, whose frames are free but for the pools of the first n devices
pub record HasPools (c : Config) (n : ℕ) (m : Memory) (pools : List (Option PoolState)) : Type 0 where
  pub places : length pools ≡ 8
  pub later : (d : ℕ) → n ≤ d → entry pools d ≡ None
  pub each : (d : ℕ) → d < n → HasIdlePool (entry c.devices d) (entry pools d)
  pub sound : IsSound m
  pub pages : All (λ q. q ≡ no_page) m.pages.pages
  pub none : count_by is_there m.pages.pages ≡ 0
  pub most : m.pages.most ≡ c.frames + c.slots
  pub absent : m.objects ≡ replicate 512 []
  pub untaken : m.slots ≡ replicate c.slots false
  pub page : m.frames.page ≡ c.page
  pub size : length m.frames.owners ≡ c.frames
  pub owned : (f : ℕ) → IsPooledOrFree (owner_at m.frames f)
  pub once : (f d : ℕ) → owner_at m.frames f ≡ Pool d → pool_on f (entry pools d) ≡ 1
  pub pool_frames : (f d : ℕ) → 0 < pool_on f (entry pools d) → owner_at m.frames f ≡ Pool d
  pub counted : (f : ℕ) → counts_at m.frames f ≡ lent_of [] pools f
  pub free : count_by is_free m.frames.owners + pooled_frames c.devices n ≡ c.frames
  pub meters : m.frames.meters ≡ only_taken (pooled_frames c.devices n)
  pub landed : m.frames.landed ≡ 0

-- nothing is there but idle devices, and pools
pub record IsBooted (c : Config) (k : Kernel) : Type 0 where
  pub memory : HasPools c 8 k.memory k.pools
  pub spaces : k.spaces ≡ record { page = c.page; processes = no_process }
  pub hidden : k.hidden ≡ []
  pub queues : k.queues ≡ replicate 16 []
  pub transfers : k.transfers ≡ []
  pub devices : k.devices ≡ map (option_map (λ d. idle_device d c.page)) c.devices
  pub posted : k.posted ≡ []
  pub next : k.next ≡ 1
  pub config : k.config ≡ c

-- whatever is left of the inputs, it stands for the flat machine's boot over just that, where nothing was sent
abbrev pub BootsAs : Config → Kernel → Type 0
BootsAs c k = (b : Bytes) → ((d : ℕ) → b.sents d ≡ []) → state_of k b ≡ boot (config_of c) b.rests

-- a pooled device gets its pool: frames that were free are lent for it, and every other frame, and what is seen, stays
pub record PoolAdds (c : Option DeviceConfig) (dev : ℕ) (old new : Memory) (pool : Option PoolState) : Type 0 where
  pub idle : HasIdlePool c pool
  pub sound : IsSound new
  pub fresh : AreLentFresh (Pool dev) (frames_of_pool pool) old.frames new.frames
  pub number : length (frames_of_pool pool) ≡ device_pool (option_map device_config c)
  pub pages : new.pages ≡ old.pages
  pub objects : new.objects ≡ old.objects
  pub slots : new.slots ≡ old.slots
