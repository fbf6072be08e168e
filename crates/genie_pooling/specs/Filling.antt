-- The payload part of a receive step, on a device whose datagrams go to buffers of its pool.
use Rattle.std.specs.Prelude.{◌≡◌, ℕ, ◌+◌, ◌≤◌, List, Option, None, Some, IfSome, position, slice_set}
use Rattle.genie_base.specs.declared.config.DeviceConfig.{DeviceConfig}
use Rattle.genie_host.specs.Host.{HostView}
use Rattle.genie_device.specs.Device.{DeviceView}
use Rattle.genie_device.specs.Kept.{IsAllowed}
use Rattle.genie_frame.specs.FrameTable.{FrameTable}
use Rattle.genie_input.specs.Pools.{PoolState, is_filling}
use Rattle.genie_plan.specs.Plans.{CanLand, OnlyRange, range_bytes}
use Rattle.genie_model.specs.Tables.{entry}
use Rattle.genie_kernel.specs.Transfers.{pool_frames}
use Rattle.genie_receiving.specs.declared.payload.Moved.{Moved}
use Rattle.genie_receiving.specs.Payload.{MovesPayload}

-- where the buffers of a device begin in their first page
abbrev pub offset_at : Option DeviceConfig → ℕ
offset_at None = 0
offset_at (Some c) = c.offset

-- bytes may land in the buffer that a pool fills
abbrev pub MayLandIn : FrameTable → ℕ → ℕ → Option PoolState → Type 0
MayLandIn t first len None = ⊥
MayLandIn t first len (Some p) = (b : ℕ) → position is_filling p.buffers ≡ Some b → CanLand t (pool_frames p b) first len

-- payload bytes of device d land in the buffer that its pool fills
pub record FillsBuffer (d first len h n : ℕ) (old new : HostView) (devices devices_now : List (Option DeviceView)) (frames frames_now : FrameTable) (pools : List (Option PoolState)) (moved : Moved) : Type 0 where
  pub before : DeviceView
  pub after : DeviceView
  pub there : entry devices d ≡ Some before
  pub pool : PoolState
  pub buffer : ℕ
  pub pooled : entry pools d ≡ Some pool
  pub filling : position is_filling pool.buffers ≡ Some buffer
  pub moves : MovesPayload h n old new before after (range_bytes frames (pool_frames pool buffer) first len) (range_bytes frames_now (pool_frames pool buffer) first len) moved
  pub device : devices_now ≡ slice_set devices d (Some after)
  pub only : OnlyRange (pool_frames pool buffer) first len frames frames_now
  pub later : frames.landed ≤ frames_now.landed
  pub most : frames_now.landed ≤ frames.landed + n
  pub allowed : IfSome before.present (IsAllowed before.config.kind before.limit)
