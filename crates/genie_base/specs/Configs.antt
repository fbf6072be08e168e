-- A configuration and its limits.
use Rattle.std.specs.Prelude.{◌≡◌, ℕ, ◌+◌, ◌*◌, ◌<◌, ◌≤◌, Bool, IsTrue, List, length, map, sum_by, All, Option, None, Some, ⊤, is_some}
use Rattle.std.specs.Option.{option_map}
use Rattle.genie_base.specs.declared.config.Kind.{Kind}
use Rattle.genie_base.specs.declared.config.Kind.TheVariants.{Early, Pooled, Outboard}
use Rattle.genie_base.specs.declared.config.DeviceConfig.{DeviceConfig as DeviceHandles}
use Rattle.genie_base.specs.declared.config.Config.{Config as ConfigHandles}
use Rattle.genie_base.specs.Counts.{is_page_size}

-- a device: of its input and output only whether they are there
pub record DeviceConfig : Type 0 where
  pub kind : Kind
  pub has_input : Bool
  pub has_output : Bool
  pub depth : ℕ
  pub offset : ℕ

-- a configuration: the page size in bytes, how many frames and backing pages there are, the two thresholds in bytes,
-- and the devices at their numbers
pub record Config : Type 0 where
  pub page : ℕ
  pub frames : ℕ
  pub slots : ℕ
  pub copy_out : ℕ
  pub reverse_copy_out : ℕ
  pub devices : List (Option DeviceConfig)

-- a configuration without its handles
abbrev pub device_config : DeviceHandles → DeviceConfig
device_config d = record { kind = d.kind; has_input = is_some d.input; has_output = is_some d.output; depth = d.depth; offset = d.offset }

abbrev pub config_of : ConfigHandles → Config
config_of c = record {
  page = c.page;
  frames = c.frames;
  slots = c.slots;
  copy_out = c.cout;
  reverse_copy_out = c.rcout;
  devices = map (option_map device_config) c.devices;
}

-- the frames of a pooled device's buffers
abbrev pub pool_frames : Kind → ℕ → ℕ
pool_frames Pooled depth = depth * 17
pool_frames Early depth = 0
pool_frames Outboard depth = 0

abbrev pub device_pool : Option DeviceConfig → ℕ
device_pool None = 0
device_pool (Some d) = pool_frames d.kind d.depth

abbrev pub pool_of : List (Option DeviceConfig) → ℕ
pool_of devices = sum_by device_pool devices

-- the longest datagram of a device, in bytes
abbrev pub most : Kind → ℕ → ℕ
most Pooled page = 16 * page
most Early page = 64 * page
most Outboard page = 64 * page

-- the highest DEPTH: how many datagrams may wait in a device of this kind
abbrev pub most_depth : Kind → ℕ
most_depth Early = 1
most_depth Pooled = 4
most_depth Outboard = 4

-- OFFSET is below this: only a pooled device's buffers may begin inside a page
abbrev pub offset_end : Kind → ℕ → ℕ
offset_end Pooled page = page
offset_end Early page = 1
offset_end Outboard page = 1

pub record FitsDevice (page : ℕ) (d : DeviceConfig) : Type 0 where
  pub depth_low : 1 ≤ d.depth
  pub depth_high : d.depth ≤ most_depth d.kind
  pub offset : d.offset < offset_end d.kind page

abbrev pub FitsPlace : ℕ → Option DeviceConfig → Type 0
FitsPlace page None = ⊤
FitsPlace page (Some d) = FitsDevice page d

-- every limit is kept
pub record Fits (c : Config) : Type 0 where
  pub page : IsTrue (is_page_size c.page)
  pub frames_low : 16 ≤ c.frames
  pub frames_high : c.frames ≤ 4096
  pub slots_low : 1 ≤ c.slots
  pub slots_high : c.slots ≤ 8192
  pub copy_out : c.copy_out ≤ 16 * c.page
  pub reverse_copy_out : c.reverse_copy_out ≤ c.page
  pub table : length c.devices ≡ 8
  pub devices : All (FitsPlace c.page) c.devices
  pub pool : pool_of c.devices + 8 ≤ c.frames
