-- The state of the flat machine: whole buffers as lists of bytes, and no frames.
use Rattle.std.specs.Prelude.{ℕ, ◌+◌, Bool, false, List, [], ◌∷◌, replicate, Option, None, Some}
use Rattle.genie_base.specs.Configs.{Config, DeviceConfig}
use Rattle.genie_base.specs.declared.config.Kind.{Kind}
use Rattle.genie_base.specs.declared.region.Area.{Area}
use Rattle.genie_base.specs.declared.region.RegionState.{RegionState}
use Rattle.genie_base.specs.declared.reply.Note.{Note}
use Rattle.genie_base.specs.declared.semantics.Class.{Class}
use Rattle.genie_base.specs.declared.semantics.Direction.{Direction}
use Rattle.genie_model.specs.declared.fate.Fate.{Fate}
use Rattle.genie_model.specs.declared.phase.Phase.{Phase}

pub record Region : Type 0 where
  pub number : ℕ
  pub start : ℕ
  pub pages : ℕ
  pub area : Area
  pub state : RegionState
  pub writable : Bool
  pub bytes : List ℕ

-- what is left of a region that was removed: pairs of place and byte, by place
pub record Orphan : Type 0 where
  pub number : ℕ
  pub bytes : List (ℕ × ℕ)

pub record Transfer : Type 0 where
  pub number : ℕ
  pub owner : Option ℕ
  pub direction : Direction
  pub class : Class
  pub device : ℕ
  pub port : ℕ
  pub flow : Option ℕ
  pub addr : Option ℕ
  pub region : Option ℕ
  pub offset : ℕ
  pub len : ℕ
  pub phase : Phase
  pub payload : List ℕ
  pub staged : ℕ
  pub moved : ℕ
  pub stored : ℕ
  pub note : Note

-- the datagram that a device is receiving, what becomes of it, and its payload so far where it is gathered
pub record Datagram : Type 0 where
  pub port : ℕ
  pub flow : Option ℕ
  pub len : ℕ
  pub moved : ℕ
  pub fate : Fate
  pub bytes : List ℕ

pub record Device : Type 0 where
  pub kind : Kind
  pub depth : ℕ
  pub rest : List ℕ
  pub header : List ℕ
  pub present : Option Datagram
  pub is_bad : Bool
  pub sent : List ℕ

-- a live process: its weak queue, as numbers of regions, and its regions in the order of their start pages
pub record Process : Type 0 where
  pub queue : List ℕ
  pub regions : List Region

-- 16 processes and 8 devices at their numbers, orphans and transfers in the order of their numbers, and the number of
-- the next transfer
pub record State : Type 0 where
  pub config : Config
  pub processes : List (Option Process)
  pub orphans : List Orphan
  pub transfers : List Transfer
  pub devices : List (Option Device)
  pub next : ℕ

-- a device that did nothing yet, with the bytes of its input
abbrev pub boot_device : (ℕ → List ℕ) → ℕ → Option DeviceConfig → Option Device
boot_device inputs d None = None
boot_device inputs d (Some c) = Some (record { kind = c.kind; depth = c.depth; rest = inputs d; header = []; present = None; is_bad = false; sent = [] })

-- the devices from number d on
abbrev pub boot_devices : (ℕ → List ℕ) → ℕ → List (Option DeviceConfig) → List (Option Device)
boot_devices inputs d [] = []
boot_devices inputs d (c ∷ configs) = boot_device inputs d c ∷ boot_devices inputs (d + 1) configs

-- nothing but the devices, with the bytes of their inputs
abbrev pub boot : Config → (ℕ → List ℕ) → State
boot c inputs = record { config = c; processes = replicate 16 None; orphans = []; transfers = []; devices = boot_devices inputs 0 c.devices; next = 1 }
