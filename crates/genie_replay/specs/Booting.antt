-- Reading the boot part of a script.
use Rattle.std.specs.Prelude.{◌≡◌, ◌≤◌, ℕ, true, List, Option, None, Some, Result, Ok, Err, ⊤}
use Rattle.genie_script.specs.Judge.{Part, Boot, Refused, Booted, boot_fits, boot_part, device_part, part_of}
use Rattle.genie_script.specs.Texts.{lines_of}
use Rattle.genie_replay.specs.declared.booting.Found.{Found}
use Rattle.genie_replay.specs.declared.booting.Found.TheVariants as found
use Rattle.genie_replay.specs.declared.booting.BootRead.{BootRead}
use Rattle.genie_replay.specs.declared.booting.BootRead.TheVariants as read
use Rattle.genie_replay.specs.declared.script.LineStep.{LineStep}
use Rattle.genie_replay.specs.Lines.{IsPending}

-- The boot line was found, and the device lines are those of the rest.
abbrev pub IsFound : List (List ℕ) → List ℕ → Found → Type 0
IsFound lines rest (found.Refused ending) = (script : List ℕ) → boot_part script 0 lines ≡ Refused ending
IsFound lines rest (found.Boot boot before) = (script : List ℕ) → boot_part script 0 lines ≡ device_part script (part_of boot) before (lines_of rest)

abbrev pub FindsBoot : {E : Type 0} → Option (List ℕ) → Option (List ℕ) → Result Found E → Type 0
FindsBoot None rest result = ⊤
FindsBoot (Some text) None result = ⊥
FindsBoot (Some text) (Some rest) (Ok f) = IsFound (lines_of text) rest f
FindsBoot (Some text) (Some rest) (Err e) = ⊤

abbrev pub FitsFound : Found → Type 0
FitsFound (found.Refused ending) = ⊤
FitsFound (found.Boot boot before) = (boot_fits boot ≡ true) × (before ≤ 1000000)

-- the boot part is whole, and of the lines that are left the first one was read
pub record Whole (boot : Boot) (part : Part) (before : ℕ) (step : LineStep) (line rest : List ℕ) : Type 0 where
  pub lines : List (List ℕ)
  pub is : boot ≡ Booted part before lines
  pub pending : IsPending lines step line rest

-- what the boot part came to
abbrev pub IsRead : Boot → List ℕ → List ℕ → BootRead → Type 0
IsRead boot line rest (read.Refused ending) = boot ≡ Refused ending
IsRead boot line rest read.NoMemory = ⊤
IsRead boot line rest (read.Whole part step before) = Whole boot part before step line rest

abbrev pub ReadsDevices : {E : Type 0} → List ℕ → Part → ℕ → Option (List ℕ) → Option (List ℕ) → List ℕ → Result BootRead E → Type 0
ReadsDevices script part before None rest line result = ⊤
ReadsDevices script part before (Some text) None line result = ⊥
ReadsDevices script part before (Some text) (Some rest) line (Ok r) = IsRead (device_part script part before (lines_of text)) line rest r
ReadsDevices script part before (Some text) (Some rest) line (Err e) = ⊤

abbrev pub ReadsBoot : {E : Type 0} → List ℕ → Option (List ℕ) → Option (List ℕ) → List ℕ → Result BootRead E → Type 0
ReadsBoot script None rest line result = ⊤
ReadsBoot script (Some text) None line result = ⊥
ReadsBoot script (Some text) (Some rest) line (Ok r) = IsRead (boot_part script 0 (lines_of text)) line rest r
ReadsBoot script (Some text) (Some rest) line (Err e) = ⊤

-- a place among the first million lines
abbrev pub IsSmall : BootRead → Type 0
IsSmall (read.Refused ending) = ⊤
IsSmall read.NoMemory = ⊤
IsSmall (read.Whole part step before) = before ≤ 1000000
