-- What a script says: its configuration and its devices, its events in order, and how it ends.
use Rattle.std.specs.Prelude.{◌≡◌, count_by, ℕ, ◌+◌, ◌*◌, ◌&&◌, ◌||◌, Bool, true, false, not, nat_lt, nat_le, List, [], ◌∷◌, ◌++◌, length, bytes_eq, codes, replicate, slice_set, slice_index_or, is_some, Option, None, Some, ⊤, if◌then◌else◌}
use Rattle.std.specs.List.{list_any}
use Rattle.genie_base.specs.Configs.{Config, DeviceConfig, Fits, pool_of, most_depth, offset_end}
use Rattle.genie_base.specs.Counts.{is_page_size}
use Rattle.genie_base.specs.declared.event.Event.{Event}
use Rattle.genie_script.specs.declared.line.Line.{Line}
use Rattle.genie_script.specs.declared.line.Line.TheVariants as line
use Rattle.genie_script.specs.declared.line.DeviceLine.{DeviceLine}
use Rattle.genie_script.specs.declared.judge.BootLine.{BootLine}
use Rattle.genie_script.specs.declared.judge.Ending.{Ending}
use Rattle.genie_script.specs.declared.judge.Ending.TheVariants.{End, BadLine, TooLong, BadBoot}
use Rattle.genie_script.specs.declared.judge.Judged.{Judged}
use Rattle.genie_script.specs.declared.judge.Judged.TheVariants.{Passed, Taken, Ends}
use Rattle.genie_script.specs.Lines.{line_of, is_blank}
use Rattle.genie_script.specs.Words.{front}

-- A script may have 1,000,000 lines of at most 8,300 bytes. This many lines stand before it.
abbrev pub is_long : ℕ → List ℕ → Bool
is_long before line = nat_lt 8300 (length line) || nat_le 1000000 before

abbrev pub is_within : ℕ → ℕ → ℕ → Bool
is_within low high n = nat_le low n && nat_le n high

-- one answer for each of what a line may come to
abbrev pub on_judged : {X Y : Type 0} → Judged X → Y → (X → Y) → (Ending → Y) → Y
on_judged Passed passed taken ends = passed
on_judged (Taken x) passed taken ends = taken x
on_judged (Ends ending) passed taken ends = ends ending

-- the limits of the five numbers of a boot line
abbrev pub boot_fits : BootLine → Bool
boot_fits b = is_page_size b.page && is_within 16 4096 b.frames && is_within 1 8192 b.slots && nat_le b.cout (16 * b.page) && nat_le b.rcout b.page

-- the configuration of a boot line: no device yet
abbrev pub boot_config : BootLine → Config
boot_config b = record { page = b.page; frames = b.frames; slots = b.slots; copy_out = b.cout; reverse_copy_out = b.rcout; devices = replicate 8 None }

abbrev pub bounded : ℕ → BootLine → Judged BootLine
bounded before b = if boot_fits b then Taken b else Ends (BadBoot (before + 1))

-- what a line says before the boot line, where this many lines stand before it
abbrev pub first_said : ℕ → Option Line → Judged BootLine
first_said before None = Ends (BadLine (before + 1))
first_said before (Some line.Blank) = Passed
first_said before (Some (line.Boot page frames slots cout rcout)) = bounded before (record { page = page; frames = frames; slots = slots; cout = cout; rcout = rcout })
first_said before (Some (line.Device d)) = Ends (BadLine (before + 1))
first_said before (Some (line.Event e)) = Ends (BadLine (before + 1))

abbrev pub first_judged : ℕ → List ℕ → Judged BootLine
first_judged before text = if is_long before text then Ends TooLong else first_said before (line_of text)

-- the boot part so far: the configuration, and the device lines in their order
pub record Part : Type 0 where
  pub config : Config
  pub devices : List DeviceLine

abbrev pub part_of : BootLine → Part
part_of b = record { config = boot_config b; devices = [] }

-- the device of a line: of its files only whether they are there
abbrev pub line_config : DeviceLine → DeviceConfig
line_config d = record { kind = d.kind; has_input = is_some d.input; has_output = is_some d.output; depth = d.depth; offset = d.offset }

abbrev pub config_with : Config → DeviceLine → Config
config_with c d = record c { devices = slice_set c.devices d.number (Some (line_config d)) }

abbrev pub with_device : Part → DeviceLine → Part
with_device p d = record { config = config_with p.config d; devices = p.devices ++ d ∷ [] }

abbrev pub is_unused : Option DeviceConfig → Bool
is_unused None = true
is_unused (Some d) = false

-- the number is below 8 and not used yet
abbrev pub has_place : Config → DeviceLine → Bool
has_place c d = nat_lt d.number 8 && is_unused (slice_index_or c.devices d.number None)

-- the limits of a device's depth and offset, and of all pools with this one
abbrev pub keeps_limits : Config → DeviceLine → Bool
keeps_limits c d = is_within 1 (most_depth d.kind) d.depth && nat_lt d.offset (offset_end d.kind c.page) && nat_le (pool_of (config_with c d).devices + 8) c.frames

-- the file is there and has this name
abbrev pub is_named : List ℕ → Option (List ℕ) → Bool
is_named name None = false
is_named name (Some file) = bytes_eq file name

abbrev pub is_output : List DeviceLine → List ℕ → Bool
is_output devices name = list_any (λ d. is_named name d.output) devices

abbrev pub is_input : List DeviceLine → List ℕ → Bool
is_input devices name = list_any (λ d. is_named name d.input) devices

-- An output is neither the script, nor an output or an input of an earlier line, nor the input of this one.
abbrev pub may_send : List ℕ → List DeviceLine → DeviceLine → Option (List ℕ) → Bool
may_send script devices d None = true
may_send script devices d (Some name) = not (bytes_eq name script) && not (is_output devices name) && not (is_input devices name) && not (is_named name d.input)

-- An input is no output of an earlier line.
abbrev pub may_receive : List DeviceLine → Option (List ℕ) → Bool
may_receive devices None = true
may_receive devices (Some name) = not (is_output devices name)

-- the boot bounds of a device line
abbrev pub is_bounded : List ℕ → Part → DeviceLine → Bool
is_bounded script p d = has_place p.config d && keeps_limits p.config d && may_send script p.devices d d.output && may_receive p.devices d.input

-- what a device line says
abbrev pub device_said : List ℕ → Part → ℕ → Option Line → Judged DeviceLine
device_said script p before None = Ends (BadLine (before + 1))
device_said script p before (Some line.Blank) = Passed
device_said script p before (Some (line.Boot page frames slots cout rcout)) = Ends (BadLine (before + 1))
device_said script p before (Some (line.Device d)) = if is_bounded script p d then Taken d else Ends (BadBoot (before + 1))
device_said script p before (Some (line.Event e)) = Ends (BadLine (before + 1))

-- A line of the device part: its first word is `device`, or it is blank.
abbrev pub is_device_text : List ℕ → Bool
is_device_text text = is_blank text || bytes_eq (front 32 text) (codes "device")

abbrev pub stays : ℕ → List ℕ → Bool
stays before text = is_device_text text && not (is_long before text)

-- the boot part: it ends the script, or it is whole, and so many lines stand before those that are left
pub data Boot : Type 0 where
  Refused : (ending : Ending) → Boot
  Booted : (part : Part) (before : ℕ) (lines : List (List ℕ)) → Boot

-- the device lines from here on
abbrev pub device_part : List ℕ → Part → ℕ → List (List ℕ) → Boot
device_part script p before [] = Booted p before []
device_part script p before (text ∷ lines) = if stays before text then on_judged (device_said script p before (line_of text)) (device_part script p (before + 1) lines) (λ d. device_part script (with_device p d) (before + 1) lines) Refused else Booted p before (text ∷ lines)

-- the boot line comes first
abbrev pub boot_part : List ℕ → ℕ → List (List ℕ) → Boot
boot_part script before [] = Refused (BadBoot 0)
boot_part script before (text ∷ lines) = on_judged (first_judged before text) (boot_part script (before + 1) lines) (λ b. device_part script (part_of b) (before + 1) lines) Refused

-- what a line says behind the boot part
abbrev pub event_said : ℕ → Option Line → Judged Event
event_said before None = Ends (BadLine (before + 1))
event_said before (Some line.Blank) = Passed
event_said before (Some (line.Boot page frames slots cout rcout)) = Ends (BadLine (before + 1))
event_said before (Some (line.Device d)) = Ends (BadLine (before + 1))
event_said before (Some (line.Event e)) = Taken e

abbrev pub event_judged : ℕ → List ℕ → Judged Event
event_judged before text = if is_long before text then Ends TooLong else event_said before (line_of text)

-- an event, and the number of its line
abbrev pub Numbered : Type 0
Numbered = ℕ × Event

-- the events from here on, up to the first line that ends the script
abbrev pub events_from : ℕ → List (List ℕ) → List Numbered
events_from before [] = []
events_from before (text ∷ lines) = on_judged (event_judged before text) (events_from (before + 1) lines) (λ e. (before + 1, e) ∷ events_from (before + 1) lines) (λ ending. [])

abbrev pub ending_from : ℕ → List (List ℕ) → Ending
ending_from before [] = End
ending_from before (text ∷ lines) = on_judged (event_judged before text) (ending_from (before + 1) lines) (λ e. ending_from (before + 1) lines) (λ ending. ending)

-- P holds of what a line says, if it says something
abbrev pub IfTaken : {X : Type 0} → Judged X → (X → Type 0) → Type 0
IfTaken Passed P = ⊤
IfTaken (Taken x) P = P x
IfTaken (Ends ending) P = ⊤

-- Every limit is kept, and there are as many device lines as places that are used.
pub record IsPart (p : Part) : Type 0 where
  pub fits : Fits p.config
  pub places : count_by is_unused p.config.devices + length p.devices ≡ 8
