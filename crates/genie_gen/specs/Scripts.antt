-- What the made script says: a configuration, three devices, and events.
use Rattle.std.specs.Prelude.{◌≡◌, ℕ, zero, suc, ◌+◌, ◌≤◌, List, [], ◌∷◌, ◌++◌, map, flat_map, codes, replicate, None, Some}
use Rattle.genie_base.specs.Configs.{Config}
use Rattle.genie_base.specs.declared.config.Kind.TheVariants.{Early, Pooled, Outboard}
use Rattle.genie_base.specs.declared.event.Event.{Event}
use Rattle.genie_base.specs.declared.event.Event.TheVariants as event
use Rattle.genie_script.specs.Judge.{Booted, Numbered, Part, boot_part, ending_from, events_from, line_config}
use Rattle.genie_script.specs.Spelling.{line_text}
use Rattle.genie_script.specs.Texts.{lines_of}
use Rattle.genie_script.specs.declared.judge.Ending.TheVariants.{End}
use Rattle.genie_script.specs.declared.line.DeviceLine.{DeviceLine}
use Rattle.genie_script.specs.declared.line.Line.{Line}
use Rattle.genie_script.specs.declared.line.Line.TheVariants as line
use Rattle.genie_gen.specs.Draws.{after, round_of}
use Rattle.genie_gen.specs.Rounds.{ended, round_events, script_text}

-- one device of each kind
abbrev pub early_device : DeviceLine
early_device = record { number = 0; kind = Early; input = Some (codes "i0"); output = Some (codes "o0"); depth = 1; offset = 0 }

abbrev pub pooled_device : DeviceLine
pooled_device = record { number = 1; kind = Pooled; input = Some (codes "i1"); output = Some (codes "o1"); depth = 1; offset = 5 }

abbrev pub outboard_device : DeviceLine
outboard_device = record { number = 2; kind = Outboard; input = Some (codes "i2"); output = Some (codes "o2"); depth = 2; offset = 0 }

-- pages of 16 bytes, 64 frames, 128 slots, the thresholds 16 and 8, and the three devices
abbrev pub made_config : Config
made_config = record {
  page = 16;
  frames = 64;
  slots = 128;
  copy_out = 16;
  reverse_copy_out = 8;
  devices = Some (line_config early_device) ∷ Some (line_config pooled_device) ∷ Some (line_config outboard_device) ∷ replicate 5 None;
}

abbrev pub made_part : Part
made_part = record { config = made_config; devices = early_device ∷ pooled_device ∷ outboard_device ∷ [] }

-- processes 0 and 1, and eight pages of process 0
abbrev pub first_events : List Event
first_events = event.Spawn 0 ∷ event.Spawn 1 ∷ event.Map 0 0 8 ∷ []

-- the events of so many rounds from round i on, drawn from the state x
abbrev pub rounds_events : ℕ → ℕ → ℕ → List Event
rounds_events x i zero = []
rounds_events x i (suc n) = round_events (round_of x) i ++ rounds_events (after 13 x) (i + 1) n

-- the events of the made script
unfoldable pub made_events : ℕ → ℕ → List Event
made_events seed rounds = first_events ++ rounds_events seed 0 rounds

-- its lines: the boot line, a line for each device, and a line for each event
abbrev pub made_lines : ℕ → ℕ → List Line
made_lines seed rounds = line.Boot 16 64 128 16 8 ∷ map line.Device made_part.devices ++ map line.Event (made_events seed rounds)

-- a line as it is spelled, with its end
abbrev pub spelled : Line → List ℕ
spelled l = ended (line_text l)

-- events with the numbers of their lines, where so many lines stand before the first one
abbrev pub numbered : ℕ → List Event → List Numbered
numbered before [] = []
numbered before (e ∷ events) = (before + 1, e) ∷ numbered (before + 1) events

-- The made script is the spelling of its lines, and says what they say: its boot part is whole, and behind its four lines
-- come the events, one a line, up to the end.
pub record SaysMade (seed rounds : ℕ) : Type 0 where
  pub spelling : script_text seed rounds ≡ flat_map spelled (made_lines seed rounds)
  pub lines : List (List ℕ)
  pub booted : boot_part (codes "made") 0 (lines_of (script_text seed rounds)) ≡ Booted made_part 4 lines
  pub events : events_from 4 lines ≡ numbered 4 (made_events seed rounds)
  pub ending : ending_from 4 lines ≡ End

-- So is each made script, of any seed and of as many rounds as the command allows.
abbrev pub MadeScriptsAreWhole : Type 0
MadeScriptsAreWhole = (seed rounds : ℕ) → rounds ≤ 30000 → SaysMade seed rounds
