-- Which limits a script keeps that comes to its events.
use Rattle.std.specs.Prelude.{◌≡◌, ℕ, IsTrue, List, All}
use Rattle.genie_base.specs.Configs.{Fits}
use Rattle.genie_base.specs.Events.{is_whole}
use Rattle.genie_script.specs.Judge.{Part, Booted, Numbered, boot_part, events_from}
use Rattle.genie_script.specs.Texts.{lines_of}

-- the configuration keeps every limit, and each event is whole
pub record KeepsLimits (part : Part) (events : List Numbered) : Type 0 where
  pub fits : Fits part.config
  pub whole : All (λ (n : Numbered). IsTrue (is_whole n.1)) events

-- So it is in every script whose boot part is whole.
abbrev pub ScriptsKeepLimits : Type 0
ScriptsKeepLimits = (script text : List ℕ) (part : Part) (before : ℕ) (lines : List (List ℕ)) → boot_part script 0 (lines_of text) ≡ Booted part before lines → KeepsLimits part (events_from before lines)
