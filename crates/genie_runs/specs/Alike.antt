-- Scripts that differ in nothing that the flat machine sees: in a threshold, or in whether a call is emulated.
use Rattle.std.specs.Prelude.{◌≡◌, ℕ, List}
use Rattle.genie_base.specs.Configs.{Config}
use Rattle.genie_host.specs.Host.{HostView}
use Rattle.genie_model.specs.Sending.{sent_of}
use Rattle.genie_laws.specs.Laws.{SameButLevels}
use Rattle.genie_script.specs.Judge.{Numbered}
use Rattle.genie_script.specs.declared.line.DeviceLine.{DeviceLine}
use Rattle.genie_replay.specs.Inputs.{AreTold, AreToldAlike}
use Rattle.genie_replay.specs.Outcome.{Ran, events_of}

abbrev pub SameButThresholds : Config → Config → Type 0
SameButThresholds c d = d ≡ record c { copy_out = d.copy_out; reverse_copy_out = d.reverse_copy_out }

-- the same replies, and the same bytes from each device
pub record SameRun {script other : List ℕ} {c d : Config} {devices : List DeviceLine} {events others : List Numbered} {old new before after : HostView} (a : Ran script c devices events old new) (b : Ran other d devices others before after) : Type 0 where
  pub replies : b.run.replies ≡ a.run.replies
  pub sent : (k : ℕ) → sent_of b.run.last k ≡ sent_of a.run.last k

-- Where the inputs are told and are the same, such scripts run alike.
abbrev pub ScriptsRunAlike : Type 0
ScriptsRunAlike = (script other : List ℕ) (c d : Config) (devices : List DeviceLine) (events others : List Numbered) (old new before after : HostView)
    (a : Ran script c devices events old new) (b : Ran other d devices others before after)
    → SameButThresholds c d → SameButLevels (events_of events) (events_of others) → AreTold old.names devices → AreToldAlike old.names before.names devices → SameRun a b
