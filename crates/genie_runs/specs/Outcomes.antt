-- What two runs by the kernel come to, of scripts whose texts differ in nothing but the thresholds and the letter `e`.
use Rattle.std.specs.Prelude.{◌≡◌, ℕ, List, Option, Some, ⊤}
use Rattle.genie_host.specs.Host.{HostView}
use Rattle.genie_store.specs.StoreView.{StoreView}
use Rattle.genie_script.specs.Judge.{Booted, Numbered, Part, boot_part, events_from}
use Rattle.genie_script.specs.Texts.{lines_of}
use Rattle.genie_kernel.specs.declared.kernel.Kernel.{Kernel}
use Rattle.genie_replay.specs.declared.status.Status.{Status}
use Rattle.genie_replay.specs.declared.status.Status.TheVariants.{HostFault, NoMemory}
use Rattle.genie_playing.specs.declared.costs.Listing.{Listing}
use Rattle.genie_running.specs.Outcome.{OutcomeOf, RanAll, TellBytes}
use Rattle.genie_runs.specs.ByKernel.{AreComparable, RanAlike}
use Rattle.genie_runs.specs.Texts.{TextsAlike}

-- neither a failure nor want of memory cut the run short
abbrev pub CameToEnd : Status → Type 0
CameToEnd HostFault = ⊥
CameToEnd NoMemory = ⊥
CameToEnd status = ⊤

-- Both runs ended with the same status, and all events of each were stepped. Where bytes are told, the inputs are the same and
-- no reply shows a failure, the two are alike.
pub record EndedAlike (listing shown : Listing) (script other : List ℕ) (p q : Part) (events others : List Numbered) (s t : Status) (kernel last : Option Kernel) (old new before after : HostView) (v w x y : StoreView) : Type 0 where
  pub status : t ≡ s
  pub one : RanAll listing script p events kernel old new v w
  pub two : RanAll shown other q others last before after x y
  pub alike : (a : TellBytes p.devices old v) (b : TellBytes q.devices before x) → AreComparable (one.ran.flat a) (two.ran.flat b) → RanAlike (one.ran.flat a) (two.ran.flat b)

-- So it is where both boot parts are whole, whether costs are listed or not.
abbrev pub OutcomesAreAlike : Type 0
OutcomesAreAlike = (listing shown : Listing) (script renamed text other : List ℕ) (p q : Part) (n m : ℕ) (lines others : List (List ℕ)) (s t : Status) (kernel last : Option Kernel) (old new before after : HostView) (v w x y : StoreView) → TextsAlike text other
    → boot_part script 0 (lines_of text) ≡ Booted p n lines → boot_part renamed 0 (lines_of other) ≡ Booted q m others
    → OutcomeOf listing script (Some text) s kernel old new v w → OutcomeOf shown renamed (Some other) t last before after x y → CameToEnd s → CameToEnd t
    → EndedAlike listing shown script renamed p q (events_from n lines) (events_from m others) s t kernel last old new before after v w x y
