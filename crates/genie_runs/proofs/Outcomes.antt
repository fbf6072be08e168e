-- The outcomes of two texts that are alike.
use Rattle.std.proofs.Common.{◌≡◌, ℕ, List, sym, ap, ◌∙◌, subst}
use Rattle.std.specs.Prelude.{Option, Some}
use Rattle.genie_host.specs.Host.{HostView}
use Rattle.genie_store.specs.StoreView.{StoreView}
use Rattle.genie_script.specs.Judge.{Booted, Numbered, Part, boot_part, ending_from, events_from}
use Rattle.genie_script.specs.Texts.{lines_of}
use Rattle.genie_script.specs.declared.judge.Ending.{Ending}
use Rattle.genie_kernel.specs.declared.kernel.Kernel.{Kernel}
use Rattle.genie_replay.specs.Statuses.{status_of}
use Rattle.genie_replay.specs.declared.status.Status.{Status}
use Rattle.genie_replay.specs.declared.status.Status.TheVariants.{Done, Usage, BadLine, HostFault, NoMemory, TooLong, BadBoot}
use Rattle.genie_playing.specs.declared.costs.Listing.{Listing}
use Rattle.genie_running.specs.Outcome.{EndsBy, IsOutcome, OutcomeOf, RanAll, RunsBy}
use Rattle.genie_runs.specs.ByKernel.{TextsRunAlike}
use Rattle.genie_runs.specs.Outcomes.{CameToEnd, OutcomesAreAlike}
use Rattle.genie_runs.specs.Texts.{ScriptsSayAlike}

status_told : (s : Status) (ending : Ending) → CameToEnd s → EndsBy s ending → s ≡ status_of ending
status_told Done ending c e = e
status_told Usage ending c e = e
status_told (BadLine l) ending c e = e
status_told HostFault ending c e = absurd c
status_told NoMemory ending c e = absurd c
status_told TooLong ending c e = e
status_told (BadBoot l) ending c e = e

ran_all : (listing : Listing) (s : Status) (script : List ℕ) (p : Part) (events : List Numbered) (kernel : Option Kernel) (old new : HostView) (v w : StoreView) → CameToEnd s → RunsBy listing s script p events kernel old new v w → RanAll listing script p events kernel old new v w
ran_all listing Done script p events kernel old new v w c r = r
ran_all listing Usage script p events kernel old new v w c r = r
ran_all listing (BadLine l) script p events kernel old new v w c r = r
ran_all listing HostFault script p events kernel old new v w c r = absurd c
ran_all listing NoMemory script p events kernel old new v w c r = absurd c
ran_all listing TooLong script p events kernel old new v w c r = r
ran_all listing (BadBoot l) script p events kernel old new v w c r = r

-- the status and the run of a script whose boot part is whole
outcome : (listing : Listing) (s : Status) (script text : List ℕ) (p : Part) (n : ℕ) (lines : List (List ℕ)) (kernel : Option Kernel) (old new : HostView) (v w : StoreView) → boot_part script 0 (lines_of text) ≡ Booted p n lines → CameToEnd s → OutcomeOf listing script (Some text) s kernel old new v w → (s ≡ status_of (ending_from n lines)) × RanAll listing script p (events_from n lines) kernel old new v w
outcome listing s script text p n lines kernel old new v w e c o =
    let is : IsOutcome listing script (Booted p n lines) s kernel old new v w = subst (λ b. IsOutcome listing script b s kernel old new v w) e o in
    (status_told s (ending_from n lines) c is.0, ran_all listing s script p (events_from n lines) kernel old new v w c is.1)

pub outcomes_are_alike : ScriptsSayAlike → TextsRunAlike → OutcomesAreAlike
outcomes_are_alike say law listing shown script renamed text other p q n m lines others s t kernel last old new before after v w x y alike first second one two c d =
    let a = outcome listing s script text p n lines kernel old new v w first c one in
    let b = outcome shown t renamed other q m others last before after x y second d two in
    record {
      status = b.0 ∙ ap status_of (say script renamed text other p q n m lines others alike first second).ending ∙ sym a.0;
      one = a.1;
      two = b.1;
      alike = λ e f. law script renamed text other p q n m lines others _ _ a.1.last b.1.last old new before after w y alike first second (a.1.ran.flat e) (b.1.ran.flat f);
    }
