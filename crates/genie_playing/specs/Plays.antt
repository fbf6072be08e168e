-- What the run of the lines behind the boot part does.
use Rattle.std.specs.Prelude.{◌≡◌, ℕ, List, ◌++◌, map, Option, None, Some, ⊤}
use Rattle.std.specs.Io.KnownBytes.{Appends}
use Rattle.genie_base.specs.declared.event.Event.{Event}
use Rattle.genie_host.specs.Host.{HostView}
use Rattle.genie_script.specs.Judge.{Numbered, events_from, ending_from}
use Rattle.genie_script.specs.declared.judge.Ending.{Ending}
use Rattle.genie_replay.specs.declared.script.LineStep.{LineStep}
use Rattle.genie_replay.specs.declared.status.Status.{Status}
use Rattle.genie_replay.specs.declared.status.Status.TheVariants.{HostFault}
use Rattle.genie_replay.specs.Files.{HandleRose}
use Rattle.genie_replay.specs.Lines.{IsPending}
use Rattle.genie_replay.specs.Outcome.{events_of}
use Rattle.genie_replay.specs.Statuses.{status_of}
use Rattle.genie_replay.specs.Write.{AppendsUpToLast}
use Rattle.genie_playing.specs.declared.costs.Listing.{Listing}
use Rattle.genie_playing.specs.Costs.{AddUp, Answer, all_said, replies_of, said}
use Rattle.genie_playing.specs.Faults.{AreCounted}
use Rattle.genie_playing.specs.Moments.{Moment, Steps, FollowsTold, meters_of, shown}

-- The kernel stepped these events. Where bytes are told, the replies are the flat machine's from the state that the kernel
-- stood for, and it stands for the state that was reached. Each failure that a reply shows was counted. What the events cost
-- adds up to how far the meters rose.
pub record Played (start : Moment) (events : List Event) (last : Moment) : Type 0 where
  pub answers : List Answer
  pub steps : Steps start events answers last
  pub follows : FollowsTold (shown start) events (replies_of answers) (shown last)
  pub counted : AreCounted start.kernel.config events (replies_of answers) start.host last.host start.store last.store
  pub costs : AddUp (meters_of start) answers (meters_of last)

-- what is said of each event was written; where a failure of the host ended the run, but for the end of the last one at most
abbrev pub Writes : Listing → Status → Option (List ℕ) → Option (List ℕ) → List Answer → Type 0
Writes listing HostFault old new answers = AppendsUpToLast old new (map (said listing) answers)
Writes listing s old new answers = Appends old new (all_said listing answers)

-- these are the first ones of the events; where no failure of the host ended the run, they are all
abbrev pub AreStepped : Status → List Numbered → List Numbered → Type 0
AreStepped HostFault done events = (left : List Numbered) × (events ≡ done ++ left)
AreStepped s done events = events ≡ done

-- and the run ends as the script does
abbrev pub EndsAs : Status → Ending → Type 0
EndsAs HostFault ending = ⊤
EndsAs s ending = s ≡ status_of ending

-- where the host tells what is left of the script: the line that was read, and the text behind it
abbrev pub IsOfScript : Status → Option (List ℕ) → LineStep → List ℕ → ℕ → List Numbered → Type 0
IsOfScript s None step line before done = ⊤
IsOfScript s (Some text) step line before done = (lines : List (List ℕ)) → IsPending lines step line text → EndsAs s (ending_from before lines) × AreStepped s done (events_from before lines)

-- The events of the lines were stepped, and what is said of each was written.
pub record Plays (listing : Listing) (s : Status) (text : Option (List ℕ)) (step : LineStep) (line : List ℕ) (before : ℕ) (start last : Moment) : Type 0 where
  pub events : List Numbered
  pub run : Played start (events_of events) last
  pub written : Writes listing s (start.host.handle 0).bytes (last.host.handle 0).bytes run.answers
  pub told : IsOfScript s text step line before events

-- No file was opened. The run failed only where the count of the replies' handle or of the script's rose.
pub record Leaves (status : Status) (old new : HostView) : Type 0 where
  pub tried : new.tried ≡ old.tried
  pub opened : new.opened ≡ old.opened
  pub refusals : new.refusals ≡ old.refusals
  pub cause : status ≡ HostFault → HandleRose 1 old new
