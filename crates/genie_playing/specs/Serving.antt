-- What stepping one event, and one line, does.
use Rattle.std.specs.Prelude.{◌≡◌, Result, Ok, Err, IfErr}
use Rattle.genie_base.specs.declared.event.Event.{Event}
use Rattle.genie_host.specs.Host.{HostView}
use Rattle.genie_script.specs.declared.judge.Judged.{Judged}
use Rattle.genie_script.specs.declared.judge.Judged.TheVariants.{Passed, Taken, Ends}
use Rattle.genie_replay.specs.Write.{WritesAll}
use Rattle.genie_playing.specs.declared.costs.Listing.{Listing}
use Rattle.genie_playing.specs.declared.serving.Stop.{Stop}
use Rattle.genie_playing.specs.declared.serving.Stop.TheVariants.{Host, Ended}
use Rattle.genie_playing.specs.Costs.{Answer, said}
use Rattle.genie_playing.specs.Moments.{Moment, StepsTo, moment}

-- the event was stepped, and then what is said of it was written
pub record Answers (listing : Listing) (old : Moment) (e : Event) (new : Moment) (result : Result (Unit {0}) Stop) : Type 0 where
  pub answer : Answer
  pub stepped : HostView
  pub steps : StepsTo old e answer (moment new.kernel stepped new.store)
  pub write : WritesAll 0 stepped new.host result (said listing answer)
  pub stop : IfErr result (λ s. s ≡ Host)

-- what a line's step does, by what the line says
abbrev pub TakesLine : Listing → Judged Event → Moment → Moment → Result (Unit {0}) Stop → Type 0
TakesLine listing Passed old new (Ok u) = new ≡ old
TakesLine listing Passed old new (Err stop) = ⊥
TakesLine listing (Ends ending) old new (Ok u) = ⊥
TakesLine listing (Ends ending) old new (Err stop) = (stop ≡ Ended ending) × (new ≡ old)
TakesLine listing (Taken e) old new result = Answers listing old e new result
