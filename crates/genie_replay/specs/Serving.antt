-- What stepping one event, and one line, does to the machine and to the host.
use Rattle.std.specs.Prelude.{◌≡◌, Option, None, Some, Result, Ok, Err}
use Rattle.genie_base.specs.declared.event.Event.{Event}
use Rattle.genie_base.specs.declared.reply.Mark.TheVariants.{NoFault}
use Rattle.genie_host.specs.Host.{HostView}
use Rattle.genie_model.specs.State.{State}
use Rattle.genie_model.specs.Step.{step, Outcome}
use Rattle.genie_script.specs.Spelling.{reply_text}
use Rattle.genie_script.specs.declared.judge.Judged.{Judged}
use Rattle.genie_script.specs.declared.judge.Judged.TheVariants.{Passed, Taken, Ends}
use Rattle.genie_replay.specs.declared.serving.Stop.{Stop}
use Rattle.genie_replay.specs.declared.serving.Stop.TheVariants.{Host, Memory, Ended}
use Rattle.genie_replay.specs.Write.{WritesAll}

-- the step of an event where nothing fails
abbrev pub plain_step : State → Event → Outcome
plain_step s e = step s e NoFault

-- the event was stepped, and then its reply was written
pub record Served (s : State) (e : Event) (machine : Option State) (old new : HostView) (result : Result (Unit {0}) Stop) : Type 0 where
  pub machine_is : machine ≡ Some (plain_step s e).0
  pub reply : WritesAll 0 old new result (reply_text (plain_step s e).1)

-- or memory ran out, and nothing was written
abbrev pub Serves : State → Event → Option State → HostView → HostView → Result (Unit {0}) Stop → Type 0
Serves s e machine old new (Ok u) = Served s e machine old new (Ok u)
Serves s e machine old new (Err Host) = Served s e machine old new (Err Host)
Serves s e machine old new (Err Memory) = (machine ≡ None) × (new ≡ old)
Serves s e machine old new (Err (Ended ending)) = ⊥

abbrev pub ServesFrom : Option State → Event → Option State → HostView → HostView → Result (Unit {0}) Stop → Type 0
ServesFrom None e machine old new result = ⊥
ServesFrom (Some s) e machine old new result = Serves s e machine old new result

-- nothing was stepped or written
pub record Untouched (s : State) (machine : Option State) (old new : HostView) : Type 0 where
  pub machine_is : machine ≡ Some s
  pub host : new ≡ old

-- what a line's step does, by what the line says
abbrev pub TakesLine : Judged Event → State → Option State → HostView → HostView → Result (Unit {0}) Stop → Type 0
TakesLine Passed s machine old new (Ok u) = Untouched s machine old new
TakesLine Passed s machine old new (Err stop) = ⊥
TakesLine (Ends ending) s machine old new (Ok u) = ⊥
TakesLine (Ends ending) s machine old new (Err stop) = (stop ≡ Ended ending) × Untouched s machine old new
TakesLine (Taken e) s machine old new (Ok u) = Served s e machine old new (Ok u)
TakesLine (Taken e) s machine old new (Err stop) = Serves s e machine old new (Err stop)

abbrev pub TakesLineFrom : Judged Event → Option State → Option State → HostView → HostView → Result (Unit {0}) Stop → Type 0
TakesLineFrom judged None machine old new result = ⊥
TakesLineFrom judged (Some s) machine old new result = TakesLine judged s machine old new result
