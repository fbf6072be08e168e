-- Runs of events.
use Rattle.std.specs.Prelude.{List}
use Rattle.genie_base.specs.declared.event.Event.{Event}
use Rattle.genie_base.specs.declared.reply.Reply.{Reply}
use Rattle.genie_model.specs.State.{State}
use Rattle.genie_model.specs.Step.{Follows}

-- These events were stepped from this state: these replies were given, and this state was reached.
pub record Stepped (start : State) (events : List Event) : Type 0 where
  pub replies : List Reply
  pub last : State
  pub follows : Follows start events replies last
