-- What every step does, and what is so of every state that a run reaches.
use Rattle.std.specs.Prelude.{◌≡◌, ℕ, ◌+◌, ◌≤◌, Bool, true, false, IsTrue, List, [], ◌∷◌, ◌++◌, All}
use Rattle.genie_base.specs.Configs.{Config, Fits}
use Rattle.genie_base.specs.Events.{is_whole, mark_of}
use Rattle.genie_base.specs.declared.event.Event.{Event}
use Rattle.genie_base.specs.declared.reply.Mark.{Mark}
use Rattle.genie_base.specs.declared.reply.Mark.TheVariants.{NoFault}
use Rattle.genie_base.specs.declared.reply.Reply.{Reply}
use Rattle.genie_model.specs.Sending.{sent_of}
use Rattle.genie_orderly.specs.Orderly.{shape_of, IsOrderly}
use Rattle.genie_model.specs.State.{State, boot}
use Rattle.genie_model.specs.Step.{step, Follows}
use Rattle.genie_model.specs.Tables.{entry}
use Rattle.genie_base.specs.declared.reply.Reply.TheVariants as reply

-- what every step from an orderly state leaves so
abbrev pub Stays : (State → Type 0) → Type 0
Stays P = (s : State) (e : Event) (m : Mark) → IsTrue (is_whole e) → IsOrderly s → P (step s e m).0

-- devices keep their kinds and depths, and what they have sent stays sent: a step only adds to it; and the number of the
-- next transfer stays or rises by one
pub record Grows (old new : State) : Type 0 where
  pub devices : (d : ℕ) → shape_of (entry new.devices d) ≡ shape_of (entry old.devices d)
  pub sent : (d : ℕ) → (more : List ℕ) × (sent_of new d ≡ sent_of old d ++ more)
  pub least : old.next ≤ new.next
  pub next : new.next ≤ old.next + 1

abbrev pub StepsGrow : Type 0
StepsGrow = (s : State) (e : Event) (m : Mark) → Grows s (step s e m).0

-- the configuration stays
abbrev pub StepsKeepConfig : Type 0
StepsKeepConfig = (s : State) (e : Event) (m : Mark) → (step s e m).0.config ≡ s.config

-- where nothing fails, the reply shows no fault
abbrev pub PlainStepsShowNoFault : Type 0
PlainStepsShowNoFault = (s : State) (e : Event) → mark_of (step s e NoFault).1 ≡ NoFault

abbrev pub ShowNoFault : List Reply → Type 0
ShowNoFault replies = All (λ (r : Reply). mark_of r ≡ NoFault) replies

-- a refusal, or a failure of the store
abbrev pub is_refused : Reply → Bool
is_refused (reply.Err refusal) = true
is_refused reply.StoreFault = true
is_refused _ = false

abbrev pub id_of : Reply → List ℕ
id_of (reply.Id k) = k ∷ []
id_of _ = []

-- with no process and no transfer, whatever the devices receive
abbrev pub BootIsOrderly : Type 0
BootIsOrderly = (c : Config) (inputs : ℕ → List ℕ) → Fits c → IsOrderly (boot c inputs)

-- every state that a run reaches is orderly
abbrev pub RunsStayOrderly : Type 0
RunsStayOrderly = (c : Config) (inputs : ℕ → List ℕ) (es : List Event) (rs : List Reply) (last : State) → Fits c → All (λ (e : Event). IsTrue (is_whole e)) es → Follows (boot c inputs) es rs last → IsOrderly last
