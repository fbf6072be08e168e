-- What the plain machine is seen as: a state, or none once memory ran out.
use Rattle.std.specs.Prelude.{◌≡◌, ℕ, Option, None, Some, Result, Ok, Err, List}
use Rattle.genie_base.specs.declared.event.Event.{Event}
use Rattle.genie_base.specs.declared.reply.Mark.{Mark}
use Rattle.genie_base.specs.declared.reply.Reply.{Reply}
use Rattle.genie_model.specs.State.{State}
use Rattle.genie_model.specs.Step.{step}
use Rattle.genie_model.specs.Receiving.{with_input}

-- One step, or memory ran out: then it has run out for good.
abbrev pub Steps : {E : Type 0} → Option State → Event → Mark → Option State → Result Reply E → Type 0
Steps (Some s) e m new (Ok r) = (new ≡ Some (step s e m).0) × (r ≡ (step s e m).1)
Steps (Some s) e m new (Err _) = new ≡ None
Steps None e m new (Ok r) = ⊥
Steps None e m new (Err _) = new ≡ None

-- a device got its input, or memory ran out for good
abbrev pub GivesInput : {E : Type 0} → Option State → ℕ → List ℕ → Option State → Result (Unit {0}) E → Type 0
GivesInput (Some s) d bytes new (Ok u) = new ≡ Some (with_input s d bytes)
GivesInput (Some s) d bytes new (Err e) = new ≡ None
GivesInput None d bytes new (Ok u) = ⊥
GivesInput None d bytes new (Err e) = new ≡ None
