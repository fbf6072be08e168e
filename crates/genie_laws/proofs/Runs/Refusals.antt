-- A step that is refused, and one that the store fails.
use Rattle.std.proofs.Common.{◌≡◌, refl}
use Rattle.std.specs.Prelude.{IsTrue}
use Rattle.genie_base.specs.declared.event.Event.{Event}
use Rattle.genie_model.specs.State.{State}
use Rattle.genie_model.specs.Space.{Outcome}
use Rattle.genie_orderly.specs.Steps.{is_refused}
use Rattle.genie_laws.specs.Laws.{RefusalsChangeNothing}
use Rattle.genie_model.specs.Step.{accept}
use Rattle.genie_orderly.specs.Lemmas.KeptCalls.{accept_did}
use Rattle.genie_model.specs.Lemmas.Steps.{outcome_so}

abbrev Stands : State → Outcome → Type 0
Stands s o = IsTrue (is_refused o.1) → o.0 ≡ s

accept_stands : (s : State) (e : Event) → Stands s (accept s e)
accept_stands s e h = let no = (accept_did s e).taken in absurd (cc)

pub refusals_change_nothing : RefusalsChangeNothing
refusals_change_nothing s e m = outcome_so (Stands s) s e (λ w h. refl) (λ h. refl) (λ _. accept_stands s e) (λ _ k fails h. absurd (cc)) m
