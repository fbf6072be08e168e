-- An emulated call and the basic one.
use Rattle.std.proofs.Common.{refl}
use Rattle.genie_base.specs.declared.event.Event.TheVariants.{Output, Input}
use Rattle.genie_base.specs.declared.semantics.Semantics.TheVariants as semantics
use Rattle.genie_laws.specs.Laws.{LevelsStepAlike}

pub levels_step_alike : LevelsStepAlike
levels_step_alike s (Output p semantics.Copy d port flow a n) m = refl
levels_step_alike s (Input p semantics.Copy d port flow a n) m = refl
levels_step_alike s e m = refl
