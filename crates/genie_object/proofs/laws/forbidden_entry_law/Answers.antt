use Rattle.genie_object.specs.Lemmas.Forbidden.{sound_forbidden, keeps_forbidden, seen_forbidden}
use Rattle.genie_object.proofs.laws.forbidden_entry_law.Goals as goal

pub returns : goal.returns
returns c = λ m o i s there. record { sound = sound_forbidden m o i there s; keeps = keeps_forbidden m o i there; shown = seen_forbidden m o i there }
