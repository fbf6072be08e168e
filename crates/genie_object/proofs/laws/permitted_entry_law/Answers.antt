use Rattle.genie_object.specs.Lemmas.Granted.{sound_granted, seen_granted}
use Rattle.genie_object.proofs.laws.permitted_entry_law.Goals as goal

pub returns : goal.returns
returns c = λ m o i w x. record { sound = sound_granted m o i w x.there x.sound x.framed x.own; shown = seen_granted m o i w x.there }
