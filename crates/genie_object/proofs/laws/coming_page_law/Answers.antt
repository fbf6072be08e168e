use Rattle.genie_object.specs.Lemmas.Filled.{sound_filled, seen_filled}
use Rattle.genie_object.proofs.laws.coming_page_law.Goals as goal

pub returns : goal.returns
returns c = λ m p g b x. record { sound = sound_filled m p g b x.sound x.some x.unheld x.there x.free x.full; shown = seen_filled m p g b x.sound x.some x.unheld x.there x.free x.full }
