use Rattle.genie_room.proofs.Kept.{places_fit}
use Rattle.genie_room.proofs.laws.places_fit.Goals as goal

pub returns : goal.returns
returns c = places_fit
