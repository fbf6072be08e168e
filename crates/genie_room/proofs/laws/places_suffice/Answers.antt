use Rattle.genie_room.proofs.Kept.{places_suffice}
use Rattle.genie_room.proofs.laws.places_suffice.Goals as goal

pub returns : goal.returns
returns c = places_suffice
