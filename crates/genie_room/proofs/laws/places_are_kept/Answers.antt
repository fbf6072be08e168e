use Rattle.genie_room.proofs.Kept.{places_kept}
use Rattle.genie_room.proofs.laws.places_are_kept.Goals as goal

pub returns : goal.returns
returns c = places_kept
