-- What the end of a copy input stands on.
use Rattle.genie_room.specs.Bounds.{PlansAreShort}
use Rattle.genie_room.specs.Frames.{CopiesAreAvailable}
use Rattle.genie_room.specs.Places.{BuffersSuffice, PlacesSuffice}
use Rattle.genie_changes.specs.Making.{KeptSinceMoved, MemoryIsMoved, MovesOn}
use Rattle.genie_changes.specs.Removing.{GoodRegionsFit}

-- the room that a good kernel has, and what pages that move leave
pub record CopyLaws : Type 0 where
  pub copies : CopiesAreAvailable
  pub short : PlansAreShort
  pub places : PlacesSuffice
  pub buffers : BuffersSuffice
  pub fit : GoodRegionsFit
  pub calls : MemoryIsMoved
  pub on : MovesOn
  pub kept : KeptSinceMoved
