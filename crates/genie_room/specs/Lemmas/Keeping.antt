-- What keeps loans keeps sizes.
use Rattle.genie_object.specs.declared.memory.Memory.{Memory}
use Rattle.genie_object.specs.Touching.{KeepsLoans}
use Rattle.genie_room.specs.Places.{KeepsSizes}

pub sizes_kept : (old new : Memory) → KeepsLoans old new → KeepsSizes old new
sizes_kept old new k = record { entries = k.entries; number = k.number; slots = k.slots; most = k.most }
