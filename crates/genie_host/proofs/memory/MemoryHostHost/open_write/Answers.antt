use Rattle.std.proofs.Common.{refl}
use Rattle.genie_host.specs.Lemmas.Tables.{opens_grown}
use Rattle.genie_host.proofs.memory.MemoryHostHost.open_write.Goals as goal

pub returns-in-Some-clause-opens : goal.returns-in-Some-clause-opens
returns-in-Some-clause-opens c =
    rw (c.place.ensures.opened, c.place.ensures.number, c.open.ensures, c.note.ensures, ← c.self.view_is) (opens_grown _ _ _ _ _ _ _ _ _ _ _ _ refl refl refl)
