use Rattle.std.proofs.Common.{refl}
use Rattle.genie_host.specs.Lemmas.Tables.{opens_grown}
use Rattle.genie_host.proofs.MemorySteps.{told_found}
use Rattle.genie_host.proofs.memory.MemoryHostHost.open_read.Goals as goal

pub returns-in-Some-clause-opens : goal.returns-in-Some-clause-opens
returns-in-Some-clause-opens c =
    let found = told_found c.self.inside.files.items c.self.inside.refused.items c.args.name.now c.in-Some.file c.in-Some.ensures in
    rw (c.place.ensures.opened, c.place.ensures.number, c.note.ensures, ← c.self.view_is) (opens_grown _ _ _ _ _ _ _ _ _ _ _ _ refl (rw found refl) refl)
