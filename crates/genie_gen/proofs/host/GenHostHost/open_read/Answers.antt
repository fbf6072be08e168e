use Rattle.std.proofs.Common.{refl}
use Rattle.genie_host.specs.Lemmas.Tables.{opens_grown}
use Rattle.genie_gen.proofs.host.GenHostHost.open_read.Goals as goal

pub returns-clause-opens : goal.returns-clause-opens
returns-clause-opens c =
    rw (c.place.ensures.opened, c.place.ensures.number, c.new.ensures, c.source_named-source.ensures.text, c.note.ensures, ← c.self.view_is) (opens_grown _ _ _ _ _ _ _ _ _ _ _ _ refl refl refl)
