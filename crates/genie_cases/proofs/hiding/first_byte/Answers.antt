use Rattle.std.proofs.Common.{sym, ◌∙◌}
use Rattle.genie_object.specs.Lemmas.Lookup.{frame_known}
use Rattle.genie_cases.proofs.hiding.first_byte.Goals as goal

pub read-requires-clause-there : goal.read-requires-clause-there
read-requires-clause-there c = frame_known c.args.memory.now _ c.in-Frame.frame c.requires.sound (sym c.place.ensures ∙ c.in-Frame.is)
