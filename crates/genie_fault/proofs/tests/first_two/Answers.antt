use Rattle.std.proofs.Common.{sym, ◌∙◌}
use Rattle.genie_object.specs.Lemmas.Lookup.{frame_known}
use Rattle.genie_fault.proofs.tests.first_two.Goals as goal

pub read-requires-clause-there : goal.read-requires-clause-there
read-requires-clause-there g c = frame_known c.args.memory.now c.in_ok-page.page.0 c.in-Frame.f c.requires.bench.sound (sym c.place.ensures ∙ c.in-Frame.is)
