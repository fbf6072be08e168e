use Rattle.std.proofs.Common.{sym, ◌∙◌}
use Rattle.genie_object.specs.Lemmas.Lookup.{frame_known}
use Rattle.genie_inputs.proofs.claim.unlent_frame.Goals as goal

pub counts-counts-requires : goal.counts-counts-requires
counts-counts-requires c = frame_known c.args.memory.now c.args.page.0 c.in-Frame.f c.requires.sound (sym c.place.ensures ∙ c.in-Frame.is)
