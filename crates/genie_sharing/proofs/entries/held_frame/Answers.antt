use Rattle.std.proofs.Common.{sym, ◌∙◌}
use Rattle.genie_object.specs.Lemmas.Lookup.{frame_known}
use Rattle.genie_sharing.proofs.entries.held_frame.Goals as goal

pub counts-requires : goal.counts-requires
counts-requires c = frame_known c.args.memory.now c.args.page.0 c.in-Frame.f c.requires.sound (sym c.place.ensures ∙ c.in-Frame.is)
