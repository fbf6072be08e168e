use Rattle.std.proofs.Common.{sym, ◌∙◌}
use Rattle.genie_object.specs.Lemmas.Lookup.{frame_known}
use Rattle.genie_finish.proofs.page.is_held_at.Goals as goal

pub counts-requires : goal.counts-requires
counts-requires c = frame_known c.args.memory.now _ c.in-Frame.frame c.requires.sound (sym c.place.ensures ∙ c.in-Frame.is)
