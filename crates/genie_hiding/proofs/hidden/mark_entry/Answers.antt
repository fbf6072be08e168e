use Rattle.std.proofs.Common.{arith, sym, ◌∙◌}
use Rattle.genie_object.specs.Lemmas.Lookup.{frame_known}
use Rattle.genie_hiding.proofs.hidden.mark_entry.Goals as goal

pub bounds-marks-f : goal.bounds-marks-f
bounds-marks-f c = let l = frame_known c.args.memory.now c.in-Some.page.0 c.in-Frame.f c.requires.sound (sym c.place.ensures ∙ c.in-Frame.is) in omega (arith, l, c.requires.room)
