use Rattle.std.proofs.Common.{ap, sym, ◌∙◌, arith}
use Rattle.genie_object.specs.Lemmas.Lookup.{frame_known}
use Rattle.genie_object.specs.Lemmas.Naming.{named_shared}
use Rattle.genie_cases.proofs.Written.{slot_known}
use Rattle.genie_cases.proofs.bench.Bench.peek.Goals as goal

pub read-requires-clause-there : goal.read-requires-clause-there
read-requires-clause-there g c = frame_known c.args.self.now.memory c.in-Some.page.0 c.in-Frame.frame c.requires.fit.sound (sym c.place.ensures ∙ c.in-Frame.is)

pub get-requires-clause-there : goal.get-requires-clause-there
get-requires-clause-there g c =
    let m = c.args.self.now.memory in
    let some = named_shared m.pages.pages m.objects c.args.self.now.object.0 c.args.index c.in-Some.page c.requires.fit.sound.shared (ap (λ e. e.page) (sym c.entry.ensures) ∙ c.in-Some.is) in
    omega (arith, c.requires.fit.sized.count, slot_known m c.in-Some.page.0 c.in-Slot.slot c.requires.fit.sound some (sym c.place.ensures ∙ c.in-Slot.is))
