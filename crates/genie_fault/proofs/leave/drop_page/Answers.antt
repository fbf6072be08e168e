use Rattle.std.proofs.Common.{◌≡◌, ap, sym, ◌∙◌, eq-eqb}
use Rattle.std.specs.Prelude.{Some}
use Rattle.genie_object.specs.Pages.{page_at, left_place}
use Rattle.genie_object.specs.Lemmas.Lookup.{frame_known}
use Rattle.genie_fault.proofs.leave.drop_page.Goals as goal

pub leave_place-requires-clause-frame : goal.leave_place-requires-clause-frame
leave_place-requires-clause-frame c = λ f e.
    let m = c.args.memory.now in
    let q = page_at m.pages.pages c.args.page.0 in
    let one = eq-eqb q.shares 1 c.requires.own.alone in
    let is : Some c.in-Some.place ≡ Some q.place = sym c.in-Some.is ∙ c.leave.ensures.place ∙ ap (λ b. left_place b q) one in
    let same : q.place ≡ c.in-Some.place = cc in
    frame_known m c.args.page.0 f c.requires.own.sound (same ∙ e)
