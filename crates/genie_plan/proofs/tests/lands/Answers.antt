use Rattle.std.proofs.Common.{◌≡◌, ◌+◌, ◌*◌, ◌≤◌, ap, sym, ◌∙◌, subst, arith}
use Rattle.genie_frame.specs.FrameTable.{FrameTable}
use Rattle.genie_plan.proofs.tests.lands.Goals as goal

pub land_rest-requires-clause-ready : goal.land_rest-requires-clause-ready
land_rest-requires-clause-ready c =
    let page : c.lend_fresh-loans.new.frames.page ≡ 16 = c.lend_fresh-loans.ensures.fresh.page ∙ ap (λ (t : FrameTable). t.page) c.in_ok-frames.ensures in
    rw c.as_slice.ensures.value (c.lend_fresh-loans.ensures.ready c.args.first c.args.len (omega (arith, c.requires.within, c.requires.pages)) (λ _. subst (λ k. c.args.first + c.args.len ≤ k * c.args.pages) (sym page) c.requires.within))
