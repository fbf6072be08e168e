use Rattle.std.proofs.Common.{◌≡◌, true, false, arith, rules, sym, ap, ◌∙◌}
use Rattle.std.specs.Prelude.{◌==◌}
use Rattle.genie_object.specs.Pages.{page_at}
use Rattle.genie_object.specs.Leaving.{left_one}
use Rattle.genie_fault.proofs.leave.leave_page.Goals as goal

pub returns-then-shares-eq1 : goal.returns-then-shares-eq1
returns-then-shares-eq1 c =
    let m = c.args.memory.now in
    let one : ((page_at m.pages.pages c.args.page.0).shares == 1) ≡ true = grind (arith, rules, c.if-shares-eq1.true, c.shares.ensures) in
    c.drop_page.ensures ∙ ap (left_one m c.args.at.object.0 c.args.at.index c.args.page) (sym one)

pub returns-else-shares-eq1 : goal.returns-else-shares-eq1
returns-else-shares-eq1 c =
    let m = c.args.memory.now in
    let more : ((page_at m.pages.pages c.args.page.0).shares == 1) ≡ false = grind (arith, rules, c.if-shares-eq1.false, c.shares.ensures) in
    c.leave_shared.ensures ∙ ap (left_one m c.args.at.object.0 c.args.at.index c.args.page) (sym more)
