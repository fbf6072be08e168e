use Rattle.std.proofs.Common.{◌<◌, arith, ap, ◌∙◌, refl}
use Rattle.std.specs.Prelude.{is_some}
use Rattle.slab.specs.Slab.{ContainsKey}
use Rattle.genie_object.specs.Pages.{PageTable, page_at, no_page}
use Rattle.genie_object.proofs.PageLaws.{some_there, table_removed, remove_set, table_eq, on_some}
use Rattle.genie_object.proofs.pages.Pages.remove.Goals as goal

pub invariant_of-self : goal.invariant_of-self
invariant_of-self c =
    let h : 0 < (page_at c.args.self.now.pages c.args.page.0).shares = c.requires in
    let there : ContainsKey c.self.inside.slab c.args.page.0 = some_there _ _ c.args.page.0 _ c.self.invariant refl (omega (arith, h, ap (λ (t : PageTable). (page_at t.pages c.args.page.0).shares) c.self.view_is)) in
    let e = c.try_remove.ensures in
    table_removed _ _ _ c.args.page.0 c.self.invariant there e.updates (on_some c.try_remove.result _ (ap is_some e.value ∙ there) e.len) e.capacity

pub returns : goal.returns
returns c =
    let h : 0 < (page_at c.args.self.now.pages c.args.page.0).shares = c.requires in
    let there : ContainsKey c.self.inside.slab c.args.page.0 = some_there _ _ c.args.page.0 _ c.self.invariant refl (omega (arith, h, ap (λ (t : PageTable). (page_at t.pages c.args.page.0).shares) c.self.view_is)) in
    let e = c.try_remove.ensures in
    table_eq _ _ _ _ c.args.page.0 no_page c.self.view_is (remove_set _ _ _ c.args.page.0 c.self.invariant there e.updates e.capacity)
