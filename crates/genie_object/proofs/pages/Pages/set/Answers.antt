use Rattle.std.proofs.Common.{◌≡◌, ◌<◌, arith, ap, sym, ◌∙◌}
use Rattle.std.specs.Prelude.{None, is_some}
use Rattle.slab.specs.Slab.{get, ContainsKey}
use Rattle.genie_object.specs.Pages.{PageTable, page_at}
use Rattle.genie_object.proofs.PageLaws.{some_there, table_changed, change_set, table_eq}
use Rattle.genie_object.proofs.pages.Pages.set.Goals as goal
use Rattle.std.specs.Option.{option_copied_mut}

pub unreachable-requires : goal.unreachable-requires
unreachable-requires c =
    let e : get c.self.inside.slab c.args.page.0 ≡ None = sym c.get_mut.ensures.value ∙ ap option_copied_mut c.in-None.is in
    let h : 0 < (page_at c.args.self.now.pages c.args.page.0).shares = c.requires.there in
    let s = some_there _ _ c.args.page.0 None c.self.invariant e (omega (arith, h, ap (λ (t : PageTable). (page_at t.pages c.args.page.0).shares) c.self.view_is)) in
    cc

pub invariant_of-self : goal.invariant_of-self
invariant_of-self c =
    let there : ContainsKey c.self.inside.slab c.args.page.0 = sym (ap is_some c.in-Some.ensures.value) in
    table_changed _ _ c.args.page.0 c.args.info c.self.invariant there (omega arith)

pub returns : goal.returns
returns c =
    let there : ContainsKey c.self.inside.slab c.args.page.0 = sym (ap is_some c.in-Some.ensures.value) in
    table_eq _ _ _ _ c.args.page.0 c.args.info c.self.view_is (change_set _ _ c.args.page.0 c.args.info c.self.invariant there)
