use Rattle.std.proofs.Common.{◌≡◌, ◌<◌, arith, ap, sym, ◌∙◌}
use Rattle.std.specs.Prelude.{None, Some}
use Rattle.std.specs.Option.{option_copied}
use Rattle.slab.specs.Slab.{get}
use Rattle.genie_object.specs.Pages.{PageTable, page_at}
use Rattle.genie_object.proofs.PageLaws.{known_as, some_there}
use Rattle.genie_object.proofs.pages.Pages.info.Goals as goal

pub unreachable-requires : goal.unreachable-requires
unreachable-requires c =
    let e : get c.self.inside.slab c.args.page.0 ≡ None = sym c.get.ensures ∙ ap option_copied c.in-None.is in
    let h : 0 < (page_at c.args.self.now.pages c.args.page.0).shares = c.requires in
    let s = some_there _ _ c.args.page.0 None c.self.invariant e (omega (arith, h, ap (λ (t : PageTable). (page_at t.pages c.args.page.0).shares) c.self.view_is)) in
    cc

pub returns : goal.returns
returns c = sym (known_as _ _ c.args.page.0 (Some c.in-Some.info.now) c.self.invariant (sym c.in-Some.ensures)) ∙ ap (λ (t : PageTable). page_at t.pages c.args.page.0) c.self.view_is
