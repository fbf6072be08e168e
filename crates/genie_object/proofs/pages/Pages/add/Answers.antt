use Rattle.std.proofs.Common.{arith, ap, sym, ◌∙◌, length, lit≤}
use Rattle.genie_object.specs.Pages.{PageTable, page_at}
use Rattle.genie_object.proofs.PageLaws.{table_added, add_set, table_len, known_as, table_eq}
use Rattle.genie_object.proofs.pages.Pages.add.Goals as goal

pub invariant_of-self : goal.invariant_of-self
invariant_of-self c =
    let e = c.insert_reserved-key.ensures in
    table_added _ _ _ _ _ c.self.invariant e.was_vacant e.updates e.len e.key_in_range e.capacity (lit≤ tt)

pub returns-clause-there : goal.returns-clause-there
returns-clause-there c =
    let e = c.insert_reserved-key.ensures in
    omega (arith, e.key_in_range, e.capacity, table_len c.self.inside.slab, ap (λ (t : PageTable). length t.pages) c.self.view_is)

pub returns-clause-was_spare : goal.returns-clause-was_spare
returns-clause-was_spare c = ap (λ (t : PageTable). page_at t.pages c.insert_reserved-key.result) (sym c.self.view_is) ∙ known_as _ _ _ _ c.self.invariant c.insert_reserved-key.ensures.was_vacant

pub returns-clause-pages : goal.returns-clause-pages
returns-clause-pages c = let e = c.insert_reserved-key.ensures in table_eq _ _ _ _ c.insert_reserved-key.result _ c.self.view_is (add_set _ _ _ _ e.updates e.key_in_range e.capacity)
