use Rattle.std.proofs.Common.{ap, arith, sym, ◌∙◌, subst}
use Rattle.genie_object.specs.declared.objects.Entry.{Entry}
use Rattle.genie_object.specs.Steps.{CanShare, shared}
use Rattle.genie_fault.specs.Benches.{IsBench}
use Rattle.genie_fault.proofs.Benches.{can_share, bench_shared}
use Rattle.genie_fault.proofs.tests.share.Goals as goal

pub share_page-requires-clause-can : goal.share_page-requires-clause-can
share_page-requires-clause-can g c =
    let m = c.args.memory.now in
    let x = c.requires.bench in
    subst (λ os. CanShare (record m { objects = os }) c.args.from.object.0 c.args.index c.in-Some.page.0) (sym c.forbid_writing.ensures)
    (can_share m c.args.from.object.0 c.args.from.index c.args.index c.in-Some.page x.sound (omega (arith, c.requires.from, x.entries)) (omega (arith, c.requires.to, x.entries))
    (ap (λ (e : Entry). e.page) (sym c.entry.ensures) ∙ c.in-Some.is) (ap (λ (e : Entry). e.page) (sym c.entry-2.ensures) ∙ c.in-None.is)
    (c.is_unheld.ensures c.if-not-is_unheld.false))

pub returns : goal.returns
returns g c =
    let m = c.args.memory.now in
    let x = c.requires.bench in
    let o = c.args.from.object.0 in
    let can = can_share m o c.args.from.index c.args.index c.in-Some.page x.sound (omega (arith, c.requires.from, x.entries)) (omega (arith, c.requires.to, x.entries))
    (ap (λ (e : Entry). e.page) (sym c.entry.ensures) ∙ c.in-Some.is) (ap (λ (e : Entry). e.page) (sym c.entry-2.ensures) ∙ c.in-None.is)
    (c.is_unheld.ensures c.if-not-is_unheld.false) in
    let is = c.share_page.ensures ∙ ap (λ os. shared (record m { objects = os }) o c.args.index c.in-Some.page.0) c.forbid_writing.ensures in
    record { bench = subst (λ n. IsBench o c.args.left n (g.S.Store.view c.args.store.now)) (sym is) (bench_shared o c.args.from.index c.args.index c.in-Some.page.0 c.args.left m (g.S.Store.view c.args.store.now) x (omega (arith, c.requires.from, x.entries)) can) }
