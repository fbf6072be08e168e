use Rattle.std.proofs.Common.{arith, sym, ap, ◌∙◌}
use Rattle.genie_frame.specs.declared.frame.OutLoan.{OutLoan}
use Rattle.genie_frame.specs.FrameTable.{is_held}
use Rattle.genie_object.specs.declared.objects.Entry.{Entry}
use Rattle.genie_object.specs.Lemmas.Lookup.{frame_known}
use Rattle.genie_fault.proofs.Benches.{can_lend, bench_lent}
use Rattle.genie_fault.proofs.tests.lend.Goals as goal

pub counts-counts-requires : goal.counts-counts-requires
counts-counts-requires g c = frame_known c.args.memory.now c.in_ok-page.page.0 c.in-Frame.f c.requires.bench.sound (sym c.place.ensures ∙ c.in-Frame.is)

pub returns : goal.returns
returns g c =
    let m = c.args.memory.now in
    let o = c.args.at.object.0 in
    let x = c.requires.bench in
    let p = c.in_ok-page.page in
    let f = c.in-Frame.f in
    let at = sym c.place.ensures ∙ c.in-Frame.is in
    let free = sym (ap is_held c.counts-counts.ensures) ∙ sym c.is_held.ensures ∙ c.if-is_held.false in
    let can = can_lend m o c.args.at.index p f x.sound (omega (arith, c.requires.there, x.entries)) (ap (λ (e : Entry). e.page) (sym c.entry.ensures) ∙ c.in_ok-page.was) at free in
    record {
      bench = bench_lent o c.args.at.index c.args.left p f m c.lend_strong.new.self c.forbid_writing.new.self (g.S.Store.view c.args.store.now) x (omega (arith, c.requires.there, x.entries)) can c.lend_strong.ensures.frames c.forbid_writing.ensures;
      strong = ap (λ (l : OutLoan). l.strong) c.lend_strong.ensures.loan;
    }
