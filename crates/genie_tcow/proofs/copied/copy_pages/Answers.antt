use Rattle.std.proofs.Common.{refl, arith, ap, sym, ◌∙◌, ◌-◌}
use Rattle.genie_plan.specs.Loans.{output_kind, output_loan, output_loans}
use Rattle.genie_tcow.specs.Ranges.{piece_of}
use Rattle.genie_tcow.proofs.CopiedPages.{copied_none, copied_more, goes_on, spends_failed, parts_failed, lent_then}
use Rattle.genie_tcow.proofs.copied.copy_pages.Goals as goal

pub each-init : goal.each-init
each-init g c = copied_none output_loan c.args.id.0 c.args.object.0 c.args.first c.args.place c.args.len c.args.loans.now.items c.args.memory.now (g.S.Store.view c.args.store.now) c.requires.empty c.requires.sound

pub copy_page-requires-clause-meters : goal.copy_page-requires-clause-meters
copy_page-requires-clause-meters g c = (goes_on c.args.id.0 c.args.object.0 c.args.first c.each.i c.args.n c.args.place c.args.len c.each.off c.each.left (output_loans c.each.loans.items) c.args.memory.now c.each.memory (g.S.Store.view c.args.store.now) (g.S.Store.view c.each.store) c.requires.sound c.requires.within c.requires.most c.requires.free c.requires.meters c.requires.inside c.requires.fits c.each.invariant (omega arith)).meters

pub each-preserved : goal.each-preserved
each-preserved g c =
    let less = ap (λ k. c.each.left - k) (c.piece-left.ensures ∙ ap (λ p. piece_of p c.each.off c.each.left) (c.page-page.ensures.size ∙ sym c.each.invariant.lent.keeps.page)) in
    copied_more output_loan c.args.id.0 c.args.object.0 c.args.first c.args.place c.args.len c.each.i _ c.each.off c.each.left _ _ c.each.loans.items c.push.new.self.items c.in-Ok.loan c.args.memory.now c.each.memory c.copy_page.new.memory (g.S.Store.view c.args.store.now) (g.S.Store.view c.each.store) (g.S.Store.view c.copy_page.new.store) refl c.requires.inside refl less c.each.invariant c.push.ensures.items (ap output_kind c.in-Ok.ensures.strong) c.in-Ok.ensures.claimed c.in-Ok.ensures.bytes c.copy_page.ensures.spends c.copy_page.ensures.read.count c.copy_page.ensures.read.page c.copy_page.ensures.read.slots c.in-Ok.ensures.read.cause.kept

pub returns-in-Err-clause-lent : goal.returns-in-Err-clause-lent
returns-in-Err-clause-lent g c = lent_then c.args.id.0 (output_loans c.each.loans.items) c.args.memory.now c.each.memory c.copy_page.new.memory (g.S.Store.view c.args.store.now) (g.S.Store.view c.each.store) (g.S.Store.view c.copy_page.new.store) c.each.invariant.lent c.in-Err.ensures.unchanged c.copy_page.ensures.read.slots

pub returns-in-Err-clause-parts : goal.returns-in-Err-clause-parts
returns-in-Err-clause-parts g c = parts_failed c.args.memory.now c.each.memory c.copy_page.new.memory (g.S.Store.view c.args.store.now) c.args.object.0 c.args.first c.args.place c.args.len (output_loans c.each.loans.items) c.each.invariant.parts c.in-Err.ensures.unchanged

pub returns-in-Err-clause-spends : goal.returns-in-Err-clause-spends
returns-in-Err-clause-spends g c = spends_failed c.args.id.0 c.args.object.0 c.args.first c.each.i c.args.n c.args.place c.args.len c.each.off c.each.left (output_loans c.each.loans.items) c.args.memory.now c.each.memory c.copy_page.new.memory (g.S.Store.view c.args.store.now) (g.S.Store.view c.each.store) (omega arith) c.requires.inside c.each.invariant c.copy_page.ensures.spends
