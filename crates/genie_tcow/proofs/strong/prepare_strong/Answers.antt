use Rattle.std.proofs.Common.{subst, sym, ◌∙◌, arith}
use Rattle.genie_plan.specs.Loans.{Strong}
use Rattle.genie_tcow.specs.Lending.{IsTakenBack}
use Rattle.genie_tcow.proofs.TakenBack.{slice_out, back_by}
use Rattle.genie_tcow.proofs.Ready.{range_spoken, plan_of, can_send, range_sent}
use Rattle.genie_tcow.proofs.strong.prepare_strong.Goals as goal

pub take_back-requires : goal.take_back-requires
take_back-requires g c = slice_out Strong c.args.id.0 _ c.lend_pages.new.loans.items c.as_slice.result.now c.args.memory.now c.lend_pages.new.memory (g.S.Store.view c.args.store.now) (g.S.Store.view c.lend_pages.new.store) c.as_slice.ensures.value c.lend_pages.ensures.lent

pub returns-in-Err-clause-failed : goal.returns-in-Err-clause-failed
returns-in-Err-clause-failed g c = subst (λ s. IsTakenBack s c.args.memory.now c.take_back.new.memory (g.S.Store.view c.args.store.now) (g.S.Store.view c.lend_pages.new.store)) (range_spoken c.args.memory.now.frames.page c.page-page.result _ c.args.range.now c.page-page.ensures.size c.page_count-count.ensures.number) (back_by Strong c.args.id.0 _ c.lend_pages.new.loans.items c.as_slice.result.now c.args.memory.now c.lend_pages.new.memory c.take_back.new.memory (g.S.Store.view c.args.store.now) (g.S.Store.view c.lend_pages.new.store) c.requires.sound c.as_slice.ensures.value c.lend_pages.ensures.lent c.take_back.ensures.memory c.take_back.ensures.ended c.take_back.ensures.shaped c.take_back.ensures.lent)

pub returns-in-Err-clause-sound : goal.returns-in-Err-clause-sound
returns-in-Err-clause-sound g c = (returns-in-Err-clause-failed g c).sound

pub returns-in-Ok-clause-plan : goal.returns-in-Ok-clause-plan
returns-in-Ok-clause-plan g c = plan_of _ c.page-page.result _ c.args.range.now c.lend_pages.new.loans.items c.page-page.ensures.size c.page_count-count.ensures.number c.in-Ok.ensures.number

pub returns-in-Ok-clause-ready : goal.returns-in-Ok-clause-ready
returns-in-Ok-clause-ready g c = can_send Strong c.args.id.0 _ c.lend_pages.new.loans.items c.args.memory.now c.lend_pages.new.memory (g.S.Store.view c.args.store.now) (g.S.Store.view c.lend_pages.new.store) c.lend_pages.ensures.lent _ c.args.range.now.len _ c.page-page.result c.in-Ok.ensures.number (c.lend_pages.ensures.lent.keeps.page ∙ sym c.page-page.ensures.size) (omega (arith, c.requires.range.fits)) c.page_count-count.ensures.covers

pub returns-in-Ok-clause-bytes : goal.returns-in-Ok-clause-bytes
returns-in-Ok-clause-bytes g c = range_sent c.args.memory.now c.lend_pages.new.memory (g.S.Store.view c.args.store.now) c.args.range.now c.lend_pages.new.loans.items c.page-page.result _ c.page-page.ensures.size c.page_count-count.ensures.number c.in-Ok.ensures.number c.lend_pages.ensures.bytes
