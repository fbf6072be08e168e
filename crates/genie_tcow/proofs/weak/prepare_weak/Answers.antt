use Rattle.std.proofs.Common.{◌/◌, subst, sym, ◌∙◌, arith}
use Rattle.genie_plan.specs.Plans.{output_frames}
use Rattle.genie_tcow.specs.Lending.{IsTakenBack}
use Rattle.genie_plan.specs.Landings.{AreOfEntries}
use Rattle.genie_tcow.proofs.Ready.{range_spoken, plan_of, can_send, range_sent, of_entries}
use Rattle.genie_plan.specs.Loans.{Weak}
use Rattle.genie_tcow.proofs.TakenBack.{slice_out, back_by}
use Rattle.genie_tcow.proofs.weak.prepare_weak.Goals as goal

pub take_back-requires : goal.take_back-requires
take_back-requires g c = slice_out Weak 0 _ c.lend_pages.new.loans.items c.as_slice.result.now c.args.memory.now c.lend_pages.new.memory (g.S.Store.view c.args.store.now) (g.S.Store.view c.lend_pages.new.store) c.as_slice.ensures.value c.lend_pages.ensures.lent.lent

pub returns-in-Err-clause-failed : goal.returns-in-Err-clause-failed
returns-in-Err-clause-failed g c = subst (λ s. IsTakenBack s c.args.memory.now c.take_back.new.memory (g.S.Store.view c.args.store.now) (g.S.Store.view c.lend_pages.new.store)) (range_spoken c.args.memory.now.frames.page c.page-page.result _ c.args.range.now c.page-page.ensures.size c.page_count-count.ensures.number) (back_by Weak 0 _ c.lend_pages.new.loans.items c.as_slice.result.now c.args.memory.now c.lend_pages.new.memory c.take_back.new.memory (g.S.Store.view c.args.store.now) (g.S.Store.view c.lend_pages.new.store) c.requires.sound c.as_slice.ensures.value c.lend_pages.ensures.lent.lent c.take_back.ensures.memory c.take_back.ensures.ended c.take_back.ensures.shaped c.take_back.ensures.lent)

pub returns-in-Ok-clause-plan : goal.returns-in-Ok-clause-plan
returns-in-Ok-clause-plan g c = plan_of _ c.page-page.result _ c.args.range.now c.lend_pages.new.loans.items c.page-page.ensures.size c.page_count-count.ensures.number c.in-Ok.ensures.number

pub returns-in-Ok-clause-ready : goal.returns-in-Ok-clause-ready
returns-in-Ok-clause-ready g c = can_send Weak 0 _ c.lend_pages.new.loans.items c.args.memory.now c.lend_pages.new.memory (g.S.Store.view c.args.store.now) (g.S.Store.view c.lend_pages.new.store) c.lend_pages.ensures.lent.lent _ c.args.range.now.len _ c.page-page.result c.in-Ok.ensures.number (c.lend_pages.ensures.lent.keeps.page ∙ sym c.page-page.ensures.size) (omega (arith, c.requires.range.fits)) c.page_count-count.ensures.covers

pub returns-in-Ok-clause-bytes : goal.returns-in-Ok-clause-bytes
returns-in-Ok-clause-bytes g c = range_sent c.args.memory.now c.lend_pages.new.memory (g.S.Store.view c.args.store.now) c.args.range.now c.lend_pages.new.loans.items c.page-page.result _ c.page-page.ensures.size c.page_count-count.ensures.number c.in-Ok.ensures.number c.lend_pages.ensures.lent.bytes

pub returns-in-Ok-clause-frames : goal.returns-in-Ok-clause-frames
returns-in-Ok-clause-frames g c = subst (λ p. AreOfEntries c.lend_pages.new.memory c.args.range.now.object.0 (c.args.range.now.off / p) (output_frames c.lend_pages.new.loans.items)) c.page-page.ensures.size (of_entries c.lend_pages.new.memory c.args.range.now.object.0 _ c.lend_pages.new.loans.items c.lend_pages.ensures.lent.placed)

pub returns-in-Err-clause-sound : goal.returns-in-Err-clause-sound
returns-in-Err-clause-sound g c = (returns-in-Err-clause-failed g c).sound

pub returns-in-Err-clause-seen : goal.returns-in-Err-clause-seen
returns-in-Err-clause-seen g c = (returns-in-Err-clause-failed g c).shows

pub returns-in-Err-clause-keeps : goal.returns-in-Err-clause-keeps
returns-in-Err-clause-keeps g c = (returns-in-Err-clause-failed g c).keeps
