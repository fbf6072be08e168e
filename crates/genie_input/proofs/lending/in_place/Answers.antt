use Rattle.genie_plan.specs.Loans.{Input, input_loan}
use Rattle.std.proofs.Common.{refl, ◌∙◌, arith}
use Rattle.genie_input.proofs.Ready.{lies_in}
use Rattle.genie_input.proofs.Back.{back_by, back_seen, slice_out}
use Rattle.genie_input.proofs.lending.in_place.Goals as goal

pub end_inputs-requires : goal.end_inputs-requires
end_inputs-requires g c = slice_out input_loan Input _ _ _ c.lend_pages.new.loans.items c.as_slice.result.now c.args.memory.now c.lend_pages.new.memory c.as_slice.ensures.value c.lend_pages.ensures.lent

pub returns-in-Err-clause-sound : goal.returns-in-Err-clause-sound
returns-in-Err-clause-sound g c = (back_by input_loan Input refl _ _ _ c.lend_pages.new.loans.items c.as_slice.result.now c.args.memory.now c.lend_pages.new.memory c.end_inputs.new.frames c.requires.sound c.as_slice.ensures.value c.lend_pages.ensures.lent c.end_inputs.ensures c.len.ensures.shaped c.len.ensures.lent).sound

pub returns-in-Err-clause-seen : goal.returns-in-Err-clause-seen
returns-in-Err-clause-seen g c = back_seen _ c.args.memory.now c.lend_pages.new.memory _ (g.S.Store.view c.lend_pages.new.store) (back_by input_loan Input refl _ _ _ c.lend_pages.new.loans.items c.as_slice.result.now c.args.memory.now c.lend_pages.new.memory c.end_inputs.new.frames c.requires.sound c.as_slice.ensures.value c.lend_pages.ensures.lent c.end_inputs.ensures c.len.ensures.shaped c.len.ensures.lent) ∙ c.lend_pages.ensures.seen

pub returns-in-Err-clause-keeps : goal.returns-in-Err-clause-keeps
returns-in-Err-clause-keeps g c = (back_by input_loan Input refl _ _ _ c.lend_pages.new.loans.items c.as_slice.result.now c.args.memory.now c.lend_pages.new.memory c.end_inputs.new.frames c.requires.sound c.as_slice.ensures.value c.lend_pages.ensures.lent c.end_inputs.ensures c.len.ensures.shaped c.len.ensures.lent).keeps

pub returns-in-Ok-clause-lies : goal.returns-in-Ok-clause-lies
returns-in-Ok-clause-lies g c = lies_in c.args.range.now.object.0 c.args.range.now.off c.args.range.now.len c.page-page.result c.page_count-count.result _ c.lend_pages.new.loans.items c.args.memory.now c.lend_pages.new.memory c.page-page.ensures.size c.lend_pages.ensures.lent c.in-Ok.ensures.number c.page_count-count.ensures.number (omega arith) c.page_count-count.ensures.covers

pub returns-in-Err-clause-landed : goal.returns-in-Err-clause-landed
returns-in-Err-clause-landed g c = c.end_inputs.ensures.landed ∙ c.lend_pages.ensures.lent.landed
