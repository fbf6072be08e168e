use Rattle.std.proofs.Common.{◌-◌, [], sym, subst, ap, ◌∙◌}
use Rattle.genie_frame.specs.FrameTable.{FrameTable, is_system, bytes_at}
use Rattle.genie_frame.specs.declared.frame.Meters.{Meters}
use Rattle.genie_object.specs.declared.memory.Memory.{Memory}
use Rattle.genie_object.specs.Memory.{seen, see_entry, see_kept}
use Rattle.genie_object.specs.Sound.{IsSound}
use Rattle.genie_object.specs.Costs.{AreBelow, Spends}
use Rattle.genie_object.specs.Leaving.{IsUnheld}
use Rattle.genie_swap.specs.Entries.{SwapsOne}
use Rattle.genie_swap.specs.Beside.{LeavesOthers}
use Rattle.genie_finish.proofs.Storing.{lent_input, back_sound, back_there, back_system, back_meters}
use Rattle.genie_finish.proofs.Stored.{complete_sound, complete_unheld, complete_there, complete_owner, complete_unlent, page_swapped, but_frames}
use Rattle.genie_finish.proofs.page.swap_page.Goals as goal

pub back_in-requires-clause-out : goal.back_in-requires-clause-out
back_in-requires-clause-out c = lent_input _ _ c.requires.buffer

pub complete-requires-clause-sound : goal.complete-requires-clause-sound
complete-requires-clause-sound c = back_sound c.args.memory.now c.back_in.new.self c.args.loan.frame.0 c.requires.sound c.requires.buffer c.back_in.ensures.frames c.len.ensures.shaped c.len.ensures.lent

pub complete-requires-clause-frame : goal.complete-requires-clause-frame
complete-requires-clause-frame c = back_there c.args.memory.now c.back_in.new.self c.args.loan.frame.0 c.requires.sound c.requires.buffer c.back_in.ensures.frames c.len.ensures.shaped c.len.ensures.lent

pub complete-requires-clause-of_system : goal.complete-requires-clause-of_system
complete-requires-clause-of_system c = back_system c.args.memory.now c.back_in.new.self c.args.loan.frame.0 c.requires.sound c.requires.buffer c.back_in.ensures.frames c.len.ensures.shaped c.len.ensures.lent

pub complete-requires-clause-meters : goal.complete-requires-clause-meters
complete-requires-clause-meters c = subst (λ (w : Meters). AreBelow _ w) (sym (back_meters c.args.memory.now c.back_in.new.self c.args.loan.frame.0 c.requires.sound c.requires.buffer c.back_in.ensures.frames c.len.ensures.shaped c.len.ensures.lent)) c.requires.meters

pub swap_in-requires-clause-sound : goal.swap_in-requires-clause-sound
swap_in-requires-clause-sound c = subst IsSound (sym (but_frames c.args.memory.now c.complete.new.memory c.complete.ensures.pages c.complete.ensures.objects c.complete.ensures.slots)) (complete_sound c.args.memory.now c.back_in.new.self c.complete.new.memory.frames c.args.at.object.0 c.args.at.index c.args.loan.frame.0 c.args.off c.args.n 0 c.requires.sound c.requires.there c.requires.unheld c.requires.buffer c.back_in.ensures.frames c.len.ensures.shaped c.len.ensures.lent c.complete.ensures.frames c.complete.ensures.bytes)

pub swap_in-requires-clause-unheld : goal.swap_in-requires-clause-unheld
swap_in-requires-clause-unheld c = subst (λ x. IsUnheld x c.args.at.object.0 c.args.at.index) (sym (but_frames c.args.memory.now c.complete.new.memory c.complete.ensures.pages c.complete.ensures.objects c.complete.ensures.slots)) (complete_unheld c.args.memory.now c.back_in.new.self c.complete.new.memory.frames c.args.at.object.0 c.args.at.index c.args.loan.frame.0 c.args.off c.args.n 0 c.requires.sound c.requires.there c.requires.unheld c.requires.buffer c.back_in.ensures.frames c.len.ensures.shaped c.len.ensures.lent c.complete.ensures.frames c.complete.ensures.bytes)

pub swap_in-requires-clause-frame : goal.swap_in-requires-clause-frame
swap_in-requires-clause-frame c = complete_there c.args.memory.now c.back_in.new.self c.complete.new.memory.frames c.args.at.object.0 c.args.at.index c.args.loan.frame.0 c.args.off c.args.n 0 c.requires.sound c.requires.there c.requires.unheld c.requires.buffer c.back_in.ensures.frames c.len.ensures.shaped c.len.ensures.lent c.complete.ensures.frames c.complete.ensures.bytes

pub swap_in-requires-clause-of_system : goal.swap_in-requires-clause-of_system
swap_in-requires-clause-of_system c = ap is_system (complete_owner c.args.memory.now c.back_in.new.self c.complete.new.memory.frames c.args.at.object.0 c.args.at.index c.args.loan.frame.0 c.args.off c.args.n 0 c.requires.sound c.requires.there c.requires.unheld c.requires.buffer c.back_in.ensures.frames c.len.ensures.shaped c.len.ensures.lent c.complete.ensures.frames c.complete.ensures.bytes) ∙ c.requires.buffer.own

pub swap_in-requires-clause-unlent : goal.swap_in-requires-clause-unlent
swap_in-requires-clause-unlent c = complete_unlent c.args.memory.now c.back_in.new.self c.complete.new.memory.frames c.args.at.object.0 c.args.at.index c.args.loan.frame.0 c.args.off c.args.n 0 c.requires.sound c.requires.there c.requires.unheld c.requires.buffer c.back_in.ensures.frames c.len.ensures.shaped c.len.ensures.lent c.complete.ensures.frames c.complete.ensures.bytes

pub returns-clause-stored : goal.returns-clause-stored
returns-clause-stored c = page_swapped c.args.memory.now c.back_in.new.self c.complete.new.memory.frames c.args.at.object.0 c.args.at.index c.args.loan.frame.0 c.args.off c.args.n _ c.requires.sound c.requires.there c.requires.unheld c.requires.buffer c.back_in.ensures.frames c.len.ensures.shaped c.len.ensures.lent c.complete.ensures.frames c.complete.ensures.bytes c.swap_in.new.memory c.swap_in.ensures.sound
    (λ sl. c.swap_in.ensures.seen sl ∙ ap (λ (x : Memory). see_kept (see_entry (seen x sl) c.args.at.object.0 c.args.at.index (bytes_at c.complete.new.memory.frames c.args.loan.frame.0)) c.args.loan.frame.0 []) (but_frames c.args.memory.now c.complete.new.memory c.complete.ensures.pages c.complete.ensures.objects c.complete.ensures.slots))
    c.swap_in.ensures.frames
    (subst (λ x. LeavesOthers c.args.at.object.0 c.args.at.index x c.swap_in.new.memory) (but_frames c.args.memory.now c.complete.new.memory c.complete.ensures.pages c.complete.ensures.objects c.complete.ensures.slots) c.swap_in.ensures.others)
    (subst (λ x. SwapsOne c.args.at.object.0 c.args.at.index c.args.loan.frame.0 x c.swap_in.new.memory) (but_frames c.args.memory.now c.complete.new.memory c.complete.ensures.pages c.complete.ensures.objects c.complete.ensures.slots) c.swap_in.ensures.one)
    (subst (λ p. Spends (p - c.args.n) 0 0 0 c.back_in.new.self.meters c.complete.new.memory.frames.meters) (ap (λ (x : FrameTable). x.page) c.back_in.ensures.frames) c.complete.ensures.spends)
