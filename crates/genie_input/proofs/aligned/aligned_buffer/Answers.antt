use Rattle.std.proofs.Common.{refl}
use Rattle.genie_plan.specs.Lemmas.FreshSound.{fresh_sound, fresh_shows}
use Rattle.genie_input.proofs.Buffers.{fresh_buffers}
use Rattle.genie_input.proofs.aligned.aligned_buffer.Goals as goal

pub returns-clause-sound : goal.returns-clause-sound
returns-clause-sound c = fresh_sound c.args.memory.now c.lend_fresh-loans.new.frames _ _ c.requires.sound refl c.lend_fresh-loans.ensures.fresh c.len.ensures.shaped c.len.ensures.lent

pub returns-clause-seen : goal.returns-clause-seen
returns-clause-seen c = fresh_shows c.args.memory.now c.lend_fresh-loans.new.frames _ _ c.requires.sound refl c.lend_fresh-loans.ensures.fresh

pub returns-clause-buffers : goal.returns-clause-buffers
returns-clause-buffers c = fresh_buffers c.args.memory.now c.lend_fresh-loans.new.frames _ _ c.requires.sound refl c.lend_fresh-loans.ensures.fresh
