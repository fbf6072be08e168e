use Rattle.std.proofs.Common.{◌∙◌, ap, refl, arith, ◌^◌}
use Rattle.std.specs.Prelude.{Some}
use Rattle.genie_base.specs.declared.semantics.Class.TheVariants.{Copy}
use Rattle.genie_inputs.specs.Posting.{with_input}
use Rattle.genie_inputs.proofs.Accepted.{app_fits}
use Rattle.genie_inputs.proofs.Answered.{fails}
use Rattle.genie_inputs.proofs.Readied.{ready_moved}
use Rattle.genie_inputs.proofs.Copying.{copy_answers, copy_room, copy_can_post}
use Rattle.genie_kernel.specs.declared.kernel.Kernel.{Kernel}
use Rattle.genie_inputs.proofs.Rising.{rises_between}
use Rattle.genie_inputs.proofs.Moving.{moves_none, moves_on}
use Rattle.genie_inputs.proofs.copy.copy.Goals as goal

pub lend_strongly-requires-clause-fits : goal.lend_strongly-requires-clause-fits
lend_strongly-requires-clause-fits g c = app_fits c.args.kernel.now c.args.call c.args.addr Copy c.requires.good c.requires.class refl c.requires.accepted

pub lend_strongly-requires-clause-span : goal.lend_strongly-requires-clause-span
lend_strongly-requires-clause-span g c = (copy_room c.input_laws.ensures.room c.args.kernel.now c.args.call c.args.addr c.requires.good c.requires.class c.requires.accepted).0

pub lend_strongly-requires-clause-frames : goal.lend_strongly-requires-clause-frames
lend_strongly-requires-clause-frames g c = (copy_room c.input_laws.ensures.room c.args.kernel.now c.args.call c.args.addr c.requires.good c.requires.class c.requires.accepted).1

pub post-requires-clause-room : goal.post-requires-clause-room
post-requires-clause-room g c = copy_can_post c.input_laws.ensures c.args.kernel.now c.lend_strongly.new.kernel c.args.call c.args.addr c.in-Ok.loans (g.S.Store.view c.args.store.now) (g.S.Store.view c.lend_strongly.new.store) c.requires.good c.requires.accepted c.in-Ok.ensures.lends c.transfer.result c.transfer.ensures

pub returns-in-Ok-clause-answered : goal.returns-in-Ok-clause-answered
returns-in-Ok-clause-answered g c = copy_answers c.input_laws.ensures c.args.kernel.now c.lend_strongly.new.kernel c.post.new.kernel c.args.call c.args.addr c.in-Ok.loans (g.S.Store.view c.args.store.now) (g.S.Store.view c.lend_strongly.new.store) c.requires.good c.requires.class c.requires.accepted c.in-Ok.ensures.lends (c.post.ensures ∙ ap (with_input c.lend_strongly.new.kernel) c.transfer.ensures)

pub returns-in-Err-clause-answered : goal.returns-in-Err-clause-answered
returns-in-Err-clause-answered g c = fails c.input_laws.ensures c.args.kernel.now c.lend_strongly.new.kernel c.args.call (Some c.args.addr) (g.S.Store.view c.args.store.now) (g.S.Store.view c.lend_strongly.new.store) c.requires.accepted (ready_moved c.args.kernel.now c.lend_strongly.new.kernel (g.S.Store.view c.args.store.now) (g.S.Store.view c.lend_strongly.new.store) c.in-Err.ensures.moved)

pub returns-in-Ok-clause-rises : goal.returns-in-Ok-clause-rises
returns-in-Ok-clause-rises g c = rises_between (2 ^ 20) c.args.kernel.now.memory.frames c.args.kernel.now.memory.frames c.lend_strongly.new.kernel.memory.frames c.post.new.kernel.memory.frames refl refl (ap (λ (z : Kernel). z.memory.frames.meters) c.post.ensures) (ap (λ (z : Kernel). z.memory.frames.landed) c.post.ensures) (omega arith) c.lend_strongly.ensures.rises

pub returns-in-Err-clause-rises : goal.returns-in-Err-clause-rises
returns-in-Err-clause-rises g c = rises_between (2 ^ 20) c.args.kernel.now.memory.frames c.args.kernel.now.memory.frames c.lend_strongly.new.kernel.memory.frames c.lend_strongly.new.kernel.memory.frames refl refl refl refl (omega arith) c.lend_strongly.ensures.rises

pub returns-in-Ok-clause-copying : goal.returns-in-Ok-clause-copying
returns-in-Ok-clause-copying g c = moves_on c.args.kernel.now.memory c.lend_strongly.new.kernel.memory c.post.new.kernel.memory c.lend_strongly.ensures.copying (moves_none c.lend_strongly.new.kernel.memory c.post.new.kernel.memory (ap (λ (z : Kernel). z.memory.frames.meters) c.post.ensures))

pub returns-in-Ok-clause-gets : goal.returns-in-Ok-clause-gets
returns-in-Ok-clause-gets g c = ap (λ (z : Kernel). z.memory.frames.meters.gets) c.post.ensures ∙ c.lend_strongly.ensures.gets
