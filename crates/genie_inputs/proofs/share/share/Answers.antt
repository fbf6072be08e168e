use Rattle.genie_inputs.proofs.Getting.{got_left, got_shared}
use Rattle.std.proofs.Common.{◌∙◌, ap, arith, refl, ◌^◌}
use Rattle.std.specs.Prelude.{Some, not}
use Rattle.genie_inputs.specs.Posting.{with_input}
use Rattle.genie_inputs.proofs.Answered.{fails}
use Rattle.genie_inputs.proofs.Readied.{ready_moved}
use Rattle.genie_inputs.proofs.Sharing.{share_answers, share_can_post, share_owned, share_fits, share_room, share_within}
use Rattle.genie_kernel.specs.declared.kernel.Kernel.{Kernel}
use Rattle.genie_inputs.proofs.Rising.{rises_between}
use Rattle.genie_inputs.proofs.share.share.Goals as goal
use Rattle.genie_inputs.proofs.Costing.{costs_left, share_keeps}
use Rattle.genie_base.specs.declared.reply.Reply.TheVariants as reply

pub lend_in_place-requires-clause-owned : goal.lend_in_place-requires-clause-owned
lend_in_place-requires-clause-owned g c = share_owned c.args.kernel.now c.args.call c.args.addr c.find_target-off.result.0 c.find_target-off.result.1 c.find_target-off.ensures

pub lend_in_place-requires-clause-fits : goal.lend_in_place-requires-clause-fits
lend_in_place-requires-clause-fits g c = share_fits c.input_laws.ensures.small c.args.kernel.now c.args.call c.args.addr c.find_target-off.result.0 c.find_target-off.result.1 c.requires.good c.find_target-off.ensures

pub lend_in_place-requires-clause-within : goal.lend_in_place-requires-clause-within
lend_in_place-requires-clause-within g c = share_within c.args.kernel.now c.args.call c.args.addr c.find_target-off.result.0 c.find_target-off.result.1 c.requires.good c.find_target-off.ensures

pub lend_in_place-requires-clause-most : goal.lend_in_place-requires-clause-most
lend_in_place-requires-clause-most g c = (share_room c.input_laws.ensures.room c.args.kernel.now c.args.call c.args.addr c.find_target-off.result.0 c.find_target-off.result.1 c.requires.good c.requires.class c.requires.accepted c.find_target-off.ensures).0

pub lend_in_place-requires-clause-frames : goal.lend_in_place-requires-clause-frames
lend_in_place-requires-clause-frames g c = (share_room c.input_laws.ensures.room c.args.kernel.now c.args.call c.args.addr c.find_target-off.result.0 c.find_target-off.result.1 c.requires.good c.requires.class c.requires.accepted c.find_target-off.ensures).1

pub post-requires-clause-room : goal.post-requires-clause-room
post-requires-clause-room g c = share_can_post c.input_laws.ensures c.args.kernel.now c.lend_in_place.new.kernel c.args.call c.args.addr _ _ _ c.in-Ok.loans (g.S.Store.view c.args.store.now) (g.S.Store.view c.lend_in_place.new.store) c.requires.good c.requires.accepted c.in-Ok.ensures.lends c.transfer.result (ap (λ t. t.id.0) c.transfer.ensures)

pub returns-in-Ok-clause-answered : goal.returns-in-Ok-clause-answered
returns-in-Ok-clause-answered g c = share_answers c.wires_show_what_was_seen.ensures.on c.input_laws.ensures c.args.kernel.now c.lend_in_place.new.kernel c.post.new.kernel c.args.call c.args.addr c.find_target-off.result.0 c.find_target-off.result.1 _ c.in-Ok.loans (g.S.Store.view c.args.store.now) (g.S.Store.view c.lend_in_place.new.store) c.requires.good c.requires.class (ap not c.emulated-basic.ensures) c.requires.accepted c.find_target-off.ensures c.in-Ok.ensures.lends (c.post.ensures ∙ ap (with_input c.lend_in_place.new.kernel) c.transfer.ensures)

pub returns-in-Err-clause-answered : goal.returns-in-Err-clause-answered
returns-in-Err-clause-answered g c = fails c.input_laws.ensures c.args.kernel.now c.lend_in_place.new.kernel c.args.call (Some c.args.addr) (g.S.Store.view c.args.store.now) (g.S.Store.view c.lend_in_place.new.store) c.requires.accepted (ready_moved c.args.kernel.now c.lend_in_place.new.kernel (g.S.Store.view c.args.store.now) (g.S.Store.view c.lend_in_place.new.store) c.in-Err.ensures.moved)

pub returns-in-Ok-clause-rises : goal.returns-in-Ok-clause-rises
returns-in-Ok-clause-rises g c = rises_between (2 ^ 21) c.args.kernel.now.memory.frames c.args.kernel.now.memory.frames c.lend_in_place.new.kernel.memory.frames c.post.new.kernel.memory.frames refl refl (ap (λ (z : Kernel). z.memory.frames.meters) c.post.ensures) (ap (λ (z : Kernel). z.memory.frames.landed) c.post.ensures) (omega arith) c.lend_in_place.ensures.rises

pub returns-in-Err-clause-rises : goal.returns-in-Err-clause-rises
returns-in-Err-clause-rises g c = rises_between (2 ^ 21) c.args.kernel.now.memory.frames c.args.kernel.now.memory.frames c.lend_in_place.new.kernel.memory.frames c.lend_in_place.new.kernel.memory.frames refl refl refl refl (omega arith) c.lend_in_place.ensures.rises

pub returns-in-Ok-clause-copying : goal.returns-in-Ok-clause-copying
returns-in-Ok-clause-copying g c = share_keeps c.args.kernel.now c.post.new.kernel c.args.call c.args.addr c.find_target-off.result.0 c.find_target-off.result.1 (reply.Id c.args.kernel.now.next) c.requires.class refl c.find_target-off.ensures (costs_left _ c.args.kernel.now.memory c.lend_in_place.new.kernel.memory c.post.new.kernel.memory (ap (λ (z : Kernel). z.memory.frames.meters) c.post.ensures) c.lend_in_place.ensures.copying)

pub returns-in-Err-clause-copying : goal.returns-in-Err-clause-copying
returns-in-Err-clause-copying g c = share_keeps c.args.kernel.now c.lend_in_place.new.kernel c.args.call c.args.addr c.find_target-off.result.0 c.find_target-off.result.1 reply.StoreFault c.requires.class refl c.find_target-off.ensures c.lend_in_place.ensures.copying

pub returns-in-Ok-clause-gets : goal.returns-in-Ok-clause-gets
returns-in-Ok-clause-gets g c = got_shared c.args.kernel.now c.post.new.kernel c.args.call c.args.addr c.find_target-off.result.0 c.find_target-off.result.1 c.requires.class c.find_target-off.ensures (got_left _ c.args.kernel.now.memory.frames.meters c.lend_in_place.new.kernel.memory.frames.meters c.post.new.kernel.memory.frames.meters (ap (λ (z : Kernel). z.memory.frames.meters) c.post.ensures) c.lend_in_place.ensures.gets)

pub returns-in-Err-clause-gets : goal.returns-in-Err-clause-gets
returns-in-Err-clause-gets g c = got_shared c.args.kernel.now c.lend_in_place.new.kernel c.args.call c.args.addr c.find_target-off.result.0 c.find_target-off.result.1 c.requires.class c.find_target-off.ensures c.lend_in_place.ensures.gets
