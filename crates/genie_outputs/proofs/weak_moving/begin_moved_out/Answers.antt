use Rattle.genie_outputs.proofs.Getting.{got_left}
use Rattle.std.proofs.Common.{ap, sym, subst, ◌≡◌, ◌∙◌, ◌<◌, [], length, get_or, true, false, arith, ◌^◌}
use Rattle.std.specs.Prelude.{is_some}
use Rattle.genie_hiding.specs.Queues.{is_in}
use Rattle.genie_region.specs.Layouts.{region_of}
use Rattle.genie_space.specs.Spaces.{regions_of}
use Rattle.genie_base.specs.Transfers.{is_strong, is_system}
use Rattle.genie_kernel.specs.declared.kernel.Kernel.{Kernel}
use Rattle.genie_changes.specs.MovingOut.{moved_out}
use Rattle.genie_outputs.specs.Calls.{with_output}
use Rattle.genie_outputs.proofs.Answered.{failed_answered}
use Rattle.genie_outputs.proofs.Reached.{may_output}
use Rattle.genie_outputs.proofs.Given.{found_region, live_region, moved_out_answered, process_number, queue_room, unlisted}
use Rattle.genie_outputs.proofs.Rows.{meters_left, shared_row}
use Rattle.genie_kernel.specs.Lemmas.Rising.{rises_left, rises_most}
use Rattle.genie_outputs.proofs.weak_moving.begin_moved_out.Goals as goal

pub share-requires-clause-weak : goal.share-requires-clause-weak
share-requires-clause-weak g c = ap is_strong c.requires.class

pub add_output-requires-clause-few : goal.add_output-requires-clause-few
add_output-requires-clause-few g c = subst (λ (k : Kernel). length k.transfers < 64) (sym c.share.ensures.only) (may_output c.args.kernel.now c.args.call.now c.requires.ready.accepted).few

pub move_out-requires-clause-number : goal.move_out-requires-clause-number
move_out-requires-clause-number g c = process_number c.args.kernel.now c.args.call.now c.requires.ready.good c.requires.ready.accepted

pub move_out-requires-clause-there : goal.move_out-requires-clause-there
move_out-requires-clause-there g c = subst (λ (k : Kernel). is_some (region_of c.args.region.now.id (regions_of c.args.call.now.pid k.spaces)) ≡ true) (sym (c.add_output.ensures ∙ ap (λ (k : Kernel). with_output k c.share.new.kernel.memory c.args.call.now c.args.region.now c.in-Ok.plan) c.share.ensures.only)) (ap is_some (found_region c.args.kernel.now c.args.call.now c.args.region.now c.requires.ready.good c.requires.ready.reached))

pub move_out-requires-clause-room : goal.move_out-requires-clause-room
move_out-requires-clause-room g c = subst (λ (k : Kernel). length (get_or k.queues c.args.call.now.pid []) < 32) (sym (c.add_output.ensures ∙ ap (λ (k : Kernel). with_output k c.share.new.kernel.memory c.args.call.now c.args.region.now c.in-Ok.plan) c.share.ensures.only)) (queue_room c.args.kernel.now c.args.call.now c.args.region.now c.requires.ready.good c.requires.ready.reached (live_region c.args.kernel.now c.args.call.now c.args.region.now (ap is_system c.requires.class) c.requires.ready.accepted c.requires.ready.reached) c.moving_laws.ensures)

pub move_out-requires-clause-unlisted : goal.move_out-requires-clause-unlisted
move_out-requires-clause-unlisted g c = subst (λ (k : Kernel). is_in c.args.region.now.id.0 (get_or k.queues c.args.call.now.pid []) ≡ false) (sym (c.add_output.ensures ∙ ap (λ (k : Kernel). with_output k c.share.new.kernel.memory c.args.call.now c.args.region.now c.in-Ok.plan) c.share.ensures.only)) (unlisted c.args.kernel.now c.args.call.now c.args.region.now c.requires.ready.good c.requires.ready.reached (live_region c.args.kernel.now c.args.call.now c.args.region.now (ap is_system c.requires.class) c.requires.ready.accepted c.requires.ready.reached))

pub returns-in-Ok-clause-answered : goal.returns-in-Ok-clause-answered
returns-in-Ok-clause-answered g c = moved_out_answered c.output_laws.ensures c.moving_laws.ensures c.args.kernel.now c.share.new.kernel.memory c.args.call.now c.args.region.now c.args.range.now c.in-Ok.plan (g.S.Store.view c.args.store.now) (g.S.Store.view c.share.new.store) c.requires.ready c.requires.class c.in-Ok.ensures.shared c.move_out.new.kernel (c.move_out.ensures ∙ ap (λ (k : Kernel). moved_out k c.args.call.now.pid c.args.region.now.id) (c.add_output.ensures ∙ ap (λ (k : Kernel). with_output k c.share.new.kernel.memory c.args.call.now c.args.region.now c.in-Ok.plan) c.share.ensures.only)) c.in-Ok.ensures.cause.kept

pub returns-in-Err-clause-answered : goal.returns-in-Err-clause-answered
returns-in-Err-clause-answered g c = failed_answered c.args.kernel.now c.share.new.kernel c.args.call.now (g.S.Store.view c.args.store.now) (g.S.Store.view c.share.new.store) c.requires.ready.accepted c.in-Err.ensures.failed c.in-Err.ensures.cause.failed

pub returns-in-Ok-clause-copies : goal.returns-in-Ok-clause-copies
returns-in-Ok-clause-copies g c = meters_left _ c.args.kernel.now.memory c.share.new.kernel.memory c.move_out.new.kernel.memory (ap (λ (z : Kernel). z.memory.frames.meters) c.move_out.ensures ∙ ap (λ (z : Kernel). z.memory.frames.meters) c.add_output.ensures) (shared_row c.args.kernel.now c.share.new.kernel.memory c.args.call.now c.args.region.now c.args.range.now (g.S.Store.view c.args.store.now) c.requires.ready (ap is_strong c.requires.class) c.share.ensures.copies)

pub returns-in-Err-clause-copies : goal.returns-in-Err-clause-copies
returns-in-Err-clause-copies g c = (shared_row c.args.kernel.now c.share.new.kernel.memory c.args.call.now c.args.region.now c.args.range.now (g.S.Store.view c.args.store.now) c.requires.ready (ap is_strong c.requires.class) c.share.ensures.copies)

pub returns-in-Ok-clause-rises : goal.returns-in-Ok-clause-rises
returns-in-Ok-clause-rises g c = rises_left (2 ^ 33) c.args.kernel.now.memory.frames c.share.new.kernel.memory.frames c.move_out.new.kernel.memory.frames (ap (λ (z : Kernel). z.memory.frames.meters) c.move_out.ensures ∙ ap (λ (z : Kernel). z.memory.frames.meters) c.add_output.ensures) (ap (λ (z : Kernel). z.memory.frames.landed) c.move_out.ensures ∙ ap (λ (z : Kernel). z.memory.frames.landed) c.add_output.ensures) (rises_most (2 ^ 20) (2 ^ 33) c.args.kernel.now.memory.frames c.share.new.kernel.memory.frames (omega arith) c.share.ensures.rises)

pub returns-in-Err-clause-rises : goal.returns-in-Err-clause-rises
returns-in-Err-clause-rises g c = rises_most (2 ^ 20) (2 ^ 33) c.args.kernel.now.memory.frames c.share.new.kernel.memory.frames (omega arith) c.share.ensures.rises

pub returns-in-Ok-clause-gets : goal.returns-in-Ok-clause-gets
returns-in-Ok-clause-gets g c = got_left _ c.args.kernel.now.memory.frames.meters c.share.new.kernel.memory.frames.meters c.move_out.new.kernel.memory.frames.meters (ap (λ (z : Kernel). z.memory.frames.meters) c.move_out.ensures ∙ ap (λ (z : Kernel). z.memory.frames.meters) c.add_output.ensures) c.share.ensures.gets

pub returns-in-Err-clause-gets : goal.returns-in-Err-clause-gets
returns-in-Err-clause-gets g c = c.share.ensures.gets
