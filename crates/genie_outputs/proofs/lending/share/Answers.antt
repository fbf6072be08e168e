use Rattle.genie_outputs.proofs.Getting.{got_wired}
use Rattle.std.proofs.Common.{◌^◌}
use Rattle.genie_outputs.proofs.Lent.{object_there}
use Rattle.genie_outputs.proofs.Reached.{can_prepare}
use Rattle.genie_outputs.proofs.Shared.{frames_room, frames_there, shared, unshared}
use Rattle.genie_outputs.proofs.Rows.{wires_move_none}
use Rattle.genie_base.specs.Transfers.{is_emulated}
use Rattle.genie_outputs.proofs.Rising.{rises_wired}
use Rattle.genie_outputs.proofs.lending.share.Goals as goal

pub lend_weak-requires-clause-range : goal.lend_weak-requires-clause-range
lend_weak-requires-clause-range g c = can_prepare c.output_laws.ensures c.args.kernel.now c.args.call.now c.args.region.now c.args.range.now (g.S.Store.view c.args.store.now) c.requires.ready

pub lend_weak-requires-clause-there : goal.lend_weak-requires-clause-there
lend_weak-requires-clause-there g c = object_there c.args.kernel.now c.args.call.now c.args.region.now c.args.range.now (g.S.Store.view c.args.store.now) c.requires.ready

pub wire_plan-requires-clause-there : goal.wire_plan-requires-clause-there
wire_plan-requires-clause-there g c = frames_there c.args.kernel.now c.lend_weak.new.memory c.args.call.now c.args.region.now c.args.range.now c.in-Ok.plan (g.S.Store.view c.args.store.now) (g.S.Store.view c.lend_weak.new.store) c.requires.ready c.in-Ok.ensures.lent c.in-Ok.ensures.frames

pub wire_plan-requires-clause-room : goal.wire_plan-requires-clause-room
wire_plan-requires-clause-room g c = frames_room c.args.kernel.now c.lend_weak.new.memory c.args.call.now c.args.region.now c.args.range.now c.in-Ok.plan (g.S.Store.view c.args.store.now) (g.S.Store.view c.lend_weak.new.store) c.requires.ready c.in-Ok.ensures.lent c.in-Ok.ensures.frames c.output_laws.ensures c.in-Ok.ensures.plan

pub returns-in-Ok-clause-shared : goal.returns-in-Ok-clause-shared
returns-in-Ok-clause-shared g c = shared c.output_laws.ensures c.args.kernel.now c.lend_weak.new.memory c.wire_plan.new.frames c.args.call.now c.args.region.now c.args.range.now c.in-Ok.plan (g.S.Store.view c.args.store.now) (g.S.Store.view c.lend_weak.new.store) c.requires.ready c.requires.weak c.in-Ok.ensures.lent c.in-Ok.ensures.frames c.wire_plan.ensures c.lend_weak.ensures.keeps c.in-Ok.ensures.plan c.lend_weak.ensures.shut c.lend_weak.ensures.sized c.lend_weak.ensures.seen

pub returns-in-Err-clause-failed : goal.returns-in-Err-clause-failed
returns-in-Err-clause-failed g c = unshared c.output_laws.ensures c.args.kernel.now c.lend_weak.new.memory c.args.call.now c.args.region.now c.args.range.now (g.S.Store.view c.args.store.now) (g.S.Store.view c.lend_weak.new.store) c.requires.ready c.in-Err.ensures.failed c.lend_weak.ensures.shut c.lend_weak.ensures.sized

pub returns-in-Ok-clause-copies : goal.returns-in-Ok-clause-copies
returns-in-Ok-clause-copies g c = wires_move_none (is_emulated c.args.call.now.sem) _ _ c.args.kernel.now.memory c.lend_weak.new.memory c.wire_plan.new.frames c.wire_plan.ensures c.lend_weak.ensures.copies

pub returns-in-Ok-clause-rises : goal.returns-in-Ok-clause-rises
returns-in-Ok-clause-rises g c = rises_wired (is_emulated c.args.call.now.sem) _ (2 ^ 20) c.args.kernel.now.memory.frames c.lend_weak.new.memory.frames c.wire_plan.new.frames c.wire_plan.ensures c.lend_weak.ensures.rises

pub returns-in-Ok-clause-gets : goal.returns-in-Ok-clause-gets
returns-in-Ok-clause-gets g c = got_wired (is_emulated c.args.call.now.sem) _ _ c.args.kernel.now.memory.frames.meters c.lend_weak.new.memory.frames c.wire_plan.new.frames c.wire_plan.ensures c.lend_weak.ensures.gets
