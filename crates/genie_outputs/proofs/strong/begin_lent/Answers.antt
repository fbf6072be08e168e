use Rattle.genie_outputs.proofs.Getting.{got_left}
use Rattle.std.proofs.Common.{ap, arith, ◌^◌}
use Rattle.genie_base.specs.Transfers.{is_strong, is_system}
use Rattle.genie_outputs.proofs.Lent.{lent_out, object_there, unlent_out}
use Rattle.genie_outputs.proofs.Reached.{can_prepare, may_output}
use Rattle.genie_kernel.specs.declared.kernel.Kernel.{Kernel}
use Rattle.genie_outputs.proofs.Rows.{meters_left, sent_row}
use Rattle.genie_kernel.specs.Lemmas.Rising.{rises_left, rises_most}
use Rattle.genie_outputs.proofs.strong.begin_lent.Goals as goal
use Rattle.genie_outputs.proofs.LentFrames.{own_lent}

pub lend_strong-requires-clause-range : goal.lend_strong-requires-clause-range
lend_strong-requires-clause-range g c = can_prepare c.output_laws.ensures c.args.kernel.now c.args.call.now c.args.region.now c.args.range.now (g.S.Store.view c.args.store.now) c.requires.ready

pub add_output-requires-clause-few : goal.add_output-requires-clause-few
add_output-requires-clause-few g c = (may_output c.args.kernel.now c.args.call.now c.requires.ready.accepted).few

pub lend_strong-requires-clause-there : goal.lend_strong-requires-clause-there
lend_strong-requires-clause-there g c = object_there c.args.kernel.now c.args.call.now c.args.region.now c.args.range.now (g.S.Store.view c.args.store.now) c.requires.ready

pub returns-in-Ok-clause-answered : goal.returns-in-Ok-clause-answered
returns-in-Ok-clause-answered g c = lent_out c.output_laws.ensures c.args.kernel.now c.lend_strong.new.memory c.args.call.now c.args.region.now c.args.range.now c.in-Ok.plan (g.S.Store.view c.args.store.now) (g.S.Store.view c.lend_strong.new.store) c.requires.ready (ap is_strong c.requires.class) (ap is_system c.requires.class) c.add_output.new.kernel c.add_output.ensures c.in-Ok.ensures.lent (g.met.S.Store.paged c.args.store.now) c.in-Ok.ensures.plan c.in-Ok.ensures.ready c.in-Ok.ensures.bytes c.lend_strong.ensures.shut c.lend_strong.ensures.sized c.in-Ok.ensures.cause.kept

pub returns-in-Err-clause-answered : goal.returns-in-Err-clause-answered
returns-in-Err-clause-answered g c = unlent_out c.output_laws.ensures c.args.kernel.now c.lend_strong.new.memory c.args.call.now c.args.region.now c.args.range.now (g.S.Store.view c.args.store.now) (g.S.Store.view c.lend_strong.new.store) c.requires.ready c.in-Err.ensures.failed c.lend_strong.ensures.shut c.lend_strong.ensures.sized c.in-Err.ensures.cause.failed

pub returns-in-Ok-clause-copies : goal.returns-in-Ok-clause-copies
returns-in-Ok-clause-copies g c = meters_left _ c.args.kernel.now.memory c.lend_strong.new.memory c.add_output.new.kernel.memory (ap (λ (z : Kernel). z.memory.frames.meters) c.add_output.ensures) (sent_row c.args.kernel.now c.lend_strong.new.memory c.args.call.now c.args.region.now c.args.range.now (g.S.Store.view c.args.store.now) c.requires.ready c.requires.class c.requires.emulated c.lend_strong.ensures.copies)

pub returns-in-Err-clause-copies : goal.returns-in-Err-clause-copies
returns-in-Err-clause-copies g c = (sent_row c.args.kernel.now c.lend_strong.new.memory c.args.call.now c.args.region.now c.args.range.now (g.S.Store.view c.args.store.now) c.requires.ready c.requires.class c.requires.emulated c.lend_strong.ensures.copies)

pub returns-in-Ok-clause-rises : goal.returns-in-Ok-clause-rises
returns-in-Ok-clause-rises g c = rises_left (2 ^ 33) c.args.kernel.now.memory.frames c.lend_strong.new.memory.frames c.add_output.new.kernel.memory.frames (ap (λ (z : Kernel). z.memory.frames.meters) c.add_output.ensures) (ap (λ (z : Kernel). z.memory.frames.landed) c.add_output.ensures) (rises_most (2 ^ 20) (2 ^ 33) c.args.kernel.now.memory.frames c.lend_strong.new.memory.frames (omega arith) c.lend_strong.ensures.rises)

pub returns-in-Err-clause-rises : goal.returns-in-Err-clause-rises
returns-in-Err-clause-rises g c = rises_most (2 ^ 20) (2 ^ 33) c.args.kernel.now.memory.frames c.lend_strong.new.memory.frames (omega arith) c.lend_strong.ensures.rises

pub returns-in-Ok-clause-lends : goal.returns-in-Ok-clause-lends
returns-in-Ok-clause-lends g c = λ n is. own_lent c.args.kernel.now c.lend_strong.new.memory c.args.call.now c.args.region.now c.args.range.now c.in-Ok.plan (g.S.Store.view c.args.store.now) c.add_output.new.kernel c.requires.ready c.add_output.ensures c.in-Ok.ensures.own

pub returns-in-Err-clause-lends : goal.returns-in-Err-clause-lends
returns-in-Err-clause-lends g c = λ n is. absurd (cc)

pub returns-in-Ok-clause-gets : goal.returns-in-Ok-clause-gets
returns-in-Ok-clause-gets g c = got_left _ c.args.kernel.now.memory.frames.meters c.lend_strong.new.memory.frames.meters c.add_output.new.kernel.memory.frames.meters (ap (λ (z : Kernel). z.memory.frames.meters) c.add_output.ensures) c.lend_strong.ensures.gets

pub returns-in-Err-clause-gets : goal.returns-in-Err-clause-gets
returns-in-Err-clause-gets g c = c.lend_strong.ensures.gets
