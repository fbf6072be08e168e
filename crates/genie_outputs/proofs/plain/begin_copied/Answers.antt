use Rattle.genie_outputs.proofs.Getting.{got_left}
use Rattle.genie_outputs.proofs.Copied.{copied, uncopied}
use Rattle.genie_outputs.proofs.Reached.{can_prepare, may_output}
use Rattle.genie_kernel.specs.declared.kernel.Kernel.{Kernel}
use Rattle.std.proofs.Common.{ap, ◌^◌}
use Rattle.genie_outputs.proofs.Rows.{meters_left, copied_row}
use Rattle.genie_kernel.specs.Lemmas.Rising.{rises_left}
use Rattle.genie_outputs.proofs.Rising.{rises_copied}
use Rattle.genie_outputs.proofs.plain.begin_copied.Goals as goal
use Rattle.genie_outputs.proofs.LentFrames.{copies_lent}

pub prepare_copy-requires-clause-range : goal.prepare_copy-requires-clause-range
prepare_copy-requires-clause-range g c = can_prepare c.output_laws.ensures c.args.kernel.now c.args.call.now c.args.region.now c.args.range.now (g.S.Store.view c.args.store.now) c.requires.ready

pub add_output-requires-clause-few : goal.add_output-requires-clause-few
add_output-requires-clause-few g c = (may_output c.args.kernel.now c.args.call.now c.requires.ready.accepted).few

pub returns-in-Ok-clause-answered : goal.returns-in-Ok-clause-answered
returns-in-Ok-clause-answered g c = copied c.output_laws.ensures c.args.kernel.now c.prepare_copy.new.memory c.args.call.now c.args.region.now c.args.range.now c.in-Ok.plan (g.S.Store.view c.args.store.now) (g.S.Store.view c.prepare_copy.new.store) c.requires.ready c.requires.class c.add_output.new.kernel c.add_output.ensures c.in-Ok.ensures.lent (g.met.S.Store.paged c.args.store.now) c.in-Ok.ensures.plan c.in-Ok.ensures.ready c.in-Ok.ensures.bytes c.prepare_copy.ensures.sized c.in-Ok.ensures.cause.kept

pub returns-in-Err-clause-answered : goal.returns-in-Err-clause-answered
returns-in-Err-clause-answered g c = uncopied c.output_laws.ensures c.args.kernel.now c.prepare_copy.new.memory c.args.call.now c.args.region.now c.args.range.now (g.S.Store.view c.args.store.now) (g.S.Store.view c.prepare_copy.new.store) c.requires.ready c.in-Err.ensures.failed c.prepare_copy.ensures.sized c.in-Err.ensures.cause.failed

pub returns-in-Ok-clause-copies : goal.returns-in-Ok-clause-copies
returns-in-Ok-clause-copies g c = meters_left _ c.args.kernel.now.memory c.prepare_copy.new.memory c.add_output.new.kernel.memory (ap (λ (z : Kernel). z.memory.frames.meters) c.add_output.ensures) (copied_row c.args.kernel.now c.prepare_copy.new.memory c.args.call.now c.args.region.now c.args.range.now (g.S.Store.view c.args.store.now) c.requires.ready c.requires.class c.requires.plain c.prepare_copy.ensures.spends.work)

pub returns-in-Err-clause-copies : goal.returns-in-Err-clause-copies
returns-in-Err-clause-copies g c = (copied_row c.args.kernel.now c.prepare_copy.new.memory c.args.call.now c.args.region.now c.args.range.now (g.S.Store.view c.args.store.now) c.requires.ready c.requires.class c.requires.plain c.prepare_copy.ensures.spends.work)

pub returns-in-Ok-clause-rises : goal.returns-in-Ok-clause-rises
returns-in-Ok-clause-rises g c = rises_left (2 ^ 33) c.args.kernel.now.memory.frames c.prepare_copy.new.memory.frames c.add_output.new.kernel.memory.frames (ap (λ (z : Kernel). z.memory.frames.meters) c.add_output.ensures) (ap (λ (z : Kernel). z.memory.frames.landed) c.add_output.ensures) (rises_copied c.args.kernel.now.memory c.prepare_copy.new.memory c.args.range.now c.requires.ready.good.sound (can_prepare c.output_laws.ensures c.args.kernel.now c.args.call.now c.args.region.now c.args.range.now (g.S.Store.view c.args.store.now) c.requires.ready) c.in-Ok.ensures.lent.landed c.prepare_copy.ensures.spends)

pub returns-in-Err-clause-rises : goal.returns-in-Err-clause-rises
returns-in-Err-clause-rises g c = rises_copied c.args.kernel.now.memory c.prepare_copy.new.memory c.args.range.now c.requires.ready.good.sound (can_prepare c.output_laws.ensures c.args.kernel.now c.args.call.now c.args.region.now c.args.range.now (g.S.Store.view c.args.store.now) c.requires.ready) c.in-Err.ensures.failed.landed c.prepare_copy.ensures.spends

pub returns-in-Ok-clause-lends : goal.returns-in-Ok-clause-lends
returns-in-Ok-clause-lends g c = λ n is. copies_lent c.args.kernel.now c.prepare_copy.new.memory c.args.call.now c.args.region.now c.in-Ok.plan c.add_output.new.kernel c.add_output.ensures c.in-Ok.ensures.system

pub returns-in-Err-clause-lends : goal.returns-in-Err-clause-lends
returns-in-Err-clause-lends g c = λ n is. absurd (cc)

pub returns-in-Ok-clause-gets : goal.returns-in-Ok-clause-gets
returns-in-Ok-clause-gets g c = got_left _ c.args.kernel.now.memory.frames.meters c.prepare_copy.new.memory.frames.meters c.add_output.new.kernel.memory.frames.meters (ap (λ (z : Kernel). z.memory.frames.meters) c.add_output.ensures) c.prepare_copy.ensures.spends.most_gets

pub returns-in-Err-clause-gets : goal.returns-in-Err-clause-gets
returns-in-Err-clause-gets g c = c.prepare_copy.ensures.spends.most_gets
