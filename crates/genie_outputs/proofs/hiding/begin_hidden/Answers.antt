use Rattle.genie_outputs.proofs.Getting.{got_left}
use Rattle.std.proofs.Common.{◌≡◌, true, sym, subst, arith, ◌^◌, ◌∙◌, ap}
use Rattle.std.specs.Prelude.{Some}
use Rattle.genie_kernel.specs.declared.kernel.Kernel.{Kernel}
use Rattle.genie_region.specs.Layouts.{region_of}
use Rattle.genie_space.specs.Spaces.{is_alive, regions_of}
use Rattle.genie_changes.specs.Settled.{IsSettled}
use Rattle.genie_outputs.proofs.Given.{found_region}
use Rattle.genie_outputs.proofs.Gone.{hidden_out, moved_settled}
use Rattle.genie_outputs.proofs.Lent.{object_there, unlent_out}
use Rattle.genie_outputs.proofs.Reached.{can_prepare, may_output}
use Rattle.genie_frame.specs.FrameTable.{FrameTable}
use Rattle.genie_outputs.proofs.Rows.{meters_left, given_row}
use Rattle.genie_kernel.specs.Lemmas.Rising.{rises_left, rises_most}
use Rattle.genie_outputs.proofs.hiding.begin_hidden.Goals as goal

pub lend_strong-requires-clause-range : goal.lend_strong-requires-clause-range
lend_strong-requires-clause-range g c = can_prepare c.output_laws.ensures c.args.kernel.now c.args.call.now c.args.region.now c.args.range.now (g.S.Store.view c.args.store.now) c.requires.ready

pub add_output-requires-clause-few : goal.add_output-requires-clause-few
add_output-requires-clause-few g c = (may_output c.args.kernel.now c.args.call.now c.requires.ready.accepted).few

pub lend_strong-requires-clause-there : goal.lend_strong-requires-clause-there
lend_strong-requires-clause-there g c = object_there c.args.kernel.now c.args.call.now c.args.region.now c.args.range.now (g.S.Store.view c.args.store.now) c.requires.ready

pub hide_region-requires-clause-settled : goal.hide_region-requires-clause-settled
hide_region-requires-clause-settled g c = subst IsSettled (sym c.add_output.ensures) (moved_settled c.output_laws.ensures c.removal_laws.ensures c.args.kernel.now c.lend_strong.new.memory c.args.call.now c.args.region.now c.args.range.now c.in-Ok.plan (g.S.Store.view c.args.store.now) (g.S.Store.view c.lend_strong.new.store) c.requires.ready c.requires.class c.in-Ok.ensures.lent c.in-Ok.ensures.plan c.lend_strong.ensures.shut)

pub hide_region-requires-clause-alive : goal.hide_region-requires-clause-alive
hide_region-requires-clause-alive g c = subst (λ (k : Kernel). is_alive c.args.call.now.pid k.spaces ≡ true) (sym c.add_output.ensures) (may_output c.args.kernel.now c.args.call.now c.requires.ready.accepted).alive

pub hide_region-requires-clause-there : goal.hide_region-requires-clause-there
hide_region-requires-clause-there g c = subst (λ (k : Kernel). region_of c.args.region.now.id (regions_of c.args.call.now.pid k.spaces) ≡ Some c.args.region.now) (sym c.add_output.ensures) (found_region c.args.kernel.now c.args.call.now c.args.region.now c.requires.ready.good c.requires.ready.reached)

pub returns-in-Ok-clause-answered : goal.returns-in-Ok-clause-answered
returns-in-Ok-clause-answered g c = hidden_out c.output_laws.ensures c.removal_laws.ensures c.args.kernel.now c.lend_strong.new.memory c.args.call.now c.args.region.now c.args.range.now c.in-Ok.plan (g.S.Store.view c.args.store.now) (g.S.Store.view c.lend_strong.new.store) c.requires.ready c.requires.class c.in-Ok.ensures.lent c.in-Ok.ensures.plan c.lend_strong.ensures.shut c.hiding_laws.ensures c.add_output.new.kernel c.hide_region.new.kernel c.add_output.ensures c.hide_region.ensures (g.met.S.Store.paged c.args.store.now) (g.met.S.Store.paged c.lend_strong.new.store) c.in-Ok.ensures.ready c.in-Ok.ensures.bytes c.lend_strong.ensures.sized c.in-Ok.ensures.cause.kept

pub returns-in-Err-clause-answered : goal.returns-in-Err-clause-answered
returns-in-Err-clause-answered g c = unlent_out c.output_laws.ensures c.args.kernel.now c.lend_strong.new.memory c.args.call.now c.args.region.now c.args.range.now (g.S.Store.view c.args.store.now) (g.S.Store.view c.lend_strong.new.store) c.requires.ready c.in-Err.ensures.failed c.lend_strong.ensures.shut c.lend_strong.ensures.sized c.in-Err.ensures.cause.failed

pub returns-in-Ok-clause-copies : goal.returns-in-Ok-clause-copies
returns-in-Ok-clause-copies g c = meters_left _ c.args.kernel.now.memory c.lend_strong.new.memory c.hide_region.new.kernel.memory (ap (λ (z : FrameTable). z.meters) c.hide_region.ensures.object.frames ∙ ap (λ (z : Kernel). z.memory.frames.meters) c.add_output.ensures) (given_row c.args.kernel.now c.lend_strong.new.memory c.args.call.now c.args.region.now c.args.range.now (g.S.Store.view c.args.store.now) c.requires.ready c.requires.class c.lend_strong.ensures.copies)

pub returns-in-Err-clause-copies : goal.returns-in-Err-clause-copies
returns-in-Err-clause-copies g c = (given_row c.args.kernel.now c.lend_strong.new.memory c.args.call.now c.args.region.now c.args.range.now (g.S.Store.view c.args.store.now) c.requires.ready c.requires.class c.lend_strong.ensures.copies)

pub returns-in-Ok-clause-rises : goal.returns-in-Ok-clause-rises
returns-in-Ok-clause-rises g c = rises_left (2 ^ 33) c.args.kernel.now.memory.frames c.lend_strong.new.memory.frames c.hide_region.new.kernel.memory.frames (ap (λ (z : FrameTable). z.meters) c.hide_region.ensures.object.frames ∙ ap (λ (z : Kernel). z.memory.frames.meters) c.add_output.ensures) (ap (λ (z : FrameTable). z.landed) c.hide_region.ensures.object.frames ∙ ap (λ (z : Kernel). z.memory.frames.landed) c.add_output.ensures) (rises_most (2 ^ 20) (2 ^ 33) c.args.kernel.now.memory.frames c.lend_strong.new.memory.frames (omega arith) c.lend_strong.ensures.rises)

pub returns-in-Err-clause-rises : goal.returns-in-Err-clause-rises
returns-in-Err-clause-rises g c = rises_most (2 ^ 20) (2 ^ 33) c.args.kernel.now.memory.frames c.lend_strong.new.memory.frames (omega arith) c.lend_strong.ensures.rises

pub returns-in-Ok-clause-gets : goal.returns-in-Ok-clause-gets
returns-in-Ok-clause-gets g c = got_left _ c.args.kernel.now.memory.frames.meters c.lend_strong.new.memory.frames.meters c.hide_region.new.kernel.memory.frames.meters (ap (λ (z : FrameTable). z.meters) c.hide_region.ensures.object.frames ∙ ap (λ (z : Kernel). z.memory.frames.meters) c.add_output.ensures) c.lend_strong.ensures.gets

pub returns-in-Err-clause-gets : goal.returns-in-Err-clause-gets
returns-in-Err-clause-gets g c = c.lend_strong.ensures.gets
