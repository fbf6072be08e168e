use Rattle.genie_outputs.proofs.Getting.{got_left}
use Rattle.std.proofs.Common.{ap, sym, subst, ◌∙◌, ◌<◌, length, arith, ◌^◌}
use Rattle.genie_base.specs.Transfers.{is_strong, is_system}
use Rattle.genie_kernel.specs.declared.kernel.Kernel.{Kernel}
use Rattle.genie_outputs.specs.Calls.{with_output}
use Rattle.genie_outputs.proofs.Answered.{failed_answered}
use Rattle.genie_outputs.proofs.Reached.{may_output}
use Rattle.genie_outputs.proofs.Shared.{shared_answered}
use Rattle.genie_outputs.proofs.Rows.{meters_left, shared_row}
use Rattle.genie_kernel.specs.Lemmas.Rising.{rises_left, rises_most}
use Rattle.genie_outputs.proofs.sharing.begin_shared.Goals as goal

pub share-requires-clause-weak : goal.share-requires-clause-weak
share-requires-clause-weak g c = ap is_strong c.requires.class

pub add_output-requires-clause-few : goal.add_output-requires-clause-few
add_output-requires-clause-few g c = subst (λ (k : Kernel). length k.transfers < 64) (sym c.share.ensures.only) (may_output c.args.kernel.now c.args.call.now c.requires.ready.accepted).few

pub returns-in-Ok-clause-answered : goal.returns-in-Ok-clause-answered
returns-in-Ok-clause-answered g c = shared_answered c.output_laws.ensures c.args.kernel.now c.add_output.new.kernel c.share.new.kernel.memory c.args.call.now c.args.region.now c.args.range.now c.in-Ok.plan (g.S.Store.view c.args.store.now) (g.S.Store.view c.share.new.store) c.requires.ready (ap is_strong c.requires.class) (ap is_system c.requires.class) c.in-Ok.ensures.shared c.in-Ok.ensures.cause.kept (c.add_output.ensures ∙ ap (λ (k : Kernel). with_output k c.share.new.kernel.memory c.args.call.now c.args.region.now c.in-Ok.plan) c.share.ensures.only)

pub returns-in-Err-clause-answered : goal.returns-in-Err-clause-answered
returns-in-Err-clause-answered g c = failed_answered c.args.kernel.now c.share.new.kernel c.args.call.now (g.S.Store.view c.args.store.now) (g.S.Store.view c.share.new.store) c.requires.ready.accepted c.in-Err.ensures.failed c.in-Err.ensures.cause.failed

pub returns-in-Ok-clause-copies : goal.returns-in-Ok-clause-copies
returns-in-Ok-clause-copies g c = meters_left _ c.args.kernel.now.memory c.share.new.kernel.memory c.add_output.new.kernel.memory (ap (λ (z : Kernel). z.memory.frames.meters) c.add_output.ensures) (shared_row c.args.kernel.now c.share.new.kernel.memory c.args.call.now c.args.region.now c.args.range.now (g.S.Store.view c.args.store.now) c.requires.ready (ap is_strong c.requires.class) c.share.ensures.copies)

pub returns-in-Err-clause-copies : goal.returns-in-Err-clause-copies
returns-in-Err-clause-copies g c = (shared_row c.args.kernel.now c.share.new.kernel.memory c.args.call.now c.args.region.now c.args.range.now (g.S.Store.view c.args.store.now) c.requires.ready (ap is_strong c.requires.class) c.share.ensures.copies)

pub returns-in-Ok-clause-rises : goal.returns-in-Ok-clause-rises
returns-in-Ok-clause-rises g c = rises_left (2 ^ 33) c.args.kernel.now.memory.frames c.share.new.kernel.memory.frames c.add_output.new.kernel.memory.frames (ap (λ (z : Kernel). z.memory.frames.meters) c.add_output.ensures) (ap (λ (z : Kernel). z.memory.frames.landed) c.add_output.ensures) (rises_most (2 ^ 20) (2 ^ 33) c.args.kernel.now.memory.frames c.share.new.kernel.memory.frames (omega arith) c.share.ensures.rises)

pub returns-in-Err-clause-rises : goal.returns-in-Err-clause-rises
returns-in-Err-clause-rises g c = rises_most (2 ^ 20) (2 ^ 33) c.args.kernel.now.memory.frames c.share.new.kernel.memory.frames (omega arith) c.share.ensures.rises

pub returns-in-Ok-clause-gets : goal.returns-in-Ok-clause-gets
returns-in-Ok-clause-gets g c = got_left _ c.args.kernel.now.memory.frames.meters c.share.new.kernel.memory.frames.meters c.add_output.new.kernel.memory.frames.meters (ap (λ (z : Kernel). z.memory.frames.meters) c.add_output.ensures) c.share.ensures.gets

pub returns-in-Err-clause-gets : goal.returns-in-Err-clause-gets
returns-in-Err-clause-gets g c = c.share.ensures.gets
