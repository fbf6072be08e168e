use Rattle.genie_outputs.proofs.Getting.{got_reached}
use Rattle.std.proofs.Common.{arith, ◌^◌}
use Rattle.genie_outputs.proofs.Rows.{failed_keeps, out_keeps}
use Rattle.genie_outputs.proofs.Answered.{answered_since, failed_answered, moved_config, moved_numbers}
use Rattle.genie_kernel.specs.Lemmas.Rising.{rises_most, rises_twice}
use Rattle.genie_outputs.proofs.hiding.out_hidden.Goals as goal

pub returns-in-Ok-clause-kept : goal.returns-in-Ok-clause-kept
returns-in-Ok-clause-kept g c = (answered_since c.output_laws.ensures c.args.kernel.now c.make_ready.new.kernel c.begin_hidden.new.kernel _ (g.S.Store.view c.args.store.now) (g.S.Store.view c.make_ready.new.store) (g.S.Store.view c.begin_hidden.new.store) c.begin_hidden.result c.make_ready.ensures.moved c.in-Ok.ensures.cause.kept c.begin_hidden.ensures.answered).kept

pub returns-in-Ok-clause-config : goal.returns-in-Ok-clause-config
returns-in-Ok-clause-config g c = (answered_since c.output_laws.ensures c.args.kernel.now c.make_ready.new.kernel c.begin_hidden.new.kernel _ (g.S.Store.view c.args.store.now) (g.S.Store.view c.make_ready.new.store) (g.S.Store.view c.begin_hidden.new.store) c.begin_hidden.result c.make_ready.ensures.moved c.in-Ok.ensures.cause.kept c.begin_hidden.ensures.answered).config

pub returns-in-Ok-clause-numbers : goal.returns-in-Ok-clause-numbers
returns-in-Ok-clause-numbers g c = (answered_since c.output_laws.ensures c.args.kernel.now c.make_ready.new.kernel c.begin_hidden.new.kernel _ (g.S.Store.view c.args.store.now) (g.S.Store.view c.make_ready.new.store) (g.S.Store.view c.begin_hidden.new.store) c.begin_hidden.result c.make_ready.ensures.moved c.in-Ok.ensures.cause.kept c.begin_hidden.ensures.answered).numbers

pub returns-in-Ok-clause-step : goal.returns-in-Ok-clause-step
returns-in-Ok-clause-step g c = (answered_since c.output_laws.ensures c.args.kernel.now c.make_ready.new.kernel c.begin_hidden.new.kernel _ (g.S.Store.view c.args.store.now) (g.S.Store.view c.make_ready.new.store) (g.S.Store.view c.begin_hidden.new.store) c.begin_hidden.result c.make_ready.ensures.moved c.in-Ok.ensures.cause.kept c.begin_hidden.ensures.answered).step

pub returns-in-Err-clause-step : goal.returns-in-Err-clause-step
returns-in-Err-clause-step g c = (failed_answered c.args.kernel.now c.make_ready.new.kernel _ (g.S.Store.view c.args.store.now) (g.S.Store.view c.make_ready.new.store) c.requires.accepted c.make_ready.ensures.moved c.in-Err.ensures.cause.failed).step

pub returns-in-Ok-clause-copying : goal.returns-in-Ok-clause-copying
returns-in-Ok-clause-copying g c = out_keeps c.args.kernel.now c.make_ready.new.kernel c.begin_hidden.new.kernel _ _ _ (g.S.Store.view c.args.store.now) (g.S.Store.view c.make_ready.new.store) c.begin_hidden.result c.requires.good c.make_ready.ensures.moved c.in-Ok.ensures.ready c.make_ready.ensures.costs c.make_ready.ensures.copies c.begin_hidden.ensures.copies

pub returns-in-Err-clause-copying : goal.returns-in-Err-clause-copying
returns-in-Err-clause-copying g c = failed_keeps c.args.kernel.now c.make_ready.new.kernel c.args.pid c.args.sem c.args.dev c.args.port c.args.flow c.args.addr c.args.len c.make_ready.ensures.copies

pub returns-in-Err-clause-config : goal.returns-in-Err-clause-config
returns-in-Err-clause-config g c = moved_config c.args.kernel.now c.make_ready.new.kernel (g.S.Store.view c.args.store.now) (g.S.Store.view c.make_ready.new.store) c.make_ready.ensures.moved

pub returns-in-Err-clause-numbers : goal.returns-in-Err-clause-numbers
returns-in-Err-clause-numbers g c = moved_numbers c.args.kernel.now c.make_ready.new.kernel (g.S.Store.view c.args.store.now) (g.S.Store.view c.make_ready.new.store) c.make_ready.ensures.moved

pub returns-in-Ok-clause-rises : goal.returns-in-Ok-clause-rises
returns-in-Ok-clause-rises g c = rises_twice (2 ^ 13) (2 ^ 33) (2 ^ 36) c.args.kernel.now.memory.frames c.make_ready.new.kernel.memory.frames c.begin_hidden.new.kernel.memory.frames (omega arith) c.make_ready.ensures.rises c.begin_hidden.ensures.rises

pub returns-in-Err-clause-rises : goal.returns-in-Err-clause-rises
returns-in-Err-clause-rises g c = rises_most (2 ^ 13) (2 ^ 36) c.args.kernel.now.memory.frames c.make_ready.new.kernel.memory.frames (omega arith) c.make_ready.ensures.rises

pub returns-in-Ok-clause-gets : goal.returns-in-Ok-clause-gets
returns-in-Ok-clause-gets g c = got_reached c.args.kernel.now c.make_ready.new.kernel c.begin_hidden.new.kernel _ _ _ (g.S.Store.view c.args.store.now) (g.S.Store.view c.make_ready.new.store) c.make_ready.ensures.moved c.in-Ok.ensures.ready c.make_ready.ensures.gets c.begin_hidden.ensures.gets

pub returns-in-Err-clause-gets : goal.returns-in-Err-clause-gets
returns-in-Err-clause-gets g c = omega (arith, c.make_ready.ensures.gets)
