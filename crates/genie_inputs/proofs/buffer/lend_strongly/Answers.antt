use Rattle.std.proofs.Common.{◌∙◌}
use Rattle.genie_inputs.proofs.Getting.{got_buffer}
use Rattle.std.proofs.Common.{arith, ◌^◌}
use Rattle.genie_kernel.specs.Lemmas.Rising.{rises_most, rises_twice}
use Rattle.genie_inputs.proofs.Rising.{lent_most, rises_buffer}
use Rattle.genie_inputs.proofs.Moving.{moves_buffer, moves_on}
use Rattle.genie_inputs.proofs.buffer.lend_strongly.Goals as goal

pub returns-in-Ok-clause-rises : goal.returns-in-Ok-clause-rises
returns-in-Ok-clause-rises g c = rises_twice (2 ^ 13) (2 ^ 7) (2 ^ 20) c.args.kernel.now.memory.frames c.make_free.new.kernel.memory.frames c.lend_buffer.new.memory.frames (omega arith) c.make_free.ensures.rises (rises_buffer c.args.id.0 c.args.at c.args.len _ c.make_free.new.kernel.memory c.lend_buffer.new.memory c.lend_buffer.result (lent_most c.args.kernel.now c.make_free.new.kernel c.args.at c.args.len (g.S.Store.view c.args.store.now) (g.S.Store.view c.make_free.new.store) c.make_free.ensures.moved c.requires.span) c.lend_buffer.ensures)

pub returns-in-Err-clause-rises : goal.returns-in-Err-clause-rises
returns-in-Err-clause-rises g c = rises_most (2 ^ 13) (2 ^ 20) c.args.kernel.now.memory.frames c.make_free.new.kernel.memory.frames (omega arith) c.make_free.ensures.rises

pub returns-in-Ok-clause-copying : goal.returns-in-Ok-clause-copying
returns-in-Ok-clause-copying g c = moves_on c.args.kernel.now.memory c.make_free.new.kernel.memory c.lend_buffer.new.memory c.make_free.ensures.copying (moves_buffer c.args.id.0 c.args.at c.args.len _ c.make_free.new.kernel.memory c.lend_buffer.new.memory c.lend_buffer.result c.lend_buffer.ensures)

pub returns-in-Ok-clause-gets : goal.returns-in-Ok-clause-gets
returns-in-Ok-clause-gets g c = got_buffer c.args.id.0 c.args.at c.args.len _ c.make_free.new.kernel.memory c.lend_buffer.new.memory c.lend_buffer.result c.lend_buffer.ensures ∙ c.make_free.ensures.gets
