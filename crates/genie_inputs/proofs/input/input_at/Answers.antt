use Rattle.std.proofs.Common.{arith}
use Rattle.genie_inputs.proofs.Costing.{none_keeps}
use Rattle.genie_inputs.proofs.input.input_at.Goals as goal
use Rattle.genie_inputs.specs.Calls.{input_event}
use Rattle.std.specs.Prelude.{Some}

pub returns-in-Copy-clause-copying : goal.returns-in-Copy-clause-copying
returns-in-Copy-clause-copying g c = none_keeps c.args.kernel.now c.copy.new.kernel (input_event c.args.call (Some c.args.addr)) c.copy.result c.copy.ensures.copying

pub returns-in-Copy-clause-gets : goal.returns-in-Copy-clause-gets
returns-in-Copy-clause-gets g c = omega (arith, c.copy.ensures.gets)
