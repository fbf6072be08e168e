use Rattle.std.proofs.Common.{arith}
use Rattle.std.proofs.Common.{◌∙◌, sym}
use Rattle.genie_inputs.proofs.Costing.{none_keeps}
use Rattle.genie_inputs.proofs.HiddenAgain.{weak_reuses}
use Rattle.genie_inputs.proofs.input.input_anywhere.Goals as goal
use Rattle.genie_inputs.specs.Calls.{input_event}
use Rattle.std.specs.Prelude.{None}

pub returns-in-WeakMove-clause-reuses : goal.returns-in-WeakMove-clause-reuses
returns-in-WeakMove-clause-reuses g c = weak_reuses c.args.kernel.now c.input_weakly.new.kernel c.args.call c.input_weakly.result (sym c.class.ensures ∙ c.in-WeakMove.is)

pub returns-in-Move-clause-copying : goal.returns-in-Move-clause-copying
returns-in-Move-clause-copying g c = none_keeps c.args.kernel.now c.hold.new.kernel (input_event c.args.call None) c.hold.result c.hold.ensures.copying

pub returns-in-Move-clause-gets : goal.returns-in-Move-clause-gets
returns-in-Move-clause-gets g c = omega (arith, c.hold.ensures.gets)
