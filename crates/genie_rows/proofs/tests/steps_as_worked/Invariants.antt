use Rattle.std.specs.Prelude.{◌≤◌, IfSome}
use Rattle.genie_model.specs.State.{State}
use Rattle.genie_rows.proofs.tests.steps_as_worked.Given as goal

abbrev pub invariant-loop-line : goal.invariant-loop-line
invariant-loop-line l = IfSome l.flat (λ (s : State). s.next ≤ l.most)
