-- A transfer whose wires are off still has its loans.
use Rattle.std.proofs.Common.{ℕ, ◌≤◌, List, sym, subst}
use Rattle.genie_frame.specs.declared.frame.Counts.{Counts}
use Rattle.genie_frame.specs.FrameTable.{FrameTable}
use Rattle.genie_plan.specs.Loans.{Loan, AreOut, loan_times}
use Rattle.genie_plan.specs.Loans as kind
use Rattle.genie_plan.specs.Wiring.{Unwired}

-- wires that are off change no loan
pub out_unwired : (frames : List ℕ) (old new : FrameTable) (loans : List Loan) → Unwired frames old new → AreOut old loans → AreOut new loans
out_unwired frames old new loans off out kind.Strong f = subst (λ (c : Counts). loan_times loans kind.Strong f ≤ c.strong) (sym (off.counts f)) (out kind.Strong f)
out_unwired frames old new loans off out kind.Weak f = subst (λ (c : Counts). loan_times loans kind.Weak f ≤ c.weak) (sym (off.counts f)) (out kind.Weak f)
out_unwired frames old new loans off out kind.Input f = subst (λ (c : Counts). loan_times loans kind.Input f ≤ c.input) (sym (off.counts f)) (out kind.Input f)
