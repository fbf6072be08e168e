-- The loans and wires of a pending transfer are out.
use Rattle.std.proofs.Common.{◌≡◌, ℕ, ◌≤◌, sym, subst, arith}
use Rattle.std.specs.Prelude.{Some, find}
use Rattle.genie_frame.specs.declared.frame.Counts.{Counts}
use Rattle.genie_frame.specs.FrameTable.{counts_at}
use Rattle.genie_plan.specs.Loans.{AreOut}
use Rattle.genie_plan.specs.Loans as kind
use Rattle.genie_model.specs.Lemmas.Lists.{Has, find_has}
use Rattle.genie_kernel.specs.declared.kernel.Kernel.{Kernel}
use Rattle.genie_kernel.specs.declared.transfer.Transfer.{Transfer}
use Rattle.genie_kernel.specs.Calls.{has_number}
use Rattle.genie_kernel.specs.Counted.{loans_on, wires_on}
use Rattle.genie_kernel.specs.Good.{IsGood}
use Rattle.genie_kernel.specs.Loans.{loans_of}
use Rattle.genie_kernel.specs.Lemmas.Staying.{at_least}

module _ (k : Kernel) (n : ℕ) (t : Transfer) (g : IsGood k) (found : find (has_number n) k.transfers ≡ Some t) where
  there : Has t k.transfers
  there = (find_has (has_number n) k.transfers t found).0

  pub loans_out : AreOut k.memory.frames (loans_of t.loans)
  loans_out kind.Strong f = subst (λ (c : Counts). loans_on kind.Strong f t ≤ c.strong) (sym (g.counted f)) (at_least (loans_on kind.Strong f) k.transfers t there)
  loans_out kind.Weak f = subst (λ (c : Counts). loans_on kind.Weak f t ≤ c.weak) (sym (g.counted f)) (at_least (loans_on kind.Weak f) k.transfers t there)
  loans_out kind.Input f = subst (λ (c : Counts). loans_on kind.Input f t ≤ c.input) (sym (g.counted f)) (omega (arith, at_least (loans_on kind.Input f) k.transfers t there))

  pub wires_out : (f : ℕ) → wires_on f t ≤ (counts_at k.memory.frames f).wires
  wires_out f = subst (λ (c : Counts). wires_on f t ≤ c.wires) (sym (g.counted f)) (at_least (wires_on f) k.transfers t there)
