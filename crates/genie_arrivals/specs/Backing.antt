-- What was lent for an input is given back.
use Rattle.std.specs.Prelude.{ℕ, ◌≤◌, ⊤, not, ◌&&◌, List, [], if◌then◌else◌}
use Rattle.genie_base.specs.Transfers.{class_of, is_strong, is_emulated}
use Rattle.genie_base.specs.declared.semantics.Semantics.{Semantics}
use Rattle.genie_frame.specs.FrameTable.{FrameTable, counts_at}
use Rattle.genie_plan.specs.Loans.{AreOut}
use Rattle.genie_plan.specs.Plans.{times}
use Rattle.genie_kernel.specs.declared.transfer.Loans.{Loans}
use Rattle.genie_kernel.specs.declared.transfer.Loans.TheVariants.{Nothing, Outward, Inward}
use Rattle.genie_kernel.specs.declared.transfer.Transfer.{Transfer}
use Rattle.genie_kernel.specs.Loans.{loans_of}
use Rattle.genie_changes.specs.Ending.{wired_frames}

-- nothing is lent for output
abbrev pub AreInward : Loans → Type 0
AreInward Nothing = ⊤
AreInward (Outward p) = ⊥
AreInward (Inward p) = ⊤

-- the frames on which a call of these semantics has wires, one for each loan
abbrev pub wires_of : Semantics → List ℕ → List ℕ
wires_of sem frames = if not (is_strong (class_of sem)) && not (is_emulated sem) then frames else []

-- the loans and the wires of an input are out
pub record CanGiveBack (t : Transfer) (frames : FrameTable) : Type 0 where
  pub inward : AreInward t.loans
  pub out : AreOut frames (loans_of t.loans)
  pub wired : (f : ℕ) → times (wired_frames t) f ≤ (counts_at frames f).wires
