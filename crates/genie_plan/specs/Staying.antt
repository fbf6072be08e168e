-- A plan stays as it is while the memory changes around it.
use Rattle.std.specs.Prelude.{◌≡◌, ℕ, ◌≤◌, true, List}
use Rattle.genie_frame.specs.declared.frame.OutLoan.{OutLoan}
use Rattle.genie_frame.specs.FrameTable.{FrameTable, counts_at, bytes_at, is_lent}
use Rattle.genie_object.specs.declared.memory.Memory.{Memory}
use Rattle.genie_object.specs.Touching.{KeepsLoans}
use Rattle.genie_plan.specs.Plans.{output_frames, range_bytes, CanLand, CanSend}
use Rattle.genie_plan.specs.Loans.{LoanKind, amount}

-- no count of loans has fallen, and each frame that was lent has the bytes that it had
pub record LentLast (old new : FrameTable) : Type 0 where
  pub page : new.page ≡ old.page
  pub loans : (kind : LoanKind) (f : ℕ) → amount kind (counts_at old f) ≤ amount kind (counts_at new f)
  pub bytes : (f : ℕ) → is_lent (counts_at old f) ≡ true → bytes_at new f ≡ bytes_at old f

-- a plan for output may be sent as before, and has the same bytes
pub record SendsSame (old new : FrameTable) (loans : List OutLoan) (first len : ℕ) : Type 0 where
  pub ready : CanSend new loans first len
  pub bytes : range_bytes new (output_frames loans) first len ≡ range_bytes old (output_frames loans) first len

pub record LandsSame (old new : FrameTable) (frames : List ℕ) (first len : ℕ) : Type 0 where
  pub ready : CanLand new frames first len
  pub bytes : range_bytes new frames first len ≡ range_bytes old frames first len

abbrev pub OutputsStay : Type 0
OutputsStay = (old new : FrameTable) (loans : List OutLoan) (first len : ℕ) → LentLast old new → CanSend old loans first len → SendsSame old new loans first len

abbrev pub InputsStay : Type 0
InputsStay = (old new : FrameTable) (frames : List ℕ) (first len : ℕ) → LentLast old new → CanLand old frames first len → LandsSame old new frames first len

-- a call that keeps loans leaves the lent frames as a plan needs them
abbrev pub CallsLeavePlans : Type 0
CallsLeavePlans = (old new : Memory) → KeepsLoans old new → LentLast old.frames new.frames
