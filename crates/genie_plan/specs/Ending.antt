-- What is seen of a memory once the loans of a plan have ended.
use Rattle.std.specs.Prelude.{◌≡◌, ℕ, ◌<◌, true, false, List, [], ◌++◌, count_by, ◌==◌}
use Rattle.genie_frame.specs.FrameTable.{FrameTable, owner_at, counts_at, is_held, is_lent, is_system, IsShaped, AreLoansOwned}
use Rattle.genie_object.specs.declared.memory.Memory.{Memory}
use Rattle.genie_object.specs.Memory.{seen, is_kept}
use Rattle.genie_object.specs.Sound.{IsSound}
use Rattle.genie_plan.specs.Loans.{Loan, AreOut, Ended}

-- the loans may end in a sound memory: what stays wired stays held, and the frames of a system buffer carry these loans
-- alone
pub record CanEnd (loans : List Loan) (old new : FrameTable) : Type 0 where
  pub wired : (f : ℕ) → 0 < (counts_at new f).wires → is_held (counts_at new f) ≡ true
  pub buffers : (f : ℕ) → 0 < count_by (λ (loan : Loan). loan.frame == f) loans → is_system (owner_at old f) ≡ true → is_lent (counts_at new f) ≡ false

-- each entry shows what it showed, and so does each frame that is seen by itself; any other frame shows nothing
pub record ShowsStill (old new : Memory) : Type 0 where
  pub entries : (slots : ℕ → List ℕ) → (seen new slots).entry_bytes ≡ (seen old slots).entry_bytes
  pub still : (slots : ℕ → List ℕ) (f : ℕ) → is_kept (owner_at new.frames f) (counts_at new.frames f) ≡ true → (seen new slots).kept_bytes f ≡ (seen old slots).kept_bytes f
  pub gone : (slots : ℕ → List ℕ) (f : ℕ) → is_kept (owner_at new.frames f) (counts_at new.frames f) ≡ false → (seen new slots).kept_bytes f ≡ []

abbrev pub EndsSoundly : Type 0
EndsSoundly = (m : Memory) (t : FrameTable) (loans : List Loan) → IsSound m → IsShaped t.page t.owners t.counts t.bytes → AreLoansOwned t.owners t.counts → Ended loans m.frames t → CanEnd loans m.frames t → IsSound (record m { frames = t })

abbrev pub ShowsAfterEnd : Type 0
ShowsAfterEnd = (m : Memory) (t : FrameTable) (loans : List Loan) → Ended loans m.frames t → ShowsStill m (record m { frames = t })

-- where all loans of two plans are out, those of the second are still out once the first have ended
abbrev pub LeavesOthersOut : Type 0
LeavesOthersOut = (old new : FrameTable) (loans others : List Loan) → Ended loans old new → AreOut old (loans ++ others) → AreOut new others
