-- Which of the frames that are lent strongly are the pages' own.
use Rattle.std.specs.Prelude.{◌≡◌, ℕ, ◌+◌, ◌<◌, false, List, length, Some, slice_index_or}
use Rattle.genie_frame.specs.declared.frame.Owner.TheVariants.{System}
use Rattle.genie_frame.specs.FrameTable.{FrameTable, owner_at}
use Rattle.genie_object.specs.declared.memory.Memory.{Memory}
use Rattle.genie_object.specs.Memory.{entry_frame}
use Rattle.genie_object.specs.Objects.{entry_at}
use Rattle.genie_object.specs.Touching.{is_entry}
use Rattle.genie_plan.specs.Loans.{Loan}
use Rattle.genie_tcow.specs.Costs.{is_weakly_held}
use Rattle.genie_tcow.specs.Lending.{loans_on}

-- each page of object o from entry i on that wasn't weakly held is in the frame that its loan is on
abbrev pub AreOwnFrames : Memory → Memory → ℕ → ℕ → List Loan → Type 0
AreOwnFrames old new o i loans = (k : ℕ) (d : Loan) → k < length loans → is_weakly_held old o (i + k) ≡ false → entry_frame new o (i + k) ≡ Some (slice_index_or loans k d).frame

-- every entry but this one names the page that it named, and no other page has become weakly held
pub record KeepsOthers (o i : ℕ) (old new : Memory) : Type 0 where
  pub pages : (a b : ℕ) → is_entry o i a b ≡ false → (entry_at new.objects a b).page ≡ (entry_at old.objects a b).page
  pub unheld : (a b : ℕ) → is_entry o i a b ≡ false → is_weakly_held old a b ≡ false → is_weakly_held new a b ≡ false

-- each frame of these loans is the transfer's own
abbrev pub AreTransfers : ℕ → List Loan → FrameTable → Type 0
AreTransfers id loans t = (f : ℕ) → 0 < loans_on loans f → owner_at t f ≡ System id
