-- The pages of a range are lent, one after the other.
use Rattle.std.specs.Prelude.{◌≡◌, ℕ, ◌+◌, ◌/◌, ◌%◌, ◌<◌, ◌≤◌, Bool, List, length, count_by, Some, slice_index_or}
use Rattle.genie_base.specs.Counts.{span}
use Rattle.genie_frame.specs.FrameTable.{counts_at, set_counts, is_free}
use Rattle.genie_store.specs.StoreView.{StoreView}
use Rattle.genie_object.specs.declared.memory.Memory.{Memory}
use Rattle.genie_object.specs.Pages.{is_there}
use Rattle.genie_object.specs.Memory.{seen, seen_with, entry_frame}
use Rattle.genie_object.specs.Sound.{IsSound, IsSized}
use Rattle.genie_plan.specs.Loans.{LoanKind, Loan, one_more, more}
use Rattle.genie_plan.specs.Plans.{CanLand}
use Rattle.genie_plan.specs.Landings.{AreOfEntries}
use Rattle.genie_object.specs.Touching.{KeepsLoans, Touches}
use Rattle.genie_object.specs.Costs.{Spends, CostsNoMore, writes_work}

-- the memory with one loan more of a kind on a frame
abbrev pub lent_more : Memory → LoanKind → ℕ → Memory
lent_more m kind f = record m { frames = set_counts m.frames f (one_more kind (counts_at m.frames f)) }

-- loans of one kind are out on the frames of the entries of object o from entry i on; nothing else that devices hold has
-- changed, and only entries that the call speaks of
pub record HasLent (kind : LoanKind) (spoken : ℕ → ℕ → Bool) (o i : ℕ) (loans : List Loan) (old new : Memory) : Type 0 where
  pub sound : IsSound new
  pub kinds : (k : ℕ) (d : Loan) → k < length loans → (slice_index_or loans k d).kind ≡ kind
  pub counts : (f : ℕ) → counts_at new.frames f ≡ more loans f (counts_at old.frames f)
  pub placed : (k : ℕ) (d : Loan) → k < length loans → entry_frame new o (i + k) ≡ Some (slice_index_or loans k d).frame
  pub keeps : KeepsLoans old new
  pub touches : Touches spoken old new
  pub costs : CostsNoMore old new
  pub landed : new.frames.landed ≡ old.frames.landed
  pub free : count_by is_free old.frames.owners ≤ count_by is_free new.frames.owners + length loans
  pub added : count_by is_there new.pages.pages ≤ count_by is_there old.pages.pages + length loans

-- the pages that were lent so far
pub record LendsSoFar (kind : LoanKind) (spoken : ℕ → ℕ → Bool) (o i : ℕ) (loans : List Loan) (n : ℕ) (old new : Memory) (before now : StoreView) : Type 0 where
  pub lent : HasLent kind spoken o i loans old new
  pub number : length loans ≡ n
  pub spends : Spends (writes_work old o i n) n 0 n old.frames.meters new.frames.meters
  pub sized : IsSized new now
  pub is_seen : seen_with new now ≡ seen_with old before
  pub faults : now.faults ≡ before.faults

-- the loans were taken back: what devices hold is as it was, and so is what is seen
pub record IsTakenBack (spoken : ℕ → ℕ → Bool) (old m new : Memory) : Type 0 where
  pub sound : IsSound new
  pub is_seen : seen new ≡ seen m
  pub counts : (f : ℕ) → counts_at new.frames f ≡ counts_at old.frames f
  pub keeps : KeepsLoans old new
  pub touches : Touches spoken old new

-- the plan's bytes are those of the range: its frames are those of the range's pages, in order, and bytes may land there
pub record LiesIn (m : Memory) (o off len : ℕ) (frames : List ℕ) (first most : ℕ) : Type 0 where
  pub number : length frames ≡ span m.frames.page off len
  pub first_is : first ≡ off % m.frames.page
  pub len_is : most ≡ len
  pub of_entries : AreOfEntries m o (off / m.frames.page) frames
  pub ready : CanLand m.frames frames first most
