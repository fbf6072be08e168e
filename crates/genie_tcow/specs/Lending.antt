-- Loans of a transfer for output: what is lent, what is seen then, and what stays as it was.
use Rattle.std.specs.Prelude.{◌≡◌, ℕ, ◌+◌, ◌<◌, ◌≤◌, ◌==◌, ◌⊎◌, Bool, true, false, List, length, count_by, Some, nat_lt, slice_index_or, if◌then◌else◌}
use Rattle.std.specs.Option.{option_map}
use Rattle.genie_frame.specs.declared.frame.Owner.{Owner}
use Rattle.genie_frame.specs.declared.frame.Owner.TheVariants.{Free, System}
use Rattle.genie_frame.specs.FrameTable.{FrameTable, owner_at, counts_at, bytes_at, set_counts, set_owner, set_bytes, is_free, is_nobody, is_held, is_lent}
use Rattle.genie_store.specs.StoreView.{StoreView}
use Rattle.genie_object.specs.declared.memory.Memory.{Memory}
use Rattle.genie_object.specs.Pages.{is_there}
use Rattle.genie_object.specs.Objects.{object_at}
use Rattle.genie_object.specs.Memory.{Seen, seen_with, entry_frame}
use Rattle.genie_object.specs.Sound.{IsSound}
use Rattle.genie_object.specs.Steps.{metered, granted}
use Rattle.genie_object.specs.Touching.{KeepsLoans, Touches, Lasts, system_owner, is_entry}
use Rattle.genie_object.specs.Calls.{OnlyMoves, TakesAtMost}
use Rattle.genie_object.specs.Costs.{CostsNoMore, Spends, read_work, gets_for}
use Rattle.genie_fault.specs.Resolving.{BringsIn}
use Rattle.genie_tcow.specs.Ranges.{HoldsEntries}
use Rattle.genie_plan.specs.Loans.{LoanKind, Strong, Weak, Input, Loan, one_more, more}

-- how many of these loans are on a frame
abbrev pub loans_on : List Loan → ℕ → ℕ
loans_on loans f = count_by (λ (loan : Loan). loan.frame == f) loans

-- the memory with one loan more of a kind on a frame
abbrev pub lent_more : Memory → LoanKind → ℕ → Memory
lent_more m kind f = record m { frames = set_counts m.frames f (one_more kind (counts_at m.frames f)) }

-- the memory once a frame is a transfer's, with these bytes
abbrev pub claimed : Memory → ℕ → ℕ → List ℕ → Memory
claimed m g id bytes = record m { frames = set_bytes (set_owner m.frames g (System id)) g bytes }

-- frame g, which was free, is the transfer's now
pub record IsFilled (old new : Memory) (id g : ℕ) : Type 0 where
  pub there : g < length old.frames.owners
  pub was_free : owner_at old.frames g ≡ Free
  pub full : length (bytes_at new.frames g) ≡ old.frames.page
  pub is : new ≡ metered (claimed old g id (bytes_at new.frames g)) new.frames.meters

-- frame g, which was free, is the transfer's and has these bytes, and is lent strongly
pub record IsClaimed (old new : Memory) (id g : ℕ) (bytes : List ℕ) : Type 0 where
  pub there : g < length old.frames.owners
  pub was_free : owner_at old.frames g ≡ Free
  pub full : length bytes ≡ old.frames.page
  pub is : new ≡ metered (lent_more (claimed old g id bytes) Strong g) new.frames.meters

-- frame g is the entry's own frame f; the entry may not be written and the frame is lent strongly
pub record IsOwn (old new : Memory) (o i f g : ℕ) : Type 0 where
  pub same : g ≡ f
  pub is : new ≡ lent_more (granted old o i false) Strong f

-- what is seen once loans of a kind are out: a strongly lent frame by itself, a weakly lent one by its entry as before
abbrev pub see_lent : LoanKind → List Loan → FrameTable → Seen → Seen
see_lent Strong loans t s = record s { kept_bytes = λ f. if nat_lt 0 (loans_on loans f) then bytes_at t f else s.kept_bytes f }
see_lent Weak loans t s = s
see_lent Input loans t s = s

-- a frame of these loans wasn't the system's, and may be the transfer's now
pub record TakenFor (id : ℕ) (old new : Owner) : Type 0 where
  pub was : system_owner old ≡ Free
  pub is : (system_owner new ≡ Free) ⊎ (system_owner new ≡ System id)

-- what a call keeps that makes loans for a transfer: what every call keeps, but that frames of these loans may have
-- become the transfer's
pub record KeepsBesides (id : ℕ) (loans : List Loan) (old new : Memory) : Type 0 where
  pub entry_held : (o i f : ℕ) → entry_frame old o i ≡ Some f → is_held (counts_at old.frames f) ≡ true → entry_frame new o i ≡ Some f
  pub held : (f : ℕ) → is_held (counts_at old.frames f) ≡ true → is_held (counts_at new.frames f) ≡ true
  pub lent : (f : ℕ) → is_lent (counts_at old.frames f) ≡ true → Lasts old.frames new.frames f
  pub systems : (f : ℕ) → loans_on loans f ≡ 0 → system_owner (owner_at new.frames f) ≡ system_owner (owner_at old.frames f)
  pub taken : (f : ℕ) → 0 < loans_on loans f → TakenFor id (owner_at old.frames f) (owner_at new.frames f)
  pub entries : (o : ℕ) → length (object_at new.objects o) ≡ length (object_at old.objects o)
  pub number : length new.frames.owners ≡ length old.frames.owners
  pub page : new.frames.page ≡ old.frames.page
  pub slots : length new.slots ≡ length old.slots
  pub most : new.pages.most ≡ old.pages.most

-- loans of one kind are out for a transfer; beside the loans nothing that devices hold has changed, only the entries that
-- the call speaks of, and what is seen is as before but for the frames that are lent
pub record HasLent (kind : LoanKind) (id : ℕ) (spoken : ℕ → ℕ → Bool) (loans : List Loan) (old new : Memory) (v w : StoreView) : Type 0 where
  pub sound : IsSound new
  pub kinds : (k : ℕ) (d : Loan) → k < length loans → (slice_index_or loans k d).kind ≡ kind
  pub counts : (f : ℕ) → counts_at new.frames f ≡ more loans f (counts_at old.frames f)
  pub owned : (f : ℕ) → 0 < loans_on loans f → is_nobody (owner_at new.frames f) ≡ false
  pub shows : seen_with new w ≡ option_map (see_lent kind loans new.frames) (seen_with old v)
  pub keeps : KeepsBesides id loans old new
  pub touches : Touches spoken old new
  pub landed : new.frames.landed ≡ old.frames.landed
  pub free : count_by is_free old.frames.owners ≤ count_by is_free new.frames.owners + length loans
  pub added : count_by is_there new.pages.pages ≤ count_by is_there old.pages.pages + length loans

-- loans were taken back: each frame has the counts that it had, what devices hold is as it was, and so is what is seen
pub record IsTakenBack (spoken : ℕ → ℕ → Bool) (old new : Memory) (v w : StoreView) : Type 0 where
  pub sound : IsSound new
  pub counts : (f : ℕ) → counts_at new.frames f ≡ counts_at old.frames f
  pub shows : seen_with new w ≡ seen_with old v
  pub keeps : KeepsLoans old new
  pub touches : Touches spoken old new
  pub landed : new.frames.landed ≡ old.frames.landed

-- loans are out on the frames of the entries of object o from entry i on, which hold the pages as they are; what every
-- call keeps is kept, and no entry has become dearer to read or to write
pub record HasLentWeak (spoken : ℕ → ℕ → Bool) (o i : ℕ) (loans : List Loan) (old new : Memory) (v w : StoreView) : Type 0 where
  pub lent : HasLent Weak 0 spoken loans old new v w
  pub keeps : KeepsLoans old new
  pub placed : (k : ℕ) (d : Loan) → k < length loans → entry_frame new o (i + k) ≡ Some (slice_index_or loans k d).frame
  pub bytes : HoldsEntries old v o i loans new.frames
  pub costs : CostsNoMore old new

-- a call has brought the page of entry i of object o into frame f, and has only moved pages
pub record IsBroughtFor (old m : Memory) (v w : StoreView) (o i f : ℕ) : Type 0 where
  pub before : IsSound old
  pub moves : OnlyMoves (is_entry o i) old m v w
  pub takes : TakesAtMost 1 1 old m
  pub there : i < length (object_at m.objects o)
  pub framed : entry_frame m o i ≡ Some f
  pub brings : BringsIn old m.frames o i f
  pub spends : Spends (read_work old o i) (gets_for old o i) 0 1 old.frames.meters m.frames.meters

-- a call that speaks of no entry
abbrev pub no_entry : ℕ → ℕ → Bool
no_entry o i = false
