-- The pages that devices hold, with one transfer less or more, or a region less.
use Rattle.std.specs.Prelude.{◌≡◌, ◌≢◌, ℕ, ◌<◌, Bool, true, false, List, [], ◌∷◌, ◌++◌, length, find, All, Some, None, slice_index_or}
use Rattle.genie_frame.specs.declared.frame.Owner.TheVariants.{Nobody}
use Rattle.genie_frame.specs.FrameTable.{owner_at, counts_at, is_held}
use Rattle.genie_object.specs.declared.memory.Memory.{Memory}
use Rattle.genie_object.specs.Memory.{entry_frame}
use Rattle.genie_region.specs.declared.region.Region.{Region}
use Rattle.genie_model.specs.Tables.{without}
use Rattle.genie_model.specs.Lemmas.Lists.{Has}
use Rattle.genie_kernel.specs.declared.transfer.Transfer.{Transfer}
use Rattle.genie_kernel.specs.Calls.{is_strong_call}
use Rattle.genie_kernel.specs.Held.{AreHeldPages, IsHeldIn, page_of_loan, weak_transfers}
use Rattle.genie_kernel.specs.Loans.{frames_of}
use Rattle.genie_kernel.specs.Regions.{has_id}

-- a region's pages are left to nobody where a device holds them, and the entries of other objects keep theirs
pub record RegionLeaves (r : Region) (before after : List Region) (old new : Memory) : Type 0 where
  pub was : find (has_id r.id.0) before ≡ Some r
  pub gone : find (has_id r.id.0) after ≡ None
  pub others : (k : ℕ) → k ≢ r.id.0 → find (has_id k) after ≡ find (has_id k) before
  pub apart : (k : ℕ) (q : Region) → k ≢ r.id.0 → find (has_id k) before ≡ Some q → q.object.0 ≢ r.object.0
  pub entries : (o i f : ℕ) → o ≢ r.object.0 → is_held (counts_at old.frames f) ≡ true → entry_frame old o i ≡ Some f → entry_frame new o i ≡ Some f
  pub left : (i f : ℕ) → is_held (counts_at old.frames f) ≡ true → entry_frame old r.object.0 i ≡ Some f → owner_at new.frames f ≡ Nobody
  pub nobody : (f : ℕ) → is_held (counts_at old.frames f) ≡ true → owner_at old.frames f ≡ Nobody → owner_at new.frames f ≡ Nobody

-- a device holds each frame of these transfers
abbrev pub AreHeldFrames : Memory → List Transfer → Type 0
AreHeldFrames m transfers = All (λ (t : Transfer). (j : ℕ) → j < length (frames_of t.loans) → is_held (counts_at m.frames (slice_index_or (frames_of t.loans) j 0)) ≡ true) transfers

-- pages under weak loans stay where they are: those of a region that is removed are an orphan's
abbrev pub HeldAsOrphans : Type 0
HeldAsOrphans = (page : ℕ) (r : Region) (before after : List Region) (old new : Memory) (ts : List Transfer) → RegionLeaves r before after old new → AreHeldFrames old (weak_transfers ts) → AreHeldPages page old before ts → AreHeldPages page new after ts

-- the loans of a transfer are on different frames, which its pages are in; where an earlier weak transfer has one of these
-- pages or frames, it has both
pub record HoldsBeside (page : ℕ) (m : Memory) (regions : List Region) (t : Transfer) (earlier : List Transfer) : Type 0 where
  pub weak : is_strong_call t ≡ false
  pub held : (j : ℕ) → j < length (frames_of t.loans) → IsHeldIn m regions (page_of_loan page t j) (slice_index_or (frames_of t.loans) j 0)
  pub apart : (i j : ℕ) → i < length (frames_of t.loans) → j < length (frames_of t.loans) → slice_index_or (frames_of t.loans) i 0 ≡ slice_index_or (frames_of t.loans) j 0 → i ≡ j
  pub same_page : (u : Transfer) (i j : ℕ) → Has u earlier → i < length (frames_of u.loans) → j < length (frames_of t.loans) → slice_index_or (frames_of u.loans) i 0 ≡ slice_index_or (frames_of t.loans) j 0 → page_of_loan page u i ≡ page_of_loan page t j
  pub same_frame : (u : Transfer) (i j : ℕ) → Has u earlier → i < length (frames_of u.loans) → j < length (frames_of t.loans) → page_of_loan page u i ≡ page_of_loan page t j → slice_index_or (frames_of u.loans) i 0 ≡ slice_index_or (frames_of t.loans) j 0

-- the pages that devices hold, with one weak transfer more
abbrev pub HeldMore : Type 0
HeldMore = (page : ℕ) (m : Memory) (regions : List Region) (t : Transfer) (ts : List Transfer) → HoldsBeside page m regions t (weak_transfers ts) → AreHeldPages page m regions ts → AreHeldPages page m regions (ts ++ t ∷ [])

-- loans have ended: no page moves, and a frame of nobody's that a device still holds stays so
pub record LoansEnd (old new : Memory) : Type 0 where
  pub entries : (o i f : ℕ) → entry_frame old o i ≡ Some f → entry_frame new o i ≡ Some f
  pub nobody : (f : ℕ) → is_held (counts_at new.frames f) ≡ true → owner_at old.frames f ≡ Nobody → owner_at new.frames f ≡ Nobody

-- the pages that devices hold, with one transfer less
abbrev pub HeldLess : Type 0
HeldLess = (page : ℕ) (old new : Memory) (regions : List Region) (p : Transfer → Bool) (ts : List Transfer) → LoansEnd old new → AreHeldFrames new (weak_transfers (without p ts)) → AreHeldPages page old regions ts → AreHeldPages page new regions (without p ts)
