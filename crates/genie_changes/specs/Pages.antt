-- Laws of the pages that devices hold.
use Rattle.std.specs.Prelude.{◌≡◌, ◌≢◌, ℕ, ◌<◌, Bool, true, List, [], ◌∷◌, ◌++◌, length, find, All, None, Some, slice_index_or}
use Rattle.genie_frame.specs.declared.frame.Owner.TheVariants.{Nobody}
use Rattle.genie_frame.specs.FrameTable.{owner_at}
use Rattle.genie_object.specs.declared.memory.Memory.{Memory}
use Rattle.genie_object.specs.Memory.{entry_frame}
use Rattle.genie_region.specs.declared.region.Region.{Region}
use Rattle.genie_model.specs.Tables.{without}
use Rattle.genie_kernel.specs.declared.transfer.Transfer.{Transfer}
use Rattle.genie_kernel.specs.Calls.{is_strong_call}
use Rattle.genie_kernel.specs.Held.{AreHeldPages, weak_transfers}
use Rattle.genie_kernel.specs.Loans.{frames_of}
use Rattle.genie_kernel.specs.Regions.{has_id}

-- the frames of these transfers' loans
abbrev pub EachFrame : (ℕ → Type 0) → List Transfer → Type 0
EachFrame P transfers = All (λ (t : Transfer). (j : ℕ) → j < length (frames_of t.loans) → P (slice_index_or (frames_of t.loans) j 0)) transfers

-- an entry's page in the frame stays there, and a frame of nobody's stays so
pub record StaysInFrame (old new : Memory) (f : ℕ) : Type 0 where
  pub entries : (o i : ℕ) → entry_frame old o i ≡ Some f → entry_frame new o i ≡ Some f
  pub nobody : owner_at old.frames f ≡ Nobody → owner_at new.frames f ≡ Nobody

-- the pages that devices hold, where each stays in its frame
abbrev pub HeldStay : Type 0
HeldStay = (page : ℕ) (old new : Memory) (regions : List Region) (ts : List Transfer) → EachFrame (StaysInFrame old new) (weak_transfers ts) → AreHeldPages page old regions ts → AreHeldPages page new regions ts

-- with one transfer less
abbrev pub HeldLess : Type 0
HeldLess = (page : ℕ) (m : Memory) (regions : List Region) (p : Transfer → Bool) (ts : List Transfer) → AreHeldPages page m regions ts → AreHeldPages page m regions (without p ts)

-- with one strong transfer more
abbrev pub HeldBesideStrong : Type 0
HeldBesideStrong = (page : ℕ) (m : Memory) (regions : List Region) (t : Transfer) (ts : List Transfer) → is_strong_call t ≡ true → AreHeldPages page m regions ts → AreHeldPages page m regions (ts ++ t ∷ [])

-- region r goes, and no other one; in frame f a page of it is left to nobody, a page of another object stays, and nobody's
-- frame stays so
pub record LeavesFrame (r : Region) (old new : Memory) (f : ℕ) : Type 0 where
  pub left : (i : ℕ) → entry_frame old r.object.0 i ≡ Some f → owner_at new.frames f ≡ Nobody
  pub entries : (o i : ℕ) → o ≢ r.object.0 → entry_frame old o i ≡ Some f → entry_frame new o i ≡ Some f
  pub nobody : owner_at old.frames f ≡ Nobody → owner_at new.frames f ≡ Nobody

pub record FindsOthers (r : Region) (before after : List Region) : Type 0 where
  pub was : find (has_id r.id.0) before ≡ Some r
  pub gone : find (has_id r.id.0) after ≡ None
  pub others : (k : ℕ) → k ≢ r.id.0 → find (has_id k) after ≡ find (has_id k) before
  pub apart : (k : ℕ) (q : Region) → k ≢ r.id.0 → find (has_id k) before ≡ Some q → q.object.0 ≢ r.object.0

-- once a region is removed its pages under weak loans are an orphan's
abbrev pub HeldAsOrphans : Type 0
HeldAsOrphans = (page : ℕ) (r : Region) (before after : List Region) (old new : Memory) (ts : List Transfer) → FindsOthers r before after → EachFrame (LeavesFrame r old new) (weak_transfers ts) → AreHeldPages page old before ts → AreHeldPages page new after ts
