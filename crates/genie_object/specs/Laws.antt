-- What the steps that calls of a memory are made of leave: a sound memory that shows what it showed.
use Rattle.std.specs.Prelude.{◌≡◌, ◌≢◌, ℕ, ◌<◌, Bool, true, false, List, [], Some, None, length}
use Rattle.genie_frame.specs.declared.frame.FrameId.{FrameId}
use Rattle.genie_frame.specs.declared.frame.Owner.TheVariants.{Free, Page}
use Rattle.genie_frame.specs.FrameTable.{owner_at, counts_at, is_held, set_counts}
use Rattle.genie_frame.specs.Frames.{loan_ended, one_strong_more, one_output_less}
use Rattle.genie_object.specs.declared.pages.Place.{Place}
use Rattle.genie_object.specs.declared.pages.Place.TheVariants.{Frame, Slot}
use Rattle.genie_object.specs.declared.pages.PageId.{PageId}
use Rattle.genie_object.specs.declared.memory.Memory.{Memory}
use Rattle.genie_object.specs.Pages.{page_at}
use Rattle.genie_object.specs.Objects.{entry_at, object_at, names}
use Rattle.genie_object.specs.Memory.{seen, see_entry, place_bytes, zeros, entry_frame}
use Rattle.genie_object.specs.Sound.{IsSound, IsFramed, IsPrivate}
use Rattle.genie_object.specs.Steps.{relocated, CanGo, filled, renamed, CanRename, granted, forbidden, shared, CanShare}
use Rattle.genie_object.specs.Leaving.{dropped, left, removed, emptied_entry, place_gone, see_gone, IsOwnPage, IsSharedPage, IsUnheld, IsEmpty, Empties, Removes}
use Rattle.genie_object.specs.Touching.{KeepsLoans, is_entry}

-- a page that may go to another place leaves the memory sound
abbrev pub MovesSoundly : Type 0
MovesSoundly = (m : Memory) (p : ℕ) (to : Place) → CanGo m p to → IsSound (relocated m p to)

-- a page that no device holds may come into a free frame that is filled for it
pub record CanCome (m : Memory) (p : ℕ) (g : FrameId) (bytes : List ℕ) : Type 0 where
  pub sound : IsSound m
  pub some : 0 < (page_at m.pages.pages p).shares
  pub unheld : (f : FrameId) → (page_at m.pages.pages p).place ≡ Frame f → is_held (counts_at m.frames f.0) ≡ false
  pub there : g.0 < length m.frames.owners
  pub free : owner_at m.frames g.0 ≡ Free
  pub full : length bytes ≡ m.frames.page

-- a page that comes into a frame leaves the memory sound, and shows what it showed where the frame has its bytes
pub record Comes (m : Memory) (p : ℕ) (g : FrameId) (bytes : List ℕ) : Type 0 where
  pub sound : IsSound (filled m p g bytes)
  pub shown : (slots : ℕ → List ℕ) → bytes ≡ place_bytes m.frames slots (page_at m.pages.pages p).place → seen (filled m p g bytes) slots ≡ seen m slots

abbrev pub ComesUnseen : Type 0
ComesUnseen = (m : Memory) (p : ℕ) (g : FrameId) (bytes : List ℕ) → CanCome m p g bytes → Comes m p g bytes

-- an entry that gets an untouched page of its own, and leaves a shared one to others, leaves the memory sound
abbrev pub RenamesSoundly : Type 0
RenamesSoundly = (m : Memory) (o i q : ℕ) → CanRename m o i q → IsSound (renamed m o i q)

-- an entry may be permitted to be read where its page is in a frame, and to be written where the page is its own and
-- isn't strongly lent
pub record CanPermit (m : Memory) (o i : ℕ) (writable : Bool) : Type 0 where
  pub sound : IsSound m
  pub there : i < length (object_at m.objects o)
  pub framed : IsFramed m.pages.pages (entry_at m.objects o i).page
  pub own : writable ≡ true → IsPrivate m.frames.counts m.pages.pages (entry_at m.objects o i).page

pub record Permits (m : Memory) (o i : ℕ) (writable : Bool) : Type 0 where
  pub sound : IsSound (granted m o i writable)
  pub shown : (slots : ℕ → List ℕ) → seen (granted m o i writable) slots ≡ seen m slots

abbrev pub PermitsUnseen : Type 0
PermitsUnseen = (m : Memory) (o i : ℕ) (writable : Bool) → CanPermit m o i writable → Permits m o i writable

-- a free frame that a page of its own is made in, for an entry that shares its page or has none
pub record CanPart (m : Memory) (o i q : ℕ) (g : FrameId) (bytes : List ℕ) : Type 0 where
  pub renames : CanRename m o i q
  pub there : g.0 < length m.frames.owners
  pub free : owner_at m.frames g.0 ≡ Free
  pub full : length bytes ≡ m.frames.page

-- an entry that gets a page of its own leaves the memory sound, and shows what it showed where the frame has its bytes:
-- those of the page that it shared, or zeros where it named none
pub record Parts (m : Memory) (o i q : ℕ) (g : FrameId) (bytes : List ℕ) : Type 0 where
  pub sound : IsSound (filled (renamed m o i q) q g bytes)
  pub shown : (slots : ℕ → List ℕ) → bytes ≡ (seen m slots).entry_bytes o i → seen (filled (renamed m o i q) q g bytes) slots ≡ seen m slots
  pub zeroed : (slots : ℕ → List ℕ) → (entry_at m.objects o i).page ≡ None → bytes ≡ zeros m.frames → seen (filled (renamed m o i q) q g bytes) slots ≡ seen m slots

abbrev pub PartsUnseen : Type 0
PartsUnseen = (m : Memory) (o i q : ℕ) (g : FrameId) (bytes : List ℕ) → CanPart m o i q g bytes → Parts m o i q g bytes

-- a page that goes to a slot shows what it showed, where the slot has its bytes and every other slot its own
abbrev pub GoesUnseen : Type 0
GoesUnseen = (m : Memory) (p s : ℕ) (slots now : ℕ → List ℕ) → CanGo m p (Slot s) → now s ≡ place_bytes m.frames slots (page_at m.pages.pages p).place → ((r : ℕ) → r ≢ s → now r ≡ slots r) → seen (relocated m p (Slot s)) now ≡ seen m slots

-- an empty entry that comes to name a page leaves the memory sound and keeps all loans, and shows what each entry that
-- names the page shows
pub record Shares (m : Memory) (o i p : ℕ) : Type 0 where
  pub sound : IsSound (shared m o i p)
  pub keeps : KeepsLoans m (shared m o i p)
  pub shown : (slots : ℕ → List ℕ) (a b : ℕ) → names p (entry_at m.objects a b) ≡ true → seen (shared m o i p) slots ≡ see_entry (seen m slots) o i ((seen m slots).entry_bytes a b)

abbrev pub SharesSoundly : Type 0
SharesSoundly = (m : Memory) (o i p : ℕ) → CanShare m o i p → Shares m o i p

-- a page that goes with its last holder leaves the memory sound. The entry shows zeros, and a lent frame is nobody's and
-- shows its bytes by itself. Where no device holds the page nothing else shows, and all loans are kept
pub record Drops (m : Memory) (o i : ℕ) (p : PageId) : Type 0 where
  pub sound : IsSound (dropped m o i p.0)
  pub shown : (slots : ℕ → List ℕ) → seen (dropped m o i p.0) slots ≡ see_gone m (page_at m.pages.pages p.0).place (see_entry (seen m slots) o i (zeros m.frames))
  pub unheld : (slots : ℕ → List ℕ) → IsUnheld m o i → seen (dropped m o i p.0) slots ≡ see_entry (seen m slots) o i (zeros m.frames)
  pub keeps : IsUnheld m o i → KeepsLoans m (dropped m o i p.0)

abbrev pub DropsSoundly : Type 0
DropsSoundly = (m : Memory) (o i : ℕ) (p : PageId) → IsOwnPage m o i p → Drops m o i p

-- an entry that leaves its page to others leaves the memory sound and keeps all loans. It shows zeros
pub record Leaves (m : Memory) (o i : ℕ) (p : PageId) : Type 0 where
  pub sound : IsSound (left m o i p)
  pub shown : (slots : ℕ → List ℕ) → seen (left m o i p) slots ≡ see_entry (seen m slots) o i (zeros m.frames)
  pub keeps : KeepsLoans m (left m o i p)

abbrev pub LeavesSoundly : Type 0
LeavesSoundly = (m : Memory) (o i : ℕ) (p : PageId) → IsSharedPage m o i p → Leaves m o i p

-- an entry that is emptied, whatever it named, shows zeros; a lent frame that goes with it shows its bytes by itself
pub record EmptiesEntry (m : Memory) (o i : ℕ) : Type 0 where
  pub empty : IsEmpty (emptied_entry m o i) o i
  pub empties : Empties (is_entry o i) m (emptied_entry m o i)
  pub shown : (slots : ℕ → List ℕ) → seen (emptied_entry m o i) slots ≡ see_gone m (place_gone m (entry_at m.objects o i).page) (see_entry (seen m slots) o i (zeros m.frames))
  pub unheld : (slots : ℕ → List ℕ) → IsUnheld m o i → seen (emptied_entry m o i) slots ≡ see_entry (seen m slots) o i (zeros m.frames)
  pub keeps : IsUnheld m o i → KeepsLoans m (emptied_entry m o i)

abbrev pub EmptiesSoundly : Type 0
EmptiesSoundly = (m : Memory) (o i : ℕ) → IsSound m → EmptiesEntry m o i

-- an object of empty entries that is taken away leaves the memory sound, and shows what was seen before
abbrev pub RemovesUnseen : Type 0
RemovesUnseen = (m : Memory) (o : ℕ) (slots : ℕ → List ℕ) → IsSound m → object_at m.objects o ≢ [] → ((i : ℕ) → i < length (object_at m.objects o) → IsEmpty m o i) → Removes o m (removed m o) × (seen (removed m o) slots ≡ seen m slots)

-- an entry that loses its permission to be written leaves the memory sound, keeps all loans, and shows what it showed
pub record Forbids (m : Memory) (o i : ℕ) : Type 0 where
  pub sound : IsSound (forbidden m o i)
  pub keeps : KeepsLoans m (forbidden m o i)
  pub shown : (slots : ℕ → List ℕ) → seen (forbidden m o i) slots ≡ seen m slots

abbrev pub ForbidsUnseen : Type 0
ForbidsUnseen = (m : Memory) (o i : ℕ) → IsSound m → i < length (object_at m.objects o) → Forbids m o i

-- a page's frame may be lent strongly: no device holds the page, and no entry may write it
pub record CanLendStrong (m : Memory) (f p : ℕ) : Type 0 where
  pub sound : IsSound m
  pub owner : owner_at m.frames f ≡ Page p
  pub unheld : is_held (counts_at m.frames f) ≡ false
  pub unwritable : (a b : ℕ) → entry_frame m a b ≡ Some f → (entry_at m.objects a b).writable ≡ false

-- a strong loan that begins or ends on a page's frame leaves the memory sound
pub record Lends (m : Memory) (f : ℕ) : Type 0 where
  pub begins : IsSound (record m { frames = set_counts m.frames f (one_strong_more (counts_at m.frames f)) })
  pub ends : IsSound (record m { frames = loan_ended m.frames f (one_output_less true (counts_at m.frames f)) })

abbrev pub LendsSoundly : Type 0
LendsSoundly = (m : Memory) (f p : ℕ) → CanLendStrong m f p → Lends m f
