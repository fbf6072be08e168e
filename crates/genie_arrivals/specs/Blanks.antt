-- The object of a region that is held for a move input, with pages of zeros of its own.
use Rattle.std.specs.Prelude.{◌≡◌, ◌≢◌, ℕ, ◌+◌, ◌*◌, ◌^◌, ◌<◌, ◌≤◌, false, List, count_by, length, replicate}
use Rattle.genie_frame.specs.FrameTable.{is_free}
use Rattle.genie_object.specs.declared.memory.Memory.{Memory}
use Rattle.genie_object.specs.Leaving.{IsEmpty, is_object}
use Rattle.genie_object.specs.Memory.{seen}
use Rattle.genie_object.specs.Objects.{entry_at, object_at}
use Rattle.genie_object.specs.Costs.{AreBelow}
use Rattle.genie_object.specs.Pages.{is_there}
use Rattle.genie_object.specs.Sound.{IsPrivate, IsSound}
use Rattle.genie_object.specs.Touching.{KeepsLoans, Touches, is_entry}
use Rattle.genie_kernel.specs.Rising.{MetersRise, NoneFell}
use Rattle.genie_arrivals.specs.PooledRoom.{ArePrivate}

-- so many entries of an object that has no pages may get a page of their own each
pub record CanBlank (m : Memory) (o n : ℕ) : Type 0 where
  pub sound : IsSound m
  pub within : n ≤ length (object_at m.objects o)
  pub most : n ≤ 65
  pub free : n ≤ count_by is_free m.frames.owners
  pub room : count_by is_there m.pages.pages + n ≤ m.pages.most
  pub meters : AreBelow (2 ^ 63 + 2 ^ 22) m.frames.meters

-- the object shows zeros, its first n entries have a page of their own each, and no entry of it permits writing; nothing else
-- of what is seen has changed, and no loan
pub record BlanksObject (old new : Memory) (o n : ℕ) : Type 0 where
  pub sound : IsSound new
  pub keeps : KeepsLoans old new
  pub touches : Touches (is_object o) old new
  pub counts : new.frames.counts ≡ old.frames.counts
  pub own : ArePrivate new o 0 n
  pub shut : (i : ℕ) → (entry_at new.objects o i).writable ≡ false
  pub zeros : (slots : ℕ → List ℕ) (i : ℕ) → (seen new slots).entry_bytes o i ≡ replicate old.frames.page 0
  pub others : (slots : ℕ → List ℕ) (a b : ℕ) → a ≢ o → (seen new slots).entry_bytes a b ≡ (seen old slots).entry_bytes a b
  pub kept : (slots : ℕ → List ℕ) → (seen new slots).kept_bytes ≡ (seen old slots).kept_bytes
  pub rises : MetersRise (2 ^ 20) old.frames new.frames

-- the entry, which was empty, has a page of zeros of its own, and permits nothing; what is seen stays
pub record BlanksPage (old new : Memory) (o i : ℕ) : Type 0 where
  pub sound : IsSound new
  pub keeps : KeepsLoans old new
  pub touches : Touches (is_entry o i) old new
  pub counts : new.frames.counts ≡ old.frames.counts
  pub shows : (slots : ℕ → List ℕ) → seen new slots ≡ seen old slots
  pub own : IsPrivate new.frames.counts new.pages.pages (entry_at new.objects o i).page
  pub shut : (entry_at new.objects o i).writable ≡ false
  pub free : count_by is_free old.frames.owners ≤ count_by is_free new.frames.owners + 1
  pub pages : count_by is_there new.pages.pages ≤ count_by is_there old.pages.pages + 1
  pub low : NoneFell old.frames.meters new.frames.meters
  pub below : (b : ℕ) → AreBelow b old.frames.meters → AreBelow (b + 4097) new.frames.meters
  pub landed : new.frames.landed ≡ old.frames.landed

-- the first n entries of an object without pages have such a page each
pub record BlanksSoFar (old now : Memory) (o n : ℕ) : Type 0 where
  pub sound : IsSound now
  pub keeps : KeepsLoans old now
  pub touches : Touches (is_object o) old now
  pub counts : now.frames.counts ≡ old.frames.counts
  pub shows : (slots : ℕ → List ℕ) → seen now slots ≡ seen old slots
  pub own : (j : ℕ) → j < n → IsPrivate now.frames.counts now.pages.pages (entry_at now.objects o j).page
  pub empty : (j : ℕ) → n ≤ j → IsEmpty now o j
  pub shut : (j : ℕ) → (entry_at now.objects o j).writable ≡ false
  pub free : count_by is_free old.frames.owners ≤ count_by is_free now.frames.owners + n
  pub pages : count_by is_there now.pages.pages ≤ count_by is_there old.pages.pages + n
  pub rises : MetersRise (8192 * n) old.frames now.frames
