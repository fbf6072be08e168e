-- What a step of a memory keeps, and what it shows.
use Rattle.std.specs.Prelude.{◌≡◌, ◌≢◌, ℕ, ◌<◌, false, IsTrue, List, [], Some, length, if◌then◌else◌}
use Rattle.genie_base.specs.Bytes.{overlaid}
use Rattle.genie_frame.specs.declared.frame.Counts.{Counts}
use Rattle.genie_frame.specs.declared.frame.FrameId.{FrameId}
use Rattle.genie_frame.specs.declared.frame.Owner.{Owner}
use Rattle.genie_frame.specs.declared.frame.Owner.TheVariants.{Free, Page, Nobody}
use Rattle.genie_frame.specs.FrameTable.{FrameTable, owner_at, counts_at, bytes_at, is_owned, is_lent, is_page, set_owner, set_counts, IsShaped, AreLoansOwned}
use Rattle.genie_frame.specs.Frames.{stored, unowned, left_to, loan_ended, one_strong_more, more_taken}
use Rattle.genie_object.specs.declared.pages.PageId.{PageId}
use Rattle.genie_object.specs.declared.pages.Place.TheVariants.{Frame}
use Rattle.genie_object.specs.declared.memory.Memory.{Memory}
use Rattle.genie_object.specs.Pages.{page_at}
use Rattle.genie_object.specs.Objects.{entry_at}
use Rattle.genie_object.specs.Memory.{Seen, seen, see_entry, see_kept, is_kept}
use Rattle.genie_object.specs.Sound.{IsSound, strong_at}

-- the entry's page is its own and in the frame, which has no strong loan
pub record IsReady (m : Memory) (o i : ℕ) (f : FrameId) : Type 0 where
  pub number : PageId
  pub is_page : (entry_at m.objects o i).page ≡ Some number
  pub is_place : (page_at m.pages.pages number.0).place ≡ Frame f
  pub alone : (page_at m.pages.pages number.0).shares ≡ 1
  pub unlent : strong_at m.frames.counts f.0 ≡ 0

-- a step that leaves bytes, places and entries alone shows what was seen before
abbrev pub ShowsSame : Type 0
ShowsSame = (old new : Memory) → new.frames.page ≡ old.frames.page → new.frames.owners ≡ old.frames.owners → new.frames.counts ≡ old.frames.counts → new.frames.bytes ≡ old.frames.bytes → new.pages.pages ≡ old.pages.pages → new.objects ≡ old.objects → seen new ≡ seen old

-- counts that leave the strong loans of the frame alone show what was seen before
abbrev pub ShowsCounts : Type 0
ShowsCounts = (m : Memory) (f : ℕ) (c : Counts) (slots : ℕ → List ℕ) → c.strong ≡ strong_at m.frames.counts f → seen (record m { frames = set_counts m.frames f c }) slots ≡ seen m slots

-- bytes that are stored in a ready page show at its entry alone
abbrev pub ShowsStored : Type 0
ShowsStored = (m : Memory) (o i : ℕ) (f : FrameId) (x : ℕ) (new : List ℕ) (slots : ℕ → List ℕ) → IsSound m → IsReady m o i f → seen (record m { frames = stored m.frames f.0 x new }) slots ≡ see_entry (seen m slots) o i (overlaid x new ((seen m slots).entry_bytes o i))

-- bytes that are stored in a frame that no page has show at that frame alone
abbrev pub ShowsLanded : Type 0
ShowsLanded = (m : Memory) (f x : ℕ) (new : List ℕ) (slots : ℕ → List ℕ) → IsSound m → is_page (owner_at m.frames f) ≡ false → owner_at m.frames f ≢ Free → seen (record m { frames = stored m.frames f x new }) slots ≡ see_kept (seen m slots) f (overlaid x new ((seen m slots).kept_bytes f))

-- nothing changed but the owner and the counts of this frame, and what was counted since boot
pub record OnlyFrame (f : ℕ) (old new : FrameTable) : Type 0 where
  pub page : new.page ≡ old.page
  pub owners : (g : ℕ) → g ≢ f → owner_at new g ≡ owner_at old g
  pub counts : (g : ℕ) → g ≢ f → counts_at new g ≡ counts_at old g
  pub bytes : new.bytes ≡ old.bytes

-- the bytes of a frame with this owner and these counts where it is seen by itself, else nothing
abbrev pub shown : Owner → Counts → List ℕ → List ℕ
shown owner counts bytes = if is_kept owner counts then bytes else []

-- a step that changes the owner and the counts of one frame alone shows at that frame alone: its bytes, where it is now
-- seen by itself, else nothing
abbrev pub ShowsFrame : Type 0
ShowsFrame = (old new : Memory) (f : ℕ) (slots : ℕ → List ℕ) → OnlyFrame f old.frames new.frames → new.pages.pages ≡ old.pages.pages → new.objects ≡ old.objects → seen new slots ≡ see_kept (seen old slots) f (shown (owner_at new.frames f) (counts_at new.frames f) (bytes_at old.frames f))

-- a frame that shows the bytes that it showed before changes nothing of what is seen
abbrev pub ShowsSameBytes : Type 0
ShowsSameBytes = (s : Seen) (f : ℕ) → see_kept s f (s.kept_bytes f) ≡ s

-- a disowned frame shows its bytes while a loan is out on it, and nothing without one
abbrev pub ShowsDisowned : Type 0
ShowsDisowned = (m : Memory) (f : ℕ) (slots : ℕ → List ℕ) → f < length m.frames.owners → seen (record m { frames = set_owner m.frames f (unowned (counts_at m.frames f)) }) slots ≡ see_kept (seen m slots) f (if is_lent (counts_at m.frames f) then bytes_at m.frames f else [])

-- a frame without a loan that was given to an owner shows nothing where the owner is a page, and else its bytes
abbrev pub ShowsGiven : Type 0
ShowsGiven = (m : Memory) (f : ℕ) (owner : Owner) (slots : ℕ → List ℕ) → f < length m.frames.owners → is_lent (counts_at m.frames f) ≡ false → IsTrue (is_owned owner) → seen (record m { frames = set_owner m.frames f owner }) slots ≡ see_kept (seen m slots) f (if is_page owner then [] else bytes_at m.frames f)

-- a free frame that was taken for an owner shows nothing where the owner is a page, and else its bytes
abbrev pub ShowsTaken : Type 0
ShowsTaken = (m : Memory) (f : ℕ) (owner : Owner) (slots : ℕ → List ℕ) → AreLoansOwned m.frames.owners m.frames.counts → f < length m.frames.owners → owner_at m.frames f ≡ Free → IsTrue (is_owned owner) → seen (record m { frames = more_taken (set_owner m.frames f owner) }) slots ≡ see_kept (seen m slots) f (if is_page owner then [] else bytes_at m.frames f)

-- a frame that is strongly lent once more shows its bytes, whoever has it
abbrev pub ShowsLent : Type 0
ShowsLent = (m : Memory) (f : ℕ) (slots : ℕ → List ℕ) → IsShaped m.frames.page m.frames.owners m.frames.counts m.frames.bytes → f < length m.frames.owners → IsTrue (is_owned (owner_at m.frames f)) → seen (record m { frames = set_counts m.frames f (one_strong_more (counts_at m.frames f)) }) slots ≡ see_kept (seen m slots) f (bytes_at m.frames f)

-- a loan that ends shows at its frame alone: the frame's bytes, where it is seen by itself with the owner and the
-- counts that are left, else nothing
abbrev pub ShowsEnded : Type 0
ShowsEnded = (m : Memory) (f : ℕ) (left : Counts) (slots : ℕ → List ℕ) → IsShaped m.frames.page m.frames.owners m.frames.counts m.frames.bytes → f < length m.frames.owners → seen (record m { frames = loan_ended m.frames f left }) slots ≡ see_kept (seen m slots) f (shown (left_to (owner_at m.frames f) left) left (bytes_at m.frames f))

-- a loan that ends shows what was seen before where it doesn't change whether its frame is seen by itself
abbrev pub ShowsUnseenEnd : Type 0
ShowsUnseenEnd = (m : Memory) (f : ℕ) (left : Counts) (slots : ℕ → List ℕ) → IsShaped m.frames.page m.frames.owners m.frames.counts m.frames.bytes → f < length m.frames.owners → is_kept (left_to (owner_at m.frames f) left) left ≡ is_kept (owner_at m.frames f) (counts_at m.frames f) → seen (record m { frames = loan_ended m.frames f left }) slots ≡ seen m slots

-- the last loan on a frame of nobody takes its bytes away as it ends
abbrev pub ShowsLastLoan : Type 0
ShowsLastLoan = (m : Memory) (f : ℕ) (left : Counts) (slots : ℕ → List ℕ) → IsShaped m.frames.page m.frames.owners m.frames.counts m.frames.bytes → f < length m.frames.owners → owner_at m.frames f ≡ Nobody → is_lent left ≡ false → seen (record m { frames = loan_ended m.frames f left }) slots ≡ see_kept (seen m slots) f []

-- the last strong loan on a page's frame takes the frame's bytes away as it ends
abbrev pub ShowsUnlent : Type 0
ShowsUnlent = (m : Memory) (f p : ℕ) (left : Counts) (slots : ℕ → List ℕ) → IsShaped m.frames.page m.frames.owners m.frames.counts m.frames.bytes → f < length m.frames.owners → owner_at m.frames f ≡ Page p → left.strong ≡ 0 → seen (record m { frames = loan_ended m.frames f left }) slots ≡ see_kept (seen m slots) f []

-- stored bytes leave the memory sound
abbrev pub KeepsSound : Type 0
KeepsSound = (m : Memory) (f x : ℕ) (new : List ℕ) → IsSound m → f < length m.frames.owners → IsSound (record m { frames = stored m.frames f x new })
