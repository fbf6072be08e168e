-- The memory once an entry has left its page, and once an object was taken away.
use Rattle.std.specs.Prelude.{◌≡◌, ◌≢◌, ℕ, ◌≤◌, ◌<◌, ◌==◌, Bool, true, false, List, [], length, count_by, Option, Some, None, slice_set, if◌then◌else◌}
use Rattle.genie_frame.specs.declared.frame.FrameId.{FrameId}
use Rattle.genie_frame.specs.FrameTable.{owner_at, counts_at, bytes_at, is_held, is_lent}
use Rattle.genie_object.specs.declared.pages.Place.{Place}
use Rattle.genie_object.specs.declared.pages.Place.TheVariants.{Zero, Frame, Slot}
use Rattle.genie_object.specs.declared.pages.PageId.{PageId}
use Rattle.genie_object.specs.declared.memory.Memory.{Memory}
use Rattle.genie_object.specs.Pages.{page_at, set_page, no_page, is_there}
use Rattle.genie_object.specs.Objects.{entry_at, object_at, set_entry, no_entry}
use Rattle.genie_object.specs.Memory.{Seen, seen, see_kept, entry_frame}
use Rattle.genie_object.specs.Sound.{IsSound}
use Rattle.genie_object.specs.Steps.{left_owners, left_slots, left_pages}
use Rattle.genie_object.specs.Costs.{place_of}
use Rattle.genie_object.specs.Touching.{Touches, Lasts, system_owner}

-- the memory once entry i of object o has left page p, which goes with it
abbrev pub dropped : Memory → ℕ → ℕ → ℕ → Memory
dropped m o i p = record m {
  frames = record (m.frames) { owners = left_owners m.frames.owners m.frames.counts (page_at m.pages.pages p).place };
  pages = set_page m.pages p no_page;
  objects = set_entry m.objects o i no_entry;
  slots = left_slots m.slots (page_at m.pages.pages p).place;
}

-- the entry's page is its own
pub record IsOwnPage (m : Memory) (o i : ℕ) (p : PageId) : Type 0 where
  pub sound : IsSound m
  pub is_page : (entry_at m.objects o i).page ≡ Some p
  pub alone : (page_at m.pages.pages p.0).shares ≡ 1

-- the same, and no device holds it
pub record CanDrop (m : Memory) (o i : ℕ) (p : PageId) : Type 0 where
  pub own : IsOwnPage m o i p
  pub unheld : (f : FrameId) → (page_at m.pages.pages p.0).place ≡ Frame f → is_held (counts_at m.frames f.0) ≡ false

-- the memory once entry i of object o has left page p, which others share
abbrev pub left : Memory → ℕ → ℕ → PageId → Memory
left m o i p = record m {
  pages = left_pages m.pages (Some p);
  objects = set_entry m.objects o i no_entry;
}

pub record IsSharedPage (m : Memory) (o i : ℕ) (p : PageId) : Type 0 where
  pub sound : IsSound m
  pub is_page : (entry_at m.objects o i).page ≡ Some p
  pub many : 1 < (page_at m.pages.pages p.0).shares

-- the memory once the entry has left the page: the page goes with its last holder
abbrev pub left_one : Memory → ℕ → ℕ → PageId → Bool → Memory
left_one m o i p true = dropped m o i p.0
left_one m o i p false = left m o i p

abbrev pub left_by : Memory → ℕ → ℕ → Option PageId → Memory
left_by m o i None = m
left_by m o i (Some p) = left_one m o i p ((page_at m.pages.pages p.0).shares == 1)

-- the memory once an entry was emptied
abbrev pub emptied_entry : Memory → ℕ → ℕ → Memory
emptied_entry m o i = left_by m o i (entry_at m.objects o i).page

-- the place that is given up as an entry leaves this page
abbrev pub place_gone : Memory → Option PageId → Place
place_gone m None = Zero
place_gone m (Some p) = if (page_at m.pages.pages p.0).shares == 1 then (page_at m.pages.pages p.0).place else Zero

-- what is seen once a place was given up: a frame that is lent is nobody's then, and is seen by itself
abbrev pub see_gone : Memory → Place → Seen → Seen
see_gone m Zero s = s
see_gone m (Frame f) s = see_kept s f.0 (if is_lent (counts_at m.frames f.0) then bytes_at m.frames f.0 else [])
see_gone m (Slot r) s = s

-- no device holds the entry's page: its frame carries no weak output loan and no input loan
abbrev pub IsUnheld : Memory → ℕ → ℕ → Type 0
IsUnheld m o i = (f : ℕ) → entry_frame m o i ≡ Some f → is_held (counts_at m.frames f) ≡ false

abbrev pub IsEmpty : Memory → ℕ → ℕ → Type 0
IsEmpty m o i = (entry_at m.objects o i).page ≡ None

-- what a call that empties these entries leaves: every other entry is as it was, has its page where it was, and shows
-- what it showed; a lent frame stays lent, and of the frames nothing but owners has changed
pub record Empties (spoken : ℕ → ℕ → Bool) (old new : Memory) : Type 0 where
  pub sound : IsSound new
  pub entries : (slots : ℕ → List ℕ) (a b : ℕ) → spoken a b ≡ false → (seen new slots).entry_bytes a b ≡ (seen old slots).entry_bytes a b
  pub others : (a b : ℕ) → spoken a b ≡ false → entry_at new.objects a b ≡ entry_at old.objects a b
  pub places : (a b : ℕ) → spoken a b ≡ false → place_of new a b ≡ place_of old a b
  pub touches : Touches spoken old new
  pub lent : (f : ℕ) → is_lent (counts_at old.frames f) ≡ true → Lasts old.frames new.frames f
  pub systems : (f : ℕ) → system_owner (owner_at new.frames f) ≡ system_owner (owner_at old.frames f)
  pub sizes : (a : ℕ) → length (object_at new.objects a) ≡ length (object_at old.objects a)
  pub frames : new.frames ≡ record (old.frames) { owners = new.frames.owners }
  pub number : length new.frames.owners ≡ length old.frames.owners
  pub slots : length new.slots ≡ length old.slots
  pub fewer : count_by is_there new.pages.pages ≤ count_by is_there old.pages.pages
  pub most : new.pages.most ≡ old.pages.most

-- the memory once an object of empty entries was taken away
abbrev pub removed : Memory → ℕ → Memory
removed m o = record m { objects = slice_set m.objects o [] }

abbrev pub is_object : ℕ → ℕ → ℕ → Bool
is_object o a b = a == o

-- what a call that takes an object away leaves: every other entry is as it was, has its page where it was, and shows
-- what it showed
pub record Removes (o : ℕ) (old new : Memory) : Type 0 where
  pub sound : IsSound new
  pub gone : object_at new.objects o ≡ []
  pub entries : (slots : ℕ → List ℕ) (a b : ℕ) → is_object o a b ≡ false → (seen new slots).entry_bytes a b ≡ (seen old slots).entry_bytes a b
  pub others : (a b : ℕ) → is_object o a b ≡ false → entry_at new.objects a b ≡ entry_at old.objects a b
  pub places : (a b : ℕ) → is_object o a b ≡ false → place_of new a b ≡ place_of old a b
  pub touches : Touches (is_object o) old new
  pub lent : (f : ℕ) → is_lent (counts_at old.frames f) ≡ true → Lasts old.frames new.frames f
  pub systems : (f : ℕ) → system_owner (owner_at new.frames f) ≡ system_owner (owner_at old.frames f)
  pub sizes : (a : ℕ) → a ≢ o → length (object_at new.objects a) ≡ length (object_at old.objects a)
  pub frames : new.frames ≡ record (old.frames) { owners = new.frames.owners }
  pub number : length new.frames.owners ≡ length old.frames.owners
  pub slots : length new.slots ≡ length old.slots
  pub fewer : count_by is_there new.pages.pages ≤ count_by is_there old.pages.pages
  pub most : new.pages.most ≡ old.pages.most
