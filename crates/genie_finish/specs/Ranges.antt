-- A range of bytes is stored page by page.
use Rattle.std.specs.Prelude.{◌≡◌, ◌≢◌, ℕ, zero, suc, ◌+◌, ◌-◌, ◌*◌, ◌/◌, ◌%◌, ◌<◌, ◌≤◌, List, [], length, min, slice_index_or, count_by}
use Rattle.genie_base.specs.Bytes.{overlaid}
use Rattle.genie_base.specs.Counts.{span}
use Rattle.genie_frame.specs.FrameTable.{FrameTable, counts_at, no_counts}
use Rattle.genie_object.specs.declared.memory.Memory.{Memory}
use Rattle.genie_object.specs.Pages.{is_there}
use Rattle.genie_object.specs.Memory.{seen}
use Rattle.genie_object.specs.Sound.{IsSound}
use Rattle.genie_object.specs.Touching.{Touches, is_in_range}
use Rattle.genie_object.specs.Costs.{Spends}
use Rattle.genie_plan.specs.Plans.{times, range_bytes, AreApart}
use Rattle.genie_plan.specs.Landings.{entries_bytes}
use Rattle.genie_finish.specs.Besides.{KeepsBesides}
use Rattle.genie_finish.specs.Storing.{CanStore, stored_work}

-- where in its page k a range begins, whose first byte is at place first of its first page
abbrev pub piece_off : ℕ → ℕ → ℕ → ℕ
piece_off page first k = first - page * k

-- how many of its bytes come before page k, and how many of its len bytes lie in that page
abbrev pub piece_start : ℕ → ℕ → ℕ → ℕ
piece_start page first k = page * k - first

abbrev pub piece_len : ℕ → ℕ → ℕ → ℕ → ℕ
piece_len page first len k = min (page - piece_off page first k) (len - piece_start page first k)

-- each of n pages of the range, from entry i of object o on, may be stored
abbrev pub CanStorePages : Memory → ℕ → ℕ → ℕ → ℕ → ℕ → ℕ → Type 0
CanStorePages m o i first len few n = (k : ℕ) → k < n → CanStore m o (i + k) (piece_len m.frames.page first len k) few

-- each page of the len bytes of object o from place off on may be stored
abbrev pub CanStoreRange : Memory → ℕ → ℕ → ℕ → ℕ → Type 0
CanStoreRange m o off len few = CanStorePages m o (off / m.frames.page) (off % m.frames.page) len few (span m.frames.page off len)

-- the bytes that are copied or zeroed for n pages of the range
abbrev pub stored_works : Memory → ℕ → ℕ → ℕ → ℕ → ℕ → ℕ → ℕ
stored_works m o i first len few zero = 0
stored_works m o i first len few (suc k) = stored_works m o i first len few k + stored_work m o (i + k) (piece_len m.frames.page first len k) few

-- the buffer's len bytes stand at place off of the object, and nothing else of what is seen has changed but that the
-- buffer is gone; each told slot has a page's length
pub record ShowsStored (old new : Memory) (o off len : ℕ) (frames : List ℕ) (slots : ℕ → List ℕ) : Type 0 where
  pub range : (pages : ℕ) → off / old.frames.page + length frames ≤ pages → entries_bytes (seen new slots) o 0 pages ≡ overlaid off (range_bytes old.frames frames (off % old.frames.page) len) (entries_bytes (seen old slots) o 0 pages)
  pub objects : (a b : ℕ) → a ≢ o → (seen new slots).entry_bytes a b ≡ (seen old slots).entry_bytes a b
  pub others : (f : ℕ) → times frames f ≡ 0 → (seen new slots).kept_bytes f ≡ (seen old slots).kept_bytes f
  pub gone : (f : ℕ) → 0 < times frames f → (seen new slots).kept_bytes f ≡ []

-- a buffer on these frames was stored at place off of the object, and has no loan any more
pub record StoresRange (old new : Memory) (o off len few : ℕ) (frames : List ℕ) : Type 0 where
  pub sound : IsSound new
  pub shows : (slots : ℕ → List ℕ) → ((s : ℕ) → length (slots s) ≡ old.frames.page) → ShowsStored old new o off len frames slots
  pub ended : (f : ℕ) → 0 < times frames f → counts_at new.frames f ≡ no_counts
  pub keeps : KeepsBesides frames old new
  pub touches : Touches (is_in_range o (off / old.frames.page) (length frames)) old new
  pub landed : new.frames.landed ≡ old.frames.landed
  pub added : count_by is_there new.pages.pages ≤ count_by is_there old.pages.pages + length frames
  pub spends : Spends (stored_works old o (off / old.frames.page) (off % old.frames.page) len few (length frames)) 0 0 0 old.frames.meters new.frames.meters
