-- Bytes are copied from a buffer to a range.
use Rattle.std.specs.Prelude.{◌≡◌, ◌≢◌, ℕ, ◌+◌, ◌/◌, ◌<◌, ◌≤◌, true, List, length, slice_index_or}
use Rattle.genie_base.specs.Bytes.{overlaid}
use Rattle.genie_base.specs.Counts.{span}
use Rattle.genie_frame.specs.FrameTable.{FrameTable, owner_at, is_system}
use Rattle.genie_object.specs.declared.memory.Memory.{Memory}
use Rattle.genie_object.specs.Objects.{entry_at}
use Rattle.genie_object.specs.Memory.{seen}
use Rattle.genie_object.specs.Sound.{IsSound, IsPrivate}
use Rattle.genie_plan.specs.Plans.{range_bytes}
use Rattle.genie_plan.specs.Landings.{entries_bytes}

-- each page of the len bytes of object o from place off on is the object's own
abbrev pub AreOwn : Memory → ℕ → ℕ → ℕ → Type 0
AreOwn m o off len = (k : ℕ) → k < span m.frames.page off len → IsPrivate m.frames.counts m.pages.pages (entry_at m.objects o (off / m.frames.page + k)).page

-- each of these frames is the system's
abbrev pub AreOfSystem : FrameTable → List ℕ → Type 0
AreOfSystem t frames = (k : ℕ) → k < length frames → is_system (owner_at t (slice_index_or frames k 0)) ≡ true

-- the buffer's len bytes from place first on stand at place off of the object, where each told slot has a page's length;
-- nothing else has changed but the meter of copied bytes
pub record CopiesRange (old new : Memory) (o off len first : ℕ) (frames : List ℕ) : Type 0 where
  pub sound : IsSound new
  pub range : (slots : ℕ → List ℕ) → ((s : ℕ) → length (slots s) ≡ old.frames.page) → (pages : ℕ) → off / old.frames.page + span old.frames.page off len ≤ pages → entries_bytes (seen new slots) o 0 pages ≡ overlaid off (range_bytes old.frames frames first len) (entries_bytes (seen old slots) o 0 pages)
  pub others : (slots : ℕ → List ℕ) (a b : ℕ) → a ≢ o → (seen new slots).entry_bytes a b ≡ (seen old slots).entry_bytes a b
  pub kept : (slots : ℕ → List ℕ) → (seen new slots).kept_bytes ≡ (seen old slots).kept_bytes
  pub owners : new.frames.owners ≡ old.frames.owners
  pub counts : new.frames.counts ≡ old.frames.counts
  pub pages : new.pages ≡ old.pages
  pub objects : new.objects ≡ old.objects
  pub slots : new.slots ≡ old.slots
  pub page : new.frames.page ≡ old.frames.page
  pub landed : new.frames.landed ≡ old.frames.landed
  pub meters : new.frames.meters ≡ record (old.frames.meters) { copied = old.frames.meters.copied + len }
