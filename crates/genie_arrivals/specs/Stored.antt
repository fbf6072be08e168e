-- A buffer's bytes are stored in a range, and all its loans end.
use Rattle.std.specs.Prelude.{◌≡◌, ◌≢◌, ℕ, ◌+◌, ◌/◌, ◌%◌, ◌^◌, ◌<◌, ◌≤◌, false, List, length, count_by}
use Rattle.genie_base.specs.Bytes.{overlaid}
use Rattle.genie_base.specs.Counts.{span}
use Rattle.genie_frame.specs.FrameTable.{counts_at, no_counts, is_system, owner_at}
use Rattle.genie_finish.specs.Besides.{KeepsBesides}
use Rattle.genie_finish.specs.Ranges.{CanStoreRange}
use Rattle.genie_input.specs.Buffers.{AreBuffers}
use Rattle.genie_object.specs.declared.memory.Memory.{Memory}
use Rattle.genie_object.specs.Costs.{AreBelow}
use Rattle.genie_object.specs.Memory.{seen}
use Rattle.genie_object.specs.Objects.{object_at}
use Rattle.genie_object.specs.Pages.{is_there}
use Rattle.genie_object.specs.Sound.{IsSound}
use Rattle.genie_object.specs.Touching.{Touches, is_in_range}
use Rattle.genie_plan.specs.Landings.{entries_bytes}
use Rattle.genie_plan.specs.Plans.{range_bytes, times}
use Rattle.genie_kernel.specs.Rising.{MetersRise}

-- the buffer's first len bytes stand at place off of the object, and nothing else of what is seen has changed but that
-- the buffer is gone
pub record ShowsBuffer (old new : Memory) (o off len : ℕ) (frames : List ℕ) (slots : ℕ → List ℕ) : Type 0 where
  pub range : (pages : ℕ) → off / old.frames.page + span old.frames.page off len ≤ pages → entries_bytes (seen new slots) o 0 pages ≡ overlaid off (range_bytes old.frames frames (off % old.frames.page) len) (entries_bytes (seen old slots) o 0 pages)
  pub objects : (a b : ℕ) → a ≢ o → (seen new slots).entry_bytes a b ≡ (seen old slots).entry_bytes a b
  pub others : (f : ℕ) → times frames f ≡ 0 → (seen new slots).kept_bytes f ≡ (seen old slots).kept_bytes f

-- the frames of the buffer have left it, and carry nothing; the meters rise by the bytes of its pages at most
pub record StoresBuffer (old new : Memory) (o off len : ℕ) (frames : List ℕ) : Type 0 where
  pub sound : IsSound new
  pub shows : (slots : ℕ → List ℕ) → ((s : ℕ) → length (slots s) ≡ old.frames.page) → ShowsBuffer old new o off len frames slots
  pub ended : (f : ℕ) → 0 < times frames f → counts_at new.frames f ≡ no_counts
  pub unowned : (f : ℕ) → 0 < times frames f → is_system (owner_at new.frames f) ≡ false
  pub keeps : KeepsBesides frames old new
  pub touches : Touches (is_in_range o (off / old.frames.page) (span old.frames.page off len)) old new
  pub rises : MetersRise (2 ^ 20) old.frames new.frames

-- a buffer of so many loans may be stored so
pub record CanStoreBuffer (m : Memory) (o off len few : ℕ) (frames : List ℕ) : Type 0 where
  pub sound : IsSound m
  pub fits : off + len < 2 ^ 32
  pub within : off / m.frames.page + span m.frames.page off len ≤ length (object_at m.objects o)
  pub number : span m.frames.page off len ≤ length frames
  pub most : length frames ≤ 65
  pub can : CanStoreRange m o off len few
  pub buffers : AreBuffers m.frames frames
  pub room : count_by is_there m.pages.pages + length frames ≤ m.pages.most
  pub meters : AreBelow (2 ^ 63 + 2 ^ 22) m.frames.meters
