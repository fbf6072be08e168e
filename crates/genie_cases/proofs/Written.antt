-- A memory in a page of which bytes were written.
use Rattle.std.proofs.Common.{◌≡◌, ℕ, ◌<◌, ◌≤◌, ◌+◌, Bool, true, false, List, length, get_or, ap, sym, arith, ◌∙◌}
use Rattle.std.specs.Prelude.{count_by}
use Rattle.genie_frame.specs.FrameTable.{FrameTable, no_counts}
use Rattle.genie_frame.specs.Frames.{stored, more_written}
use Rattle.genie_store.specs.StoreView.{StoreView}
use Rattle.genie_object.specs.declared.memory.Memory.{Memory}
use Rattle.genie_object.specs.Sound.{IsSound}
use Rattle.genie_object.specs.declared.pages.Place.TheVariants.{Slot}
use Rattle.genie_object.specs.Pages.{page_at, is_there}
use Rattle.genie_object.specs.Lemmas.Lookup.{in_range, page_known, slot_taken}
use Rattle.genie_object.specs.Calls.{OnlyMoves}
use Rattle.genie_object.specs.Lemmas.Showing.{keeps_sound}
use Rattle.genie_input.specs.Buffers.{AreBuffers}
use Rattle.genie_cases.specs.Benches.{IsWell, IsIdle}

-- bytes were written to a frame
abbrev pub written : Memory → ℕ → ℕ → List ℕ → Memory
written m f off bytes = record m { frames = more_written (stored m.frames f off bytes) (length bytes) }

pub written_sound : (m : Memory) (f off : ℕ) (bytes : List ℕ) → IsSound m → f < length m.frames.owners → IsSound (written m f off bytes)
written_sound m f off bytes s l =
    let k = keeps_sound m f off bytes s l in
    record { shaped = k.shaped; placed = k.placed; lent = k.lent; held = k.held; wired = k.wired; slotted = k.slotted; shared = k.shared; guarded = k.guarded }

pub written_well : (m : Memory) (v : StoreView) (o entries pages most f off : ℕ) (bytes : List ℕ) → IsWell m v o entries pages most → f < length m.frames.owners → IsWell (written m f off bytes) v o entries pages most
written_well m v o entries pages most f off bytes w l = record {
  sound = written_sound m f off bytes w.sound l;
  sized = record { count = w.sized.count; page = w.sized.page };
  page = w.page;
  size = w.size;
  few = w.few;
  room = w.room;
}

pub written_idle : (m : Memory) (f off : ℕ) (bytes : List ℕ) → IsIdle m → IsIdle (written m f off bytes)
written_idle m f off bytes x = record { unlent = x.unlent; systems = x.systems }

-- a call that only moved pages, and added so many at most
pub moved_well : (old new : Memory) (v w : StoreView) (spoken : ℕ → ℕ → Bool) (o entries pages most n : ℕ) → IsWell old v o entries pages most → OnlyMoves spoken old new v w → count_by is_there new.pages.pages ≤ count_by is_there old.pages.pages + n → IsWell new w o entries (pages + n) most
moved_well old new v w spoken o entries pages most n x y l = record {
  sound = y.sound;
  sized = y.sized;
  page = y.keeps.page ∙ x.page;
  size = y.keeps.entries o ∙ x.size;
  few = omega (arith, l, x.few);
  room = y.keeps.most ∙ x.room;
}

pub moved_idle : (old new : Memory) (v w : StoreView) (spoken : ℕ → ℕ → Bool) → OnlyMoves spoken old new v w → IsIdle old → IsIdle new
moved_idle old new v w spoken y x = record {
  unlent = λ f. ap (λ cs. get_or cs f no_counts) y.counts ∙ x.unlent f;
  systems = λ f. y.keeps.systems f ∙ x.systems f;
}

pub slot_known : (m : Memory) (p s : ℕ) → IsSound m → 0 < (page_at m.pages.pages p).shares → (page_at m.pages.pages p).place ≡ Slot s → s < length m.slots
slot_known m p s x h e = in_range m.slots s false (λ n. let bad : true ≡ false = sym (slot_taken m.pages.pages m.slots p s e (page_known m p h) x.slotted) ∙ n in cc)

pub still_buffers : (t : FrameTable) (f off : ℕ) (bytes frames : List ℕ) → AreBuffers t frames → AreBuffers (more_written (stored t f off bytes) (length bytes)) frames
still_buffers t f off bytes frames x = record {
  each = λ k l. let b = x.each k l in record { there = b.there; own = b.own; lent = b.lent };
  apart = x.apart;
}
