-- The bytes that a memory holds, and what of them can be seen.
use Rattle.std.specs.Prelude.{ℕ, Bool, true, false, ◌&&◌, ◌==◌, List, [], Option, Some, None, nat_lt, replicate, if◌then◌else◌}
use Rattle.std.specs.Option.{option_map}
use Rattle.genie_frame.specs.declared.frame.Owner.{Owner}
use Rattle.genie_frame.specs.declared.frame.Owner.TheVariants.{Free, Page, System, Pool, Nobody}
use Rattle.genie_frame.specs.declared.frame.Counts.{Counts}
use Rattle.genie_frame.specs.FrameTable.{FrameTable, owner_at, counts_at, bytes_at}
use Rattle.genie_store.specs.StoreView.{StoreView}
use Rattle.genie_object.specs.declared.pages.Place.{Place}
use Rattle.genie_object.specs.declared.pages.Place.TheVariants.{Zero, Frame, Slot}
use Rattle.genie_object.specs.declared.pages.PageId.{PageId}
use Rattle.genie_object.specs.declared.pages.PageInfo.{PageInfo}
use Rattle.genie_object.specs.declared.memory.Memory.{Memory}
use Rattle.genie_object.specs.Pages.{page_at}
use Rattle.genie_object.specs.Objects.{entry_at}

abbrev pub zeros : FrameTable → List ℕ
zeros t = replicate t.page 0

-- the bytes of a page at a place; slots gives those of each slot
abbrev pub place_bytes : FrameTable → (ℕ → List ℕ) → Place → List ℕ
place_bytes t slots Zero = zeros t
place_bytes t slots (Frame f) = bytes_at t f.0
place_bytes t slots (Slot s) = slots s

-- an entry that names no page has zeros
abbrev pub page_bytes : FrameTable → List PageInfo → (ℕ → List ℕ) → Option PageId → List ℕ
page_bytes t pages slots None = zeros t
page_bytes t pages slots (Some p) = place_bytes t slots (page_at pages p.0).place

-- the bytes of entry i of object o, where the store tells its own
abbrev pub bytes_of : Memory → StoreView → ℕ → ℕ → Option (List ℕ)
bytes_of m v o i = option_map (λ slots. page_bytes m.frames m.pages.pages slots (entry_at m.objects o i).page) v.slots

-- whether a frame is seen by itself: no page has it, or a device is to send it as it was lent
abbrev pub is_kept : Owner → Counts → Bool
is_kept Free c = false
is_kept (Page p) c = nat_lt 0 c.strong
is_kept (System t) c = true
is_kept (Pool d) c = true
is_kept Nobody c = true

-- what of a memory can be seen: the bytes of each entry, and those of each frame that is seen by itself
pub record Seen : Type 0 where
  pub entry_bytes : ℕ → ℕ → List ℕ
  pub kept_bytes : ℕ → List ℕ

abbrev pub seen : Memory → (ℕ → List ℕ) → Seen
seen m slots = record {
  entry_bytes = λ o i. page_bytes m.frames m.pages.pages slots (entry_at m.objects o i).page;
  kept_bytes = λ f. if is_kept (owner_at m.frames f) (counts_at m.frames f) then bytes_at m.frames f else [];
}

-- the same over a store, where it tells its bytes
abbrev pub seen_with : Memory → StoreView → Option Seen
seen_with m v = option_map (seen m) v.slots

-- what is seen, with other bytes at an entry
abbrev pub see_entry : Seen → ℕ → ℕ → List ℕ → Seen
see_entry s o i new = record s { entry_bytes = λ a b. if (a == o) && (b == i) then new else s.entry_bytes a b }

-- what is seen, with other bytes of a frame
abbrev pub see_kept : Seen → ℕ → List ℕ → Seen
see_kept s f new = record s { kept_bytes = λ g. if g == f then new else s.kept_bytes g }

-- the frame in which the entry's page is, if it is in one
abbrev pub frame_in : Place → Option ℕ
frame_in Zero = None
frame_in (Frame f) = Some f.0
frame_in (Slot s) = None

abbrev pub frame_of : List PageInfo → Option PageId → Option ℕ
frame_of pages None = None
frame_of pages (Some p) = frame_in (page_at pages p.0).place

abbrev pub entry_frame : Memory → ℕ → ℕ → Option ℕ
entry_frame m o i = frame_of m.pages.pages (entry_at m.objects o i).page
