-- Where an entry's bytes are.
use Rattle.std.proofs.Common.{◌≡◌, ℕ, ◌<◌, ◌≤◌, ◌+◌, true, false, List, length, refl, ap, sym, ◌∙◌, arith}
use Rattle.std.specs.Prelude.{Bool, Option, Some, None, IfSome, if◌then◌else◌}
use Rattle.std.specs.Option.{option_map}
use Rattle.genie_base.specs.Bytes.{part}
use Rattle.genie_frame.specs.declared.frame.FrameId.{FrameId}
use Rattle.genie_frame.specs.declared.frame.Meters.{Meters}
use Rattle.genie_frame.specs.FrameTable.{FrameTable, bytes_at}
use Rattle.genie_store.specs.StoreView.{StoreView}
use Rattle.genie_object.specs.declared.pages.Place.{Place}
use Rattle.genie_object.specs.declared.pages.Place.TheVariants.{Zero, Frame, Slot}
use Rattle.genie_object.specs.declared.pages.PageId.{PageId}
use Rattle.genie_object.specs.declared.memory.Memory.{Memory}
use Rattle.genie_object.specs.Pages.{page_at}
use Rattle.genie_object.specs.Objects.{entry_at}
use Rattle.genie_object.specs.Memory.{entry_frame, frame_of, frame_in, bytes_of, page_bytes, place_bytes}
use Rattle.genie_object.specs.Sound.{IsSound}
use Rattle.genie_object.specs.Costs.{Spends, place_of, is_zero, read_work, load_work, slot_gets}
use Rattle.genie_object.specs.Lemmas.Lookup.{in_range, named, page_known, slot_taken}
use Rattle.genie_object.specs.Lemmas.Entries.{times_some}
use Rattle.genie_object.specs.Lemmas.Spending.{spends_more}
use Rattle.genie_fault.specs.Resolving.{IsKnown}
use Rattle.genie_tcow.specs.Ranges.{piece_of}
use Rattle.genie_tcow.proofs.Holding.{framed_bytes}
use Rattle.genie_tcow.proofs.Copying.{part_piece, full_size}

-- a page that an entry names is there
pub shared_some : (m : Memory) (o i : ℕ) (p : PageId) → IsSound m → (entry_at m.objects o i).page ≡ Some p → 0 < (page_at m.pages.pages p.0).shares
shared_some m o i p s e = omega (arith, s.shared.counted p.0, times_some m.objects p.0 o i (named p (entry_at m.objects o i) e))

placed_frame : (m : Memory) (page : Option PageId) → frame_of m.pages.pages page ≡ frame_in (elim page [ None ↦ Zero | Some p ↦ (page_at m.pages.pages p.0).place ])
placed_frame m None = refl
placed_frame m (Some p) = refl

pub on_frame : (m : Memory) (o i : ℕ) (f : FrameId) → place_of m o i ≡ Frame f → entry_frame m o i ≡ Some f.0
on_frame m o i f e = placed_frame m (entry_at m.objects o i).page ∙ ap frame_in e

placed_zero : (m : Memory) (page : Option PageId) → elim page as (λ _. Bool) [ None ↦ true | Some p ↦ is_zero (page_at m.pages.pages p.0).place ] ≡ is_zero (elim page [ None ↦ Zero | Some p ↦ (page_at m.pages.pages p.0).place ])
placed_zero m None = refl
placed_zero m (Some p) = refl

untouched_at : (m : Memory) (o i : ℕ) → place_of m o i ≡ Zero → read_work m o i ≡ m.frames.page
untouched_at m o i e = ap (λ b. if b then m.frames.page else 0) (placed_zero m (entry_at m.objects o i).page ∙ ap is_zero e)

pub placed_bytes : (t : FrameTable) (m : Memory) (slots : ℕ → List ℕ) (page : Option PageId) → page_bytes t m.pages.pages slots page ≡ place_bytes t slots (elim page [ None ↦ Zero | Some p ↦ (page_at m.pages.pages p.0).place ])
placed_bytes t m slots None = refl
placed_bytes t m slots (Some p) = refl

-- a taken slot is one of the memory's
slot_there : (m : Memory) (page : Option PageId) (t : ℕ) → IsSound m → ((p : PageId) → page ≡ Some p → 0 < (page_at m.pages.pages p.0).shares) → elim page as (λ _. Place) [ None ↦ Zero | Some p ↦ (page_at m.pages.pages p.0).place ] ≡ Slot t → t < length m.slots
slot_there m None t s h e = cc
slot_there m (Some p) t s h e = in_range m.slots t false (λ n. let bad : false ≡ true = sym n ∙ slot_taken m.pages.pages m.slots p.0 t e (page_known m p.0 (h p refl)) s.slotted in cc)

pub known_slot : (m : Memory) (o i t : ℕ) → IsSound m → place_of m o i ≡ Slot t → IsKnown m (Slot t)
known_slot m o i t s e = record {
  frame = λ f d. cc;
  slot = λ r d. let l = slot_there m (entry_at m.objects o i).page t s (λ p q. shared_some m o i p s q) e in let same : t ≡ r = cc in omega (arith, l, same);
}

pub known_zero : (m : Memory) → IsKnown m Zero
known_zero m = record { frame = λ f d. cc; slot = λ r d. cc }

-- bytes that were loaded are the entry's
pub loaded_bytes : (m : Memory) (v : StoreView) (o i off left : ℕ) (place : Place) (bytes : List ℕ) → place_of m o i ≡ place → IfSome v.slots (λ s. bytes ≡ place_bytes m.frames s place) → IfSome (bytes_of m v o i) (λ b. part off left bytes ≡ part off left b)
loaded_bytes m v o i off left place bytes e h = told v.slots h
  where
    told : (slots : Option (ℕ → List ℕ)) → IfSome slots (λ s. bytes ≡ place_bytes m.frames s place) → IfSome (option_map (λ s. page_bytes m.frames m.pages.pages s (entry_at m.objects o i).page) slots) (λ b. part off left bytes ≡ part off left b)
    told None h = tt
    told (Some s) h = ap (part off left) (h ∙ ap (place_bytes m.frames s) (sym e) ∙ sym (placed_bytes m.frames m s (entry_at m.objects o i).page))

-- bytes that were copied are the entry's
pub copied_bytes : (m : Memory) (v : StoreView) (o i off left : ℕ) (f : FrameId) (bytes : List ℕ) → IsSound m → f.0 < length m.frames.owners → off ≤ m.frames.page → length bytes ≡ m.frames.page → place_of m o i ≡ Frame f → part off (piece_of m.frames.page off left) bytes ≡ part off (piece_of m.frames.page off left) (bytes_at m.frames f.0) → IfSome (bytes_of m v o i) (λ b. part off left bytes ≡ part off left b)
copied_bytes m v o i off left f bytes s there inside full e h =
    let same : part off left bytes ≡ part off left (bytes_at m.frames f.0) = sym (part_piece m.frames.page off left bytes full inside) ∙ h ∙ part_piece m.frames.page off left (bytes_at m.frames f.0) (full_size m f.0 s there) inside in
    told (bytes_of m v o i) (framed_bytes m v o i f.0 (on_frame m o i f e)) same
  where
    told : (b : Option (List ℕ)) → IfSome b (λ x. bytes_at m.frames f.0 ≡ x) → part off left bytes ≡ part off left (bytes_at m.frames f.0) → IfSome b (λ x. part off left bytes ≡ part off left x)
    told None h e = tt
    told (Some x) h e = e ∙ ap (part off left) h

-- what was spent on it
pub spends_copied : (m : Memory) (o i n : ℕ) (x y : Meters) → Spends n 0 0 1 x y → Spends (n + read_work m o i) 1 0 1 x y
spends_copied m o i n x y h = spends_more _ _ _ _ _ _ _ _ x y h (omega arith) (omega arith) (omega arith) (omega arith)

pub spends_zero : (m : Memory) (o i n : ℕ) (x y : Meters) → place_of m o i ≡ Zero → Spends (load_work m.frames.page Zero) (slot_gets Zero) 0 1 x y → Spends (n + read_work m o i) 1 0 1 x y
spends_zero m o i n x y e h = let w = untouched_at m o i e in spends_more _ _ _ _ _ _ _ _ x y h (omega (arith, w)) (omega arith) (omega arith) (omega arith)

pub spends_slot : (m : Memory) (o i n t : ℕ) (x y : Meters) → Spends (load_work m.frames.page (Slot t)) (slot_gets (Slot t)) 0 1 x y → Spends (n + read_work m o i) 1 0 1 x y
spends_slot m o i n t x y h = spends_more _ _ _ _ _ _ _ _ x y h (omega arith) (omega arith) (omega arith) (omega arith)
