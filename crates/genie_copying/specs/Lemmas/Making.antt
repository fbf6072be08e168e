-- Room that is made leaves pages of the kinds that they were.
use Rattle.std.proofs.Common.{◌≡◌, ℕ, Bool, true, false, List, refl, sym, ap, subst, ◌∙◌}
use Rattle.std.specs.Prelude.{Option, Some, None, ◌||◌, slice_index_or}
use Rattle.genie_frame.specs.declared.frame.Counts.{Counts}
use Rattle.genie_frame.specs.declared.frame.FrameId.{FrameId}
use Rattle.genie_frame.specs.FrameTable.{counts_at, is_held, no_counts}
use Rattle.genie_hiding.specs.Hidden.{is_among}
use Rattle.genie_hiding.specs.Rooms.{MakesRoom}
use Rattle.genie_object.specs.declared.memory.Memory.{Memory}
use Rattle.genie_object.specs.Costs.{is_untouched}
use Rattle.genie_object.specs.Memory.{entry_frame, frame_in, frame_of}
use Rattle.genie_object.specs.Objects.{entry_at}
use Rattle.genie_object.specs.Sound.{IsSound}
use Rattle.genie_plan.specs.Lemmas.Landings.{page_in}
use Rattle.genie_store.specs.StoreView.{StoreView}
use Rattle.genie_copying.specs.Kinds.{is_weakly_held}
use Rattle.genie_copying.specs.Spending.{NoDearer}

left_no : (a b : Bool) → (a || b) ≡ false → a ≡ false
left_no true b e = e
left_no false b e = refl

right_no : (a b : Bool) → (a || b) ≡ false → b ≡ false
right_no true b e = let clash : true ≡ false = e in absurd (cc)
right_no false b e = e

both_no : (a b : Bool) → a ≡ false → b ≡ false → (a || b) ≡ false
both_no a b x y = rw x y

-- a page that is in a frame was in it before
was_framed : (hidden : List ℕ) (old new : Memory) (v w : StoreView) (o i f : ℕ) → IsSound old → MakesRoom hidden old new v w → is_among o hidden ≡ false → entry_frame new o i ≡ Some f → entry_frame old o i ≡ Some f
was_framed hidden old new v w o i f sound r out e =
    let x = page_in new o i f e in
    let frame : FrameId = record { 0 = f } in
    let named : (entry_at old.objects o i).page ≡ Some x.number = sym (r.narrows o i out).page ∙ x.is_page in
    let owned = r.sweeps.pages f x.number.0 (r.sound.placed.in_frame x.number.0 frame x.is_place) in
    let there = sound.placed.of_page frame x.number.0 owned in
    ap (frame_of old.pages.pages) named ∙ ap frame_in there

held_was : (hidden : List ℕ) (old new : Memory) (v w : StoreView) (o i : ℕ) → IsSound old → MakesRoom hidden old new v w → is_among o hidden ≡ false → is_weakly_held old o i ≡ false → (x : Option ℕ) → entry_frame new o i ≡ x → (elim x [ None ↦ false | Some f ↦ is_held (counts_at new.frames f) ]) ≡ false
held_was hidden old new v w o i sound r out un None e = refl
held_was hidden old new v w o i sound r out un (Some f) e =
    let was = was_framed hidden old new v w o i f sound r out e in
    let free : is_held (counts_at old.frames f) ≡ false = subst (λ (x : Option ℕ). (elim x [ None ↦ false | Some g ↦ is_held (counts_at old.frames g) ]) ≡ false) was un in
    ap (λ (cs : List Counts). is_held (slice_index_or cs f no_counts)) r.counts ∙ free

pub room_no_dearer : (hidden : List ℕ) (old new : Memory) (v w : StoreView) → IsSound old → MakesRoom hidden old new v w → NoDearer hidden old new
room_no_dearer hidden old new v w sound r = record {
  page = r.keeps.page;
  reads = r.reads;
  writes = r.writes;
  sends = λ o i out e. both_no (is_untouched new o i) (is_weakly_held new o i) (r.reads o i out (left_no (is_untouched old o i) (is_weakly_held old o i) e)) (held_was hidden old new v w o i sound r out (right_no (is_untouched old o i) (is_weakly_held old o i) e) (entry_frame new o i) refl);
}

-- and no page that wasn't weakly held is so then
pub room_unheld : (hidden : List ℕ) (old new : Memory) (v w : StoreView) (o i : ℕ) → IsSound old → MakesRoom hidden old new v w → is_among o hidden ≡ false → is_weakly_held old o i ≡ false → is_weakly_held new o i ≡ false
room_unheld hidden old new v w o i sound r out un = held_was hidden old new v w o i sound r out un (entry_frame new o i) refl
