-- A page that is brought into a frame that was loaded for it.
use Rattle.std.proofs.Common.{◌≡◌, ◌≢◌, ℕ, ◌<◌, true, false, List, [], refl, arith, ap, length, set, get_or, sym, ◌∙◌, subst, get_or-set_other, get_or-set_same, length-set}
use Rattle.std.specs.Prelude.{Option, Some, None, IfSome}
use Rattle.std.proofs.lemmas.List.{set-set}
use Rattle.genie_frame.specs.declared.frame.Meters.{Meters}
use Rattle.genie_frame.specs.declared.frame.FrameId.{FrameId}
use Rattle.genie_frame.specs.declared.frame.Owner.TheVariants.{Free, Page, System}
use Rattle.genie_frame.specs.FrameTable.{owner_at, bytes_at}
use Rattle.genie_store.specs.StoreView.{StoreView}
use Rattle.genie_object.specs.declared.pages.Place.{Place}
use Rattle.genie_object.specs.declared.pages.Place.TheVariants.{Zero, Frame}
use Rattle.genie_object.specs.declared.pages.PageId.{PageId}
use Rattle.genie_object.specs.declared.memory.Memory.{Memory}
use Rattle.genie_object.specs.Pages.{page_at, set_page, no_page}
use Rattle.genie_object.specs.Memory.{place_bytes}
use Rattle.genie_object.specs.Objects.{entry_at}
use Rattle.genie_object.specs.Sound.{IsSound}
use Rattle.genie_object.specs.Steps.{metered, filled, relocated, renamed, left_owners, left_slots, CanLeave}
use Rattle.genie_fault.specs.Resolving.{IsKnown, IsLoaded, IsBrought, IsParted, loaded}
use Rattle.genie_object.specs.Costs.{place_of}
use Rattle.genie_object.specs.Lemmas.Lookup.{in_range, page_known, frame_known, slot_taken}

pub known_place : (m : Memory) (p : ℕ) → IsSound m → 0 < (page_at m.pages.pages p).shares → IsKnown m (page_at m.pages.pages p).place
known_place m p s h = record {
  frame = λ f e. frame_known m p f s e;
  slot = λ t e. in_range m.slots t false (λ n. let bad : true ≡ false = sym (slot_taken m.pages.pages m.slots p t e (page_known m p h) s.slotted) ∙ n in cc);
}

pub known_entry : (m : Memory) (o i : ℕ) → IsSound m → ((p : PageId) → (entry_at m.objects o i).page ≡ Some p → 1 < (page_at m.pages.pages p.0).shares) → IsKnown m (place_of m o i)
known_entry m o i s h = known_page (entry_at m.objects o i).page h where
  known_page : (page : Option PageId) → ((p : PageId) → page ≡ Some p → 1 < (page_at m.pages.pages p.0).shares) → IsKnown m (elim page [ None ↦ Zero | Some p ↦ (page_at m.pages.pages p.0).place ])
  known_page None h = record { frame = λ f e. cc; slot = λ t e. cc }
  known_page (Some p) h = let l : 0 < (page_at m.pages.pages p.0).shares = omega (arith, h p refl) in known_place m p.0 s l

leaves : (m : Memory) (p g : ℕ) (b : List ℕ) (t : Meters) → IsSound m → 0 < (page_at m.pages.pages p).shares → owner_at m.frames g ≡ Free → CanLeave (metered (loaded m g b) t) (page_at m.pages.pages p).place g
leaves m p g b t s h free = record {
  there = λ f e. omega (arith, frame_known m p f s e, length-set m.frames.owners g (System 0));
  owned = λ f e. let is : get_or (set m.frames.owners g (System 0)) f.0 Free ≡ Page p = get_or-set_other m.frames.owners g f.0 (System 0) Free (apart f e) ∙ s.placed.in_frame p f e in rw is refl;
  apart = apart;
  taken = λ r e. slot_taken m.pages.pages m.slots p r e (page_known m p h) s.slotted;
} where
  apart : (f : FrameId) → (page_at m.pages.pages p).place ≡ Frame f → f.0 ≢ g
  apart f e w = let bad : Page p ≡ Free = sym (s.placed.in_frame p f e) ∙ ap (owner_at m.frames) w ∙ free in cc

pub leaves_loaded : (m mid : Memory) (v : StoreView) (place : Place) (p g : ℕ) → IsSound m → 0 < (page_at m.pages.pages p).shares → IsLoaded m mid v place g → CanLeave mid (page_at mid.pages.pages p).place g
leaves_loaded m mid v place p g s h y = subst (λ (n : Memory). CanLeave n (page_at n.pages.pages p).place g) (sym y.arrived) (leaves m p g (bytes_at mid.frames g) mid.frames.meters s h y.was_free)

-- a frame of the system that is settled at once
resettled : (m : Memory) (p : ℕ) (g : FrameId) (b : List ℕ) (t : Meters) → relocated (metered (loaded m g.0 b) t) p (Frame g) ≡ metered (filled m p g b) t
resettled m p g b t = λ k. record m {
  frames = record (m.frames) { owners = left_owners (set-set m.frames.owners g.0 (System 0) (Page p) k) m.frames.counts (page_at m.pages.pages p).place; bytes = set m.frames.bytes g.0 b; meters = t };
  pages = set_page m.pages p (record (page_at m.pages.pages p) { place = Frame g });
  slots = left_slots m.slots (page_at m.pages.pages p).place;
}

settled : (base new : Memory) (p : ℕ) (g : FrameId) (b : List ℕ) (t : Meters) → g.0 < length base.frames.bytes → new ≡ relocated (metered (loaded base g.0 b) t) p (Frame g) → (new ≡ metered (filled base p g (bytes_at new.frames g.0)) new.frames.meters) × (bytes_at new.frames g.0 ≡ b)
settled base new p g b t l e =
    let has : bytes_at new.frames g.0 ≡ b = ap (λ (n : Memory). bytes_at n.frames g.0) e ∙ get_or-set_same' in
    let mt : new.frames.meters ≡ t = ap (λ (n : Memory). n.frames.meters) e in
    (e ∙ resettled base p g b t ∙ (λ k. metered (filled base p g (sym has k)) (sym mt k)), has) where
      get_or-set_same' : get_or (set base.frames.bytes g.0 b) g.0 [] ≡ b
      get_or-set_same' = get_or-set_same base.frames.bytes g.0 b [] l

bytes_room : (m : Memory) (g : ℕ) → IsSound m → g < length m.frames.owners → g < length m.frames.bytes
bytes_room m g s l = omega (arith, s.shaped.filled, l)

pub brought : (m mid new : Memory) (v : StoreView) (p : ℕ) (g : FrameId) → IsSound m → IsLoaded m mid v (page_at m.pages.pages p).place g.0 → new ≡ relocated mid p (Frame g) → IsBrought m new v p g
brought m mid new v p g s y e =
    let b = bytes_at mid.frames g.0 in
    let x = settled m new p g b mid.frames.meters (bytes_room m g.0 s y.there) (e ∙ ap (λ n. relocated n p (Frame g)) y.arrived) in
    record {
      there = y.there;
      was_free = y.was_free;
      arrived = x.0;
      full = ap length x.1 ∙ y.full;
      bytes = subst (λ c. IfSome v.slots (λ slots. c ≡ place_bytes m.frames slots (page_at m.pages.pages p).place)) (sym x.1) y.bytes;
    }

pub parted : (m mid new : Memory) (v : StoreView) (o i q : ℕ) (g : FrameId) → IsSound m → IsLoaded m mid v (place_of m o i) g.0 → q < length mid.pages.pages → page_at mid.pages.pages q ≡ no_page → new ≡ relocated (renamed mid o i q) q (Frame g) → IsParted m new v o i g
parted m mid new v o i q g s y room spare e =
    let b = bytes_at mid.frames g.0 in
    let x = settled (renamed m o i q) new q g b mid.frames.meters (bytes_room m g.0 s y.there) (e ∙ ap (λ n. relocated (renamed n o i q) q (Frame g)) y.arrived) in
    record {
      number = q;
      room = omega (arith, room, ap (λ (n : Memory). length n.pages.pages) y.arrived);
      spare = ap (λ (n : Memory). page_at n.pages.pages q) (sym y.arrived) ∙ spare;
      there = y.there;
      was_free = y.was_free;
      arrived = x.0;
      full = ap length x.1 ∙ y.full;
      bytes = subst (λ c. IfSome v.slots (λ slots. c ≡ place_bytes m.frames slots (place_of m o i))) (sym x.1) y.bytes;
    }
