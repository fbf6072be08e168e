-- What a memory shows after a step.
use Rattle.std.proofs.Common.{◌≡◌, ◌≢◌, ℕ, ◌<◌, suc, zero, true, false, List, [], ◌∷◌, refl, arith, ap, rules, length, get_or, sym, ◌∙◌, subst, get_or-set_other, get_or-set_same, eq-eqb, length-set, set, ◌≤◌, inl, inr}
use Rattle.std.specs.Prelude.{◌==◌, ◌&&◌, Option, Some, None, nat_lt, if◌then◌else◌}
use Rattle.std.proofs.lemmas.Bool.{cases_lt}
use Rattle.genie_base.specs.Lemmas.Places.{set_at}
use Rattle.std.proofs.lemmas.List.Elements.{All-set}
use Rattle.genie_base.specs.Bytes.{overlaid}
use Rattle.genie_base.specs.Lemmas.Overlaid.{length-overlaid}
use Rattle.genie_frame.specs.declared.frame.Owner.{Owner}
use Rattle.genie_frame.specs.declared.frame.Owner.TheVariants.{Free, Page, System, Pool, Nobody}
use Rattle.genie_frame.specs.declared.frame.Counts.{Counts}
use Rattle.genie_frame.specs.declared.frame.FrameId.{FrameId}
use Rattle.genie_frame.specs.FrameTable.{FrameTable, set_bytes, bytes_at, is_page, no_counts}
use Rattle.genie_object.specs.declared.objects.Entry.{Entry}
use Rattle.genie_object.specs.declared.pages.PageId.{PageId}
use Rattle.genie_object.specs.declared.pages.PageInfo.{PageInfo}
use Rattle.genie_object.specs.declared.pages.Place.{Place}
use Rattle.genie_object.specs.declared.pages.Place.TheVariants.{Zero, Frame, Slot}
use Rattle.genie_object.specs.declared.memory.Memory.{Memory}
use Rattle.genie_object.specs.Pages.{page_at}
use Rattle.genie_object.specs.Objects.{entry_at, object_at, names, no_entry}
use Rattle.genie_object.specs.Memory.{seen, see_entry, see_kept, is_kept, page_bytes, place_bytes}
use Rattle.genie_object.specs.Sound.{IsSound, strong_at}
use Rattle.genie_object.specs.Keeping.{IsReady, ShowsSame, ShowsCounts, ShowsStored, ShowsLanded, KeepsSound}
use Rattle.genie_object.specs.Lemmas.Named.{counted_once}

pub shows_same : ShowsSame
shows_same old new p o c b q e = λ k slots. record {
  entry_bytes = λ a i. let t : FrameTable = record { page = p k; owners = o k; counts = c k; bytes = b k; meters = old.frames.meters; landed = old.frames.landed } in page_bytes t (q k) slots (entry_at (e k) a i).page;
  kept_bytes = λ f. if is_kept (get_or (o k) f Free) (get_or (c k) f no_counts) then get_or (b k) f [] else [];
}

set_past : {X : Type 0} (xs : List X) (f : ℕ) (x : X) → length xs ≤ f → set xs f x ≡ xs
set_past [] f x l = refl
set_past (y ∷ xs) zero x l = absurd (omega arith)
set_past (y ∷ xs) (suc f) x l = ap (λ ys. y ∷ ys) (set_past xs f x (omega arith))

same_strong : (m : Memory) (f : ℕ) (c : Counts) → c.strong ≡ strong_at m.frames.counts f → (g : ℕ) → strong_at (set m.frames.counts f c) g ≡ strong_at m.frames.counts g
same_strong m f c same g = elim (cases_lt f (length m.frames.counts)) [
  | inl l ↦ elim (set_at m.frames.counts f g c no_counts l) [
    | inl v ↦ ap (λ (x : Counts). x.strong) v.1 ∙ same ∙ ap (strong_at m.frames.counts) (sym v.0)
    | inr v ↦ ap (λ (x : Counts). x.strong) v.1
  ]
  | inr l ↦ ap (λ xs. strong_at xs g) (set_past m.frames.counts f c l)
]

same_kept : (o : Owner) (a b : Counts) → a.strong ≡ b.strong → is_kept o a ≡ is_kept o b
same_kept Free a b e = refl
same_kept (Page p) a b e = ap (nat_lt 0) e
same_kept (System t) a b e = refl
same_kept (Pool d) a b e = refl
same_kept Nobody a b e = refl

pub shows_counts : ShowsCounts
shows_counts m f c slots same = λ k. record {
  entry_bytes = (seen m slots).entry_bytes;
  kept_bytes = λ g. if same_kept (get_or m.frames.owners g Free) (get_or (set m.frames.counts f c) g no_counts) (get_or m.frames.counts g no_counts) (same_strong m f c same g) k then bytes_at m.frames g else [];
}

place_other : (t : FrameTable) (slots : ℕ → List ℕ) (f : ℕ) (b : List ℕ) (place : Place) → ((g : FrameId) → place ≡ Frame g → g.0 ≢ f) → place_bytes (set_bytes t f b) slots place ≡ place_bytes t slots place
place_other t slots f b Zero h = refl
place_other t slots f b (Frame g) h = get_or-set_other t.bytes f g.0 b [] (h g refl)
place_other t slots f b (Slot s) h = refl

page_other : (t : FrameTable) (pages : List PageInfo) (slots : ℕ → List ℕ) (f : ℕ) (b : List ℕ) (q : Option PageId) → ((p : PageId) (g : FrameId) → q ≡ Some p → (page_at pages p.0).place ≡ Frame g → g.0 ≢ f) → page_bytes (set_bytes t f b) pages slots q ≡ page_bytes t pages slots q
page_other t pages slots f b None h = refl
page_other t pages slots f b (Some p) h = place_other t slots f b (page_at pages p.0).place (λ g e. h p g refl e)

in_range : {X : Type 0} (xs : List X) (k : ℕ) (d : X) → get_or xs k d ≢ d → k < length xs
in_range [] k d h = absurd (h refl)
in_range (x ∷ xs) zero d h = omega arith
in_range (x ∷ xs) (suc k) d h = let l : k < length xs = in_range xs k d h in omega arith

-- an entry that names a page is there
pub named_within : (objects : List (List Entry)) (a b : ℕ) (q : PageId) → (entry_at objects a b).page ≡ Some q → (a < length objects) × (b < length (object_at objects a))
named_within objects a b q e =
    let within : b < length (object_at objects a) = in_range (object_at objects a) b no_entry (λ n. let e' : None ≡ Some q = sym (ap (λ (x : Entry). x.page) n) ∙ e in cc) in
    (in_range objects a [] (λ n. let z : b < 0 = subst (λ (es : List Entry). b < length es) n within in absurd (omega arith)), within)

named : (q : PageId) (e : Entry) → e.page ≡ Some q → names q.0 e ≡ true
named q e h = rw h (eq-eqb q.0 q.0 refl)

-- a frame with an owner is there
pub frame_in_range : (m : Memory) (f : ℕ) → IsSound m → get_or m.frames.owners f Free ≢ Free → f < length m.frames.bytes
frame_in_range m f s h = let l = in_range m.frames.owners f Free h in omega (arith, s.shaped.filled, l)

one_entry : (m : Memory) (o i : ℕ) (f : FrameId) (a b : ℕ) (q : PageId) (g : FrameId) → IsSound m → IsReady m o i f → (entry_at m.objects a b).page ≡ Some q → (page_at m.pages.pages q.0).place ≡ Frame g → g.0 ≡ f.0 → (a ≡ o) × (b ≡ i)
one_entry m o i f a b q g s x e placed same_frame =
    let p = x.number in
    let same_owner : Page p.0 ≡ Page q.0 = sym (s.placed.in_frame p.0 f x.is_place) ∙ ap (λ n. get_or m.frames.owners n Free) (sym same_frame) ∙ s.placed.in_frame q.0 g placed in
    let number : p.0 ≡ q.0 = cc in
    let same : p ≡ q = λ i. record { 0 = number i } in
    let is : (entry_at m.objects a b).page ≡ Some p = e ∙ ap Some (sym same) in
    let here = named_within m.objects o i p x.is_page in
    let there = named_within m.objects a b p is in
    counted_once (names p.0) no_entry m.objects a b o i there.0 there.1 here.0 here.1 (named p (entry_at m.objects a b) is) (named p (entry_at m.objects o i) x.is_page) (sym (s.shared.counted p.0) ∙ x.alone)

entries : (m : Memory) (slots : ℕ → List ℕ) (o i : ℕ) (f : FrameId) (new : List ℕ) → IsSound m → IsReady m o i f → f.0 < length m.frames.bytes → (a b : ℕ) → page_bytes (set_bytes m.frames f.0 new) m.pages.pages slots (entry_at m.objects a b).page ≡ (if (a == o) && (b == i) then new else page_bytes m.frames m.pages.pages slots (entry_at m.objects a b).page)
entries m slots o i f new s x l a b =
    elim ((a == o) && (b == i)) as (λ v. ((a == o) && (b == i)) ≡ v → page_bytes (set_bytes m.frames f.0 new) m.pages.pages slots (entry_at m.objects a b).page ≡ (if v then new else page_bytes m.frames m.pages.pages slots (entry_at m.objects a b).page)) [
      | true ↦ λ e.
          let same : (a ≡ o) × (b ≡ i) = grind (arith, rules) in
          rw (same.0, same.1, x.is_page, x.is_place) (get_or-set_same m.frames.bytes f.0 new [] l)
      | false ↦ λ e. page_other m.frames m.pages.pages slots f.0 new _ (λ q g is placed at. let same : (a ≡ o) × (b ≡ i) = one_entry m o i f a b q g s x is placed at in grind (arith, rules, same.0, same.1))
    ] refl

kept : (m : Memory) (slots : ℕ → List ℕ) (p f : ℕ) (new : List ℕ) → get_or m.frames.owners f Free ≡ Page p → (get_or m.frames.counts f no_counts).strong ≡ 0 → (g : ℕ) → (seen (record m { frames = set_bytes m.frames f new }) slots).kept_bytes g ≡ (seen m slots).kept_bytes g
kept m slots p f new is unlent g =
    elim (g == f) as (λ v. (g == f) ≡ v → (seen (record m { frames = set_bytes m.frames f new }) slots).kept_bytes g ≡ (seen m slots).kept_bytes g) [
      | true ↦ λ e. let same : g ≡ f = grind (arith, rules) in rw (same, is, unlent) refl
      | false ↦ λ e. let other : g ≢ f = grind (arith, rules) in rw (get_or-set_other m.frames.bytes f g new [] other) refl
    ] refl

-- a ready entry has the bytes of its frame
pub bytes_ready : (m : Memory) (slots : ℕ → List ℕ) (o i : ℕ) (f : FrameId) → IsReady m o i f → (seen m slots).entry_bytes o i ≡ bytes_at m.frames f.0
bytes_ready m slots o i f x = rw (x.is_page, x.is_place) refl

pub seen_write : (m : Memory) (o i : ℕ) (f : FrameId) (new : List ℕ) (slots : ℕ → List ℕ) → IsSound m → IsReady m o i f → seen (record m { frames = set_bytes m.frames f.0 new }) slots ≡ see_entry (seen m slots) o i new
seen_write m o i f new slots s x =
    let is = s.placed.in_frame x.number.0 f x.is_place in
    let l = frame_in_range m f.0 s (λ n. let bad : Free ≡ Page x.number.0 = sym n ∙ is in cc) in
    λ k. record { entry_bytes = λ a b. entries m slots o i f new s x l a b k; kept_bytes = λ g. kept m slots x.number.0 f.0 new is x.unlent g k }

pub shows_stored : ShowsStored
shows_stored m o i f x new slots s r = seen_write m o i f (overlaid x new (bytes_at m.frames f.0)) slots s r ∙ (λ k. see_entry (seen m slots) o i (overlaid x new (sym (bytes_ready m slots o i f r) k)))

-- a store in a frame that no page has changes what is seen of that frame, and nothing else
unpaged_entry : (m : Memory) (slots : ℕ → List ℕ) (f : ℕ) (new : List ℕ) → IsSound m → is_page (get_or m.frames.owners f Free) ≡ false → (q : Option PageId) → page_bytes (set_bytes m.frames f new) m.pages.pages slots q ≡ page_bytes m.frames m.pages.pages slots q
unpaged_entry m slots f new s n q = page_other m.frames m.pages.pages slots f new q (λ p g is e at. let w : true ≡ false = sym (ap is_page (ap (λ j. get_or m.frames.owners j Free) (sym at) ∙ s.placed.in_frame p.0 g e)) ∙ n in cc)

unpaged_kept : (m : Memory) (slots : ℕ → List ℕ) (f : ℕ) (new : List ℕ) → is_kept (get_or m.frames.owners f Free) (get_or m.frames.counts f no_counts) ≡ true → f < length m.frames.bytes → (g : ℕ) → (seen (record m { frames = set_bytes m.frames f new }) slots).kept_bytes g ≡ (if g == f then new else (seen m slots).kept_bytes g)
unpaged_kept m slots f new n l g =
    elim (g == f) as (λ v. (g == f) ≡ v → (seen (record m { frames = set_bytes m.frames f new }) slots).kept_bytes g ≡ (if v then new else (seen m slots).kept_bytes g)) [
      | true ↦ λ e. let same : g ≡ f = grind (arith, rules) in rw (same, n) (get_or-set_same m.frames.bytes f new [] l)
      | false ↦ λ e. let other : g ≢ f = grind (arith, rules) in rw (get_or-set_other m.frames.bytes f g new [] other) refl
    ] refl

kept_unpaged : (o : Owner) (c : Counts) → is_page o ≡ false → o ≢ Free → is_kept o c ≡ true
kept_unpaged Free c e n = absurd (n refl)
kept_unpaged (Page p) c e n = cc
kept_unpaged (System t) c e n = refl
kept_unpaged (Pool d) c e n = refl
kept_unpaged Nobody c e n = refl

bytes_kept : (m : Memory) (slots : ℕ → List ℕ) (f : ℕ) → is_page (get_or m.frames.owners f Free) ≡ false → get_or m.frames.owners f Free ≢ Free → (seen m slots).kept_bytes f ≡ bytes_at m.frames f
bytes_kept m slots f n nf = ap (λ b. if b then bytes_at m.frames f else []) (kept_unpaged _ _ n nf)

pub seen_landed : (m : Memory) (f : ℕ) (new : List ℕ) (slots : ℕ → List ℕ) → IsSound m → is_page (get_or m.frames.owners f Free) ≡ false → get_or m.frames.owners f Free ≢ Free → seen (record m { frames = set_bytes m.frames f new }) slots ≡ see_kept (seen m slots) f new
seen_landed m f new slots s n nf =
    let l = frame_in_range m f s nf in
    λ k. record { entry_bytes = λ a b. unpaged_entry m slots f new s n (entry_at m.objects a b).page k; kept_bytes = λ g. unpaged_kept m slots f new (kept_unpaged _ _ n nf) l g k }

pub shows_landed : ShowsLanded
shows_landed m f x new slots s n nf = seen_landed m f (overlaid x new (bytes_at m.frames f)) slots s n nf ∙ (λ k. see_kept (seen m slots) f (overlaid x new (sym (bytes_kept m slots f n nf) k)))

-- bytes of one frame's length keep a memory sound
pub keeps_sound : KeepsSound
keeps_sound m f x new s there = record {
  shaped = record {
    size = s.shaped.size;
    some = s.shaped.some;
    most = s.shaped.most;
    counted = s.shaped.counted;
    filled = length-set m.frames.bytes f _ ∙ s.shaped.filled;
    paged = All-set (λ b. length b ≡ m.frames.page) m.frames.bytes f _ (length-overlaid x new (bytes_at m.frames f) ∙ s.shaped.paged f [] (omega (arith, s.shaped.filled))) s.shaped.paged;
  };
  placed = s.placed;
  lent = s.lent;
  held = s.held;
  wired = s.wired;
  slotted = s.slotted;
  shared = s.shared;
  guarded = s.guarded;
}
