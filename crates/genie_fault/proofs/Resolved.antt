-- What is left once an entry was resolved.
use Rattle.std.proofs.Common.{◌≡◌, ◌≢◌, ℕ, ◌<◌, ◌≤◌, Bool, true, false, List, refl, arith, ap, length, sym, ◌∙◌, subst, inl, inr, eq-eqb}
use Rattle.std.specs.Prelude.{Option, Some, None, IfSome, count_by, nat_lt}
use Rattle.std.specs.Option.{option_map}
use Rattle.genie_base.specs.Lemmas.Places.{same_or}
use Rattle.genie_frame.specs.declared.frame.Meters.{Meters}
use Rattle.genie_frame.specs.declared.frame.FrameId.{FrameId}
use Rattle.genie_frame.specs.declared.frame.Owner.TheVariants.{Free}
use Rattle.genie_frame.specs.FrameTable.{owner_at, counts_at, bytes_at, is_held, is_free}
use Rattle.genie_store.specs.StoreView.{StoreView}
use Rattle.genie_object.specs.declared.pages.Place.TheVariants.{Zero, Frame}
use Rattle.genie_object.specs.declared.pages.PageInfo.{PageInfo}
use Rattle.genie_object.specs.declared.pages.PageId.{PageId}
use Rattle.genie_object.specs.declared.objects.Entry.{Entry}
use Rattle.genie_object.specs.declared.memory.Memory.{Memory}
use Rattle.genie_object.specs.Pages.{page_at, is_there}
use Rattle.genie_object.specs.Objects.{entry_at, object_at, names}
use Rattle.genie_object.specs.Memory.{Seen, seen, page_bytes, place_bytes, frame_of, frame_in}
use Rattle.genie_object.specs.Sound.{IsSound, IsPrivate, strong_at}
use Rattle.genie_object.specs.Steps.{metered, filled, renamed, granted, CanRename, fresh_entry}
use Rattle.genie_object.specs.Touching.{IsOutside, is_entry}
use Rattle.genie_fault.specs.Resolving.{IsIn, IsResolved, IsWritten, IsBrought, IsParted}
use Rattle.genie_object.specs.Costs.{place_of, CostsNoMore, is_fixed, is_zero}
use Rattle.genie_object.specs.Lemmas.Lookup.{named}
use Rattle.genie_object.specs.Lemmas.Entries.{entry_same, entry_or, entries_size, times_some}
use Rattle.genie_object.specs.Lemmas.Granted.{sound_granted, seen_granted, keeps_granted, touches_granted, page_granted}
use Rattle.genie_object.specs.Lemmas.Filled.{sound_filled, keeps_filled, touches_filled, seen_filled, of_page, of_other, strong_filled, count_filled, free_filled}
use Rattle.genie_object.specs.Lemmas.Parted.{fresh_some, fresh_unheld, names_fresh, names_older, seen_parted}
use Rattle.genie_object.specs.Lemmas.Renamed.{sound_renamed, keeps_renamed, touches_renamed, count_renamed, of_q, is_named, many as named_many, place_kept, page_other}
use Rattle.genie_object.specs.Lemmas.Costing.{IsNoDearer, costs_same, dear_same, dear_in_frame, dear_shared, read_same, write_same}
use Rattle.genie_object.specs.Lemmas.Spending.{costs_on, copy_named, untouched_named}
use Rattle.genie_object.specs.Lemmas.Touching.{keeps_on, touches_on, sound_metered, keeps_metered, touches_metered}

-- a page that an entry names is there
pub shared_some : (m : Memory) (o i : ℕ) (p : PageId) → IsSound m → (entry_at m.objects o i).page ≡ Some p → 0 < (page_at m.pages.pages p.0).shares
shared_some m o i p s e = omega (arith, s.shared.counted p.0, times_some m.objects p.0 o i (named p (entry_at m.objects o i) e))

-- a strongly lent page is held by no device
pub strong_unheld : (m : Memory) (p : ℕ) (f : FrameId) → IsSound m → (page_at m.pages.pages p).place ≡ Frame f → 0 < strong_at m.frames.counts f.0 → is_held (counts_at m.frames f.0) ≡ false
strong_unheld m p f s e h = elim (is_held (counts_at m.frames f.0)) as (λ b. is_held (counts_at m.frames f.0) ≡ b → b ≡ false) [
  | true ↦ λ w. absurd (omega (arith, h, s.held.unlent f.0 (ap (λ o. Rattle.genie_frame.specs.FrameTable.is_system o) (s.placed.in_frame p f e)) w))
  | false ↦ λ w. refl
] refl

here : (o i : ℕ) → is_entry o i o i ≡ true
here o i = rw (eq-eqb o o refl, eq-eqb i i refl) refl

told : (f g : (ℕ → List ℕ) → Seen) (slots : Option (ℕ → List ℕ)) (P : (ℕ → List ℕ) → Type 0) → IfSome slots P → ((s : ℕ → List ℕ) → P s → f s ≡ g s) → option_map f slots ≡ option_map g slots
told f g None P h e = refl
told f g (Some s) P h e = ap Some (e s h)

-- an entry whose page is in a frame is permitted to be read
pub resolved_framed : (m : Memory) (v : StoreView) (o i : ℕ) (p : PageId) (f : FrameId) → i < length (object_at m.objects o) → IsSound m → (entry_at m.objects o i).page ≡ Some p → (page_at m.pages.pages p.0).place ≡ Frame f → (writable : Bool) → (writable ≡ true → IsPrivate m.frames.counts m.pages.pages (entry_at m.objects o i).page) → IsResolved m (granted m o i writable) v o i f
resolved_framed m v o i p f l s e at writable w = record {
  sound = sound_granted m o i writable l s (record { number = p; frame = f; is_page = e; is_place = at }) w;
  seen = told (seen (granted m o i writable)) (seen m) v.slots (λ t. true ≡ true) (trivial v.slots) (λ t h. seen_granted m o i writable l t);
  keeps = keeps_granted m o i writable l;
  touches = touches_granted m o i writable l (is_entry o i) (here o i);
  is_framed = ap (frame_of m.pages.pages) (page_granted m o i writable l o i ∙ e) ∙ ap frame_in at;
  readable = ap (λ (t : Entry). t.readable) (entry_same m.objects o i _ l);
  counts = refl;
  landed = refl;
  free = omega arith;
  pages = omega arith;
  costs = costs_same m (granted m o i writable) refl (page_granted m o i writable l) (λ r. dear_same m.frames.counts (page_at m.pages.pages r) (page_at m.pages.pages r) refl);
} where
  trivial : (slots : Option (ℕ → List ℕ)) → IfSome slots (λ t. true ≡ true)
  trivial None = tt
  trivial (Some t) = refl

pub written_framed : (m : Memory) (v : StoreView) (o i : ℕ) (p : PageId) (f : FrameId) → i < length (object_at m.objects o) → IsSound m → (entry_at m.objects o i).page ≡ Some p → (page_at m.pages.pages p.0).place ≡ Frame f → (page_at m.pages.pages p.0).shares ≡ 1 → strong_at m.frames.counts f.0 ≡ 0 → IsWritten m (granted m o i true) v o i f
written_framed m v o i p f l s e at one none = record {
  resolved = resolved_framed m v o i p f l s e at true (λ h. record { number = p; frame = f; is_page = e; is_place = at; alone = one; unlent = none });
  ready = record { number = p; is_page = page_granted m o i true l o i ∙ e; is_place = at; alone = one; unlent = none };
  writable = ap (λ (t : Entry). t.writable) (entry_same m.objects o i _ l);
}

-- the page was brought in, and the entry was permitted
then_resolved : (old mid new : Memory) (v : StoreView) (o i : ℕ) (p : PageId) (f : FrameId) → IsIn old mid v o i p f → IsResolved mid new v o i f → count_by is_free mid.frames.owners ≤ count_by is_free new.frames.owners → count_by is_there new.pages.pages ≤ count_by is_there mid.pages.pages → IsResolved old new v o i f
then_resolved old mid new v o i p f x y free pages = record {
  sound = y.sound;
  seen = y.seen ∙ x.seen;
  keeps = keeps_on old mid new x.keeps y.keeps;
  touches = touches_on (is_entry o i) old mid new x.touches y.touches;
  is_framed = y.is_framed;
  readable = y.readable;
  counts = y.counts ∙ x.counts;
  landed = y.landed ∙ x.landed;
  free = omega (arith, x.free, free);
  pages = omega (arith, x.pages, pages);
  costs = costs_on old mid new x.costs y.costs;
}

pub resolved_in : (m mid : Memory) (v : StoreView) (o i : ℕ) (p : PageId) (f : FrameId) → IsIn m mid v o i p f → IsResolved m (granted mid o i false) v o i f
resolved_in m mid v o i p f x = then_resolved m mid (granted mid o i false) v o i p f x (resolved_framed mid v o i p f x.there x.sound x.is_page x.is_place false (λ h. cc)) (omega arith) (omega arith)

pub written_in : (m mid : Memory) (v : StoreView) (o i : ℕ) (p : PageId) (f : FrameId) → IsIn m mid v o i p f → (page_at mid.pages.pages p.0).shares ≡ 1 → IsWritten m (granted mid o i true) v o i f
written_in m mid v o i p f x one =
    let y = written_framed mid v o i p f x.there x.sound x.is_page x.is_place one x.unlent in
    record { resolved = then_resolved m mid (granted mid o i true) v o i p f x y.resolved (omega arith) (omega arith); ready = y.ready; writable = y.writable }

outside_not : (m : Memory) (o i : ℕ) (p : PageId) → (entry_at m.objects o i).page ≡ Some p → (q : ℕ) → IsOutside (is_entry o i) m q → q ≢ p.0
outside_not m o i p e q y s = let bad : true ≡ false = sym (here o i) ∙ y.named o i (ap (λ n. names n (entry_at m.objects o i)) s ∙ named p (entry_at m.objects o i) e) in cc

pub in_brought : (m new : Memory) (v : StoreView) (o i : ℕ) (p : PageId) (g : FrameId) → i < length (object_at m.objects o) → IsSound m → (entry_at m.objects o i).page ≡ Some p → ((f : FrameId) → (page_at m.pages.pages p.0).place ≡ Frame f → is_held (counts_at m.frames f.0) ≡ false) → IsBrought m new v p.0 g → IsIn m new v o i p g
in_brought m new v o i p g l s e unheld y =
    let b = bytes_at new.frames g.0 in
    let t = new.frames.meters in
    let some = shared_some m o i p s e in
    let f : Memory = filled m p.0 g b in
    subst (λ n. IsIn m n v o i p g) (sym y.arrived) (record {
      sound = sound_metered f t (sound_filled m p.0 g b s some unheld y.there y.was_free y.full);
      seen = told (seen (metered f t)) (seen m) v.slots (λ slots. b ≡ place_bytes m.frames slots (page_at m.pages.pages p.0).place) y.bytes (λ slots h. seen_filled m p.0 g b s some unheld y.there y.was_free y.full slots h);
      keeps = keeps_metered m f t (keeps_filled m p.0 g b s some unheld y.there y.was_free y.full);
      touches = touches_metered (is_entry o i) m f t (touches_filled m p.0 g b s some unheld y.there y.was_free y.full (is_entry o i) (outside_not m o i p e));
      there = l;
      is_page = e;
      is_place = ap (λ (q : PageInfo). q.place) (of_page m p.0 g b s some unheld y.there y.was_free y.full);
      unlent = strong_filled m p.0 g b s some unheld y.there y.was_free y.full;
      counts = refl;
      landed = refl;
      free = free_filled m p.0 g b s some unheld y.there y.was_free y.full;
      pages = omega (arith, count_filled m p.0 g b s some unheld y.there y.was_free y.full);
      costs = costs_same m (metered f t) refl (λ a c. refl) (λ r. elim (same_or r p.0) [
        | inl w ↦ subst (λ n. IsNoDearer m.frames.counts (page_at m.pages.pages n) (page_at f.pages.pages n)) (sym w) (subst (IsNoDearer m.frames.counts (page_at m.pages.pages p.0)) (sym (of_page m p.0 g b s some unheld y.there y.was_free y.full)) (dear_in_frame m.frames.counts (page_at m.pages.pages p.0) g (strong_filled m p.0 g b s some unheld y.there y.was_free y.full)))
        | inr n ↦ dear_same m.frames.counts (page_at m.pages.pages r) (page_at f.pages.pages r) (of_other m p.0 g b s some unheld y.there y.was_free y.full r n)
      ]);
    })

pub shares_brought : (m new : Memory) (v : StoreView) (o i : ℕ) (p : PageId) (g : FrameId) → IsSound m → (entry_at m.objects o i).page ≡ Some p → ((f : FrameId) → (page_at m.pages.pages p.0).place ≡ Frame f → is_held (counts_at m.frames f.0) ≡ false) → IsBrought m new v p.0 g → (page_at new.pages.pages p.0).shares ≡ (page_at m.pages.pages p.0).shares
shares_brought m new v o i p g s e unheld y = ap (λ (n : Memory). (page_at n.pages.pages p.0).shares) y.arrived ∙ ap (λ (q : PageInfo). q.shares) (of_page m p.0 g (bytes_at new.frames g.0) s (shared_some m o i p s e) unheld y.there y.was_free y.full)

bytes_placed : (m : Memory) (slots : ℕ → List ℕ) (page : Option PageId) → place_bytes m.frames slots (elim page [ None ↦ Zero | Some p ↦ (page_at m.pages.pages p.0).place ]) ≡ page_bytes m.frames m.pages.pages slots page
bytes_placed m slots None = refl
bytes_placed m slots (Some p) = refl

module _ (m : Memory) (o i q : ℕ) (x : CanRename m o i q) (g : FrameId) (b : List ℕ) (there : g.0 < length m.frames.owners) (free : owner_at m.frames g.0 ≡ Free) (full : length b ≡ m.frames.page) where
  abbrev base : Memory
  base = renamed m o i q

  abbrev new : Memory
  new = filled base q g b

  abbrev number : PageId
  number = record { 0 = q }

  some : 0 < (page_at base.pages.pages q).shares
  some = fresh_some m o i q x

  unheld : (f : FrameId) → (page_at base.pages.pages q).place ≡ Frame f → is_held (counts_at m.frames f.0) ≡ false
  unheld = fresh_unheld m o i q x

  sound : IsSound base
  sound = sound_renamed m o i q x

  named_q : (entry_at base.objects o i).page ≡ Some number
  named_q = names_fresh m o i q x

  other_q : (a c : ℕ) (r : PageId) → (entry_at m.objects a c).page ≡ Some r → r.0 ≢ q
  other_q = names_older m o i q x

  seen_new : (slots : ℕ → List ℕ) → b ≡ place_bytes m.frames slots (place_of m o i) → seen new slots ≡ seen m slots
  seen_new slots h = seen_parted m o i q x g b there free full slots (h ∙ bytes_placed m slots (entry_at m.objects o i).page)

  dear_other : (r : PageId) → r.0 ≢ q → IsNoDearer m.frames.counts (page_at m.pages.pages r.0) (page_at new.pages.pages r.0)
  dear_other r n = subst (IsNoDearer m.frames.counts (page_at m.pages.pages r.0)) (sym (of_other base q g b sound some unheld there free full r.0 n)) (elim (is_named (entry_at m.objects o i).page r.0) as (λ v. is_named (entry_at m.objects o i).page r.0 ≡ v → IsNoDearer m.frames.counts (page_at m.pages.pages r.0) (page_at base.pages.pages r.0)) [
    | true ↦ λ e. dear_shared m.frames.counts (page_at m.pages.pages r.0) (page_at base.pages.pages r.0) (named_many m o i q x r.0 e) (place_kept m o i q x r.0)
    | false ↦ λ e. dear_same m.frames.counts (page_at m.pages.pages r.0) (page_at base.pages.pages r.0) (page_other m o i q x r.0 n e)
  ] refl)

  in_place : page_at new.pages.pages q ≡ record (page_at base.pages.pages q) { place = Frame g }
  in_place = of_page base q g b sound some unheld there free full

  fixed_q : is_fixed m.frames.counts (page_at new.pages.pages q) ≡ false
  fixed_q = ap (is_fixed m.frames.counts) (in_place ∙ ap (λ (s : PageInfo). record s { place = Frame g }) (of_q m o i q x)) ∙ ap (nat_lt 0) (strong_filled base q g b sound some unheld there free full)

  page_here : (a c : ℕ) → a ≡ o → c ≡ i → (entry_at base.objects a c).page ≡ Some number
  page_here a c s t = ap (λ n. (entry_at base.objects n c).page) s ∙ ap (λ n. (entry_at base.objects o n).page) t ∙ named_q

  costs_filled : (t : Meters) → CostsNoMore m (metered new t)
  costs_filled t = record {
    read = λ a c e. elim (entry_or m.objects o i (fresh_entry q) x.there a c) [
      | inl s ↦ untouched_named (metered new t) a c number (page_here a c s.0 s.1) ∙ ap (λ (r : PageInfo). is_zero r.place) in_place
      | inr n ↦ read_same m (metered new t) refl a c (ap (λ (e : Entry). e.page) n.1) (λ r w. dear_other r (other_q a c r w)) e
    ];
    write = λ a c e. elim (entry_or m.objects o i (fresh_entry q) x.there a c) [
      | inl s ↦ copy_named (metered new t) a c number (page_here a c s.0 s.1) ∙ fixed_q
      | inr n ↦ write_same m (metered new t) refl a c (ap (λ (e : Entry). e.page) n.1) (λ r w. dear_other r (other_q a c r w)) e
    ];
  }

  in_filled : (v : StoreView) (t : Meters) → IfSome v.slots (λ slots. b ≡ place_bytes m.frames slots (place_of m o i)) → IsIn m (metered new t) v o i number g
  in_filled v t h = record {
    sound = sound_metered new t (sound_filled base q g b sound some unheld there free full);
    seen = told (seen (metered new t)) (seen m) v.slots (λ slots. b ≡ place_bytes m.frames slots (place_of m o i)) h seen_new;
    keeps = keeps_metered m new t (keeps_on m base new (keeps_renamed m o i q x) (keeps_filled base q g b sound some unheld there free full));
    touches = touches_metered (is_entry o i) m new t (touches_on (is_entry o i) m base new (touches_renamed m o i q x (is_entry o i) (here o i)) (touches_filled base q g b sound some unheld there free full (is_entry o i) (outside_not base o i number named_q)));
    there = rw (entries_size m.objects o i (fresh_entry q) x.there o) x.there;
    is_page = named_q;
    is_place = ap (λ (r : PageInfo). r.place) (of_page base q g b sound some unheld there free full);
    unlent = strong_filled base q g b sound some unheld there free full;
    counts = refl;
    landed = refl;
    free = free_filled base q g b sound some unheld there free full;
    pages = omega (arith, count_filled base q g b sound some unheld there free full, count_renamed m o i q x);
    costs = costs_filled t;
  }

  shares_parted : (t : Meters) → (page_at (metered new t).pages.pages q).shares ≡ 1
  shares_parted t = ap (λ (r : PageInfo). r.shares) (of_page base q g b sound some unheld there free full) ∙ ap (λ (r : PageInfo). r.shares) (of_q m o i q x)

pub can_rename : (m after : Memory) (v : StoreView) (o i : ℕ) (g : FrameId) → i < length (object_at m.objects o) → IsSound m → ((p : PageId) → (entry_at m.objects o i).page ≡ Some p → 1 < (page_at m.pages.pages p.0).shares) → (y : IsParted m after v o i g) → CanRename m o i y.number
can_rename m after v o i g l s many y = record { sound = s; there = l; many = many; spare = y.spare; room = y.room }

pub in_parted : (m new : Memory) (v : StoreView) (o i : ℕ) (g : FrameId) → i < length (object_at m.objects o) → IsSound m → ((p : PageId) → (entry_at m.objects o i).page ≡ Some p → 1 < (page_at m.pages.pages p.0).shares) → (y : IsParted m new v o i g) → IsIn m new v o i (record { 0 = y.number }) g × ((page_at new.pages.pages y.number).shares ≡ 1)
in_parted m new v o i g l s many y =
    let x = can_rename m new v o i g l s many y in
    let b = bytes_at new.frames g.0 in
    let t = new.frames.meters in (
      subst (λ n. IsIn m n v o i (record { 0 = y.number }) g) (sym y.arrived) (in_filled m o i y.number x g b y.there y.was_free y.full v t y.bytes),
      ap (λ (n : Memory). (page_at n.pages.pages y.number).shares) y.arrived ∙ shares_parted m o i y.number x g b y.there y.was_free y.full t,
    )
