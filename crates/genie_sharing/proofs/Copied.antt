-- An entry that is copied.
use Rattle.std.proofs.Common.{◌≡◌, ◌≢◌, ℕ, ◌<◌, Bool, true, false, not, List, [], refl, arith, ap, length, sym, ◌∙◌, subst, inl, inr, ⊎_elim, eqb-true}
use Rattle.std.specs.Prelude.{Option, Some, None, ◌==◌, if◌then◌else◌}
use Rattle.std.specs.Option.{option_map}
use Rattle.std.proofs.lemmas.Bool.{cases_Bool, and_parts}
use Rattle.genie_frame.specs.declared.frame.FrameId.{FrameId}
use Rattle.genie_frame.specs.declared.frame.Meters.{Meters}
use Rattle.genie_frame.specs.FrameTable.{counts_at, bytes_at, is_held}
use Rattle.genie_store.specs.StoreView.{StoreView}
use Rattle.genie_object.specs.declared.objects.Entry.{Entry}
use Rattle.genie_object.specs.declared.pages.PageId.{PageId}
use Rattle.genie_object.specs.declared.pages.Place.TheVariants.{Frame}
use Rattle.genie_object.specs.declared.memory.Memory.{Memory}
use Rattle.genie_object.specs.Leaving.{IsEmpty}
use Rattle.genie_object.specs.Memory.{Seen, seen, see_entry, entry_frame, frame_of, page_bytes, place_bytes}
use Rattle.genie_object.specs.Objects.{entry_at, object_at, names}
use Rattle.genie_object.specs.Pages.{page_at}
use Rattle.genie_object.specs.Sound.{IsSound, IsSized, FitsHidden}
use Rattle.genie_object.specs.Steps.{CanRename, CanShare, filled, forbidden, fresh_entry, metered, renamed, shared}
use Rattle.genie_object.specs.Touching.{IsOutside, KeepsLoans, Touches, is_entry}
use Rattle.genie_object.specs.Lemmas.Entries.{entry_or, entry_same}
use Rattle.genie_object.specs.Lemmas.Filled.{bytes_here, bytes_other, kept_filled, keeps_filled, sound_filled, touches_filled}
use Rattle.genie_object.specs.Lemmas.Forbidden.{keeps_forbidden, narrows, others_unwritable, seen_forbidden, sound_forbidden, touches_forbidden, unwritable_now}
use Rattle.genie_object.specs.Lemmas.Left.{here}
use Rattle.genie_object.specs.Lemmas.Lookup.{named}
use Rattle.genie_object.specs.Lemmas.Naming.{named_shared}
use Rattle.genie_object.specs.Lemmas.Parted.{fresh_some, fresh_unheld, names_fresh, names_older}
use Rattle.genie_object.specs.Lemmas.Relocated.{frame_is}
use Rattle.genie_object.specs.Lemmas.Renamed.{bytes_renamed, keeps_renamed, sound_renamed, touches_renamed}
use Rattle.genie_object.specs.Lemmas.Shared.{keeps_shared, seen_shared, sound_shared, touches_shared}
use Rattle.genie_object.specs.Lemmas.Touching.{keeps_metered, keeps_on, sound_metered, touches_metered, touches_on}
use Rattle.genie_hiding.specs.Hidden.{is_among, outside}
use Rattle.genie_hiding.specs.Rooms.{MakesRoom}
use Rattle.genie_hiding.specs.Lemmas.Naming.{fits_kept}
use Rattle.genie_sharing.specs.Copying.{Copies, CopiesEntry, PartsFrom, see_from}
use Rattle.genie_sharing.specs.Lemmas.Composing.{copies_none, copies_on, copies_same}
use Rattle.genie_sharing.proofs.Parting.{can_rename}

-- entry i of object p shows what that of object o showed
abbrev from_entry : ℕ → ℕ → ℕ → ℕ → ℕ → ℕ
from_entry o p i a b = if is_entry p i a b then o else a

abbrev Shows : List ℕ → Seen → ℕ → ℕ → ℕ → ℕ → ℕ → Type 0
Shows hidden s o p i a b = (if is_among a hidden then [] else (if is_entry p i a b then s.entry_bytes o i else s.entry_bytes a b)) ≡ (if is_among (from_entry o p i a b) hidden then [] else s.entry_bytes (from_entry o p i a b) b)

shows_here : (hidden : List ℕ) (s : Seen) (o p i : ℕ) → is_among o hidden ≡ false → is_among p hidden ≡ false → Shows hidden s o p i p i
shows_here hidden s o p i ho hp =
    let is = here p i in
    let from : from_entry o p i p i ≡ o = ap (λ v. if v then o else p) is in
    ap (λ v. if v then [] else (if is_entry p i p i then s.entry_bytes o i else s.entry_bytes p i)) hp
    ∙ ap (λ v. if v then s.entry_bytes o i else s.entry_bytes p i) is
    ∙ sym (ap (λ n. if is_among n hidden then [] else s.entry_bytes n i) from ∙ ap (λ v. if v then [] else s.entry_bytes o i) ho)

shows_else : (hidden : List ℕ) (s : Seen) (o p i a b : ℕ) → is_entry p i a b ≡ false → Shows hidden s o p i a b
shows_else hidden s o p i a b other =
    let own : from_entry o p i a b ≡ a = ap (λ v. if v then o else a) other in
    ap (λ v. if is_among a hidden then [] else (if v then s.entry_bytes o i else s.entry_bytes a b)) other
    ∙ sym (ap (λ n. if is_among n hidden then [] else s.entry_bytes n b) own)

shows_at : (hidden : List ℕ) (s : Seen) (o p i a b : ℕ) → is_among o hidden ≡ false → is_among p hidden ≡ false → Shows hidden s o p i a b
shows_at hidden s o p i a b ho hp = ⊎_elim
    (λ (yes : is_entry p i a b ≡ true).
    let parts = and_parts (a == p) (b == i) yes in
    let object : a ≡ p = eqb-true a p parts.0 in
    let index : b ≡ i = eqb-true b i parts.1 in
    subst (λ n. Shows hidden s o p i n b) (sym object) (subst (λ n. Shows hidden s o p i p n) (sym index) (shows_here hidden s o p i ho hp)))
    (λ other. shows_else hidden s o p i a b other)
    (cases_Bool (is_entry p i a b))

-- so it is outside hidden regions
masked : (hidden : List ℕ) (s new : Seen) (o p i : ℕ) → is_among o hidden ≡ false → is_among p hidden ≡ false → new ≡ see_entry s p i (s.entry_bytes o i) → outside hidden new ≡ see_from (from_entry o p i) (outside hidden s)
masked hidden s new o p i ho hp e = ap (outside hidden) e ∙ (λ k. record { entry_bytes = λ a b. shows_at hidden s o p i a b ho hp k; kept_bytes = s.kept_bytes })

told : (hidden : List ℕ) (source : ℕ → ℕ → ℕ) (m new : Memory) (slots : Option (ℕ → List ℕ)) → ((t : ℕ → List ℕ) → outside hidden (seen new t) ≡ see_from source (outside hidden (seen m t))) → option_map (outside hidden) (option_map (seen new) slots) ≡ option_map (see_from source) (option_map (outside hidden) (option_map (seen m) slots))
told hidden source m new None h = refl
told hidden source m new (Some t) h = ap Some (h t)

unspoken : (o p i a b : ℕ) → is_entry p i a b ≡ false → from_entry o p i a b ≡ a
unspoken o p i a b e = ap (λ v. if v then o else a) e

spoken : (o p i : ℕ) → from_entry o p i p i ≡ o
spoken o p i = ap (λ v. if v then o else p) (here p i)

-- the entry is among those that it is
entry_was : (p i a b : ℕ) → a ≡ p → b ≡ i → is_entry p i a b ≡ true
entry_was p i a b s t = ap (λ n. is_entry p i n b) s ∙ ap (is_entry p i p) t ∙ here p i

-- a step that gives entry i of object p a new entry without permissions, and changes no other
module _ (objects : List (List Entry)) (p i q : ℕ) (there : i < length (object_at objects p)) (new : List (List Entry)) (is : (a b : ℕ) → entry_at new a b ≡ entry_at (Rattle.genie_object.specs.Objects.set_entry objects p i (fresh_entry q)) a b) where
  fresh_narrow : (a b : ℕ) → (entry_at new a b).writable ≡ true → (entry_at objects a b).writable ≡ true
  fresh_narrow a b w = elim (entry_or objects p i (fresh_entry q) there a b) [
    | inl s ↦
        let at : entry_at new a b ≡ fresh_entry q = is a b ∙ (λ k. entry_at (Rattle.genie_object.specs.Objects.set_entry objects p i (fresh_entry q)) (s.0 k) (s.1 k)) ∙ entry_same objects p i (fresh_entry q) there in
        let bad : false ≡ true = sym (ap (λ (e : Entry). e.writable) at) ∙ w in cc
    | inr n ↦ sym (ap (λ (e : Entry). e.writable) (is a b ∙ n.1)) ∙ w
  ]

  fresh_pages : (a b : ℕ) → is_entry p i a b ≡ false → (entry_at new a b).page ≡ (entry_at objects a b).page
  fresh_pages a b e = elim (entry_or objects p i (fresh_entry q) there a b) [
    | inl s ↦ let bad : true ≡ false = sym (entry_was p i a b s.0 s.1) ∙ e in cc
    | inr n ↦ ap (λ (e : Entry). e.page) (is a b ∙ n.1)
  ]

-- an empty entry shows what an empty entry shows
pub copies_empty : (hidden : List ℕ) (m : Memory) (v : StoreView) (o p i : ℕ) → IsSound m → IsSized m v → FitsHidden m hidden → is_among o hidden ≡ false → is_among p hidden ≡ false → IsEmpty m o i → IsEmpty m p i → CopiesEntry hidden o p i m m v v
copies_empty hidden m v o p i sound sized fits ho hp from to =
    let shows : (t : ℕ → List ℕ) (a b : ℕ) → (seen m t).entry_bytes a b ≡ (see_entry (seen m t) p i ((seen m t).entry_bytes o i)).entry_bytes a b = λ t a b. ⊎_elim
    (λ (yes : is_entry p i a b ≡ true).
    let parts = and_parts (a == p) (b == i) yes in
    let here : (seen m t).entry_bytes a b ≡ (seen m t).entry_bytes p i = (λ k. (seen m t).entry_bytes (eqb-true a p parts.0 k) (eqb-true b i parts.1 k)) in
    here ∙ ap (page_bytes m.frames m.pages.pages t) (to ∙ sym from) ∙ sym (ap (λ v. if v then (seen m t).entry_bytes o i else (seen m t).entry_bytes a b) yes))
    (λ other. sym (ap (λ v. if v then (seen m t).entry_bytes o i else (seen m t).entry_bytes a b) other))
    (cases_Bool (is_entry p i a b)) in
    let same : (t : ℕ → List ℕ) → seen m t ≡ see_entry (seen m t) p i ((seen m t).entry_bytes o i) = λ t k. record { entry_bytes = λ a b. shows t a b k; kept_bytes = (seen m t).kept_bytes } in
    let none = copies_none hidden (is_entry p i) m v sound sized fits in
    record {
      copies = record {
        source = from_entry o p i;
        own = unspoken o p i;
        sound = sound;
        sized = sized;
        fits = fits;
        seen = told hidden (from_entry o p i) m m v.slots (λ t. masked hidden (seen m t) (seen m t) o p i ho hp (same t));
        keeps = none.keeps;
        counts = refl;
        landed = refl;
        narrow = none.narrow;
        pages = none.pages;
      };
      from = spoken o p i;
      same = λ free. to ∙ sym from;
    }

module _ (hidden : List ℕ) (m : Memory) (v : StoreView) (o p i : ℕ) (q : PageId) (sound : IsSound m) (sized : IsSized m v) (fits : FitsHidden m hidden) (lo : i < length (object_at m.objects o)) (lp : i < length (object_at m.objects p)) (ho : is_among o hidden ≡ false) (hp : is_among p hidden ≡ false) (is : (entry_at m.objects o i).page ≡ Some q) (empty : IsEmpty m p i) (unheld : (f : FrameId) → (page_at m.pages.pages q.0).place ≡ Frame f → is_held (counts_at m.frames f.0) ≡ false) where
  abbrev shut : Memory
  shut = forbidden m o i

  abbrev new : Memory
  new = shared shut p i q.0

  can : CanShare shut p i q.0
  can = record {
    sound = sound_forbidden m o i lo sound;
    there = omega (arith, lp, (keeps_forbidden m o i lo).entries p);
    empty = (narrows m o i lo p i).page ∙ empty;
    some = named_shared m.pages.pages m.objects o i q sound.shared is;
    unheld = unheld;
    unwritable = others_unwritable shut o i q (sound_forbidden m o i lo sound) ((narrows m o i lo o i).page ∙ is) (unwritable_now m o i lo);
  }

  keeps : KeepsLoans m new
  keeps = keeps_on m shut new (keeps_forbidden m o i lo) (keeps_shared shut p i q.0 can)

  abbrev visible : ℕ → ℕ → Bool
  visible a b = not (is_among a hidden)

  seen_by : (n : ℕ) → is_among n hidden ≡ false → not (is_among n hidden) ≡ true
  seen_by n e = ap not e

  touches : Touches visible m new
  touches = touches_on visible m shut new (touches_forbidden m o i lo visible) (touches_shared shut p i q.0 can visible (seen_by p hp) (λ r y e.
      let names_r : names r (entry_at shut.objects o i) ≡ true = ap (λ n. names n (entry_at shut.objects o i)) e ∙ named q (entry_at shut.objects o i) ((narrows m o i lo o i).page ∙ is) in
      let bad : true ≡ false = sym (seen_by o ho) ∙ y.named o i names_r in cc))

  shown : (t : ℕ → List ℕ) → seen new t ≡ see_entry (seen m t) p i ((seen m t).entry_bytes o i)
  shown t =
      let bytes : place_bytes m.frames t (page_at m.pages.pages q.0).place ≡ (seen m t).entry_bytes o i = sym (ap (page_bytes m.frames m.pages.pages t) is) in
      seen_shared shut p i q.0 can t ∙ (λ k. see_entry (seen_forbidden m o i lo t k) p i (bytes k))

  pub copies_shared : CopiesEntry hidden o p i m (shared (forbidden m o i) p i q.0) v v
  copies_shared = record {
    copies = record {
      source = from_entry o p i;
      own = unspoken o p i;
      sound = sound_shared shut p i q.0 can;
      sized = record { count = sized.count; page = sized.page };
      fits = fits_kept visible m new hidden sound touches keeps.entries (λ a b h. ap not h) fits;
      seen = told hidden (from_entry o p i) m new v.slots (λ t. masked hidden (seen m t) (seen new t) o p i ho hp (shown t));
      keeps = keeps;
      counts = refl;
      landed = refl;
      narrow = λ a b h w. (narrows m o i lo a b).writable (fresh_narrow shut.objects p i q.0 can.there new.objects (λ c d. refl) a b w);
      pages = λ a b h e. fresh_pages shut.objects p i q.0 can.there new.objects (λ c d. refl) a b e ∙ (narrows m o i lo a b).page;
    };
    from = spoken o p i;
    same = λ free. ap (λ (e : Entry). e.page) (entry_same shut.objects p i (fresh_entry q.0) can.there) ∙ sym is;
  }

-- an entry whose page is in a frame shows the frame's bytes
framed_bytes : (m : Memory) (t : ℕ → List ℕ) (o i f : ℕ) → entry_frame m o i ≡ Some f → (seen m t).entry_bytes o i ≡ bytes_at m.frames f
framed_bytes m t o i f = by_page (entry_at m.objects o i).page where
  by_page : (page : Option PageId) → frame_of m.pages.pages page ≡ Some f → page_bytes m.frames m.pages.pages t page ≡ bytes_at m.frames f
  by_page None e = cc
  by_page (Some q) e =
      let at = frame_is (page_at m.pages.pages q.0).place f e in
      ap (place_bytes m.frames t) at.is ∙ ap (bytes_at m.frames) (sym at.number)

module _ (hidden : List ℕ) (m : Memory) (v : StoreView) (o p i f : ℕ) (after : Memory) (y : PartsFrom m after f p i) (sound : IsSound m) (sized : IsSized m v) (fits : FitsHidden m hidden) (lp : i < length (object_at m.objects p)) (ho : is_among o hidden ≡ false) (hp : is_among p hidden ≡ false) (is : entry_frame m o i ≡ Some f) (held : is_held (counts_at m.frames f) ≡ true) (empty : IsEmpty m p i) where
  abbrev n : ℕ
  n = y.number

  abbrev g : FrameId
  g = y.frame

  abbrev b : List ℕ
  b = bytes_at m.frames f

  abbrev t : Meters
  t = after.frames.meters

  abbrev base : Memory
  base = renamed m p i n

  abbrev into : Memory
  into = filled base n g b

  x : CanRename m p i n
  x = can_rename m p i n sound lp empty y.spare y.room

  named_n : (entry_at base.objects p i).page ≡ Some (record { 0 = n })
  named_n = names_fresh m p i n x

  inside : (r : ℕ) → IsOutside (is_entry p i) base r → r ≢ n
  inside r out e = let bad : true ≡ false = sym (here p i) ∙ out.named p i (ap (λ c. names c (entry_at base.objects p i)) e ∙ named (record { 0 = n }) (entry_at base.objects p i) named_n) in cc

  keeps_into : KeepsLoans m (metered into t)
  keeps_into = keeps_metered m into t (keeps_on m base into (keeps_renamed m p i n x) (keeps_filled base n g b (sound_renamed m p i n x) (fresh_some m p i n x) (fresh_unheld m p i n x) y.there y.was_free y.full))

  touches_into : Touches (is_entry p i) m (metered into t)
  touches_into = touches_metered (is_entry p i) m into t (touches_on (is_entry p i) m base into (touches_renamed m p i n x (is_entry p i) (here p i)) (touches_filled base n g b (sound_renamed m p i n x) (fresh_some m p i n x) (fresh_unheld m p i n x) y.there y.was_free y.full (is_entry p i) inside))

  entry_bytes : (slots : ℕ → List ℕ) (a c : ℕ) → (seen into slots).entry_bytes a c ≡ (see_entry (seen m slots) p i b).entry_bytes a c
  entry_bytes slots a c = elim (entry_or m.objects p i (fresh_entry n) lp a c) [
    | inl s ↦
        let named_here : (entry_at base.objects a c).page ≡ Some (record { 0 = n }) = (λ k. (entry_at base.objects (s.0 k) (s.1 k)).page) ∙ named_n in
        ap (page_bytes into.frames into.pages.pages slots) named_here
        ∙ bytes_here base n g b (sound_renamed m p i n x) (fresh_some m p i n x) (fresh_unheld m p i n x) y.there y.was_free y.full slots
        ∙ sym (ap (λ w. if w then b else (seen m slots).entry_bytes a c) (entry_was p i a c s.0 s.1))
    | inr other ↦
        ap (λ (e : Entry). page_bytes into.frames into.pages.pages slots e.page) other.1
        ∙ bytes_other base n g b (sound_renamed m p i n x) (fresh_some m p i n x) (fresh_unheld m p i n x) y.there y.was_free y.full slots (entry_at m.objects a c).page (names_older m p i n x a c)
        ∙ bytes_renamed m p i n x slots (entry_at m.objects a c).page
        ∙ sym (ap (λ w. if w then b else (seen m slots).entry_bytes a c) other.0)
  ]

  shown_parted : (slots : ℕ → List ℕ) → seen (metered into t) slots ≡ see_entry (seen m slots) p i ((seen m slots).entry_bytes o i)
  shown_parted slots =
      (λ k. record { entry_bytes = λ a c. entry_bytes slots a c k; kept_bytes = λ h. kept_filled base n g b (sound_renamed m p i n x) (fresh_some m p i n x) (fresh_unheld m p i n x) y.there y.was_free y.full slots h k })
      ∙ ap (see_entry (seen m slots) p i) (sym (framed_bytes m slots o i f is))

  quiet : (a c : ℕ) → is_among a hidden ≡ true → is_entry p i a c ≡ false
  quiet a c h = ⊎_elim
      (λ (yes : is_entry p i a c ≡ true). let bad : true ≡ false = sym h ∙ ap (λ k. is_among k hidden) (eqb-true a p (and_parts (a == p) (c == i) yes).0) ∙ hp in cc)
      (λ other. other)
      (cases_Bool (is_entry p i a c))

  copies_into : CopiesEntry hidden o p i m (metered into t) v v
  copies_into = record {
    copies = record {
      source = from_entry o p i;
      own = unspoken o p i;
      sound = sound_metered into t (sound_filled base n g b (sound_renamed m p i n x) (fresh_some m p i n x) (fresh_unheld m p i n x) y.there y.was_free y.full);
      sized = record { count = sized.count ∙ sym keeps_into.slots; page = sized.page };
      fits = fits_kept (is_entry p i) m (metered into t) hidden sound touches_into keeps_into.entries quiet fits;
      seen = told hidden (from_entry o p i) m (metered into t) v.slots (λ slots. masked hidden (seen m slots) (seen (metered into t) slots) o p i ho hp (shown_parted slots));
      keeps = keeps_into;
      counts = refl;
      landed = refl;
      narrow = λ a c h w. fresh_narrow m.objects p i n lp into.objects (λ d e. refl) a c w;
      pages = λ a c h e. fresh_pages m.objects p i n lp into.objects (λ d e. refl) a c e;
    };
    from = spoken o p i;
    same = λ free. let bad : true ≡ false = sym held ∙ free f is in cc;
  }

  pub copies_parted : CopiesEntry hidden o p i m after v v
  copies_parted = subst (λ k. CopiesEntry hidden o p i m k v v) (sym y.arrived) copies_into

-- calls that make room copy nothing
abbrev pub copies_room : (hidden : List ℕ) (spoken : ℕ → ℕ → Bool) (m mid : Memory) (v w : StoreView) → IsSized m v → MakesRoom hidden m mid v w → Copies hidden spoken m mid v w
copies_room hidden spoken m mid v w sized r = copies_same hidden spoken m mid v w r.sound (r.sized sized) r.fits r.seen r.keeps r.counts r.landed (λ a b h e. (r.narrows a b h).writable e) (λ a b h. (r.narrows a b h).page)

-- room was made, and then the entry got a page of its own
pub copies_moved : (hidden : List ℕ) (m mid after : Memory) (v w : StoreView) (o p i : ℕ) (q : PageId) (f : FrameId) → IsSized m v → MakesRoom hidden m mid v w → PartsFrom mid after f.0 p i → i < length (object_at m.objects p) → is_among o hidden ≡ false → is_among p hidden ≡ false → (entry_at m.objects o i).page ≡ Some q → (page_at m.pages.pages q.0).place ≡ Frame f → is_held (counts_at m.frames f.0) ≡ true → IsEmpty m p i → CopiesEntry hidden o p i m after v w
copies_moved hidden m mid after v w o p i q f sized r y lp ho hp is at held empty =
    let was : entry_frame m o i ≡ Some f.0 = ap (frame_of m.pages.pages) is ∙ ap Rattle.genie_object.specs.Memory.frame_in at in
    let first = copies_room hidden (is_entry p i) m mid v w sized r in
    let last = copies_parted hidden mid w o p i f.0 after y r.sound (r.sized sized) r.fits (omega (arith, lp, r.keeps.entries p)) ho hp (r.keeps.entry_held o i f.0 was held) (r.keeps.held f.0 held) ((r.narrows p i hp).page ∙ empty) in
    record { copies = copies_on hidden (is_entry p i) m mid after v w w first last.copies; from = last.from; same = λ free. let bad : true ≡ false = sym held ∙ free f.0 was in cc }
