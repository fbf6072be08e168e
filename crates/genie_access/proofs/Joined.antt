-- The bytes of an object, page after page.
use Rattle.std.proofs.Common.{◌≡◌, ℕ, ◌+◌, ◌-◌, ◌*◌, ◌/◌, ◌%◌, ◌<◌, ◌≤◌, ◌^◌, zero, suc, true, false, List, [], ◌++◌, refl, sym, ap, subst, arith, ◌∙◌, length, take, drop, length-drop, inl, inr}
use Rattle.std.specs.Prelude.{Option, Some, None, IfSome, flat_map, ◌==◌, ◌&&◌}
use Rattle.std.specs.List.{range_with_len}
use Rattle.std.specs.Option.{option_map}
use Rattle.std.proofs.Math.Seq.{drop-append-add}
use Rattle.std.proofs.lemmas.Nat.{mod_below}
use Rattle.std.proofs.lemmas.Bool.Decides.{eqb_tells}
use Rattle.std.proofs.Math.Bool.{and-false}
use Rattle.std.proofs.lemmas.List.{drop-append-le, take-append-le, length-replicate, append_assoc}
use Rattle.genie_base.specs.Bytes.{part}
use Rattle.genie_store.specs.StoreView.{StoreView}
use Rattle.genie_object.specs.declared.memory.Memory.{Memory}
use Rattle.genie_object.specs.declared.pages.PageId.{PageId}
use Rattle.genie_object.specs.declared.pages.PageInfo.{PageInfo}
use Rattle.genie_object.specs.declared.pages.Place.{Place}
use Rattle.genie_object.specs.declared.pages.Place.TheVariants.{Zero, Frame, Slot}
use Rattle.genie_frame.specs.declared.frame.Meters.{Meters}
use Rattle.genie_object.specs.Calls.{OnlyMoves}
use Rattle.genie_object.specs.Costs.{AreBelow, Spends, slot_gets}
use Rattle.genie_object.specs.Memory.{Seen, seen, place_bytes, page_bytes}
use Rattle.genie_object.specs.Objects.{object_at, entry_at}
use Rattle.genie_object.specs.Pages.{page_at, no_page}
use Rattle.genie_object.specs.Sound.{IsSound}
use Rattle.genie_object.specs.Touching.{is_entry}
use Rattle.genie_object.specs.Lemmas.Calls.{moves_more, moves_on}
use Rattle.genie_object.specs.Lemmas.Spending.{below_spent}
use Rattle.genie_object.specs.Lemmas.Works.{below_more}
use Rattle.genie_object.specs.Lemmas.Lookup.{frame_known, in_range, slot_taken}
use Rattle.genie_kernel.specs.Regions.{object_bytes}
use Rattle.genie_access.specs.Reading.{ReadsEntry, ReadsObject, is_of_object}
use Rattle.genie_access.proofs.Pieces.{part_on}

part_front : (x n : ℕ) (a b : List ℕ) → x + n ≤ length a → part x n (a ++ b) ≡ part x n a
part_front x n a b l = let left = length-drop x a in ap (take n) (drop-append-le x a b (omega (arith, l))) ∙ take-append-le n (drop x a) b (omega (arith, l, left))

-- bytes of one page
one_page : (f : ℕ → List ℕ) (page i pages q x n off : ℕ) → ((k : ℕ) → length (f k) ≡ page) → off ≡ page * q + x → x + n ≤ page → q < pages → part off n (flat_map f (range_with_len i pages)) ≡ part x n (f (i + q))
one_page f page i zero q x n off size e fits l = absurd (omega (arith, l))
one_page f page i (suc m) zero x n off size e fits l =
    let here : off ≡ x = omega (arith, e) in
    let same : i ≡ i + 0 = omega arith in
    ap (λ y. part y n (f i ++ flat_map f (range_with_len (i + 1) m))) here ∙ part_front x n (f i) (flat_map f (range_with_len (i + 1) m)) (omega (arith, size i, fits)) ∙ ap (λ y. part x n (f y)) same
one_page f page i (suc m) (suc r) x n off size e fits l =
    let first = size i in
    let more : page * suc r ≡ page + page * r = grind arith in
    let here : off ≡ length (f i) + (page * r + x) = omega (arith, e, first, more) in
    let same : (i + 1) + r ≡ i + suc r = omega arith in
    ap (λ y. part y n (f i ++ flat_map f (range_with_len (i + 1) m))) here
    ∙ ap (take n) (drop-append-add (f i) (flat_map f (range_with_len (i + 1) m)) (page * r + x))
    ∙ one_page f page (i + 1) m r x n (page * r + x) size refl fits (omega (arith, l)) ∙ ap (λ y. part x n (f y)) same

-- bytes of two
two_pages : (f : ℕ → List ℕ) (page pages q x a n off : ℕ) → ((k : ℕ) → length (f k) ≡ page) → off ≡ page * q + x → x + a ≡ page → n ≤ page → q + 1 < pages → part off (a + n) (flat_map f (range_with_len 0 pages)) ≡ part x a (f q) ++ part 0 n (f (q + 1))
two_pages f page pages q x a n off size e full most l =
    let all = flat_map f (range_with_len 0 pages) in
    let q0 : 0 + q ≡ q = omega arith in
    let q1 : 0 + (q + 1) ≡ q + 1 = omega arith in
    let more : page * (q + 1) ≡ page * q + page = grind arith in
    let first = one_page f page 0 pages q x a off size e (omega (arith, full)) (omega (arith, l)) ∙ ap (λ y. part x a (f y)) q0 in
    let last = one_page f page 0 pages (q + 1) 0 n (off + a) size (omega (arith, e, full, more)) (omega (arith, most)) l ∙ ap (λ y. part 0 n (f y)) q1 in
    part_on off a n all ∙ (λ k. first k ++ last k)

-- each slot of a store has a page
abbrev pub HasPages : StoreView → (ℕ → List ℕ) → Type 0
HasPages v slots = (s : ℕ) → s < v.count → length (slots s) ≡ v.page

place_size : (m : Memory) (v : StoreView) (slots : ℕ → List ℕ) (p : ℕ) (q : Place) → IsSound m → v.count ≡ length m.slots → v.page ≡ m.frames.page → HasPages v slots → (page_at m.pages.pages p).place ≡ q → length (place_bytes m.frames slots q) ≡ m.frames.page
place_size m v slots p Zero s count page h e = length-replicate m.frames.page 0
place_size m v slots p (Frame f) s count page h e = s.shaped.paged f.0 [] (omega (arith, s.shaped.filled, frame_known m p f s e))
place_size m v slots p (Slot r) s count page h e =
    let there : p < length m.pages.pages = in_range m.pages.pages p no_page (λ n. let bad : Zero ≡ Slot r = sym (ap (λ (z : PageInfo). z.place) n) ∙ e in cc) in
    let taken = slot_taken m.pages.pages m.slots p r e there s.slotted in
    let known : r < length m.slots = in_range m.slots r false (λ n. let bad : false ≡ true = sym n ∙ taken in cc) in
    h r (omega (arith, known, count)) ∙ page

pub bytes_size : (m : Memory) (v : StoreView) (slots : ℕ → List ℕ) (p : Option PageId) → IsSound m → v.count ≡ length m.slots → v.page ≡ m.frames.page → HasPages v slots → length (page_bytes m.frames m.pages.pages slots p) ≡ m.frames.page
bytes_size m v slots None s count page h = length-replicate m.frames.page 0
bytes_size m v slots (Some p) s count page h = place_size m v slots p.0 (page_at m.pages.pages p.0).place s count page h refl

-- what is read of one entry is read of the object
pub one_read : (m : Memory) (v : StoreView) (o q x n off : ℕ) (a b : List ℕ) → IsSound m → v.count ≡ length m.slots → v.page ≡ m.frames.page → IfSome v.slots (HasPages v) → off ≡ m.frames.page * q + x → x + n ≤ m.frames.page → q < length (object_at m.objects o) → ReadsEntry m v o q x n a b → ReadsObject m v o off n a b
one_read m v o q x n off a b s count page paged e fits l reads = by v.slots paged reads
  where
    pages : ℕ
    pages = length (object_at m.objects o)

    by : (t : Option (ℕ → List ℕ)) → IfSome t (HasPages v) → IfSome t (λ slots. b ≡ a ++ part x n ((seen m slots).entry_bytes o q)) → IfSome t (λ slots. b ≡ a ++ part off n (object_bytes (seen m slots).entry_bytes o (length (object_at m.objects o))))
    by None h r = tt
    by (Some slots) h r =
        let q0 : 0 + q ≡ q = omega arith in
        r ∙ ap (λ z. a ++ z) (sym (one_page ((seen m slots).entry_bytes o) m.frames.page 0 (length (object_at m.objects o)) q x n off (λ k. bytes_size m v slots (entry_at m.objects o k).page s count page h) e fits l ∙ ap (λ y. part x n ((seen m slots).entry_bytes o y)) q0))

-- so is what is read of two
pub two_read : (m : Memory) (v : StoreView) (o q x a n off len : ℕ) (from mid into : List ℕ) → IsSound m → v.count ≡ length m.slots → v.page ≡ m.frames.page → IfSome v.slots (HasPages v) → off ≡ m.frames.page * q + x → x + a ≡ m.frames.page → n ≤ m.frames.page → a + n ≡ len → q + 1 < length (object_at m.objects o) → ReadsEntry m v o q x a from mid → ReadsEntry m v o (q + 1) 0 n mid into → ReadsObject m v o off len from into
two_read m v o q x a n off len from mid into s count page paged e full most sum l reads more = by v.slots paged reads more
  where
    by : (t : Option (ℕ → List ℕ)) → IfSome t (HasPages v) → IfSome t (λ slots. mid ≡ from ++ part x a ((seen m slots).entry_bytes o q)) → IfSome t (λ slots. into ≡ mid ++ part 0 n ((seen m slots).entry_bytes o (q + 1))) → IfSome t (λ slots. into ≡ from ++ part off len (object_bytes (seen m slots).entry_bytes o (length (object_at m.objects o))))
    by None h r z = tt
    by (Some slots) h r z =
        let f = (seen m slots).entry_bytes o in
        z ∙ ap (λ y. y ++ part 0 n (f (q + 1))) r ∙ append_assoc from (part x a (f q)) (part 0 n (f (q + 1)))
        ∙ ap (λ y. from ++ y) (sym (two_pages f m.frames.page (length (object_at m.objects o)) q x a n off (λ k. bytes_size m v slots (entry_at m.objects o k).page s count page h) e full most l))
        ∙ ap (λ y. from ++ part off y (flat_map f (range_with_len 0 (length (object_at m.objects o))))) sum

-- what is read after calls that only move pages was so before
pub read_before : (old mid : Memory) (v w : StoreView) (o i x n : ℕ) (a b : List ℕ) → option_map (seen mid) w.slots ≡ option_map (seen old) v.slots → ReadsEntry mid w o i x n a b → ReadsEntry old v o i x n a b
read_before old mid v w o i x n a b same reads = by v.slots w.slots same reads
  where
    by : (t u : Option (ℕ → List ℕ)) → option_map (seen mid) u ≡ option_map (seen old) t → IfSome u (λ slots. b ≡ a ++ part x n ((seen mid slots).entry_bytes o i)) → IfSome t (λ slots. b ≡ a ++ part x n ((seen old slots).entry_bytes o i))
    by None u e r = tt
    by (Some t) None e r = absurd (cc)
    by (Some t) (Some u) e r = let shown : seen mid u ≡ seen old t = cc in r ∙ ap (λ (z : Seen). a ++ part x n (z.entry_bytes o i)) shown

entry_outside : (o i a b : ℕ) → is_of_object o a b ≡ false → is_entry o i a b ≡ false
entry_outside o i a b e = ap (λ z. z && (b == i)) e

pub moves_object : (o i : ℕ) (a b : Memory) (v w : StoreView) → OnlyMoves (is_entry o i) a b v w → OnlyMoves (is_of_object o) a b v w
moves_object o i a b v w x = moves_more (is_entry o i) (is_of_object o) a b v w (λ c d e. entry_outside o i c d e) x

pub moves_twice : (o i j : ℕ) (a b c : Memory) (u v w : StoreView) → OnlyMoves (is_entry o i) a b u v → OnlyMoves (is_entry o j) b c v w → OnlyMoves (is_of_object o) a c u w
moves_twice o i j a b c u v w x y = moves_on (is_of_object o) a b c u v w (moves_object o i a b u v x) (moves_object o j b c v w y)

-- where a range begins, and whether it goes on in the next page
pub first_inside : (off page n count : ℕ) → 0 < page → 1 ≤ n → off + n ≤ page * count → off / page < count
first_inside off page n count p l w = let h : off < page * count = omega (arith, l, w) in grind (arith, h, p)

pub next_inside : (off page n count : ℕ) → 0 < page → off + n ≤ page * count → page - off % page < n → off / page + 1 < count
next_inside off page n count p w l =
    let is : page * (off / page) + off % page ≡ off = omega (arith, p) in
    let below : off % page < page = omega (arith, p) in
    let more : page * (off / page + 1) ≡ page * (off / page) + page = grind arith in
    let h : page * (off / page + 1) < page * count = omega (arith, is, below, more, l, w) in
    grind (arith, h, p)

pub place_split : (off p page : ℕ) → p ≡ page → 0 < p → off ≡ page * (off / p) + off % p
place_split off p page e pos = subst (λ z. off ≡ z * (off / p) + off % p) e (omega (arith, pos))

-- a range that ends in its first page
pub range_one : (m : Memory) (v : StoreView) (o off n p first : ℕ) (a b : List ℕ) → IsSound m → v.count ≡ length m.slots → v.page ≡ m.frames.page → IfSome v.slots (HasPages v) → p ≡ m.frames.page → 1 ≤ n → n ≤ m.frames.page → off + n ≤ m.frames.page * length (object_at m.objects o) → first ≤ p - off % p → first ≡ n → ReadsEntry m v o (off / p) (off % p) first a b → ReadsObject m v o off n a b
range_one m v o off n p first a b s count page paged e some most inside low same reads =
    let pos : 0 < p = omega (arith, e, some, most) in
    let below = mod_below off p pos in
    one_read m v o (off / p) (off % p) n off a b s count page paged (place_split off p m.frames.page e pos) (omega (arith, low, same, below, e)) (subst (λ z. off / z < length (object_at m.objects o)) (sym e) (first_inside off m.frames.page n (length (object_at m.objects o)) (omega (arith, some, most)) some inside)) (subst (λ z. ReadsEntry m v o (off / p) (off % p) z a b) same reads)

-- a range that goes on in the next page
pub range_two : (old mid : Memory) (v w : StoreView) (o off n p first : ℕ) (a b c : List ℕ) → IsSound old → v.count ≡ length old.slots → v.page ≡ old.frames.page → IfSome v.slots (HasPages v) → p ≡ old.frames.page → 1 ≤ n → n ≤ old.frames.page → off + n ≤ old.frames.page * length (object_at old.objects o) → first ≡ p - off % p → first < n → option_map (seen mid) w.slots ≡ option_map (seen old) v.slots → ReadsEntry old v o (off / p) (off % p) first a b → ReadsEntry mid w o (off / p + 1) 0 (n - first) b c → ReadsObject old v o off n a c
range_two old mid v w o off n p first a b c s count page paged e some most inside low less same reads more =
    let pos : 0 < p = omega (arith, e, some, most) in
    let below = mod_below off p pos in
    let goes : p - off % p < n = omega (arith, low, less) in
    let past : old.frames.page - off % old.frames.page < n = subst (λ z. z - off % z < n) e goes in
    two_read old v o (off / p) (off % p) first (n - first) off n a b c s count page paged (place_split off p old.frames.page e pos) (omega (arith, low, below, e)) (omega (arith, most)) (omega (arith, less)) (subst (λ z. off / z + 1 < length (object_at old.objects o)) (sym e) (next_inside off old.frames.page n (length (object_at old.objects o)) (omega (arith, some, most)) inside past)) reads (read_before old mid v w o (off / p + 1) 0 (n - first) b c same more)

pub gets_one : (q : Place) → slot_gets q ≤ 1
gets_one Zero = omega arith
gets_one (Frame f) = omega arith
gets_one (Slot s) = omega arith

-- the meters still have room for another page
pub meters_left : (b g n : ℕ) (old new : Meters) → AreBelow (2 ^ 63 + 2 ^ 20) old → Spends (b + n) g 0 1 old new → b ≤ 4096 → n ≤ 4096 → g ≤ 1 → AreBelow (2 ^ 64 - 2 ^ 20) new
meters_left b g n old new below s lb ln lg = below_more (2 ^ 63 + 2 ^ 20 + (b + n) + g + 0 + 1) (2 ^ 64 - 2 ^ 20) new (omega (arith, lb, ln, lg)) (below_spent (2 ^ 63 + 2 ^ 20) (b + n) g 0 1 old new below s)

-- a call on one entry that gives it no leave to be written gives none to any of its object
pub narrow_one : (o q : ℕ) (a b : Memory) (v w : StoreView) → OnlyMoves (is_entry o q) a b v w → ((entry_at b.objects o q).writable ≡ true → (entry_at a.objects o q).writable ≡ true) → (i : ℕ) → (entry_at b.objects o i).writable ≡ true → (entry_at a.objects o i).writable ≡ true
narrow_one o q a b v w x here i = elim (eqb_tells i q) [
  | inl e ↦ subst (λ z. (entry_at b.objects o z).writable ≡ true → (entry_at a.objects o z).writable ≡ true) (sym e.1) here
  | inr e ↦ (x.touches.entries o i (ap (λ z. (o == o) && z) e.0 ∙ and-false (o == o))).writable
]
