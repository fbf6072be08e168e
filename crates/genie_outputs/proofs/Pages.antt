-- The bytes of the pages that a range touches.
use Rattle.std.proofs.Common.{◌≡◌, ℕ, zero, suc, ◌+◌, ◌-◌, ◌*◌, ◌/◌, ◌%◌, ◌<◌, ◌≤◌, List, [], ◌∷◌, ◌++◌, refl, sym, ap, ap₂, arith, rules, ◌∙◌, length, take, drop, length-drop, length-append, get_or, true, false}
use Rattle.std.specs.Prelude.{Option, Some, None, flat_map, replicate, ◌==◌, if◌then◌else◌}
use Rattle.std.specs.List.{range_with_len}
use Rattle.std.proofs.Math.Nat.{div-add-mod}
use Rattle.std.proofs.Math.Seq.{drop-append-add}
use Rattle.std.proofs.lemmas.Grind.{flat_map-append}
use Rattle.std.proofs.lemmas.List.{drop-append-le, take-append-le, length-replicate}
use Rattle.std.proofs.lemmas.List.FromFn.{length-range_with_len}
use Rattle.genie_base.specs.Bytes.{part}
use Rattle.genie_base.specs.Counts.{span}
use Rattle.genie_frame.specs.FrameTable.{FrameTable, bytes_at}
use Rattle.genie_store.specs.StoreView.{StoreView}
use Rattle.genie_object.specs.declared.memory.Memory.{Memory}
use Rattle.genie_object.specs.declared.pages.PageId.{PageId}
use Rattle.genie_object.specs.declared.pages.PageInfo.{PageInfo}
use Rattle.genie_object.specs.declared.pages.Place.{Place}
use Rattle.genie_object.specs.declared.pages.Place.TheVariants.{Zero, Frame, Slot}
use Rattle.genie_object.specs.Memory.{place_bytes, page_bytes}
use Rattle.genie_object.specs.Pages.{page_at, no_page}
use Rattle.genie_object.specs.Sound.{IsSound, IsSized}
use Rattle.genie_object.specs.Lemmas.Lookup.{frame_known, in_range, slot_taken}
use Rattle.genie_plan.specs.Plans.{joined}

split_range : (i m n : ℕ) → range_with_len i (m + n) ≡ range_with_len i m ++ range_with_len (i + m) n
split_range i zero n = let a : zero + n ≡ n = omega arith in let b : i + 0 ≡ i = omega arith in λ k. range_with_len (sym b k) (a k)
split_range i (suc m) n =
    let a : suc m + n ≡ suc (m + n) = omega arith in
    let b : i + 1 + m ≡ i + suc m = omega arith in
    ap (range_with_len i) a ∙ ap (λ l. i ∷ l) (split_range (i + 1) m n) ∙ (λ k. i ∷ (range_with_len (i + 1) m ++ range_with_len (b k) n))

pages_length : (f : ℕ → List ℕ) (page i n : ℕ) → ((k : ℕ) → length (f k) ≡ page) → length (flat_map f (range_with_len i n)) ≡ page * n
pages_length f page i zero h = omega arith
pages_length f page i (suc n) h =
    let ih = pages_length f page (i + 1) n h in
    let one = h i in
    let all : length (f i ++ flat_map f (range_with_len (i + 1) n)) ≡ length (f i) + length (flat_map f (range_with_len (i + 1) n)) = length-append (f i) (flat_map f (range_with_len (i + 1) n)) in
    grind (arith, ih, one, all)

part_mid : (n len first : ℕ) (a b c : List ℕ) → (0 < len → first + len ≤ length b) → n ≡ length a + first → part first len b ≡ part n len (a ++ (b ++ c))
part_mid n zero first a b c h e = refl
part_mid n (suc len) first a b c h e =
    let w = h (omega arith) in
    let left = length-drop first b in
    rw e (sym (ap (take (suc len)) (drop-append-add a (b ++ c) first ∙ drop-append-le first b c (omega arith)) ∙ take-append-le (suc len) (drop first b) c (omega arith)))

-- a range of the pages that it touches is that range of all pages
pub part_of_pages : (f : ℕ → List ℕ) (page x len count pages : ℕ) → ((k : ℕ) → length (f k) ≡ page) → 0 < page → x / page + count ≤ pages → (0 < len → x % page + len ≤ page * count) → part (x % page) len (flat_map f (range_with_len (x / page) count)) ≡ part x len (flat_map f (range_with_len 0 pages))
part_of_pages f page x len count pages size some within fits =
    let i = x / page in
    let rest = pages - (i + count) in
    let split : pages ≡ i + (count + rest) = omega (arith, within) in
    let start : 0 + i ≡ i = omega arith in
    let parts = ap (λ k. flat_map f (range_with_len 0 k)) split ∙ ap (flat_map f) (split_range 0 i (count + rest) ∙ ap (λ l. range_with_len 0 i ++ l) (split_range (0 + i) count rest)) ∙ flat_map-append f (range_with_len 0 i) (range_with_len (0 + i) count ++ range_with_len (0 + i + count) rest) ∙ ap (λ l. flat_map f (range_with_len 0 i) ++ l) (flat_map-append f (range_with_len (0 + i) count) (range_with_len (0 + i + count) rest)) in
    let before : length (flat_map f (range_with_len 0 i)) ≡ page * i = pages_length f page 0 i size in
    let middle : length (flat_map f (range_with_len (0 + i) count)) ≡ page * count = pages_length f page (0 + i) count size in
    let place : x ≡ page * (x / page) + x % page = sym (div-add-mod x page) in
    ap (λ k. part (x % page) len (flat_map f (range_with_len k count))) (sym start)
    ∙ part_mid x len (x % page) (flat_map f (range_with_len 0 i)) (flat_map f (range_with_len (0 + i) count)) (flat_map f (range_with_len (0 + i + count) rest)) (λ p. let w = fits p in omega (arith, middle, w)) (omega (arith, before, place))
    ∙ ap (part x len) (sym parts)

-- the same bytes for each of as many numbers
same_for_each : (z : List ℕ) (xs ys : List ℕ) → length xs ≡ length ys → flat_map (λ (f : ℕ). z) xs ≡ flat_map (λ (f : ℕ). z) ys
same_for_each z [] [] e = refl
same_for_each z [] (y ∷ ys) e = absurd (omega (arith, e))
same_for_each z (x ∷ xs) [] e = absurd (omega (arith, e))
same_for_each z (x ∷ xs) (y ∷ ys) e = ap (λ l. z ++ l) (same_for_each z xs ys (omega (arith, e)))

-- so the zeros of a plan's frames are the region's
pub zeros_of_pages : (frames : List ℕ) (page x len pages : ℕ) → 0 < page → x / page + length frames ≤ pages → (0 < len → x % page + len ≤ page * length frames) → part (x % page) len (flat_map (λ (f : ℕ). replicate page 0) frames) ≡ part x len (flat_map (λ (i : ℕ). replicate page 0) (range_with_len 0 pages))
zeros_of_pages frames page x len pages some within fits =
    ap (part (x % page) len) (same_for_each (replicate page 0) frames (range_with_len (x / page) (length frames)) (sym (length-range_with_len (x / page) (length frames))))
    ∙ part_of_pages (λ i. replicate page 0) page x len (length frames) pages (λ k. length-replicate page 0) some within fits

-- frames that show their bytes, one after the other
pub shown_joined : (kept : ℕ → List ℕ) (t : FrameTable) (frames : List ℕ) → ((k : ℕ) → k < length frames → kept (get_or frames k 0) ≡ bytes_at t (get_or frames k 0)) → flat_map kept frames ≡ joined t.bytes frames
shown_joined kept t [] h = refl
shown_joined kept t (f ∷ frames) h = ap₂ ◌++◌ (h 0 (omega arith)) (shown_joined kept t frames (λ k l. h (suc k) (omega (arith, l))))

-- each slot of a store has a page
abbrev pub HasPages : StoreView → (ℕ → List ℕ) → Type 0
HasPages v slots = (s : ℕ) → s < v.count → length (slots s) ≡ v.page

place_size : (m : Memory) (v : StoreView) (slots : ℕ → List ℕ) (p : ℕ) (q : Place) → IsSound m → IsSized m v → HasPages v slots → (page_at m.pages.pages p).place ≡ q → length (place_bytes m.frames slots q) ≡ m.frames.page
place_size m v slots p Zero s z h e = length-replicate m.frames.page 0
place_size m v slots p (Frame f) s z h e = s.shaped.paged f.0 [] (omega (arith, s.shaped.filled, frame_known m p f s e))
place_size m v slots p (Slot r) s z h e =
    let there : p < length m.pages.pages = in_range m.pages.pages p no_page (λ n. let bad : Zero ≡ Slot r = sym (ap (λ (z : PageInfo). z.place) n) ∙ e in cc) in
    let taken = slot_taken m.pages.pages m.slots p r e there s.slotted in
    let known : r < length m.slots = in_range m.slots r false (λ n. let bad : false ≡ true = sym n ∙ taken in cc) in
    h r (omega (arith, known, z.count)) ∙ z.page

-- an entry shows a page of bytes
pub bytes_size : (m : Memory) (v : StoreView) (slots : ℕ → List ℕ) (p : Option PageId) → IsSound m → IsSized m v → HasPages v slots → length (page_bytes m.frames m.pages.pages slots p) ≡ m.frames.page
bytes_size m v slots None s z h = length-replicate m.frames.page 0
bytes_size m v slots (Some p) s z h = place_size m v slots p.0 (page_at m.pages.pages p.0).place s z h refl

page_below : (x page pages : ℕ) → 0 < page → x < page * pages → x / page < pages
page_below x page pages some l = grind (arith, l, some)

-- the pages that a range inside touches are inside
pub span_within : (page x len pages : ℕ) → 0 < page → x < page * pages → x + len ≤ page * pages → x / page + span page x len ≤ pages
span_within page x len pages some inside fits = elim (len == 0) as (λ b. (len == 0) ≡ b → x / page + (if b then 0 else (x + len - 1) / page - x / page + 1) ≤ pages) [
  | true ↦ λ e. let first = page_below x page pages some inside in omega (arith, first)
  | false ↦ λ e.
      let more : 0 < len = grind (arith, rules, e) in
      let first = page_below x page pages some inside in
      let last = page_below (x + len - 1) page pages some (omega (arith, fits, more)) in
      omega (arith, first, last)
] refl
