-- What is seen after a landing.
use Rattle.std.proofs.Common.{◌≡◌, ℕ, zero, suc, ◌+◌, ◌-◌, ◌*◌, ◌<◌, ◌≤◌, true, List, [], ◌∷◌, ◌++◌, length, take, drop, refl, ap, sym, ◌∙◌, arith, rules, subst, get_or, length-take, length-drop, inl, inr, ◌⊎◌, length-append}
use Rattle.std.specs.Prelude.{flat_map, Option, Some, None, if◌then◌else◌, replicate}
use Rattle.std.specs.List.{range_with_len}
use Rattle.std.proofs.lemmas.Grind.{flat_map-append}
use Rattle.std.proofs.Math.Seq.{drop-append-add}
use Rattle.std.proofs.lemmas.List.{drop-append-le, take-append-le, length-replicate}
use Rattle.std.proofs.lemmas.Bool.{cases_lt}
use Rattle.genie_base.specs.Bytes.{overlaid, part}
use Rattle.genie_base.specs.Lemmas.Overlaid.{overlaid-nothing}
use Rattle.genie_base.specs.Lemmas.Places.{same_or, past_end, any_default}
use Rattle.genie_frame.specs.declared.frame.Owner.TheVariants.{Free, Page}
use Rattle.genie_frame.specs.declared.frame.Counts.{Counts}
use Rattle.genie_frame.specs.FrameTable.{FrameTable, owner_at, counts_at, bytes_at, is_held, no_counts}
use Rattle.genie_object.specs.declared.pages.PageId.{PageId}
use Rattle.genie_object.specs.declared.pages.PageInfo.{PageInfo}
use Rattle.genie_object.specs.declared.pages.Place.{Place}
use Rattle.genie_object.specs.declared.pages.Place.TheVariants.{Zero, Frame, Slot}
use Rattle.genie_object.specs.declared.memory.Memory.{Memory}
use Rattle.genie_object.specs.Pages.{page_at}
use Rattle.genie_object.specs.Objects.{entry_at}
use Rattle.genie_object.specs.Memory.{seen, is_kept, entry_frame, frame_of, frame_in, page_bytes, place_bytes}
use Rattle.genie_object.specs.Sound.{IsSound}
use Rattle.genie_plan.specs.Plans.{joined, range_bytes, times, OnlyRange}
use Rattle.genie_plan.specs.Lemmas.Laid.{overlaid-left, overlaid-right, overlaid-part}
use Rattle.genie_plan.specs.Lemmas.Ranges.{times-cons, other_num}
use Rattle.genie_object.specs.Lemmas.Naming.{named_once}
use Rattle.genie_plan.specs.Landings.{ReadsRegion, entries_bytes, frames_bytes, Lands, AreOfEntries, ShowsInRegion, ShowsInFrames, ShowsElsewhere, HeldOnce, LandsSoundly}

-- the whole of the frames after a landing
pub whole_landed : (frames : List ℕ) (first len at : ℕ) (taken : List ℕ) (t u : FrameTable) → OnlyRange frames first len t u → range_bytes u frames first len ≡ overlaid at taken (range_bytes t frames first len) → joined u.bytes frames ≡ overlaid (first + at) (take (len - at) taken) (joined t.bytes frames)
whole_landed frames first len at taken t u x e = x.range ∙ ap (λ xs. overlaid first xs (joined t.bytes frames)) e ∙ overlaid-part first len at (len - at) (first + at) taken (joined t.bytes frames) refl refl

-- where a page is, and the bytes of an entry
pub record PageIn (m : Memory) (o i f : ℕ) : Type 0 where
  pub number : PageId
  pub is_page : (entry_at m.objects o i).page ≡ Some number
  pub is_place : (page_at m.pages.pages number.0).place ≡ Frame (record { 0 = f })

page_found : (pages : List PageInfo) (q : Option PageId) (f : ℕ) (P : Type 0) → frame_of pages q ≡ Some f → ((p : PageId) → q ≡ Some p → (page_at pages p.0).place ≡ Frame (record { 0 = f }) → P) → P
page_found pages None f P e k = cc
page_found pages (Some p) f P e k = by_place (page_at pages p.0).place refl
  where
    by_place : (place : Place) → (page_at pages p.0).place ≡ place → P
    by_place Zero s = let bad : None ≡ Some f = sym (ap frame_in s) ∙ e in cc
    by_place (Frame g) s = let two : Some g.0 ≡ Some f = sym (ap frame_in s) ∙ e in let same : g.0 ≡ f = cc in k p refl (s ∙ (λ j. Frame (record { 0 = same j })))
    by_place (Slot r) s = let bad : None ≡ Some f = sym (ap frame_in s) ∙ e in cc

pub page_in : (m : Memory) (o i f : ℕ) → entry_frame m o i ≡ Some f → PageIn m o i f
page_in m o i f e = page_found m.pages.pages (entry_at m.objects o i).page f (PageIn m o i f) e (λ p a b. record { number = p; is_page = a; is_place = b })

pub entry_shown : (m : Memory) (slots : ℕ → List ℕ) (o i f : ℕ) → entry_frame m o i ≡ Some f → (seen m slots).entry_bytes o i ≡ bytes_at m.frames f
entry_shown m slots o i f e = let x = page_in m o i f e in rw (x.is_page, x.is_place) refl

held_input : (c : Counts) → 0 < c.input → is_held c ≡ true
held_input c h = grind (arith, rules)

pub held_once : HeldOnce
held_once m a b o i f s h e d =
    let x = page_in m a b f e in
    let y = page_in m o i f d in
    let own = s.placed.in_frame x.number.0 (record { 0 = f }) x.is_place in
    let two : Page x.number.0 ≡ Page y.number.0 = sym own ∙ s.placed.in_frame y.number.0 (record { 0 = f }) y.is_place in
    let number : x.number.0 ≡ y.number.0 = cc in
    let same : x.number ≡ y.number = λ k. record { 0 = number k } in
    named_once m.pages.pages m.objects a b o i x.number s.shared (s.held.alone f x.number.0 own (held_input (counts_at m.frames f) h)) x.is_page (y.is_page ∙ ap Some (sym same))

module _ (old new : Memory) (first len at : ℕ) (frames taken : List ℕ) (slots : ℕ → List ℕ) (x : Lands frames first len at taken old new) where
  same_pages : new.pages.pages ≡ old.pages.pages
  same_pages k = (x.pages k).pages

  other_place : (place : Place) → ((f : ℕ) → frame_in place ≡ Some f → times frames f ≡ 0) → place_bytes new.frames slots place ≡ place_bytes old.frames slots place
  other_place Zero h = ap (λ n. replicate n 0) x.only.page
  other_place (Frame f) h = x.only.others f.0 (h f.0 refl)
  other_place (Slot s) h = refl

  other_bytes : (q : Option PageId) → ((f : ℕ) → frame_of old.pages.pages q ≡ Some f → times frames f ≡ 0) → page_bytes new.frames old.pages.pages slots q ≡ page_bytes old.frames old.pages.pages slots q
  other_bytes None h = ap (λ n. replicate n 0) x.only.page
  other_bytes (Some p) h = other_place (page_at old.pages.pages p.0).place h

  pub entry_kept : (a b : ℕ) → ((f : ℕ) → entry_frame old a b ≡ Some f → times frames f ≡ 0) → (seen new slots).entry_bytes a b ≡ (seen old slots).entry_bytes a b
  entry_kept a b h = (λ k. page_bytes new.frames (same_pages k) slots (entry_at (x.objects k) a b).page) ∙ other_bytes (entry_at old.objects a b).page h

  pub frame_kept : (f : ℕ) → times frames f ≡ 0 → (seen new slots).kept_bytes f ≡ (seen old slots).kept_bytes f
  frame_kept f h = λ k. if is_kept (get_or (x.only.owners k) f Free) (get_or (x.only.counts k) f no_counts) then x.only.others f h k else []

  pub elsewhere : ShowsElsewhere frames old new slots
  elsewhere = record { entries = entry_kept; frames_kept = frame_kept }

  pub frame_still : (a b f : ℕ) → entry_frame old a b ≡ Some f → entry_frame new a b ≡ Some f
  frame_still a b f e = (λ k. frame_of (same_pages k) (entry_at (x.objects k) a b).page) ∙ e

-- the frames of entries, one after the other
entries_joined : (frames : List ℕ) (m : Memory) (slots : ℕ → List ℕ) (o i : ℕ) → AreOfEntries m o i frames → entries_bytes (seen m slots) o i (length frames) ≡ joined m.frames.bytes frames
entries_joined [] m slots o i h = refl
entries_joined (f ∷ frames) m slots o i h =
    let here : i + 0 ≡ i = omega arith in
    let one = entry_shown m slots o i f (subst (λ n. entry_frame m o n ≡ Some f) here (h 0 (omega arith))) in
    let rest = entries_joined frames m slots o (i + 1) (λ k l. subst (λ n. entry_frame m o n ≡ Some (get_or frames k 0)) (omega arith) (h (suc k) (omega arith))) in
    λ k. one k ++ rest k

split_range : (i m n : ℕ) → range_with_len i (m + n) ≡ range_with_len i m ++ range_with_len (i + m) n
split_range i zero n = let a : zero + n ≡ n = omega arith in let b : i + 0 ≡ i = omega arith in λ k. range_with_len (sym b k) (a k)
split_range i (suc m) n =
    let a : suc m + n ≡ suc (m + n) = omega arith in
    let b : i + 1 + m ≡ i + suc m = omega arith in
    ap (range_with_len i) a ∙ ap (λ l. i ∷ l) (split_range (i + 1) m n) ∙ (λ k. i ∷ (range_with_len (i + 1) m ++ range_with_len (b k) n))

same_entries : (f g : ℕ → List ℕ) (i n : ℕ) → ((k : ℕ) → k < n → f (i + k) ≡ g (i + k)) → flat_map f (range_with_len i n) ≡ flat_map g (range_with_len i n)
same_entries f g i zero h = refl
same_entries f g i (suc n) h =
    let here : i + 0 ≡ i = omega arith in
    let one : f i ≡ g i = subst (λ j. f j ≡ g j) here (h 0 (omega arith)) in
    let rest = same_entries f g (i + 1) n (λ k l. subst (λ j. f j ≡ g j) (omega arith) (h (suc k) (omega arith))) in
    λ k. one k ++ rest k

entries_length : (f : ℕ → List ℕ) (page i n : ℕ) → ((k : ℕ) → length (f k) ≡ page) → length (flat_map f (range_with_len i n)) ≡ page * n
entries_length f page i zero h = omega arith
entries_length f page i (suc n) h =
    let ih = entries_length f page (i + 1) n h in
    let one = h i in
    let all : length (f i ++ flat_map f (range_with_len (i + 1) n)) ≡ length (f i) + length (flat_map f (range_with_len (i + 1) n)) = length-append (f i) (flat_map f (range_with_len (i + 1) n)) in
    grind (arith, ih, one, all)

-- the bytes of an entry are a page
place_size : (m : Memory) (slots : ℕ → List ℕ) (q : PageId) (place : Place) → IsSound m → ((s : ℕ) → length (slots s) ≡ m.frames.page) → (page_at m.pages.pages q.0).place ≡ place → length (place_bytes m.frames slots place) ≡ m.frames.page
place_size m slots q Zero s h e = length-replicate m.frames.page 0
place_size m slots q (Slot r) s h e = h r
place_size m slots q (Frame f) s h e =
    let own = s.placed.in_frame q.0 f e in
    let there : f.0 < length m.frames.owners = elim (cases_lt f.0 (length m.frames.owners)) [ inl l ↦ l | inr l ↦ let bad : Page q.0 ≡ Free = sym own ∙ past_end m.frames.owners f.0 Free l in cc ] in
    s.shaped.paged f.0 [] (omega (arith, s.shaped.filled, there))

bytes_size : (m : Memory) (slots : ℕ → List ℕ) (q : Option PageId) → IsSound m → ((s : ℕ) → length (slots s) ≡ m.frames.page) → length (page_bytes m.frames m.pages.pages slots q) ≡ m.frames.page
bytes_size m slots None s h = length-replicate m.frames.page 0
bytes_size m slots (Some p) s h = place_size m slots p (page_at m.pages.pages p.0).place s h refl

pub entry_size : (m : Memory) (slots : ℕ → List ℕ) (o i : ℕ) → IsSound m → ((s : ℕ) → length (slots s) ≡ m.frames.page) → length ((seen m slots).entry_bytes o i) ≡ m.frames.page
entry_size m slots o i s h = bytes_size m slots (entry_at m.objects o i).page s h

-- three parts, and bytes stored in the second
overlaid_mid : (y x : ℕ) (new a b c : List ℕ) → (x + length new ≤ length b) ⊎ (new ≡ []) → y ≡ length a + x → a ++ (overlaid x new b ++ c) ≡ overlaid y new (a ++ (b ++ c))
overlaid_mid y x new a b c (inl h) e = ap (λ l. a ++ l) (sym (overlaid-left x new b c h)) ∙ sym (overlaid-right x y new a (b ++ c) e)
overlaid_mid y x new a b c (inr h) e = (λ k. a ++ (overlaid x (h k) b ++ c)) ∙ ap (λ l. a ++ (l ++ c)) (overlaid-nothing x b) ∙ sym (overlaid-nothing y (a ++ (b ++ c))) ∙ (λ k. overlaid y (sym h k) (a ++ (b ++ c)))

none_or : (n : ℕ) → (n ≡ 0) ⊎ (0 < n)
none_or zero = inl refl
none_or (suc n) = inr (omega arith)

new_fits : (page n first len at : ℕ) (taken : List ℕ) → (0 < len → first + len ≤ page * n) → (first + at + length (take (len - at) taken) ≤ page * n) ⊎ (take (len - at) taken ≡ [])
new_fits page n first len at taken w = elim (cases_lt len at) [
  | inl h ↦ let none : len - at ≡ 0 = omega arith in inr (ap (λ m. take m taken) none)
  | inr h ↦ elim (none_or len) [
    | inl z ↦ let none : len - at ≡ 0 = omega arith in inr (ap (λ m. take m taken) none)
    | inr p ↦ let w' = w p in inl (omega (arith, length-take (len - at) taken))
  ]
]

outside : (b i n k : ℕ) → k < n → b ≡ i + k → b < i ⊎ i + n ≤ b → ⊥
outside b i n k l e (inl h) = omega arith
outside b i n k l e (inr h) = omega arith

-- a place of the list of frames
pub times_some : (frames : List ℕ) (f : ℕ) → 0 < times frames f → (k : ℕ) × (k < length frames) × (get_or frames k 0 ≡ f)
times_some [] f h = absurd (omega arith)
times_some (g ∷ frames) f h = elim (same_or g f) [
  | inl e ↦ (zero, omega arith, e)
  | inr n ↦ let rest = times_some frames f (omega (arith, times-cons g f frames, other_num g f n)) in (suc rest.0, omega (arith, rest.1), rest.2)
]

short_by : {P : Type 0} (a b c : ℕ) → b ≡ c → (a ≤ b) ⊎ P → (a ≤ c) ⊎ P
short_by a b c e (inl h) = inl (omega arith)
short_by a b c e (inr p) = inr p

pub in_region : ShowsInRegion
in_region old new o i pages first len at frames taken slots s ready x of_entries within told =
    let n = length frames in
    let rest = pages - (i + n) in
    let f = (seen old slots).entry_bytes o in
    let g = (seen new slots).entry_bytes o in
    let split : pages ≡ i + (n + rest) = omega arith in
    let parts = (λ (h : ℕ → List ℕ). ap (λ m. flat_map h (range_with_len 0 m)) split ∙ ap (flat_map h) (split_range 0 i (n + rest) ∙ ap (λ l. range_with_len 0 i ++ l) (split_range (0 + i) n rest)) ∙ flat_map-append h (range_with_len 0 i) (range_with_len (0 + i) n ++ range_with_len (0 + i + n) rest) ∙ ap (λ l. flat_map h (range_with_len 0 i) ++ l) (flat_map-append h (range_with_len (0 + i) n) (range_with_len (0 + i + n) rest))) in
    let start : 0 + i ≡ i = omega arith in
    let out = (λ (b : ℕ) (apart : b < i ⊎ i + n ≤ b). entry_kept old new first len at frames taken slots x o b (λ w e. elim (none_or (times frames w)) [
      | inl z ↦ z
      | inr p ↦
          let t = times_some frames w p in
          let of_k : entry_frame old o (i + t.0) ≡ Some w = of_entries t.0 t.1 ∙ ap Some t.2 in
          let input : 0 < (counts_at old.frames w).input = subst (λ v. 0 < (counts_at old.frames v).input) t.2 (ready.out t.0 t.1) in
          let one = held_once old o b o (i + t.0) w s input e of_k in
          absurd (outside b i n t.0 t.1 one.1 apart)
    ])) in
    let low : flat_map g (range_with_len 0 i) ≡ flat_map f (range_with_len 0 i) = same_entries g f 0 i (λ k l. out (0 + k) (inl (omega arith))) in
    let high : flat_map g (range_with_len (0 + i + n) rest) ≡ flat_map f (range_with_len (0 + i + n) rest) = same_entries g f (0 + i + n) rest (λ k l. out (0 + i + n + k) (inr (omega arith))) in
    let now : flat_map g (range_with_len (0 + i) n) ≡ joined new.frames.bytes frames = ap (λ m. flat_map g (range_with_len m n)) start ∙ entries_joined frames new slots o i (λ k l. frame_still old new first len at frames taken slots x o (i + k) _ (of_entries k l)) in
    let was : flat_map f (range_with_len (0 + i) n) ≡ joined old.frames.bytes frames = ap (λ m. flat_map f (range_with_len m n)) start ∙ entries_joined frames old slots o i of_entries in
    let new_bytes : List ℕ = take (len - at) taken in
    let mid : flat_map g (range_with_len (0 + i) n) ≡ overlaid (first + at) new_bytes (flat_map f (range_with_len (0 + i) n)) = now ∙ whole_landed frames first len at taken old.frames new.frames x.only x.content ∙ ap (overlaid (first + at) new_bytes) (sym was) in
    let size : length (flat_map f (range_with_len 0 i)) ≡ old.frames.page * i = entries_length f old.frames.page 0 i (λ k. entry_size old slots o k s told) in
    let middle : length (flat_map f (range_with_len (0 + i) n)) ≡ old.frames.page * n = entries_length f old.frames.page (0 + i) n (λ k. entry_size old slots o k s told) in
    let fits_in = (λ (w : (first + at + length new_bytes ≤ old.frames.page * n) ⊎ (new_bytes ≡ [])). short_by (first + at + length new_bytes) (old.frames.page * n) _ (sym middle) w) in
    parts g ∙ (λ k. low k ++ (mid k ++ high k)) ∙ overlaid_mid (old.frames.page * i + (first + at)) (first + at) new_bytes (flat_map f (range_with_len 0 i)) (flat_map f (range_with_len (0 + i) n)) (flat_map f (range_with_len (0 + i + n) rest)) (fits_in (new_fits old.frames.page n first len at taken ready.within)) (omega (arith, size)) ∙ ap (overlaid (old.frames.page * i + (first + at)) new_bytes) (sym (parts f))

kept_joined : (frames : List ℕ) (m : Memory) (slots : ℕ → List ℕ) → ((k : ℕ) → k < length frames → is_kept (owner_at m.frames (get_or frames k 0)) (counts_at m.frames (get_or frames k 0)) ≡ true) → frames_bytes (seen m slots) frames ≡ joined m.frames.bytes frames
kept_joined [] m slots h = refl
kept_joined (f ∷ frames) m slots h =
    let one : (seen m slots).kept_bytes f ≡ bytes_at m.frames f = ap (λ v. if v then bytes_at m.frames f else []) (h 0 (omega arith)) in
    let rest = kept_joined frames m slots (λ k l. h (suc k) (omega arith)) in
    λ k. one k ++ rest k

pub in_frames : ShowsInFrames
in_frames old new first len at frames taken slots x h =
    let still = (λ (k : ℕ) (l : k < length frames). (λ j. is_kept (get_or (x.only.owners j) (get_or frames k 0) Free) (get_or (x.only.counts j) (get_or frames k 0) no_counts)) ∙ h k l) in
    kept_joined frames new slots still ∙ whole_landed frames first len at taken old.frames new.frames x.only x.content ∙ ap (overlaid (first + at) (take (len - at) taken)) (sym (kept_joined frames old slots h))

pub lands_soundly : LandsSoundly
lands_soundly old new first len at frames taken s x = record {
  shaped = record {
    size = rw x.only.page s.shaped.size;
    some = rw x.only.owners s.shaped.some;
    most = rw x.only.owners s.shaped.most;
    counted = rw (x.only.owners, x.only.counts) s.shaped.counted;
    filled = rw x.only.owners (x.only.count ∙ s.shaped.filled);
    paged = λ f d l. ap length (any_default new.frames.bytes f d [] l) ∙ x.only.sizes f ∙ s.shaped.paged f [] (omega (arith, l, x.only.count)) ∙ sym x.only.page;
  };
  placed = rw (x.only.owners, x.pages) s.placed;
  lent = rw (x.only.owners, x.only.counts) s.lent;
  held = rw (x.only.owners, x.only.counts, x.pages) s.held;
  wired = rw x.only.counts s.wired;
  slotted = rw (x.pages, x.slots) s.slotted;
  shared = rw (x.pages, x.objects) s.shared;
  guarded = rw (x.only.counts, x.pages, x.objects) s.guarded;
}

part_mid : (n len first : ℕ) (a b c : List ℕ) → (0 < len → first + len ≤ length b) → n ≡ length a + first → part first len b ≡ part n len (a ++ (b ++ c))
part_mid n zero first a b c h e = refl
part_mid n (suc len) first a b c h e =
    let w = h (omega arith) in
    let left = length-drop first b in
    rw e (sym (ap (take (suc len)) (drop-append-add a (b ++ c) first ∙ drop-append-le first b c (omega arith)) ∙ take-append-le (suc len) (drop first b) c (omega arith)))

pub reads_region : ReadsRegion
reads_region m o i pages first len frames slots s of_entries within fits told =
    let n = length frames in
    let rest = pages - (i + n) in
    let f = (seen m slots).entry_bytes o in
    let split : pages ≡ i + (n + rest) = omega arith in
    let start : 0 + i ≡ i = omega arith in
    let parts = ap (λ k. flat_map f (range_with_len 0 k)) split ∙ ap (flat_map f) (split_range 0 i (n + rest) ∙ ap (λ l. range_with_len 0 i ++ l) (split_range (0 + i) n rest)) ∙ flat_map-append f (range_with_len 0 i) (range_with_len (0 + i) n ++ range_with_len (0 + i + n) rest) ∙ ap (λ l. flat_map f (range_with_len 0 i) ++ l) (flat_map-append f (range_with_len (0 + i) n) (range_with_len (0 + i + n) rest)) in
    let is : flat_map f (range_with_len (0 + i) n) ≡ joined m.frames.bytes frames = ap (λ k. flat_map f (range_with_len k n)) start ∙ entries_joined frames m slots o i of_entries in
    let size : length (flat_map f (range_with_len 0 i)) ≡ m.frames.page * i = entries_length f m.frames.page 0 i (λ k. entry_size m slots o k s told) in
    let middle : length (flat_map f (range_with_len (0 + i) n)) ≡ m.frames.page * n = entries_length f m.frames.page (0 + i) n (λ k. entry_size m slots o k s told) in
    ap (part first len) (sym is) ∙ part_mid (m.frames.page * i + first) len first (flat_map f (range_with_len 0 i)) (flat_map f (range_with_len (0 + i) n)) (flat_map f (range_with_len (0 + i + n) rest)) (λ p. let w = fits p in omega (arith, middle)) (omega (arith, size)) ∙ ap (part (m.frames.page * i + first) len) (sym parts)
