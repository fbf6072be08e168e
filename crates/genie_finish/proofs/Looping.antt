-- Page after page of a range is stored.
use Rattle.std.proofs.Common.{◌≡◌, ◌≢◌, ℕ, zero, suc, ◌+◌, ◌-◌, ◌*◌, ◌/◌, ◌%◌, ◌<◌, ◌≤◌, ◌^◌, Bool, true, false, List, [], ◌∷◌, length, take, drop, get_or, refl, ap, sym, ◌∙◌, arith, rules, subst, inl, inr, ◌⊎◌, length-take, length-drop, mul-le-mul_left}
use Rattle.std.specs.Prelude.{IsTrue, Option, Some, None, ◌==◌, ◌&&◌, ◌||◌, min, nat_lt, nat_le, count_by, if◌then◌else◌}
use Rattle.std.proofs.lemmas.Bool.{cases_lt}
use Rattle.std.proofs.lemmas.Bool.Decides.{eqb_tells}
use Rattle.std.proofs.lemmas.Grind.{common_steps}
use Rattle.std.proofs.lemmas.List.{drop-append-le, take-append-le, take_all, drop-take, drop-drop}
use Rattle.std.proofs.Math.Seq.{take-add, drop-append-add}
use Rattle.genie_base.specs.Bytes.{overlaid, part}
use Rattle.genie_base.specs.Counts.{span, is_page_size}
use Rattle.genie_base.specs.Lemmas.Places.{same_or}
use Rattle.genie_frame.specs.declared.frame.Counts.{Counts}
use Rattle.genie_frame.specs.declared.frame.Meters.{Meters}
use Rattle.genie_frame.specs.FrameTable.{is_system, owner_at, counts_at, bytes_at, is_held, is_lent, is_page, no_counts}
use Rattle.genie_object.specs.declared.pages.PageId.{PageId}
use Rattle.genie_object.specs.declared.pages.PageInfo.{PageInfo}
use Rattle.genie_object.specs.declared.objects.Entry.{Entry}
use Rattle.genie_object.specs.declared.memory.Memory.{Memory}
use Rattle.genie_object.specs.Pages.{is_there}
use Rattle.genie_object.specs.Objects.{entry_at, names}
use Rattle.genie_object.specs.Memory.{Seen, seen, entry_frame}
use Rattle.genie_object.specs.Sound.{IsSound, IsPrivate}
use Rattle.genie_object.specs.Touching.{Touches, IsOutside, is_entry, is_in_range}
use Rattle.genie_object.specs.Costs.{AreBelow, Spends}
use Rattle.genie_object.specs.Lemmas.Touching.{touches_on, touches_more, touches_none}
use Rattle.genie_object.specs.Lemmas.Spending.{spends_on, spends_more, spends_none}
use Rattle.genie_frame.specs.declared.frame.InLoan.{InLoan}
use Rattle.genie_plan.specs.Plans.{times, joined, range_bytes, input_frames, AreApart}
use Rattle.genie_plan.specs.Lemmas.Ranges.{times-cons, times_at, other_num, apart_rest, apart_first, joined_length, frames_count}
use Rattle.genie_plan.specs.Lemmas.Ending.{some_or, other_test}
use Rattle.genie_plan.specs.Landings.{entries_bytes}
use Rattle.genie_plan.specs.Lemmas.Landings.{page_in, times_some}
use Rattle.genie_object.specs.Lemmas.Naming.{named_once}
use Rattle.genie_finish.specs.Besides.{KeepsBesides}
use Rattle.genie_finish.specs.Storing.{StaysBuffer, StoresPage, CanStore, held_in, is_held_at, is_copied, stored_work, see_stored}
use Rattle.genie_input.specs.Buffers.{AreBuffers}
use Rattle.genie_finish.specs.Ranges.{piece_len, CanStorePages, CanStoreRange, stored_works, StoresRange}
use Rattle.genie_finish.proofs.Storing.{buffer_page}
use Rattle.genie_finish.proofs.Ranging.{shows_in_range, overlaid-next}
use Rattle.genie_object.specs.Lemmas.PlaceOf.{framed_place, untouched_place}

-- the page that an entry names
names_is : (p : ℕ) (e : Entry) → names p e ≡ true → (q : PageId) × (e.page ≡ Some q) × (q.0 ≡ p)
names_is p e h = by_page e.page refl
  where
    by_page : (page : Option PageId) → e.page ≡ page → (q : PageId) × (e.page ≡ Some q) × (q.0 ≡ p)
    by_page None w = let bad : false ≡ true = sym (ap (λ x. elim x as (λ _. Bool) [ None ↦ false | Some q ↦ q.0 == p ]) w) ∙ h in cc
    by_page (Some q) w =
        let t : (q.0 == p) ≡ true = sym (ap (λ x. elim x as (λ _. Bool) [ None ↦ false | Some r ↦ r.0 == p ]) w) ∙ h in
        elim (eqb_tells q.0 p) [ inl y ↦ (q, w, y.1) | inr y ↦ let bad : false ≡ true = sym y.0 ∙ t in cc ]

-- a page of an entry's own stays so under a call that doesn't speak of the entry
pub private_kept : (spoken : ℕ → ℕ → Bool) (old new : Memory) (o j : ℕ) → IsSound old → spoken o j ≡ false → Touches spoken old new → IsPrivate old.frames.counts old.pages.pages (entry_at old.objects o j).page → IsPrivate new.frames.counts new.pages.pages (entry_at new.objects o j).page
private_kept spoken old new o j s out x p =
    let outside : IsOutside spoken old p.number.0 = record {
      there = omega (arith, p.alone);
      named = λ a b h.
          let n = names_is p.number.0 (entry_at old.objects a b) h in
          let is : n.0 ≡ p.number = (λ k. record { 0 = n.2 k }) in
          let one = named_once old.pages.pages old.objects a b o j p.number s.shared p.alone (n.1 ∙ ap Some is) p.is_page in
          (λ k. spoken (one.0 k) (one.1 k)) ∙ out;
    } in
    record {
      number = p.number;
      frame = p.frame;
      is_page = (x.entries o j out).page ∙ p.is_page;
      is_place = ap (λ (q : PageInfo). q.place) (x.pages p.number.0 outside) ∙ p.is_place;
      alone = ap (λ (q : PageInfo). q.shares) (x.pages p.number.0 outside) ∙ p.alone;
      unlent = ap (λ (c : Counts). c.strong) (x.counts p.number.0 p.frame outside p.is_place) ∙ p.unlent;
    }

apart_at : (frames : List ℕ) (j k : ℕ) → AreApart frames → j < length frames → k < length frames → j ≢ k → get_or frames j 0 ≢ get_or frames k 0
apart_at [] j k a l m n = absurd (omega arith)
apart_at (f ∷ frames) zero zero a l m n = absurd (n refl)
apart_at (f ∷ frames) zero (suc k) a l m n = λ e. absurd (omega (arith, apart_first f frames a, times_at frames k (omega arith), ap (times frames) e))
apart_at (f ∷ frames) (suc j) zero a l m n = λ e. absurd (omega (arith, apart_first f frames a, times_at frames j (omega arith), ap (times frames) e))
apart_at (f ∷ frames) (suc j) (suc k) a l m n = apart_at frames j k (apart_rest f frames a) (omega arith) (omega arith) (λ e. n (ap suc e))

not_times : (f g : ℕ) → g ≢ f → times (f ∷ []) g ≡ 0
not_times f g n = omega (arith, times-cons f g [], other_num f g (λ e. n (sym e)))

-- how far the pages go
span_num : (page off len k q a r t : ℕ) → off ≡ page * a + r → off + len - 1 ≡ page * q + t → 0 < len → k ≤ q - a → page * k < r + len
span_num page off len k q a r t x y some l = elim (cases_lt q a) [
  | inl w ↦ let none : k ≡ 0 = omega arith in let e : page * k ≡ 0 = grind arith in omega arith
  | inr w ↦
      let e : page * (a + k) ≡ page * a + page * k = grind arith in
      let h : page * (a + k) ≤ page * q = mul-le-mul_left page (omega (arith, w, l)) in
      omega (arith, e, h, x, y, some)
]

pub span_is : (page off len : ℕ) → 0 < len → span page off len ≡ (off + len - 1) / page - off / page + 1
span_is page off len some = elim (eqb_tells len 0) [
  | inl h ↦ absurd (omega (arith, some, h.1))
  | inr h ↦ ap (λ b. if b then 0 else (off + len - 1) / page - off / page + 1) h.0
]

pub span_below : (page off len k : ℕ) → 0 < page → k < span page off len → page * k < off % page + len
span_below page off len k p = elim (eqb_tells len 0) [
  | inl h ↦ λ w. let none : span page off len ≡ 0 = ap (λ b. if b then 0 else (off + len - 1) / page - off / page + 1) h.0 in absurd (omega (arith, w, none))
  | inr h ↦ λ w.
      let some : span page off len ≡ (off + len - 1) / page - off / page + 1 = ap (λ b. if b then 0 else (off + len - 1) / page - off / page + 1) h.0 in
      span_num page off len k ((off + len - 1) / page) (off / page) (off % page) ((off + len - 1) % page) (divided page off p) (divided page (off + len - 1) p) (positive len h.1) (omega (arith, w, some))
]
  where
    divided : (page n : ℕ) → 0 < page → n ≡ page * (n / page) + n % page
    divided page n p = omega arith

    positive : (n : ℕ) → n ≢ 0 → 0 < n
    positive n h = omega (arith, h)

-- a part of the page with number i
pub joined_part : (frames : List ℕ) (page i off n y : ℕ) (bytes : List (List ℕ)) → i < length frames
    → ((j : ℕ) → j < length frames → length (get_or bytes (get_or frames j 0) []) ≡ page)
    → off + n ≤ page → y ≡ page * i + off → part y n (joined bytes frames) ≡ part off n (get_or bytes (get_or frames i 0) [])
joined_part [] page i off n y bytes h whole fits e = absurd (omega arith)
joined_part (f ∷ frames) page zero off n y bytes h whole fits e =
    let p : List ℕ = get_or bytes f [] in
    let size : length p ≡ page = whole 0 (omega arith) in
    let start : y ≡ off = omega arith in
    let left : length (drop off p) ≡ length p - off = length-drop off p in
    let short : n ≤ length (drop off p) = omega arith in
    rw start (ap (take n) (drop-append-le off p (joined bytes frames) (omega arith)) ∙ take-append-le n (drop off p) (joined bytes frames) short)
joined_part (f ∷ frames) page (suc i) off n y bytes h whole fits e =
    let p : List ℕ = get_or bytes f [] in
    let size : length p ≡ page = whole 0 (omega arith) in
    let start : y ≡ length p + (page * i + off) = grind (arith, size, e) in
    rw start (ap (take n) (drop-append-add p (joined bytes frames) (page * i + off)) ∙ joined_part frames page i off n (page * i + off) bytes (omega arith) (λ j k. whole (suc j) (omega arith)) fits refl)

-- a part of a part
pub part_part : (first len at n : ℕ) (all : List ℕ) → at + n ≤ len → take n (drop at (take len (drop first all))) ≡ part (first + at) n all
part_part first len at n all h =
    let split : len ≡ at + (len - at) = omega arith in
    let e : drop at (take (at + (len - at)) (drop first all)) ≡ take (len - at) (drop at (drop first all)) = drop-take at (len - at) (drop first all) in
    ap (λ (m : ℕ). take n (drop at (take m (drop first all)))) split ∙ ap (take n) e ∙ take_take n (len - at) (drop at (drop first all)) (omega arith) ∙ ap (take n) (drop-drop at first all)
  where
    take_take : (n m : ℕ) (xs : List ℕ) → n ≤ m → take n (take m xs) ≡ take n xs
    take_take n m xs h = grind (arith, common_steps)

-- where the next page begins
pub page_or : (page k : ℕ) → (page * k ≡ 0) ⊎ (page ≤ page * k)
page_or page zero = inl (omega arith)
page_or page (suc k) = let e : page * suc k ≡ page * k + page = grind arith in inr (omega (arith, e))

place_num : (page first len x done off : ℕ) → first < page → (x ≡ 0) ⊎ (page ≤ x) → x < first + len → done ≡ min len (x - first) → off ≡ first - x → first + done ≡ x + off
place_num page first len x done off l (inl z) b d e = omega arith
place_num page first len x done off l (inr z) b d e = omega arith

pub next_num : (page first len x y done off n : ℕ) → first < page → (x ≡ 0) ⊎ (page ≤ x) → y ≡ x + page → done ≡ min len (x - first) → off ≡ first - x → n ≡ min (page - off) (len - done) → (done + n ≡ min len (y - first)) × (0 ≡ first - y)
next_num page first len x y done off n l (inl z) s d e h = (omega arith, omega arith)
next_num page first len x y done off n l (inr z) s d e h = (omega arith, omega arith)

pub len_num : (page first len x done off n : ℕ) → done ≡ min len (x - first) → off ≡ first - x → n ≡ min (page - off) (len - done) → n ≡ min (page - (first - x)) (len - (x - first))
len_num page first len x done off n d e h = omega arith

in_range_entry : (o first n i a b : ℕ) → i < n → is_in_range o first n a b ≡ false → is_entry o (first + i) a b ≡ false
in_range_entry o first n i a b l e = grind (arith, rules, l, e)

other_entry : (o a b : ℕ) → a ≢ b → is_entry o b o a ≡ false
other_entry o a b n = grind (arith, rules, n)

works_next : (m : Memory) (o i first len few k j : ℕ) → j ≡ k + 1 → stored_works m o i first len few j ≡ stored_works m o i first len few k + stored_work m o (i + k) (piece_len m.frames.page first len k) few
works_next m o i first len few k zero e = absurd (omega arith)
works_next m o i first len few k (suc j) e = let same : j ≡ k = omega arith in rw same refl

-- the pages that were stored so far
pub record StoredSoFar (old now : Memory) (o i first len few : ℕ) (frames : List ℕ) (k done off : ℕ) : Type 0 where
  pub done_is : done ≡ min len (old.frames.page * k - first)
  pub off_is : off ≡ first - old.frames.page * k
  pub sound : IsSound now
  pub range : (slots : ℕ → List ℕ) → ((r : ℕ) → length (slots r) ≡ old.frames.page) → (pages : ℕ) → i + length frames ≤ pages → entries_bytes (seen now slots) o 0 pages ≡ overlaid (old.frames.page * i + first) (take done (range_bytes old.frames frames first len)) (entries_bytes (seen old slots) o 0 pages)
  pub objects : (slots : ℕ → List ℕ) → ((r : ℕ) → length (slots r) ≡ old.frames.page) → (a b : ℕ) → a ≢ o → (seen now slots).entry_bytes a b ≡ (seen old slots).entry_bytes a b
  pub others : (slots : ℕ → List ℕ) → ((r : ℕ) → length (slots r) ≡ old.frames.page) → (g : ℕ) → times frames g ≡ 0 → (seen now slots).kept_bytes g ≡ (seen old slots).kept_bytes g
  pub gone : (slots : ℕ → List ℕ) → ((r : ℕ) → length (slots r) ≡ old.frames.page) → (j : ℕ) → j < k → (seen now slots).kept_bytes (get_or frames j 0) ≡ []
  pub ended : (j : ℕ) → j < k → counts_at now.frames (get_or frames j 0) ≡ no_counts
  pub buffers : (j : ℕ) → k ≤ j → j < length frames → StaysBuffer old.frames now.frames (get_or frames j 0)
  pub can : (j : ℕ) → k ≤ j → j < length frames → CanStore now o (i + j) (piece_len old.frames.page first len j) few
  pub held : (j : ℕ) → k ≤ j → is_held_at now o (i + j) ≡ is_held_at old o (i + j)
  pub keeps : KeepsBesides frames old now
  pub touches : Touches (is_in_range o i (length frames)) old now
  pub landed : now.frames.landed ≡ old.frames.landed
  pub added : count_by is_there now.pages.pages ≤ count_by is_there old.pages.pages + k
  pub spends : Spends (stored_works old o i first len few k) 0 0 0 old.frames.meters now.frames.meters

pub keeps_besides_all : (frames : List ℕ) (m : Memory) → KeepsBesides frames m m
keeps_besides_all frames m = record { entry_held = λ o i f e h. e; counts = λ f z. refl; lent = λ f z l. inl refl; systems = λ f z. refl; entries = λ o. refl; number = refl; page = refl; slots = refl; most = refl }

module _ (old : Memory) (o i first len few : ℕ) (frames : List ℕ) (s : IsSound old) (in_page : first < old.frames.page) (buffers : AreBuffers old.frames frames) (covers : 0 < len → first + len ≤ old.frames.page * length frames) where
  abbrev p : ℕ
  p = old.frames.page

  abbrev content : List ℕ
  content = range_bytes old.frames frames first len

  whole : (j : ℕ) → j < length frames → length (get_or old.frames.bytes (get_or frames j 0) []) ≡ p
  whole j l = s.shaped.paged (get_or frames j 0) [] (omega (arith, (buffers.each j l).there, s.shaped.filled))

  pub content_length : length content ≡ len
  content_length =
      let all = joined_length frames p old.frames.bytes whole in
      let size = length-take len (drop first (joined old.frames.bytes frames)) in
      let left = length-drop first (joined old.frames.bytes frames) in
      elim (same_or len 0) [
        | inl z ↦ omega (arith, size, z)
        | inr n ↦ let w = covers (omega (arith, n)) in omega (arith, size, left, all, w)
      ]

  -- an entry's frame is none of the buffer's
  entry_apart : (a b g : ℕ) → entry_frame old a b ≡ Some g → times frames g ≡ 0
  entry_apart a b g e = elim (some_or (times frames g)) [
    | inr z ↦ z
    | inl h ↦
        let t = times_some frames g h in
        let y = page_in old a b g e in
        absurd (buffer_page (owner_at old.frames g) y.number.0 (subst (λ f. is_system (owner_at old.frames f) ≡ true) t.2 (buffers.each t.0 t.1).own) (s.placed.in_frame y.number.0 (record { 0 = g }) y.is_place))
  ]

  pub stored_none : CanStorePages old o i first len few (length frames) → (off : ℕ) → off ≡ first → StoredSoFar old old o i first len few frames 0 0 off
  stored_none can off at =
      let none : p * 0 ≡ 0 = omega arith in
      record {
        done_is = omega (arith, none);
        off_is = omega (arith, none, at);
        sound = s;
        range = λ slots told pages fits. sym (overlaid-none (p * i + first) (entries_bytes (seen old slots) o 0 pages));
        objects = λ slots told a b n. refl;
        others = λ slots told g z. refl;
        gone = λ slots told j l. absurd (omega (arith, l));
        ended = λ j l. absurd (omega (arith, l));
        buffers = λ j l m. record { buffer = buffers.each j m; bytes = refl };
        can = λ j l m. can j m;
        held = λ j l. refl;
        keeps = keeps_besides_all frames old;
        touches = touches_none (is_in_range o i (length frames)) old;
        landed = refl;
        added = omega arith;
        spends = spends_none _ _ _ _ old.frames.meters;
      }
    where
      overlaid-none : (x : ℕ) (xs : List ℕ) → overlaid x [] xs ≡ xs
      overlaid-none x [] = refl
      overlaid-none zero (y ∷ xs) = refl
      overlaid-none (suc x) (y ∷ xs) = ap (λ l. y ∷ l) (overlaid-none x xs)

  module _ (now new : Memory) (k done off n f : ℕ) (l : k < length frames) (below : p * k < first + len) (frame : f ≡ get_or frames k 0) (n_is : n ≡ min (p - off) (len - done)) (x : StoredSoFar old now o i first len few frames k done off) (y : StoresPage now new o (i + k) f off n (stored_work now o (i + k) n few)) where
    at : first + done ≡ p * k + off
    at = place_num p first len (p * k) done off in_page (page_or p k) below x.done_is x.off_is

    fits : off + n ≤ p
    fits = omega (arith, n_is, x.off_is, in_page)

    bytes_now : bytes_at now.frames f ≡ bytes_at old.frames (get_or frames k 0)
    bytes_now = ap (bytes_at now.frames) frame ∙ (x.buffers k (omega arith) l).bytes

    piece : part off n (bytes_at now.frames f) ≡ take n (drop done content)
    piece = ap (part off n) bytes_now ∙ sym (part_part first len done n (joined old.frames.bytes frames) (omega (arith, n_is, x.done_is)) ∙ joined_part frames p k off n (first + done) old.frames.bytes l whole fits at)

    piece_short : length (part off n (bytes_at now.frames f)) ≤ n
    piece_short = omega (arith, length-take n (drop off (bytes_at now.frames f)))

    page_now : now.frames.page ≡ p
    page_now = x.keeps.page

    told_now : (slots : ℕ → List ℕ) → ((r : ℕ) → length (slots r) ≡ p) → (r : ℕ) → length (slots r) ≡ now.frames.page
    told_now slots told r = told r ∙ sym page_now

    member : 0 < times frames f
    member = subst (λ g. 0 < times frames g) (sym frame) (times_at frames k l)

    apart : (g : ℕ) → times frames g ≡ 0 → times (f ∷ []) g ≡ 0
    apart g z = not_times f g (λ e. absurd (omega (arith, member, z, ap (times frames) e)))

    others_apart : (j : ℕ) → j ≢ k → j < length frames → get_or frames j 0 ≢ f
    others_apart j n m e = apart_at frames j k buffers.apart m l n (e ∙ frame)

    next : (j : ℕ) → k + 1 ≤ j → i + j ≢ i + k
    next j h e = absurd (omega (arith, h, e))

    other_here : (j : ℕ) → k + 1 ≤ j → (o ≡ o) × (i + j ≡ i + k) → ⊥
    other_here j h e = next j h e.1

    range_next : (slots : ℕ → List ℕ) → ((r : ℕ) → length (slots r) ≡ p) → (pages : ℕ) → i + length frames ≤ pages → entries_bytes (seen new slots) o 0 pages ≡ overlaid (p * i + first) (take (done + n) content) (entries_bytes (seen old slots) o 0 pages)
    range_next slots told pages room =
        let e = entries_bytes (seen old slots) o 0 pages in
        let spread : p * (i + k) ≡ p * i + p * k = grind arith in
        let place : now.frames.page * (i + k) + off ≡ p * i + (first + done) = ap (λ q. q * (i + k) + off) page_now ∙ omega (arith, spread, at) in
        let size : length (take done content) ≡ done = omega (arith, length-take done content, content_length, x.done_is) in
        shows_in_range now new o (i + k) f off n pages slots x.sound y.shows (told_now slots told) (omega (arith, l, room)) (omega (arith, piece_short, fits, page_now))
        ∙ (λ j. overlaid (place j) (piece j) (x.range slots told pages room j))
        ∙ overlaid-next (p * i + first) (p * i + (first + done)) (take done content) (take n (drop done content)) e (omega (arith, size))
        ∙ ap (λ b. overlaid (p * i + first) b e) (sym (take-add done n content))

    kept_next : (slots : ℕ → List ℕ) → ((r : ℕ) → length (slots r) ≡ p) → (g : ℕ) → (seen new slots).kept_bytes g ≡ (if g == f then [] else (seen now slots).kept_bytes g)
    kept_next slots told g = ap (λ (z : Seen). z.kept_bytes g) (y.shows slots (told_now slots told))

    kept_else : (slots : ℕ → List ℕ) → ((r : ℕ) → length (slots r) ≡ p) → (g : ℕ) → g ≢ f → (seen new slots).kept_bytes g ≡ (seen now slots).kept_bytes g
    kept_else slots told g ne = kept_next slots told g ∙ ap (λ b. if b then [] else (seen now slots).kept_bytes g) (other_test g f ne)

    kept_here : (slots : ℕ → List ℕ) → ((r : ℕ) → length (slots r) ≡ p) → (g : ℕ) → g ≡ f → (seen new slots).kept_bytes g ≡ []
    kept_here slots told g e = let t : (g == f) ≡ true = grind (arith, rules) in kept_next slots told g ∙ ap (λ b. if b then [] else (seen now slots).kept_bytes g) t

    last_or : (j : ℕ) → j < k + 1 → (j < k) ⊎ (j ≡ k)
    last_or j h = elim (same_or j k) [ inl e ↦ inr e | inr ne ↦ inl (omega (arith, h, ne)) ]

    can_next : (j : ℕ) → k + 1 ≤ j → j < length frames → CanStore new o (i + j) (piece_len p first len j) few
    can_next j h m =
        let c = x.can j (omega (arith, h)) m in
        let out = other_entry o (i + j) (i + k) (next j h) in
        record {
          few_bytes = λ w z. private_kept (is_entry o (i + k)) now new o (i + j) x.sound out y.touches (c.few_bytes (omega (arith, w, y.keeps.page)) z);
          touched = λ w u. private_kept (is_entry o (i + k)) now new o (i + j) x.sound out y.touches (c.touched (omega (arith, w, y.keeps.page)) (sym (untouched_place new now o (i + j) (y.places o (i + j) (other_here j h))) ∙ u));
        }

    held_next : (j : ℕ) → k + 1 ≤ j → is_held_at new o (i + j) ≡ is_held_at old o (i + j)
    held_next j h = ap (held_in new) (framed_place new now o (i + j) (y.places o (i + j) (other_here j h))) ∙ same (entry_frame now o (i + j)) refl ∙ x.held j (omega (arith, h))
      where
        same : (q : Option ℕ) → entry_frame now o (i + j) ≡ q → held_in new q ≡ held_in now q
        same None e = refl
        same (Some g) e =
            let z = page_in now o (i + j) g e in
            ap is_held (y.keeps.counts g (not_times f g (λ w. buffer_page (owner_at now.frames f) z.number.0 (subst (λ v. is_system (owner_at now.frames v) ≡ true) (sym frame) (x.buffers k (omega arith) l).buffer.own) (ap (owner_at now.frames) (sym w) ∙ x.sound.placed.in_frame z.number.0 (record { 0 = g }) z.is_place))))

    keeps_next : KeepsBesides frames old new
    keeps_next = record {
      entry_held = λ a b g e h. y.keeps.entry_held a b g (x.keeps.entry_held a b g e h) (ap is_held (x.keeps.counts g (entry_apart a b g e)) ∙ h);
      counts = λ g z. y.keeps.counts g (apart g z) ∙ x.keeps.counts g z;
      lent = λ g z w. elim (x.keeps.lent g z w) [
        | inl e ↦ elim (y.keeps.lent g (apart g z) (ap is_lent (x.keeps.counts g z) ∙ w)) [
          | inl d ↦ inl (d ∙ e)
          | inr d ↦ inr (ap is_page (sym e) ∙ d.0, d.1)
        ]
        | inr e ↦ elim (y.keeps.lent g (apart g z) (ap is_lent (x.keeps.counts g z) ∙ w)) [
          | inl d ↦ inr (e.0, d ∙ e.1)
          | inr d ↦ let bad : false ≡ true = sym (ap is_page e.1) ∙ d.0 in cc
        ]
      ];
      systems = λ g z. y.keeps.systems g (apart g z) ∙ x.keeps.systems g z;
      entries = λ a. y.keeps.entries a ∙ x.keeps.entries a;
      number = y.keeps.number ∙ x.keeps.number;
      page = y.keeps.page ∙ x.keeps.page;
      slots = y.keeps.slots ∙ x.keeps.slots;
      most = y.keeps.most ∙ x.keeps.most;
    }

    work_same : stored_work now o (i + k) n few ≡ stored_work old o (i + k) (piece_len p first len k) few
    work_same =
        let held = x.held k (omega arith) in
        let is : n ≡ piece_len p first len k = len_num p first len (p * k) done off n x.done_is x.off_is n_is in
        (λ j. if (held j || (nat_lt n (page_now j) && nat_le n few)) then n else page_now j - n) ∙ ap (λ q. stored_work old o (i + k) q few) is

    pub stored_more : (next_k next_done next_off : ℕ) → next_k ≡ k + 1 → next_done ≡ done + n → next_off ≡ 0 → StoredSoFar old new o i first len few frames next_k next_done next_off
    stored_more next_k next_done next_off a b c = subst (λ v. StoredSoFar old new o i first len few frames v next_done next_off) (sym a) (subst (λ v. StoredSoFar old new o i first len few frames (k + 1) v next_off) (sym b) (subst (λ v. StoredSoFar old new o i first len few frames (k + 1) (done + n) v) (sym c) (record {
      done_is = ends.0;
      off_is = ends.1;
      sound = y.sound;
      range = range_next;
      objects = λ slots told a b ne. ap (λ (z : Seen). z.entry_bytes a b) (y.shows slots (told_now slots told)) ∙ else_bytes slots a b ne ∙ x.objects slots told a b ne;
      others = λ slots told g z. kept_else slots told g (λ e. absurd (omega (arith, member, z, ap (times frames) e))) ∙ x.others slots told g z;
      gone = λ slots told j h. elim (same_or (get_or frames j 0) f) [
        | inl e ↦ kept_here slots told (get_or frames j 0) e
        | inr ne ↦ elim (last_or j h) [
          | inl w ↦ kept_else slots told (get_or frames j 0) ne ∙ x.gone slots told j w
          | inr w ↦ absurd (ne (ap (λ v. get_or frames v 0) w ∙ sym frame))
        ]
      ];
      ended = λ j h. elim (same_or (get_or frames j 0) f) [
        | inl e ↦ ap (counts_at new.frames) e ∙ y.ended
        | inr ne ↦ elim (last_or j h) [
          | inl w ↦ y.keeps.counts (get_or frames j 0) (not_times f (get_or frames j 0) ne) ∙ x.ended j w
          | inr w ↦ absurd (ne (ap (λ v. get_or frames v 0) w ∙ sym frame))
        ]
      ];
      buffers = λ j h m.
          let z = x.buffers j (omega (arith, h)) m in
          let w = y.buffers (get_or frames j 0) (others_apart j (λ e. absurd (omega (arith, h, e))) m) z.buffer in
          record { buffer = w.buffer; bytes = w.bytes ∙ z.bytes };
      can = can_next;
      held = held_next;
      keeps = keeps_next;
      touches = touches_on (is_in_range o i (length frames)) old now new x.touches (touches_more (is_entry o (i + k)) (is_in_range o i (length frames)) now new (λ a b e. in_range_entry o i (length frames) k a b l e) y.touches);
      landed = y.landed ∙ x.landed;
      added = omega (arith, x.added, y.added);
      spends = spends_more _ _ _ _ _ _ _ _ old.frames.meters new.frames.meters (spends_on (stored_works old o i first len few k) 0 0 0 (stored_work now o (i + k) n few) 0 0 0 old.frames.meters now.frames.meters new.frames.meters x.spends y.spends) (omega (arith, work_same, works_next old o i first len few k (k + 1) refl)) (omega arith) (omega arith) (omega arith);
    })))
      where
        grown : p * (k + 1) ≡ p * k + p
        grown = grind arith

        ends : (done + n ≡ min len (p * (k + 1) - first)) × (0 ≡ first - p * (k + 1))
        ends = next_num p first len (p * k) (p * (k + 1)) done off n in_page (page_or p k) grown x.done_is x.off_is n_is

        else_bytes : (slots : ℕ → List ℕ) (a b : ℕ) → a ≢ o → (see_stored (seen now slots) o (i + k) f off n (bytes_at now.frames f)).entry_bytes a b ≡ (seen now slots).entry_bytes a b
        else_bytes slots a b ne = ap (λ v. if (v && (b == i + k)) then overlaid off (part off n (bytes_at now.frames f)) ((seen now slots).entry_bytes o (i + k)) else (seen now slots).entry_bytes a b) (other_test a o ne)

  pub stored_all : (now : Memory) (off_range k done off : ℕ) → length frames ≤ k → k ≤ length frames → off_range ≡ p * i + first → i ≡ off_range / p → first ≡ off_range % p → StoredSoFar old now o i first len few frames k done off → StoresRange old now o off_range len few frames
  stored_all now off_range k done off low high at i_is first_is x =
      let last : k ≡ length frames = omega (arith, low, high) in
      let all : done ≡ len = elim (same_or len 0) [
        | inl z ↦ omega (arith, x.done_is, z)
        | inr ne ↦ let w = covers (omega (arith, ne)) in let e : p * k ≡ p * length frames = ap (λ v. p * v) last in omega (arith, x.done_is, w, e)
      ] in
      record {
        sound = x.sound;
        shows = λ slots told. record {
          range = λ pages room. x.range slots told pages (omega (arith, room, i_is)) ∙ (λ j. overlaid (sym at j) (content_all done all j) (entries_bytes (seen old slots) o 0 pages));
          objects = x.objects slots told;
          others = x.others slots told;
          gone = λ g h. let t = times_some frames g h in ap (λ v. (seen now slots).kept_bytes v) (sym t.2) ∙ x.gone slots told t.0 (omega (arith, t.1, last));
        };
        ended = λ g h. let t = times_some frames g h in ap (counts_at now.frames) (sym t.2) ∙ x.ended t.0 (omega (arith, t.1, last));
        keeps = x.keeps;
        touches = subst (λ v. Touches (is_in_range o v (length frames)) old now) i_is x.touches;
        landed = x.landed;
        added = omega (arith, x.added, last);
        spends = subst (λ v. Spends v 0 0 0 old.frames.meters now.frames.meters) ((λ j. stored_works old o (i_is j) (first_is j) len few (last j))) x.spends;
      }
    where
      content_all : (done : ℕ) → done ≡ len → take done content ≡ range_bytes old.frames frames (off_range % p) len
      content_all done e = take_all done content (omega (arith, content_length, e)) ∙ ap (λ v. range_bytes old.frames frames v len) first_is

-- what the next page asks for
work_most : (m : Memory) (o i n few : ℕ) → n ≤ m.frames.page → stored_work m o i n few ≤ m.frames.page
work_most m o i n few l = elim (is_copied m o i n few) as (λ b. (if b then n else m.frames.page - n) ≤ m.frames.page) [ true ↦ l | false ↦ omega arith ]

pub works_most : (m : Memory) (o i first len few k : ℕ) → m.frames.page ≤ 4096 → stored_works m o i first len few k ≤ 4096 * k
works_most m o i first len few zero l = omega arith
works_most m o i first len few (suc k) l = omega (arith, l, work_most m o (i + k) (piece_len m.frames.page first len k) few (omega arith), works_most m o i first len few k l)

pub page_some : (page : ℕ) → IsTrue (is_page_size page) → 0 < page
page_some page e = grind (arith, rules, e)

pub rest_less : (a b : ℕ) → 0 < b → a % b < b
rest_less a b h = omega arith

-- the range of a call, and the buffer that is stored in it
pub record Setup (old : Memory) (off len : ℕ) (loans : List InLoan) (page count : ℕ) : Type 0 where
  pub some : 0 < old.frames.page
  pub in_page : off % old.frames.page < old.frames.page
  pub covers : 0 < len → off % old.frames.page + len ≤ old.frames.page * length (input_frames loans)
  pub size : length (input_frames loans) ≡ length loans
  pub count_is : count ≡ length (input_frames loans)

pub setup : (old : Memory) (off len : ℕ) (loans : List InLoan) (page count : ℕ) → IsSound old → page ≡ old.frames.page → count ≡ span page off len → length loans ≡ span old.frames.page off len → (0 < len → off % page + len ≤ page * count) → Setup old off len loans page count
setup old off len loans page count s p c l covers =
    let some : 0 < old.frames.page = page_some old.frames.page s.shaped.size in
    let size : length (input_frames loans) ≡ length loans = frames_count loans in
    let number : count ≡ length (input_frames loans) = c ∙ ap (λ q. span q off len) p ∙ sym l ∙ sym size in
    record {
      some = some;
      in_page = rest_less off old.frames.page some;
      covers = λ h. subst (λ n. off % old.frames.page + len ≤ old.frames.page * n) number (subst (λ q. off % q + len ≤ q * count) p (covers h));
      size = size;
      count_is = number;
    }

pub below_most : (b : ℕ) (x y : Meters) → AreBelow (2 ^ 64 - 2 ^ 21) x → Spends b 0 0 0 x y → b ≤ 4096 * 65 → AreBelow (2 ^ 64 - 2 ^ 20) y
below_most b x y a s l = record {
  read = omega (arith, a.read, s.work, s.read, s.written, s.copied, s.zeroed, l);
  written = omega (arith, a.written, s.work, s.read, s.written, s.copied, s.zeroed, l);
  copied = omega (arith, a.copied, s.work, s.read, s.written, s.copied, s.zeroed, l);
  zeroed = omega (arith, a.zeroed, s.work, s.read, s.written, s.copied, s.zeroed, l);
  puts = omega (arith, a.puts, s.most_puts);
  gets = omega (arith, a.gets, s.most_gets);
  taken = omega (arith, a.taken, s.most_taken);
}

pub can_pages : (old : Memory) (o off len few n : ℕ) → CanStoreRange old o off len few → n ≡ span old.frames.page off len → CanStorePages old o (off / old.frames.page) (off % old.frames.page) len few n
can_pages old o off len few n can e k l = can k (omega (arith, l, e))

-- what the next page asks for, in the words of the call
pub can_now : (old now : Memory) (o off first len few page n done at k : ℕ) (frames : List ℕ) → page ≡ old.frames.page → StoredSoFar old now o (off / old.frames.page) (off % old.frames.page) len few frames k done at → k < length frames → n ≡ min (page - at) (len - done) → first ≡ off / page → CanStore now o (first + k) n few
can_now old now o off first len few page n done at k frames p x l n_is f =
    let i : off / old.frames.page + k ≡ first + k = omega (arith, f, ap (λ q. off / q) p) in
    let is : piece_len old.frames.page (off % old.frames.page) len k ≡ n = sym (len_num old.frames.page (off % old.frames.page) len (old.frames.page * k) done at n x.done_is x.off_is (n_is ∙ ap (λ q. min (q - at) (len - done)) p)) in
    subst (λ v. CanStore now o v n few) i (subst (λ v. CanStore now o (off / old.frames.page + k) v few) is (x.can k (omega arith) l))
