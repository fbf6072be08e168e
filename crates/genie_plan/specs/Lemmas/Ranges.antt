-- Bytes stored in a range over frames, and read from it.
use Rattle.std.proofs.Common.{◌≡◌, ◌≢◌, ℕ, ◌+◌, ◌-◌, min, ◌*◌, ◌/◌, ◌%◌, ◌<◌, ◌≤◌, List, [], ◌∷◌, ◌++◌, length, take, drop, zero, suc, refl, ap, sym, ◌∙◌, subst, arith, get_or, set, rules, true, false, inl, inr, ◌⊎◌, length-set, length-take, length-drop}
use Rattle.std.specs.Prelude.{◌==◌}
use Rattle.std.proofs.lemmas.List.{get_or-set_same, get_or-set_other, length-take-le, take_all, drop-drop, drop-take, drop-append-le, take-append-le}
use Rattle.std.proofs.lemmas.List.Sums.{sum_by-cons}
use Rattle.std.proofs.lemmas.Grind.{common_steps}
use Rattle.std.proofs.Math.Seq.{take-add, drop-append-add}
use Rattle.genie_base.specs.Bytes.{overlaid, part}
use Rattle.genie_base.specs.Lemmas.Overlaid.{length-overlaid, overlaid-nothing, overlaid-append, overlaid-cut}
use Rattle.genie_base.specs.Lemmas.Places.{same_or, set_at, num}
use Rattle.genie_frame.specs.declared.frame.InLoan.{InLoan}
use Rattle.genie_frame.specs.declared.frame.OutLoan.{OutLoan}
use Rattle.genie_frame.specs.declared.frame.Counts.{Counts}
use Rattle.genie_frame.specs.FrameTable.{FrameTable, bytes_at, counts_at, no_counts, IsShaped}
use Rattle.genie_frame.specs.Frames.{stored, more_landed, outputs}
use Rattle.genie_plan.specs.Plans.{input_frames, output_frames, joined, range_bytes, times, AreApart, IsWithin, CanLand, CanSend, OnlyRange}
use Rattle.genie_plan.specs.Laws.{only_none, only_more}
use Rattle.genie_plan.specs.Lemmas.Laid.{part-overlaid, overlaid-left, overlaid-right, overlaid-part}

abbrev pub IsTableShaped : FrameTable → Type 0
IsTableShaped t = IsShaped t.page t.owners t.counts t.bytes

pub times-cons : (g f : ℕ) (frames : List ℕ) → times (g ∷ frames) f ≡ num (g == f) + times frames f
times-cons g f frames = sum_by-cons (λ x. num (x == f)) g frames

pub same_num : (f g : ℕ) → f ≡ g → num (f == g) ≡ 1
same_num f g e = let h : (f == g) ≡ true = grind (arith, rules) in ap num h

pub other_num : (f g : ℕ) → f ≢ g → num (f == g) ≡ 0
other_num f g n = let h : (f == g) ≡ false = grind (arith, rules) in ap num h

pub not_first : (g f : ℕ) (frames : List ℕ) → times (g ∷ frames) f ≡ 0 → (f ≢ g) × (times frames f ≡ 0)
not_first g f frames e = (λ s. absurd (omega (arith, times-cons g f frames, same_num g f (sym s))), omega (arith, times-cons g f frames))

pub apart_rest : (g : ℕ) (frames : List ℕ) → AreApart (g ∷ frames) → AreApart frames
apart_rest g frames a f = omega (arith, times-cons g f frames, a f)

pub apart_first : (g : ℕ) (frames : List ℕ) → AreApart (g ∷ frames) → times frames g ≡ 0
apart_first g frames a = omega (arith, times-cons g g frames, a g, same_num g g refl)

-- a frame that stands at a place
pub times_at : (frames : List ℕ) (i : ℕ) → i < length frames → 0 < times frames (get_or frames i 0)
times_at [] i l = absurd (omega arith)
times_at (g ∷ frames) zero l = omega (arith, times-cons g g frames, same_num g g refl)
times_at (g ∷ frames) (suc i) l = let l' : i < length frames = omega arith in omega (arith, times-cons g (get_or frames i 0) frames, times_at frames i l')

-- a store in a frame that is none of these
pub joined_other : (frames : List ℕ) (f : ℕ) (v : List ℕ) (bytes : List (List ℕ)) → times frames f ≡ 0 → joined (set bytes f v) frames ≡ joined bytes frames
joined_other [] f v bytes n = refl
joined_other (g ∷ frames) f v bytes n =
    let x = not_first g f frames n in
    let other : get_or (set bytes f v) g [] ≡ get_or bytes g [] = get_or-set_other bytes f g v [] (λ e. x.0 (sym e)) in
    λ k. other k ++ joined_other frames f v bytes x.1 k

-- a store in the page with number i
pub joined_stored : (frames : List ℕ) (page i off y : ℕ) (new : List ℕ) (bytes : List (List ℕ)) → AreApart frames → i < length frames
    → ((j : ℕ) → j < length frames → length (get_or bytes (get_or frames j 0) []) ≡ page)
    → ((j : ℕ) → j < length frames → get_or frames j 0 < length bytes)
    → off + length new ≤ page → y ≡ page * i + off
    → joined (set bytes (get_or frames i 0) (overlaid off new (get_or bytes (get_or frames i 0) []))) frames ≡ overlaid y new (joined bytes frames)
joined_stored [] page i off y new bytes d h whole there fits e = absurd (omega arith)
joined_stored (f ∷ frames) page zero off y new bytes d h whole there fits e =
    let v : List ℕ = overlaid off new (get_or bytes f []) in
    let inside : f < length bytes = there 0 (omega arith) in
    let size : length (get_or bytes f []) ≡ page = whole 0 (omega arith) in
    let same : get_or (set bytes f v) f [] ≡ v = get_or-set_same bytes f v [] inside in
    let rest : joined (set bytes f v) frames ≡ joined bytes frames = joined_other frames f v bytes (apart_first f frames d) in
    let start : y ≡ off = omega arith in
    (λ k. same k ++ rest k) ∙ sym (overlaid-left off new (get_or bytes f []) (joined bytes frames) (omega arith)) ∙ ap (λ n. overlaid n new (get_or bytes f [] ++ joined bytes frames)) (sym start)
joined_stored (f ∷ frames) page (suc i) off y new bytes d h whole there fits e =
    let g : ℕ = get_or frames i 0 in
    let v : List ℕ = overlaid off new (get_or bytes g []) in
    let l : i < length frames = omega arith in
    let size : length (get_or bytes f []) ≡ page = whole 0 (omega arith) in
    let some = times_at frames i l in
    let none = apart_first f frames d in
    let apart : f ≢ g = (λ s. let t : times frames g ≡ 0 = subst (λ n. times frames n ≡ 0) s none in absurd (omega arith)) in
    let other : get_or (set bytes g v) f [] ≡ get_or bytes f [] = get_or-set_other bytes g f v [] apart in
    let ih : joined (set bytes g v) frames ≡ overlaid (page * i + off) new (joined bytes frames) = joined_stored frames page i off (page * i + off) new bytes (apart_rest f frames d) l (λ j k. whole (suc j) (omega arith)) (λ j k. there (suc j) (omega arith)) fits refl in
    let start : y ≡ length (get_or bytes f []) + (page * i + off) = grind (arith, size, e) in
    (λ k. other k ++ ih k) ∙ sym (overlaid-right (page * i + off) y new (get_or bytes f []) (joined bytes frames) start)

-- a count that isn't 0 is of a frame that is there
pub counted_there : (counts : List Counts) (f : ℕ) → (get_or counts f no_counts ≢ no_counts) → f < length counts
counted_there [] f h = absurd (h refl)
counted_there (c ∷ counts) zero h = omega arith
counted_there (c ∷ counts) (suc f) h = let l : f < length counts = counted_there counts f h in omega arith

pub input_there : (counts : List Counts) (f : ℕ) → 0 < (get_or counts f no_counts).input → f < length counts
input_there counts f h = counted_there counts f (λ e. absurd (omega (arith, ap (λ (c : Counts). c.input) e)))

outputs_none : (s : _) → outputs s no_counts ≡ 0
outputs_none true = refl
outputs_none false = refl

pub output_there : (counts : List Counts) (s : _) (f : ℕ) → 0 < outputs s (get_or counts f no_counts) → f < length counts
output_there counts s f h = counted_there counts f (λ e. absurd (omega (arith, ap (outputs s) e, outputs_none s)))

-- a frame of a table, with the bytes of a page
pub record IsThere (t : FrameTable) (f : ℕ) : Type 0 where
  pub owned : f < length t.owners
  pub filled : f < length t.bytes
  pub whole : length (bytes_at t f) ≡ t.page

pub there_by : (t : FrameTable) (f : ℕ) → IsTableShaped t → f < length t.counts → IsThere t f
there_by t f s l = record {
  owned = omega (arith, s.counted);
  filled = omega (arith, s.counted, s.filled);
  whole = s.paged f [] (omega (arith, s.counted, s.filled));
}

pub page_some : (t : FrameTable) → IsTableShaped t → 0 < t.page
page_some t s = grind (arith, rules, s.size)

page_there : (place page count : ℕ) → 0 < page → place < page * count → place / page < count
page_there place page count p h = grind arith

place_is : (place page : ℕ) → 0 < page → page * (place / page) + place % page ≡ place
place_is place page p = omega arith

-- a place of a range: its page, and where it is in it
pub record PlaceOf (count page place : ℕ) : Type 0 where
  pub there : place / page < count
  pub is : page * (place / page) + place % page ≡ place

pub place_of : (count page first len at : ℕ) → 0 < page → first + len ≤ page * count → at < len → PlaceOf count page (first + at)
place_of count page first len at p w h = record { there = page_there (first + at) page count p (omega arith); is = place_is (first + at) page p }

pub frame_at : (loans : List InLoan) (i : ℕ) (d : InLoan) → i < length loans → (get_or loans i d).frame.0 ≡ get_or (input_frames loans) i 0
frame_at [] i d l = absurd (omega arith)
frame_at (x ∷ loans) zero d l = refl
frame_at (x ∷ loans) (suc i) d l = frame_at loans i d (omega arith)

pub out_frame_at : (loans : List OutLoan) (i : ℕ) (d : OutLoan) → i < length loans → (get_or loans i d).frame.0 ≡ get_or (output_frames loans) i 0
out_frame_at [] i d l = absurd (omega arith)
out_frame_at (x ∷ loans) zero d l = refl
out_frame_at (x ∷ loans) (suc i) d l = out_frame_at loans i d (omega arith)

pub frames_count : (loans : List InLoan) → length (input_frames loans) ≡ length loans
frames_count [] = refl
frames_count (x ∷ loans) = ap suc (frames_count loans)

pub out_frames_count : (loans : List OutLoan) → length (output_frames loans) ≡ length loans
out_frames_count [] = refl
out_frames_count (x ∷ loans) = ap suc (out_frames_count loans)

stored_size : (f g off : ℕ) (new : List ℕ) (bytes : List (List ℕ)) → g < length bytes
    → length (get_or (set bytes g (overlaid off new (get_or bytes g []))) f []) ≡ length (get_or bytes f [])
stored_size f g off new bytes h = elim (set_at bytes g f (overlaid off new (get_or bytes g [])) [] h) [
  | inl v ↦ ap length v.1 ∙ length-overlaid off new (get_or bytes g []) ∙ ap (λ n. length (get_or bytes n [])) (sym v.0)
  | inr v ↦ ap length v.1
]

-- the range after a store of a run from its place `at` on, in page i
pub only_stored : (frames : List ℕ) (first len at i off : ℕ) (new : List ℕ) (t : FrameTable) → IsTableShaped t → CanLand t frames first len → i < length frames
    → t.page * i + off ≡ first + at → off + length new ≤ t.page → at + length new ≤ len
    → OnlyRange frames first len t (more_landed (stored t (get_or frames i 0) off new) (length new))
only_stored frames first len at i off new t s ready h e fits short =
    let g : ℕ = get_or frames i 0 in
    let there = (λ (j : ℕ) (l : j < length frames). there_by t (get_or frames j 0) s (input_there t.counts (get_or frames j 0) (ready.out j l))) in
    let all : List ℕ = joined t.bytes frames in
    let u : FrameTable = stored t g off new in
    let is : joined u.bytes frames ≡ overlaid (first + at) new all =
    joined_stored frames t.page i off (first + at) new t.bytes ready.apart h (λ j l. (there j l).whole) (λ j l. (there j l).filled) fits (sym e) in
    let cut : take (len - at) new ≡ new = take_all (len - at) new (omega arith) in
    let content : range_bytes u frames first len ≡ overlaid at new (part first len all) = ap (part first len) is ∙ part-overlaid first len at (first + at) new all refl in
    record {
      page = refl;
      owners = refl;
      counts = refl;
      meters = refl;
      count = length-set t.bytes g _;
      sizes = λ f. stored_size f g off new t.bytes (there i h).filled;
      others = λ f n. get_or-set_other t.bytes g f _ [] (λ q. let some = times_at frames i h in let none : times frames g ≡ 0 = subst (λ n. times frames n ≡ 0) q n in absurd (omega arith));
      range = is ∙ ap (λ xs. overlaid (first + at) xs all) (sym cut) ∙ sym (overlaid-part first len at (len - at) (first + at) new all refl refl) ∙ ap (λ xs. overlaid first xs all) (sym content);
    }

pub content_stored : (frames : List ℕ) (first len at i off : ℕ) (new : List ℕ) (t : FrameTable) → IsTableShaped t → CanLand t frames first len → i < length frames
    → t.page * i + off ≡ first + at → off + length new ≤ t.page
    → range_bytes (more_landed (stored t (get_or frames i 0) off new) (length new)) frames first len ≡ overlaid at new (range_bytes t frames first len)
content_stored frames first len at i off new t s ready h e fits =
    let there = (λ (j : ℕ) (l : j < length frames). there_by t (get_or frames j 0) s (input_there t.counts (get_or frames j 0) (ready.out j l))) in
    ap (part first len) (joined_stored frames t.page i off (first + at) new t.bytes ready.apart h (λ j l. (there j l).whole) (λ j l. (there j l).filled) fits (sym e)) ∙ part-overlaid first len at (first + at) new (joined t.bytes frames) refl

pub landable_still : (frames : List ℕ) (first len : ℕ) (t u : FrameTable) → CanLand t frames first len → OnlyRange frames first len t u → CanLand u frames first len
landable_still frames first len t u r k = record {
  out = λ i h. rw k.counts (r.out i h);
  apart = r.apart;
  within = λ p. rw k.page (r.within p);
  fits = r.fits;
}

run_fits : (page place left size count room : ℕ) → 0 < page → room ≡ min (page - place % page) left → count ≡ min room size → place % page + count ≤ page
run_fits page place left size count room p e f = omega arith

run_within : (page off left size count room : ℕ) → room ≡ min (page - off) left → count ≡ min room size → count ≤ left
run_within page off left size count room e f = omega arith

run_length : (bytes : List ℕ) (room count : ℕ) → count ≡ min room (length bytes) → length (take count bytes) ≡ count
run_length bytes room count e = let h : count ≤ length bytes = omega arith in length-take-le count bytes h

-- what a piece of the bytes does where it lands
pub record PieceStored (frames : List ℕ) (first len at : ℕ) (new : List ℕ) (t u : FrameTable) : Type 0 where
  pub content : range_bytes u frames first len ≡ overlaid at new (range_bytes t frames first len)
  pub only : OnlyRange frames first len t u
  pub ready : CanLand u frames first len

-- where a piece of the bytes goes: to a page of a loan, from a place on
pub record PieceFits (t : FrameTable) (loans : List InLoan) (first len at : ℕ) (new : List ℕ) (d : InLoan) : Type 0 where
  pub index : (first + at) / t.page < length loans
  pub there : (get_or loans ((first + at) / t.page) d).frame.0 < length t.owners
  pub out : 0 < (counts_at t (get_or loans ((first + at) / t.page) d).frame.0).input
  pub fits : (first + at) % t.page + length new ≤ t.page
  pub stored : PieceStored (input_frames loans) first len at new t (more_landed (stored t (get_or loans ((first + at) / t.page) d).frame.0 ((first + at) % t.page) new) (length new))

pub piece_fits : (loans : List InLoan) (first len at room count : ℕ) (bytes : List ℕ) (t : FrameTable) (d : InLoan)
    → IsTableShaped t → CanLand t (input_frames loans) first len → at < len → room ≡ min (t.page - (first + at) % t.page) (len - at) → count ≡ min room (length bytes)
    → PieceFits t loans first len at (take count bytes) d
piece_fits loans first len at room count bytes t d s ready less e f =
    let frames : List ℕ = input_frames loans in
    let i : ℕ = (first + at) / t.page in
    let off : ℕ = (first + at) % t.page in
    let new : List ℕ = take count bytes in
    let some : 0 < t.page = page_some t s in
    let p = place_of (length frames) t.page first len at some (ready.within (omega arith)) less in
    let size : length new ≡ count = run_length bytes room count f in
    let fits : off + length new ≤ t.page = rw size (run_fits t.page (first + at) (len - at) (length bytes) count room some e f) in
    let short : count ≤ len - at = run_within t.page off (len - at) (length bytes) count room e f in
    let l : i < length loans = rw (frames_count loans) at p.there in
    let which : get_or frames i 0 ≡ (get_or loans i d).frame.0 = sym (frame_at loans i d l) in
    let out : 0 < (counts_at t (get_or loans i d).frame.0).input = subst (λ n. 0 < (counts_at t n).input) which (ready.out i p.there) in
    let only = only_stored frames first len at i off new t s ready p.there p.is fits (omega arith) in
    let done : PieceStored frames first len at new t (more_landed (stored t (get_or frames i 0) off new) (length new)) = record {
      content = content_stored frames first len at i off new t s ready p.there p.is fits;
      only = only;
      ready = landable_still frames first len t _ ready only;
    } in
    record {
      index = l;
      there = (there_by t _ s (input_there t.counts _ out)).owned;
      out = out;
      fits = fits;
      stored = subst (λ n. PieceStored frames first len at new t (more_landed (stored t n off new) (length new))) which done;
    }

-- the bytes landed so far
pub record Landed (frames : List ℕ) (first len at : ℕ) (bytes : List ℕ) (t u : FrameTable) (done : ℕ) : Type 0 where
  pub within : done ≤ length bytes
  pub content : range_bytes u frames first len ≡ overlaid at (take done bytes) (range_bytes t frames first len)
  pub count : u.landed ≡ t.landed + done
  pub ready : CanLand u frames first len
  pub only : OnlyRange frames first len t u

pub landed_none : (frames : List ℕ) (first len at : ℕ) (bytes : List ℕ) (t : FrameTable) → CanLand t frames first len → Landed frames first len at bytes t t 0
landed_none frames first len at bytes t ready = record {
  within = omega arith;
  content = sym (overlaid-nothing at (range_bytes t frames first len));
  count = omega arith;
  ready = ready;
  only = only_none frames first len t;
}

pub rest_is : (bytes : List ℕ) (done : ℕ) → take (length bytes - done) (drop done bytes) ≡ drop done bytes
rest_is bytes done = let e = length-drop done bytes in take_all (length bytes - done) (drop done bytes) (omega arith)

pub landed_more : (frames : List ℕ) (first len at place : ℕ) (bytes : List ℕ) (t u v : FrameTable) (done count : ℕ) → Landed frames first len at bytes t u done
    → place ≡ at + done → count ≤ length (drop done bytes)
    → range_bytes v frames first len ≡ overlaid place (take count (drop done bytes)) (range_bytes u frames first len)
    → v.landed ≡ u.landed + count → CanLand v frames first len → OnlyRange frames first len u v → Landed frames first len at bytes t v (done + count)
landed_more frames first len at place bytes t u v done count so where_at short content landed ready only =
    let w : done ≤ length bytes = so.within in
    let left : length (drop done bytes) ≡ length bytes - done = length-drop done bytes in
    let size : length (take done bytes) ≡ done = length-take-le done bytes w in
    let joint : take (done + count) bytes ≡ take done bytes ++ take count (drop done bytes) = take-add done count bytes in
    let c : u.landed ≡ t.landed + done = so.count in
    let old : List ℕ = range_bytes t frames first len in
    let next : place ≡ at + length (take done bytes) = omega arith in
    record {
      within = omega arith;
      content = content ∙ ap (overlaid place (take count (drop done bytes))) so.content ∙ ap (λ n. overlaid n (take count (drop done bytes)) (overlaid at (take done bytes) old)) next ∙ overlaid-append at (take done bytes) (take count (drop done bytes)) old ∙ ap (λ xs. overlaid at xs old) (sym joint);
      count = omega arith;
      ready = ready;
      only = only_more frames first len t u v so.only only;
    }

range_short : (frames : List ℕ) (first len : ℕ) (t : FrameTable) → length (range_bytes t frames first len) ≤ len
range_short frames first len t = let e = length-take len (drop first (joined t.bytes frames)) in rw e (omega arith)

pub landed_whole : (frames : List ℕ) (first len at : ℕ) (bytes : List ℕ) (t u : FrameTable) (done : ℕ) → Landed frames first len at bytes t u done
    → length bytes ≤ done ⊎ len ≤ at + done → range_bytes u frames first len ≡ overlaid at bytes (range_bytes t frames first len)
landed_whole frames first len at bytes t u done so (inl all) = let e : take done bytes ≡ bytes = take_all done bytes all in rw e at so.content
landed_whole frames first len at bytes t u done so (inr past) =
    let short : length (range_bytes t frames first len) ≤ len = range_short frames first len t in
    so.content ∙ overlaid-cut at done bytes (range_bytes t frames first len) (omega arith)

-- a part of the page with number i
joined_part : (frames : List ℕ) (page i off n y : ℕ) (bytes : List (List ℕ)) → i < length frames
    → ((j : ℕ) → j < length frames → length (get_or bytes (get_or frames j 0) []) ≡ page)
    → off + n ≤ page → y ≡ page * i + off → part y n (joined bytes frames) ≡ part off n (get_or bytes (get_or frames i 0) [])
joined_part [] page i off n y bytes h whole fits e = absurd (omega arith)
joined_part (f ∷ frames) page zero off n y bytes h whole fits e =
    let p : List ℕ = get_or bytes f [] in
    let size : length p ≡ page = whole 0 (omega arith) in
    let start : y ≡ off = omega arith in
    let left : length (drop off p) ≡ length p - off = length-drop off p in
    let short : n ≤ length (drop off p) = omega arith in
    rw start (ap (take n) (drop-append-le off p (joined bytes frames) (omega arith)) ∙ take-append-le n (drop off p) (joined bytes frames) short)
joined_part (f ∷ frames) page (suc i) off n y bytes h whole fits e =
    let p : List ℕ = get_or bytes f [] in
    let size : length p ≡ page = whole 0 (omega arith) in
    let start : y ≡ length p + (page * i + off) = grind (arith, size, e) in
    rw start (ap (take n) (drop-append-add p (joined bytes frames) (page * i + off)) ∙ joined_part frames page i off n (page * i + off) bytes (omega arith) (λ j k. whole (suc j) (omega arith)) fits refl)

take_take : (n m : ℕ) (xs : List ℕ) → n ≤ m → take n (take m xs) ≡ take n xs
take_take n m xs h = grind (arith, common_steps)

-- a part of a range
range_part : (first len at n : ℕ) (all : List ℕ) → at + n ≤ len → take n (drop at (take len (drop first all))) ≡ part (first + at) n all
range_part first len at n all h =
    let split : len ≡ at + (len - at) = omega arith in
    let e : drop at (take (at + (len - at)) (drop first all)) ≡ take (len - at) (drop at (drop first all)) = drop-take at (len - at) (drop first all) in
    ap (λ (m : ℕ). take n (drop at (take m (drop first all)))) split ∙ ap (take n) e ∙ take_take n (len - at) (drop at (drop first all)) (omega arith) ∙ ap (take n) (drop-drop at first all)

pub joined_length : (frames : List ℕ) (page : ℕ) (bytes : List (List ℕ)) → ((j : ℕ) → j < length frames → length (get_or bytes (get_or frames j 0) []) ≡ page) → length (joined bytes frames) ≡ page * length frames
joined_length [] page bytes whole = omega arith
joined_length (f ∷ frames) page bytes whole =
    let ih = joined_length frames page bytes (λ j l. whole (suc j) (omega arith)) in
    let one = whole 0 (omega arith) in
    let all : length (get_or bytes f [] ++ joined bytes frames) ≡ length (get_or bytes f []) + length (joined bytes frames) = search (rules, common_steps) in
    grind (arith, ih, one, all)

-- the range has as many bytes as it says
pub range_length : (frames : List ℕ) (first len : ℕ) (t : FrameTable) → IsTableShaped t → ((j : ℕ) → j < length frames → get_or frames j 0 < length t.counts) → IsWithin t frames first len → length (range_bytes t frames first len) ≡ len
range_length frames first len t s there w =
    let all = joined_length frames t.page t.bytes (λ j l. (there_by t (get_or frames j 0) s (there j l)).whole) in
    elim (same_or len 0) [
      | inl z ↦ omega (arith, length-take len (drop first (joined t.bytes frames)), z)
      | inr n ↦ let w' = w (omega arith) in omega (arith, length-take len (drop first (joined t.bytes frames)), length-drop first (joined t.bytes frames), all, w')
    ]

-- a piece that is lent: from a page of a loan, as many bytes as the page and the range have
pub record PieceLent (t : FrameTable) (loans : List OutLoan) (first len at count : ℕ) (d : OutLoan) : Type 0 where
  pub index : (first + at) / t.page < length loans
  pub there : (get_or loans ((first + at) / t.page) d).frame.0 < length t.owners
  pub out : 0 < outputs (get_or loans ((first + at) / t.page) d).strong (counts_at t (get_or loans ((first + at) / t.page) d).frame.0)
  pub fits : (first + at) % t.page + count ≤ t.page
  pub size : length (part ((first + at) % t.page) count (bytes_at t (get_or loans ((first + at) / t.page) d).frame.0)) ≡ count
  pub is : part ((first + at) % t.page) count (bytes_at t (get_or loans ((first + at) / t.page) d).frame.0) ≡ take count (drop at (range_bytes t (output_frames loans) first len))
  pub some : 0 < count

pub piece_lent : (loans : List OutLoan) (first len at count : ℕ) (t : FrameTable) (d : OutLoan)
    → IsTableShaped t → CanSend t loans first len → at < len → count ≡ min (t.page - (first + at) % t.page) (len - at) → PieceLent t loans first len at count d
piece_lent loans first len at count t d s ready less e =
    let frames : List ℕ = output_frames loans in
    let i : ℕ = (first + at) / t.page in
    let off : ℕ = (first + at) % t.page in
    let some : 0 < t.page = page_some t s in
    let p = place_of (length frames) t.page first len at some (ready.within (omega arith)) less in
    let l : i < length loans = rw (out_frames_count loans) at p.there in
    let which : get_or frames i 0 ≡ (get_or loans i d).frame.0 = sym (out_frame_at loans i d l) in
    let fits : off + count ≤ t.page = omega arith in
    let there = (λ (j : ℕ) (k : j < length frames).
    let k' : j < length loans = rw (out_frames_count loans) at k in
    there_by t (get_or frames j 0) s (subst (λ n. n < length t.counts) (out_frame_at loans j d k') (output_there t.counts _ _ (ready.out j d k')))) in
    let whole : length (bytes_at t (get_or frames i 0)) ≡ t.page = (there i p.there).whole in
    let size : length (part off count (bytes_at t (get_or frames i 0))) ≡ count = length-take-le count (drop off (bytes_at t (get_or frames i 0))) (omega (arith, length-drop off (bytes_at t (get_or frames i 0)))) in
    let is : part (first + at) count (joined t.bytes frames) ≡ part off count (bytes_at t (get_or frames i 0)) = joined_part frames t.page i off count (first + at) t.bytes p.there (λ j k. (there j k).whole) fits (sym p.is) in
    let front : part off count (bytes_at t (get_or frames i 0)) ≡ take count (drop at (range_bytes t frames first len)) = sym is ∙ sym (range_part first len at count (joined t.bytes frames) (omega arith)) in
    record {
      index = l;
      there = subst (λ n. n < length t.owners) which (there i p.there).owned;
      out = ready.out i d l;
      fits = fits;
      size = subst (λ n. length (part off count (bytes_at t n)) ≡ count) which size;
      is = subst (λ n. part off count (bytes_at t n) ≡ take count (drop at (range_bytes t frames first len))) which front;
      some = omega arith;
    }
