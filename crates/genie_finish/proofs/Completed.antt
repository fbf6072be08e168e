-- The rest of a page is brought to a frame.
use Rattle.std.proofs.Common.{◌≡◌, ◌≢◌, ℕ, zero, suc, ◌+◌, ◌-◌, ◌<◌, ◌≤◌, true, false, List, [], ◌∷◌, length, take, drop, get_or, refl, ap, sym, ◌∙◌, arith, subst, set, length-set, Bool}
use Rattle.std.specs.Prelude.{replicate, Option, Some, None}
use Rattle.std.proofs.lemmas.List.{get_or-set_same, get_or-set_other, set-set, take-replicate, drop-replicate, length-replicate, take_all}
use Rattle.genie_base.specs.Bytes.{overlaid, part}
use Rattle.genie_frame.specs.declared.frame.Meters.{Meters}
use Rattle.genie_frame.specs.FrameTable.{FrameTable, owner_at, counts_at, bytes_at, set_bytes, IsShaped}
use Rattle.genie_frame.specs.Frames.{stored, more_zeroed, more_copied}
use Rattle.genie_object.specs.declared.pages.PageId.{PageId}
use Rattle.genie_object.specs.declared.pages.PageInfo.{PageInfo}
use Rattle.genie_object.specs.declared.pages.Place.{Place}
use Rattle.genie_object.specs.declared.pages.Place.TheVariants.{Zero, Frame, Slot}
use Rattle.genie_object.specs.declared.memory.Memory.{Memory}
use Rattle.genie_object.specs.Pages.{page_at}
use Rattle.genie_object.specs.Objects.{entry_at}
use Rattle.genie_object.specs.Memory.{seen, page_bytes, place_bytes, entry_frame, frame_of, frame_in}
use Rattle.genie_object.specs.Sound.{IsSound, IsFramed}
use Rattle.genie_object.specs.Costs.{Spends, is_zero, is_untouched}
use Rattle.genie_base.specs.Lemmas.Overlaid.{overlaid-nothing}
use Rattle.genie_plan.specs.Lemmas.Landings.{entry_size}
use Rattle.genie_finish.specs.Storing.{completed}

pub all_laid : (new old : List ℕ) → length new ≡ length old → overlaid zero new old ≡ new
all_laid [] [] e = refl
all_laid [] (o ∷ old) e = absurd (omega arith)
all_laid (b ∷ new) [] e = absurd (omega arith)
all_laid (b ∷ new) (o ∷ old) e = ap (λ l. b ∷ l) (all_laid new old (omega arith))

rest_laid : (n : ℕ) (b p : List ℕ) → length b ≡ length p → n ≤ length p → overlaid n (drop n p) b ≡ overlaid zero (take n b) p
rest_laid zero b p e h = all_laid p b (sym e) ∙ sym (overlaid-nothing zero p)
rest_laid (suc n) [] p e h = absurd (omega arith)
rest_laid (suc n) (x ∷ b) [] e h = absurd (omega arith)
rest_laid (suc n) (x ∷ b) (y ∷ p) e h = ap (λ l. x ∷ l) (rest_laid n b p (omega arith) (omega arith))

-- the bytes of one list around those of another
around : (off n past : ℕ) (b p : List ℕ) → past ≡ off + n → length b ≡ length p → past ≤ length p → overlaid past (drop past p) (overlaid zero (take off p) b) ≡ overlaid off (take n (drop off b)) p
around zero n past b p s e h = let same : past ≡ n = omega arith in ap (overlaid past (drop past p)) (overlaid-nothing zero b) ∙ (λ k. overlaid (same k) (drop (same k) p) b) ∙ rest_laid n b p e (omega arith)
around (suc off) n zero b p s e h = absurd (omega arith)
around (suc off) n (suc past) [] p s e h = absurd (omega arith)
around (suc off) n (suc past) (x ∷ b) [] s e h = absurd (omega arith)
around (suc off) n (suc past) (x ∷ b) (y ∷ p) s e h = ap (λ l. y ∷ l) (around off n past b p (omega arith) (omega arith) (omega arith))

pub spends_zeroed : (m w : Meters) (k b : ℕ) → w ≡ record m { zeroed = m.zeroed + k } → k ≤ b → Spends b 0 0 0 m w
spends_zeroed m w k b e l = record {
  read = omega (arith, ap (λ (x : Meters). x.read) e);
  written = omega (arith, ap (λ (x : Meters). x.written) e);
  copied = omega (arith, ap (λ (x : Meters). x.copied) e);
  zeroed = omega (arith, ap (λ (x : Meters). x.zeroed) e);
  work = omega (arith, l, ap (λ (x : Meters). x.read) e, ap (λ (x : Meters). x.written) e, ap (λ (x : Meters). x.copied) e, ap (λ (x : Meters). x.zeroed) e);
  gets = omega (arith, ap (λ (x : Meters). x.gets) e);
  most_gets = omega (arith, ap (λ (x : Meters). x.gets) e);
  puts = omega (arith, ap (λ (x : Meters). x.puts) e);
  most_puts = omega (arith, ap (λ (x : Meters). x.puts) e);
  taken = omega (arith, ap (λ (x : Meters). x.taken) e);
  most_taken = omega (arith, ap (λ (x : Meters). x.taken) e);
}

pub spends_copied : (m w : Meters) (k b : ℕ) → w ≡ record m { copied = m.copied + k } → k ≤ b → Spends b 0 0 0 m w
spends_copied m w k b e l = record {
  read = omega (arith, ap (λ (x : Meters). x.read) e);
  written = omega (arith, ap (λ (x : Meters). x.written) e);
  copied = omega (arith, ap (λ (x : Meters). x.copied) e);
  zeroed = omega (arith, ap (λ (x : Meters). x.zeroed) e);
  work = omega (arith, l, ap (λ (x : Meters). x.read) e, ap (λ (x : Meters). x.written) e, ap (λ (x : Meters). x.copied) e, ap (λ (x : Meters). x.zeroed) e);
  gets = omega (arith, ap (λ (x : Meters). x.gets) e);
  most_gets = omega (arith, ap (λ (x : Meters). x.gets) e);
  puts = omega (arith, ap (λ (x : Meters). x.puts) e);
  most_puts = omega (arith, ap (λ (x : Meters). x.puts) e);
  taken = omega (arith, ap (λ (x : Meters). x.taken) e);
  most_taken = omega (arith, ap (λ (x : Meters). x.taken) e);
}

-- what a frame holds once it was zeroed in front of some bytes, and behind them
module _ (t u v : FrameTable) (f off n past rest : ℕ) (there : f < length t.bytes) (full : length (bytes_at t f) ≡ t.page) (fits : off + n ≤ t.page) (is_past : past ≡ off + n) (is_rest : rest ≡ t.page - past) (a : u ≡ more_zeroed (stored t f 0 (replicate off 0)) off) (b : v ≡ more_zeroed (stored u f past (replicate rest 0)) rest) where
  front : bytes_at u f ≡ overlaid 0 (replicate off 0) (bytes_at t f)
  front = ap (λ x. bytes_at x f) a ∙ get_or-set_same t.bytes f _ [] there

  behind : bytes_at v f ≡ overlaid past (replicate rest 0) (bytes_at u f)
  behind = ap (λ x. bytes_at x f) b ∙ get_or-set_same u.bytes f _ [] (omega (arith, there, ap (λ (x : FrameTable). length x.bytes) a, length-set t.bytes f (overlaid 0 (replicate off 0) (bytes_at t f))))

  pub zeroed_bytes : bytes_at v f ≡ overlaid off (part off n (bytes_at t f)) (replicate t.page 0)
  zeroed_bytes =
      let low : replicate off 0 ≡ take off (replicate t.page 0) = sym (take-replicate off t.page 0 (omega (arith, fits))) in
      let size : length (replicate t.page 0) ≡ t.page = length-replicate t.page 0 in
      let high : replicate rest 0 ≡ drop past (replicate t.page 0) = ap (λ k. replicate k 0) is_rest ∙ sym (drop-replicate past t.page 0) in
      behind ∙ ap (overlaid past (replicate rest 0)) front ∙ (λ k. overlaid past (high k) (overlaid 0 (low k) (bytes_at t f))) ∙ around off n past (bytes_at t f) (replicate t.page 0) is_past (full ∙ sym size) (omega (arith, is_past, fits, size))

  pub zeroed_frames : v ≡ completed t f (bytes_at v f) v.meters
  zeroed_frames =
      let twice : v.bytes ≡ set t.bytes f (bytes_at v f) = ap (λ (x : FrameTable). x.bytes) b ∙ ap (λ bs. set bs f (overlaid past (replicate rest 0) (bytes_at u f))) (ap (λ (x : FrameTable). x.bytes) a) ∙ set-set t.bytes f _ _ ∙ ap (set t.bytes f) (sym behind) in
      λ k. record {
        page = (ap (λ (x : FrameTable). x.page) b ∙ ap (λ (x : FrameTable). x.page) a) k;
        owners = (ap (λ (x : FrameTable). x.owners) b ∙ ap (λ (x : FrameTable). x.owners) a) k;
        counts = (ap (λ (x : FrameTable). x.counts) b ∙ ap (λ (x : FrameTable). x.counts) a) k;
        bytes = twice k;
        meters = v.meters;
        landed = (ap (λ (x : FrameTable). x.landed) b ∙ ap (λ (x : FrameTable). x.landed) a) k;
      }

  pub zeroed_spends : Spends (t.page - n) 0 0 0 t.meters v.meters
  zeroed_spends =
      let more : t.meters.zeroed + off + rest ≡ t.meters.zeroed + (off + rest) = omega arith in
      spends_zeroed t.meters v.meters (off + rest) (t.page - n) (ap (λ (x : FrameTable). x.meters) b ∙ ap (λ (x : FrameTable). record (x.meters) { zeroed = x.meters.zeroed + rest }) a ∙ (λ k. record (t.meters) { zeroed = more k })) (omega (arith, is_past, is_rest, fits))

-- an untouched entry shows zeros
pub untouched_shows : (m : Memory) (slots : ℕ → List ℕ) (o i : ℕ) → is_untouched m o i ≡ true → (seen m slots).entry_bytes o i ≡ replicate m.frames.page 0
untouched_shows m slots o i e = by_page (entry_at m.objects o i).page e
  where
    by_place : (place : Place) → is_zero place ≡ true → place_bytes m.frames slots place ≡ replicate m.frames.page 0
    by_place Zero h = refl
    by_place (Frame f) h = cc
    by_place (Slot s) h = cc

    by_page : (page : Option PageId) → elim page as (λ _. Bool) [ None ↦ true | Some p ↦ is_zero (page_at m.pages.pages p.0).place ] ≡ true → page_bytes m.frames m.pages.pages slots page ≡ replicate m.frames.page 0
    by_page None h = refl
    by_page (Some p) h = by_place (page_at m.pages.pages p.0).place h

-- a whole page needs nothing
pub whole_laid : (m : Memory) (f o i off n : ℕ) (slots : ℕ → List ℕ) → IsSound m → f < length m.frames.owners → n ≡ m.frames.page → off + n ≤ m.frames.page → ((s : ℕ) → length (slots s) ≡ m.frames.page) → bytes_at m.frames f ≡ overlaid off (part off n (bytes_at m.frames f)) ((seen m slots).entry_bytes o i)
whole_laid m f o i off n slots s there whole fits told =
    let none : off ≡ 0 = omega (arith, whole, fits) in
    let size : length (bytes_at m.frames f) ≡ m.frames.page = s.shaped.paged f [] (omega (arith, there, s.shaped.filled)) in
    let all : part 0 n (bytes_at m.frames f) ≡ bytes_at m.frames f = take_all n (bytes_at m.frames f) (omega (arith, size, whole)) in
    sym ((λ k. overlaid (none k) (part (none k) n (bytes_at m.frames f)) ((seen m slots).entry_bytes o i)) ∙ ap (λ xs. overlaid 0 xs ((seen m slots).entry_bytes o i)) all ∙ all_laid (bytes_at m.frames f) ((seen m slots).entry_bytes o i) (size ∙ sym (entry_size m slots o i s told)))

-- frames with the bytes that they have
pub completed_same : (t : FrameTable) (f : ℕ) → t ≡ completed t f (bytes_at t f) t.meters
completed_same t f = ap (λ bs. record t { bytes = bs }) (same t.bytes f)
  where
    same : (bs : List (List ℕ)) (g : ℕ) → bs ≡ set bs g (get_or bs g [])
    same [] g = refl
    same (b ∷ bs) zero = refl
    same (b ∷ bs) (suc g) = ap (λ l. b ∷ l) (same bs g)

-- bytes that were brought from the page's frame
pub copied_frames : (m : Memory) (v : FrameTable) (f off n k : ℕ) (page : _) (rest : ℕ → List ℕ) → IsFramed m.pages.pages page → f < length m.frames.bytes → ((h : ℕ) → frame_of m.pages.pages page ≡ Some h → v ≡ more_copied (set_bytes m.frames f (rest h)) k) → v ≡ completed m.frames f (bytes_at v f) v.meters
copied_frames m v f off n k page rest r l h =
    let is = h r.frame.0 (ap (frame_of m.pages.pages) r.is_page ∙ ap frame_in r.is_place) in
    let here : bytes_at v f ≡ rest r.frame.0 = ap (λ x. bytes_at x f) is ∙ get_or-set_same m.frames.bytes f _ [] l in
    is ∙ (λ j. record (set_bytes m.frames f (sym here j)) { meters = sym (ap (λ (x : FrameTable). x.meters) is) j })

pub copied_spends : (m : Memory) (v : FrameTable) (f k b : ℕ) (page : _) (rest : ℕ → List ℕ) → IsFramed m.pages.pages page → ((h : ℕ) → frame_of m.pages.pages page ≡ Some h → v ≡ more_copied (set_bytes m.frames f (rest h)) k) → k ≤ b → Spends b 0 0 0 m.frames.meters v.meters
copied_spends m v f k b page rest r h l = spends_copied m.frames.meters v.meters k b (ap (λ (x : FrameTable). x.meters) (h r.frame.0 (ap (frame_of m.pages.pages) r.is_page ∙ ap frame_in r.is_place))) l
