-- Piece after piece of a range is copied.
use Rattle.std.proofs.Common.{◌≡◌, ◌≢◌, ℕ, zero, suc, ◌+◌, ◌-◌, ◌*◌, ◌/◌, ◌%◌, ◌<◌, ◌≤◌, Bool, true, false, List, [], ◌∷◌, ◌++◌, length, take, drop, get_or, refl, ap, sym, ◌∙◌, arith, rules, subst, inl, inr, length-take, length-drop}
use Rattle.std.specs.Prelude.{Some, ◌==◌, ◌&&◌, min, if◌then◌else◌}
use Rattle.std.proofs.lemmas.List.{get_or-set_other, take_all}
use Rattle.std.proofs.Math.Seq.{take-add}
use Rattle.genie_base.specs.Bytes.{overlaid, part}
use Rattle.genie_base.specs.Counts.{span}
use Rattle.genie_base.specs.Lemmas.Places.{same_or}
use Rattle.genie_frame.specs.declared.frame.Counts.{Counts}
use Rattle.genie_frame.specs.declared.frame.Meters.{Meters}
use Rattle.genie_frame.specs.declared.frame.Owner.{Owner}
use Rattle.genie_frame.specs.declared.frame.Owner.TheVariants.{Free, Page}
use Rattle.genie_frame.specs.FrameTable.{FrameTable, owner_at, bytes_at, is_system, IsShaped}
use Rattle.genie_frame.specs.Frames.{stored, more_copied}
use Rattle.genie_object.specs.declared.memory.Memory.{Memory}
use Rattle.genie_object.specs.Objects.{entry_at}
use Rattle.genie_object.specs.Memory.{Seen, seen, see_entry, entry_frame}
use Rattle.genie_object.specs.Sound.{IsSound, IsPrivate}
use Rattle.genie_frame.specs.declared.frame.InLoan.{InLoan}
use Rattle.genie_plan.specs.Plans.{joined, range_bytes, input_frames}
use Rattle.genie_plan.specs.Landings.{entries_bytes}
use Rattle.genie_plan.specs.Lemmas.Landings.{entry_size}
use Rattle.genie_plan.specs.Lemmas.Ranges.{joined_length, frame_at, frames_count}
use Rattle.genie_plan.specs.Lemmas.Ending.{other_test}
use Rattle.genie_finish.specs.Copies.{AreOwn, AreOfSystem, CopiesRange}
use Rattle.genie_finish.proofs.Looping.{part_part, joined_part, span_is}
use Rattle.genie_finish.proofs.Ranging.{stored_at, overlaid-next, see_same, see_else}
use Rattle.genie_finish.proofs.Storing.{private_frame}

system_there : (owners : List Owner) (g : ℕ) → is_system (get_or owners g Free) ≡ true → g < length owners
system_there [] g e = cc
system_there (w ∷ owners) zero e = omega arith
system_there (w ∷ owners) (suc g) e = let l : g < length owners = system_there owners g e in omega arith

divided : (a b : ℕ) → 0 < b → b * (a / b) + a % b ≡ a
divided a b h = omega arith

less_by : (page a n : ℕ) → 0 < page → a < page * n → a / page < n
less_by page a n p h = grind arith

below_quotient : (page a b : ℕ) → 0 < page → a ≤ b → a / page ≤ b / page
below_quotient page a b p l = grind arith

-- the page of a place of a range
pub record PieceAt (page off len done : ℕ) : Type 0 where
  pub least : off / page ≤ (off + done) / page
  pub most : (off + done) / page - off / page < span page off len

pub piece_at : (page off len done : ℕ) → 0 < page → done < len → PieceAt page off len done
piece_at page off len done p l =
    let a = below_quotient page off (off + done) p (omega arith) in
    let b = below_quotient page (off + done) (off + len - 1) p (omega arith) in
    record { least = a; most = omega (arith, span_is page off len (omega arith), a, b) }

-- the pieces that were copied so far
pub record CopiedSoFar (old now : Memory) (o off len first : ℕ) (frames : List ℕ) (done : ℕ) : Type 0 where
  pub within : done ≤ len
  pub sound : IsSound now
  pub range : (slots : ℕ → List ℕ) → ((r : ℕ) → length (slots r) ≡ old.frames.page) → (pages : ℕ) → off / old.frames.page + span old.frames.page off len ≤ pages → entries_bytes (seen now slots) o 0 pages ≡ overlaid off (take done (range_bytes old.frames frames first len)) (entries_bytes (seen old slots) o 0 pages)
  pub others : (slots : ℕ → List ℕ) (a b : ℕ) → a ≢ o → (seen now slots).entry_bytes a b ≡ (seen old slots).entry_bytes a b
  pub kept : (slots : ℕ → List ℕ) → (seen now slots).kept_bytes ≡ (seen old slots).kept_bytes
  pub owners : now.frames.owners ≡ old.frames.owners
  pub counts : now.frames.counts ≡ old.frames.counts
  pub pages : now.pages ≡ old.pages
  pub objects : now.objects ≡ old.objects
  pub slots_same : now.slots ≡ old.slots
  pub page : now.frames.page ≡ old.frames.page
  pub landed : now.frames.landed ≡ old.frames.landed
  pub meters : now.frames.meters ≡ record (old.frames.meters) { copied = old.frames.meters.copied + done }
  pub sources : (k : ℕ) → k < length frames → bytes_at now.frames (get_or frames k 0) ≡ bytes_at old.frames (get_or frames k 0)

pub copied_none : (old : Memory) (o off len first : ℕ) (frames : List ℕ) → IsSound old → CopiedSoFar old old o off len first frames 0
copied_none old o off len first frames s = record {
  within = omega arith;
  sound = s;
  range = λ slots told pages room. sym (nothing off (entries_bytes (seen old slots) o 0 pages));
  others = λ slots a b n. refl;
  kept = λ slots. refl;
  owners = refl;
  counts = refl;
  pages = refl;
  objects = refl;
  slots_same = refl;
  page = refl;
  landed = refl;
  meters = let e : old.frames.meters.copied ≡ old.frames.meters.copied + 0 = omega arith in λ k. record (old.frames.meters) { copied = e k };
  sources = λ k l. refl;
}
  where
    nothing : (x : ℕ) (xs : List ℕ) → overlaid x [] xs ≡ xs
    nothing x [] = refl
    nothing zero (y ∷ xs) = refl
    nothing (suc x) (y ∷ xs) = ap (λ l. y ∷ l) (nothing x xs)

system_apart : (o : Owner) (p : ℕ) → is_system o ≡ true → o ≡ Page p → ⊥
system_apart o p e h = let bad : false ≡ true = sym (ap is_system h) ∙ e in cc

module _ (old : Memory) (o off len first : ℕ) (frames : List ℕ) (s : IsSound old) (some : 0 < old.frames.page) (system : AreOfSystem old.frames frames) (inside : first + len ≤ old.frames.page * length frames) where
  abbrev p : ℕ
  p = old.frames.page

  abbrev content : List ℕ
  content = range_bytes old.frames frames first len

  whole : (j : ℕ) → j < length frames → length (get_or old.frames.bytes (get_or frames j 0) []) ≡ p
  whole j l = s.shaped.paged (get_or frames j 0) [] (omega (arith, system_there old.frames.owners (get_or frames j 0) (system j l), s.shaped.filled))

  pub content_length : length content ≡ len
  content_length = omega (arith, length-take len (drop first (joined old.frames.bytes frames)), length-drop first (joined old.frames.bytes frames), joined_length frames p old.frames.bytes whole, inside)

  -- a piece that lies in one page of the buffer and in one of the range
  module _ (now new : Memory) (done n i : ℕ) (less : done < len) (x : CopiedSoFar old now o off len first frames done) (is_i : i ≡ (off + done) / p) (n_is : n ≡ min (min (p - (first + done) % p) (p - (off + done) % p)) (len - done)) (own : IsPrivate now.frames.counts now.pages.pages (entry_at now.objects o i).page) where
    abbrev k : ℕ
    k = (first + done) / p

    abbrev f : ℕ
    f = get_or frames k 0

    abbrev bytes : List ℕ
    bytes = part ((first + done) % p) n (bytes_at now.frames f)

    k_less : k < length frames
    k_less = less_by p (first + done) (length frames) some (omega (arith, inside, less))

    from_is : first + done ≡ p * k + (first + done) % p
    from_is = sym (divided (first + done) p some)

    to_is : off + done ≡ p * i + (off + done) % p
    to_is = sym (ap (λ j. p * j + (off + done) % p) is_i ∙ divided (off + done) p some)

    piece : bytes ≡ take n (drop done content)
    piece = ap (part ((first + done) % p) n) (x.sources k k_less) ∙ sym (part_part first len done n (joined old.frames.bytes frames) (omega (arith, n_is, less)) ∙ joined_part frames p k ((first + done) % p) n (first + done) old.frames.bytes k_less whole (omega (arith, n_is)) from_is)

    short : length bytes ≤ n
    short = omega (arith, length-take n (drop ((first + done) % p) (bytes_at now.frames f)))

    size : length (take done content) ≡ done
    size = omega (arith, length-take done content, content_length, x.within)

    pub copied_more : IsSound new → ((slots : ℕ → List ℕ) → seen new slots ≡ see_entry (seen now slots) o i (overlaid ((off + done) % p) bytes ((seen now slots).entry_bytes o i))) → ((g : ℕ) → entry_frame now o i ≡ Some g → new.frames ≡ more_copied (stored now.frames g ((off + done) % p) bytes) n) → new.frames.owners ≡ now.frames.owners → new.frames.counts ≡ now.frames.counts → new.pages ≡ now.pages → new.objects ≡ now.objects → new.slots ≡ now.slots → new.frames.page ≡ now.frames.page → CopiedSoFar old new o off len first frames (done + n)
    copied_more sound shows stores owners counts pages objects slots_same page = record {
      within = omega (arith, n_is, less);
      sound = sound;
      range = λ slots told all room.
          let told' : (r : ℕ) → length (slots r) ≡ now.frames.page = (λ r. told r ∙ sym x.page) in
          let at = piece_at p off len done some less in
          let new_bytes = overlaid ((off + done) % p) bytes ((seen now slots).entry_bytes o i) in
          let start : 0 + i ≡ i = omega arith in
          ap (λ (z : Seen). entries_bytes z o 0 all) (shows slots)
          ∙ stored_at ((seen now slots).entry_bytes o) ((see_entry (seen now slots) o i new_bytes).entry_bytes o) now.frames.page ((off + done) % p) bytes 0 i all
          (λ j w. see_else (seen now slots) o i j new_bytes (λ e. w (e ∙ sym start)))
          (subst (λ j. (see_entry (seen now slots) o i new_bytes).entry_bytes o j ≡ overlaid ((off + done) % p) bytes ((seen now slots).entry_bytes o j)) (sym start) (see_same (seen now slots) o i new_bytes))
          (λ j. entry_size now slots o j x.sound told') (omega (arith, short, n_is, x.page)) (omega (arith, at.most, at.least, room, is_i))
          ∙ (λ j. overlaid ((ap (λ q. q * i + (off + done) % p) x.page ∙ sym to_is) j) (piece j) (x.range slots told all room j))
          ∙ overlaid-next off (off + done) (take done content) (take n (drop done content)) (entries_bytes (seen old slots) o 0 all) (omega (arith, size))
          ∙ ap (λ b. overlaid off b (entries_bytes (seen old slots) o 0 all)) (sym (take-add done n content));
      others = λ slots a b ne. ap (λ (z : Seen). z.entry_bytes a b) (shows slots) ∙ ap (λ v. if (v && (b == i)) then overlaid ((off + done) % p) bytes ((seen now slots).entry_bytes o i) else (seen now slots).entry_bytes a b) (other_test a o ne) ∙ x.others slots a b ne;
      kept = λ slots. ap (λ (z : Seen). z.kept_bytes) (shows slots) ∙ x.kept slots;
      owners = owners ∙ x.owners;
      counts = counts ∙ x.counts;
      pages = pages ∙ x.pages;
      objects = objects ∙ x.objects;
      slots_same = slots_same ∙ x.slots_same;
      page = page ∙ x.page;
      landed = ap (λ (t : FrameTable). t.landed) is ∙ x.landed;
      meters =
          let more : old.frames.meters.copied + done + n ≡ old.frames.meters.copied + (done + n) = omega arith in
          ap (λ (t : FrameTable). t.meters) is ∙ ap (λ (w : Meters). record w { copied = w.copied + n }) x.meters ∙ (λ j. record (old.frames.meters) { copied = more j });
      sources = λ j l. ap (λ (t : FrameTable). bytes_at t (get_or frames j 0)) is ∙ get_or-set_other now.frames.bytes own.frame.0 (get_or frames j 0) _ [] (apart j l) ∙ x.sources j l;
    }
      where
        is : new.frames ≡ more_copied (stored now.frames own.frame.0 ((off + done) % p) bytes) n
        is = stores own.frame.0 (private_frame now o i own)

        apart : (j : ℕ) → j < length frames → get_or frames j 0 ≢ own.frame.0
        apart j l e = system_apart (owner_at old.frames (get_or frames j 0)) own.number.0 (system j l) (ap (λ os. get_or os (get_or frames j 0) Free) (sym x.owners) ∙ ap (owner_at now.frames) e ∙ x.sound.placed.in_frame own.number.0 own.frame own.is_place)

-- one piece, in the words of the call
pub record PieceCopied (now new : Memory) (o off len first : ℕ) (frames : List ℕ) (done n i f page : ℕ) : Type 0 where
  pub is_i : i ≡ (off + done) / page
  pub is_f : f ≡ get_or frames ((first + done) / page) 0
  pub n_is : n ≡ min (min (page - (first + done) % page) (page - (off + done) % page)) (len - done)
  pub own : IsPrivate now.frames.counts now.pages.pages (entry_at now.objects o i).page
  pub sound : IsSound new
  pub shows : (slots : ℕ → List ℕ) → seen new slots ≡ see_entry (seen now slots) o i (overlaid ((off + done) % page) (part ((first + done) % page) n (bytes_at now.frames f)) ((seen now slots).entry_bytes o i))
  pub stores : (g : ℕ) → entry_frame now o i ≡ Some g → new.frames ≡ more_copied (stored now.frames g ((off + done) % page) (part ((first + done) % page) n (bytes_at now.frames f))) n
  pub owners : new.frames.owners ≡ now.frames.owners
  pub counts : new.frames.counts ≡ now.frames.counts
  pub pages : new.pages ≡ now.pages
  pub objects : new.objects ≡ now.objects
  pub slots_same : new.slots ≡ now.slots
  pub same_page : new.frames.page ≡ now.frames.page

pub copied_piece : (old now new : Memory) (o off len first : ℕ) (frames : List ℕ) (done n i f page : ℕ) → IsSound old → 0 < old.frames.page → AreOfSystem old.frames frames → first + len ≤ old.frames.page * length frames → done < len → CopiedSoFar old now o off len first frames done → page ≡ old.frames.page → PieceCopied now new o off len first frames done n i f page → CopiedSoFar old new o off len first frames (done + n)
copied_piece old now new o off len first frames done n i f page s some system inside less x e y =
    let z : PieceCopied now new o off len first frames done n i f old.frames.page = subst (λ v. PieceCopied now new o off len first frames done n i f v) e y in
    let w : PieceCopied now new o off len first frames done n i (get_or frames ((first + done) / old.frames.page) 0) old.frames.page = subst (λ v. PieceCopied now new o off len first frames done n i v old.frames.page) z.is_f z in
    copied_more old o off len first frames s some system inside now new done n i less x w.is_i w.n_is w.own w.sound w.shows w.stores w.owners w.counts w.pages w.objects w.slots_same w.same_page

pub copied_all : (old : Memory) (o off len first : ℕ) (frames : List ℕ) (now : Memory) (done : ℕ) → length (range_bytes old.frames frames first len) ≡ len → len ≤ done → CopiedSoFar old now o off len first frames done → CopiesRange old now o off len first frames
copied_all old o off len first frames now done content_length l x =
    let e : done ≡ len = omega (arith, l, x.within) in
    record {
      sound = x.sound;
      range = λ slots told pages room. x.range slots told pages room ∙ ap (λ b. overlaid off b (entries_bytes (seen old slots) o 0 pages)) (take_all done (range_bytes old.frames frames first len) (omega (arith, content_length, e)));
      others = x.others;
      kept = x.kept;
      owners = x.owners;
      counts = x.counts;
      pages = x.pages;
      objects = x.objects;
      slots = x.slots_same;
      page = x.page;
      landed = x.landed;
      meters = x.meters ∙ ap (λ d. record (old.frames.meters) { copied = old.frames.meters.copied + d }) e;
    }

-- what is the object's own stays so
pub own_now : (old now : Memory) (o off len first done i : ℕ) (frames : List ℕ) → 0 < old.frames.page → AreOwn old o off len → CopiedSoFar old now o off len first frames done → done < len → i ≡ (off + done) / old.frames.page → IsPrivate now.frames.counts now.pages.pages (entry_at now.objects o i).page
own_now old now o off len first done i frames some own x less is =
    let at = piece_at old.frames.page off len done some less in
    let same : off / old.frames.page + ((off + done) / old.frames.page - off / old.frames.page) ≡ i = omega (arith, at.least, is) in
    let here : IsPrivate old.frames.counts old.pages.pages (entry_at old.objects o i).page = subst (λ j. IsPrivate old.frames.counts old.pages.pages (entry_at old.objects o j).page) same (own ((off + done) / old.frames.page - off / old.frames.page) at.most) in
    subst (λ t. IsPrivate now.frames.counts (t.pages) (entry_at now.objects o i).page) (sym x.pages) (subst (λ os. IsPrivate now.frames.counts old.pages.pages (entry_at os o i).page) (sym x.objects) (subst (λ cs. IsPrivate cs old.pages.pages (entry_at old.objects o i).page) (sym x.counts) here))

-- the frame that the next piece comes from is there
pub source_there : (old now : Memory) (o off len first done k : ℕ) (loans : List InLoan) (d : InLoan) → AreOfSystem old.frames (input_frames loans) → CopiedSoFar old now o off len first (input_frames loans) done → k < length loans → (get_or loans k d).frame.0 < length now.frames.owners
source_there old now o off len first done k loans d system x l = subst (λ f. f < length now.frames.owners) (sym (frame_at loans k d l)) (omega (arith, system_there old.frames.owners (get_or (input_frames loans) k 0) (system k (omega (arith, l, frames_count loans))), ap length x.owners))

pub source_at : (page count first len done : ℕ) → 0 < page → first + len ≤ page * count → done < len → (first + done) / page < count
source_at page count first len done p h l = less_by page (first + done) count p (omega (arith, h, l))
