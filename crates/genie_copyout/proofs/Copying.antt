-- Bytes copied between a frame and a page.
use Rattle.std.proofs.Common.{inl, ◌≡◌, ◌≢◌, ℕ, zero, suc, ◌+◌, ◌-◌, ◌<◌, ◌≤◌, Bool, true, false, List, [], ◌∷◌, length, take, drop, refl, ap, sym, ◌∙◌, arith, subst, get_or, length-drop}
use Rattle.std.specs.Prelude.{Option, Some, None}
use Rattle.std.proofs.lemmas.List.{get_or-set_same, get_or-set_other, set-set, take_all}
use Rattle.genie_base.specs.Bytes.{overlaid, part}
use Rattle.genie_base.specs.Lemmas.Overlaid.{overlaid-nothing, length-overlaid}
use Rattle.genie_frame.specs.declared.frame.FrameId.{FrameId}
use Rattle.genie_frame.specs.declared.frame.Owner.{Owner}
use Rattle.genie_frame.specs.declared.frame.Owner.TheVariants.{Free, Page, System, Pool, Nobody}
use Rattle.genie_frame.specs.FrameTable.{FrameTable, owner_at, counts_at, bytes_at, no_counts, set_bytes, is_system, is_page, is_lent}
use Rattle.genie_frame.specs.Frames.{stored, more_copied}
use Rattle.genie_object.specs.declared.pages.PageId.{PageId}
use Rattle.genie_object.specs.declared.pages.PageInfo.{PageInfo}
use Rattle.genie_object.specs.declared.pages.Place.{Place}
use Rattle.genie_object.specs.declared.pages.Place.TheVariants.{Zero, Frame, Slot}
use Rattle.genie_object.specs.declared.memory.Memory.{Memory}
use Rattle.genie_object.specs.Pages.{page_at}
use Rattle.genie_object.specs.declared.objects.Entry.{Entry}
use Rattle.genie_object.specs.Objects.{entry_at, names}
use Rattle.genie_object.specs.Memory.{seen, see_entry, see_kept, entry_frame, frame_of, frame_in}
use Rattle.genie_object.specs.Sound.{IsSound, IsFramed, IsPrivate, strong_at}
use Rattle.genie_object.specs.Keeping.{IsReady}
use Rattle.genie_object.specs.Touching.{KeepsLoans, Touches}
use Rattle.genie_object.specs.Lemmas.Lookup.{in_range}
use Rattle.genie_object.specs.Lemmas.Showing.{shows_stored, seen_landed, keeps_sound}
use Rattle.genie_object.specs.Lemmas.Touching.{as_many}

-- the bytes of one list around those of another
all_laid : (new old : List ℕ) → length new ≡ length old → overlaid zero new old ≡ new
all_laid [] [] e = refl
all_laid [] (o ∷ old) e = absurd (omega arith)
all_laid (b ∷ new) [] e = absurd (omega arith)
all_laid (b ∷ new) (o ∷ old) e = ap (λ l. b ∷ l) (all_laid new old (omega arith))

rest_laid : (n : ℕ) (b p : List ℕ) → length b ≡ length p → n ≤ length p → overlaid n (drop n p) b ≡ overlaid zero (take n b) p
rest_laid zero b p e h = all_laid p b (sym e) ∙ sym (overlaid-nothing zero p)
rest_laid (suc n) [] p e h = absurd (omega arith)
rest_laid (suc n) (x ∷ b) [] e h = absurd (omega arith)
rest_laid (suc n) (x ∷ b) (y ∷ p) e h = ap (λ l. x ∷ l) (rest_laid n b p (omega arith) (omega arith))

pub around : (off n past : ℕ) (b p : List ℕ) → past ≡ off + n → length b ≡ length p → past ≤ length p → overlaid past (drop past p) (overlaid zero (take off p) b) ≡ overlaid off (take n (drop off b)) p
around zero n past b p s e h = let same : past ≡ n = omega arith in ap (overlaid past (drop past p)) (overlaid-nothing zero b) ∙ (λ k. overlaid (same k) (drop (same k) p) b) ∙ rest_laid n b p e (omega arith)
around (suc off) n zero b p s e h = absurd (omega arith)
around (suc off) n (suc past) [] p s e h = absurd (omega arith)
around (suc off) n (suc past) (x ∷ b) [] s e h = absurd (omega arith)
around (suc off) n (suc past) (x ∷ b) (y ∷ p) s e h = ap (λ l. y ∷ l) (around off n past b p (omega arith) (omega arith) (omega arith))

-- where an entry's page is
pub record PageIn (m : Memory) (o i : ℕ) (f : FrameId) : Type 0 where
  pub number : PageId
  pub is_page : (entry_at m.objects o i).page ≡ Some number
  pub is_place : (page_at m.pages.pages number.0).place ≡ Frame f

framed_by : (pages : List PageInfo) (q : Option PageId) (f : ℕ) → frame_of pages q ≡ Some f → IsFramed pages q
framed_by pages None f e = cc
framed_by pages (Some p) f e = by_place (page_at pages p.0).place refl
  where
    by_place : (place : Place) → (page_at pages p.0).place ≡ place → IsFramed pages (Some p)
    by_place Zero s = let bad : None ≡ Some f = sym (ap frame_in s) ∙ e in cc
    by_place (Frame g) s = record { number = p; frame = g; is_page = refl; is_place = s }
    by_place (Slot r) s = let bad : None ≡ Some f = sym (ap frame_in s) ∙ e in cc

pub page_in : (m : Memory) (o i : ℕ) (f : FrameId) → entry_frame m o i ≡ Some f.0 → PageIn m o i f
page_in m o i f e =
    let x = framed_by m.pages.pages (entry_at m.objects o i).page f.0 e in
    let at : entry_frame m o i ≡ Some x.frame.0 = ap (frame_of m.pages.pages) x.is_page ∙ ap frame_in x.is_place in
    let two : Some x.frame.0 ≡ Some f.0 = sym at ∙ e in
    let same : x.frame.0 ≡ f.0 = cc in
    let is : x.frame ≡ f = λ k. record { 0 = same k } in
    record { number = x.number; is_page = x.is_page; is_place = x.is_place ∙ ap Frame is }

pub frame_there : (m : Memory) (o i : ℕ) (f : FrameId) → IsSound m → PageIn m o i f → f.0 < length m.frames.owners
frame_there m o i f s x = in_range m.frames.owners f.0 Free (λ e. let bad : Free ≡ Page x.number.0 = sym e ∙ s.placed.in_frame x.number.0 f x.is_place in cc)

pub ready_by : (m : Memory) (o i : ℕ) (f : FrameId) → PageIn m o i f → IsPrivate m.frames.counts m.pages.pages (entry_at m.objects o i).page → IsReady m o i f
ready_by m o i f x own =
    let two : Some x.number ≡ Some own.number = sym x.is_page ∙ own.is_page in
    let number : x.number ≡ own.number = cc in
    let places : Frame f ≡ Frame own.frame = sym x.is_place ∙ ap (λ (p : PageId). (page_at m.pages.pages p.0).place) number ∙ own.is_place in
    let frame : f ≡ own.frame = cc in
    record { number = x.number; is_page = x.is_page; is_place = x.is_place; alone = ap (λ (p : PageId). (page_at m.pages.pages p.0).shares) number ∙ own.alone; unlent = ap (λ (g : FrameId). strong_at m.frames.counts g.0) frame ∙ own.unlent }

pub page_shown : (m : Memory) (slots : ℕ → List ℕ) (o i : ℕ) (f : FrameId) → PageIn m o i f → (seen m slots).entry_bytes o i ≡ bytes_at m.frames f.0
page_shown m slots o i f x = rw (x.is_page, x.is_place) refl

pub placed_there : (m : Memory) (q : ℕ) (f : FrameId) (place : Place) → IsSound m → place ≡ (page_at m.pages.pages q).place → place ≡ Frame f → f.0 < length m.frames.owners
placed_there m q f place s is at = in_range m.frames.owners f.0 Free (λ e. let bad : Free ≡ Page q = sym e ∙ s.placed.in_frame q f (sym is ∙ at) in cc)

pub same_frame : (x : Option ℕ) (f g : ℕ) → x ≡ Some f → x ≡ Some g → f ≡ g
same_frame x f g a b = let two : Some f ≡ Some g = sym a ∙ b in cc

-- the frames with other meters are as sound, and show the same
pub metered_sound : (m : Memory) (t : FrameTable) (n : ℕ) → IsSound (record m { frames = t }) → IsSound (record m { frames = more_copied t n })
metered_sound m t n s = record { shaped = s.shaped; placed = s.placed; lent = s.lent; held = s.held; wired = s.wired; slotted = s.slotted; shared = s.shared; guarded = s.guarded }

-- pages, entries and counts of loans are as before
pub touches_same : (spoken : ℕ → ℕ → Bool) (old new : Memory) → new.pages.pages ≡ old.pages.pages → new.objects ≡ old.objects → new.frames.counts ≡ old.frames.counts → Touches spoken old new
touches_same spoken old new p o c = record {
  entries = λ a b h. let e = ap (λ os. entry_at os a b) o in record { page = ap (λ (t : Entry). t.page) e; readable = λ w. ap (λ (t : Entry). t.readable) (sym e) ∙ w; writable = λ w. ap (λ (t : Entry). t.writable) (sym e) ∙ w };
  pages = λ q y. ap (λ ps. page_at ps q) p;
  outside = λ q y. record { there = subst (λ (ps : List PageInfo). 0 < (page_at ps q).shares) (sym p) y.there; named = λ a b h. y.named a b (ap (λ os. names q (entry_at os a b)) (sym o) ∙ h) };
  counts = λ q f y e. ap (λ cs. get_or cs f.0 no_counts) c;
}

-- other bytes in a frame that isn't lent
pub keeps_copied : (m : Memory) (t : FrameTable) (f : ℕ) (bytes : List ℕ) (n : ℕ) → t ≡ more_copied (set_bytes m.frames f bytes) n → is_lent (counts_at m.frames f) ≡ false → KeepsLoans m (record m { frames = t })
keeps_copied m t f bytes n e l = subst (λ u. KeepsLoans m (record m { frames = u })) (sym e) (record {
  entry_held = λ a b g h k. h;
  held = λ g h. h;
  lent = λ g h. record { lent = h; bytes = get_or-set_other m.frames.bytes f g bytes [] (λ s. let bad : true ≡ false = sym h ∙ ap (λ k. is_lent (counts_at m.frames k)) s ∙ l in cc); owner = inl refl };
  loans = λ g. as_many (counts_at m.frames g) (counts_at m.frames g) refl;
  systems = λ g. refl;
  entries = λ o. refl;
  number = refl;
  page = refl;
  slots = refl;
  most = refl;
})

-- bytes that were stored in an entry's own page
pub out_keeps : (m : Memory) (new : FrameTable) (o i own f x n : ℕ) (bytes : List ℕ) → entry_frame m o i ≡ Some own → new ≡ more_copied (stored m.frames own x bytes) n → entry_frame m o i ≡ Some f → is_lent (counts_at m.frames f) ≡ false → KeepsLoans m (record m { frames = new })
out_keeps m new o i own f x n bytes at e is l = keeps_copied m new own (overlaid x bytes (bytes_at m.frames own)) n e (ap (λ g. is_lent (counts_at m.frames g)) (same_frame (entry_frame m o i) own f at is) ∙ l)

pub out_sound : (m : Memory) (new : FrameTable) (f x n : ℕ) (bytes : List ℕ) → IsSound m → f < length m.frames.owners → new ≡ more_copied (stored m.frames f x bytes) n → IsSound (record m { frames = new })
out_sound m new f x n bytes s l e = subst (λ t. IsSound (record m { frames = t })) (sym e) (metered_sound m (stored m.frames f x bytes) n (keeps_sound m f x bytes s l))

pub out_shows : (m : Memory) (new : FrameTable) (o i : ℕ) (f : FrameId) (x n : ℕ) (bytes : List ℕ) → IsSound m → IsPrivate m.frames.counts m.pages.pages (entry_at m.objects o i).page → entry_frame m o i ≡ Some f.0 → new ≡ more_copied (stored m.frames f.0 x bytes) n → (slots : ℕ → List ℕ) → seen (record m { frames = new }) slots ≡ see_entry (seen m slots) o i (overlaid x bytes ((seen m slots).entry_bytes o i))
out_shows m new o i f x n bytes s own at e slots = ap (λ t. seen (record m { frames = t }) slots) e ∙ shows_stored m o i f x bytes slots s (ready_by m o i f (page_in m o i f at) own)

-- a frame of the system that was filled from a page
module _ (m : Memory) (o i : ℕ) (own : FrameId) (g off n past page : ℕ) (s : IsSound m) (at : entry_frame m o i ≡ Some own.0) (of_system : is_system (owner_at m.frames g) ≡ true) (range : off + n ≤ m.frames.page) (past_is : past ≡ off + n) (page_is : page ≡ m.frames.page) (t u : FrameTable) (first : t ≡ more_copied (stored m.frames g 0 (part 0 off (bytes_at m.frames own.0))) off) (second : u ≡ more_copied (stored t g past (part past (page - past) (bytes_at t own.0))) (page - past)) where
  abbrev b : List ℕ
  b = bytes_at m.frames g

  abbrev p : List ℕ
  p = bytes_at m.frames own.0

  in_page : PageIn m o i own
  in_page = page_in m o i own at

  not_page : (w : Owner) → is_system w ≡ true → (is_page w ≡ false) × (w ≢ Free)
  not_page Free e = cc
  not_page (Page q) e = cc
  not_page (System d) e = (refl, λ h. cc)
  not_page (Pool d) e = (refl, λ h. cc)
  not_page Nobody e = cc

  unpaged : (is_page (owner_at m.frames g) ≡ false) × (owner_at m.frames g ≢ Free)
  unpaged = not_page (owner_at m.frames g) of_system

  other : own.0 ≢ g
  other e = let bad : true ≡ false = sym (ap is_page (ap (owner_at m.frames) (sym e) ∙ s.placed.in_frame in_page.number.0 own in_page.is_place)) ∙ unpaged.0 in cc

  there : g < length m.frames.owners
  there = in_range m.frames.owners g Free unpaged.1

  filled : g < length m.frames.bytes
  filled = omega (arith, there, s.shaped.filled)

  b_size : length b ≡ m.frames.page
  b_size = s.shaped.paged g [] filled

  p_size : length p ≡ m.frames.page
  p_size = s.shaped.paged own.0 [] (omega (arith, frame_there m o i own s in_page, s.shaped.filled))

  own_same : bytes_at t own.0 ≡ p
  own_same = ap (λ x. bytes_at x own.0) first ∙ get_or-set_other m.frames.bytes g own.0 _ [] other

  first_bytes : bytes_at t g ≡ overlaid 0 (take off p) b
  first_bytes = ap (λ x. bytes_at x g) first ∙ get_or-set_same m.frames.bytes g _ [] filled

  rest_whole : part past (page - past) (bytes_at t own.0) ≡ drop past p
  rest_whole = ap (part past (page - past)) own_same ∙ take_all (page - past) (drop past p) (omega (arith, length-drop past p, p_size, page_is))

  last_bytes : overlaid past (part past (page - past) (bytes_at t own.0)) (bytes_at t g) ≡ overlaid off (part off n b) p
  last_bytes = (λ k. overlaid past (rest_whole k) (first_bytes k)) ∙ around off n past b p past_is (b_size ∙ sym p_size) (omega (arith, p_size, range, past_is))

  abbrev new : List ℕ
  new = overlaid off (part off n b) p

  copied : m.frames.meters.copied + off + (page - past) ≡ m.frames.meters.copied + (m.frames.page - n)
  copied = omega (arith, page_is, past_is, range)

  pub around_frames : u ≡ more_copied (set_bytes m.frames g new) (m.frames.page - n)
  around_frames =
      second ∙ (λ k. more_copied (set_bytes t g (last_bytes k)) (page - past)) ∙ (λ k. more_copied (set_bytes (first k) g new) (page - past)) ∙
      (λ k. record (m.frames) { bytes = set-set m.frames.bytes g (overlaid 0 (part 0 off p) b) new k; meters = record (m.frames.meters) { copied = copied k } })

  pub around_sound : IsSound (record m { frames = u })
  around_sound =
      let whole : overlaid 0 new b ≡ new = all_laid new b (length-overlaid off (part off n b) p ∙ p_size ∙ sym b_size) in
      subst (λ x. IsSound (record m { frames = x })) (sym around_frames) (metered_sound m (set_bytes m.frames g new) (m.frames.page - n) (subst (λ xs. IsSound (record m { frames = set_bytes m.frames g xs })) whole (keeps_sound m g 0 new s there)))

  pub around_shows : (slots : ℕ → List ℕ) → seen (record m { frames = u }) slots ≡ see_kept (seen m slots) g (overlaid off (part off n b) ((seen m slots).entry_bytes o i))
  around_shows slots = ap (λ x. seen (record m { frames = x }) slots) around_frames ∙ seen_landed m g new slots s unpaged.0 unpaged.1 ∙ ap (λ xs. see_kept (seen m slots) g (overlaid off (part off n b) xs)) (sym (page_shown m slots o i own in_page))

  pub around_frames_of : (f : ℕ) → entry_frame m o i ≡ Some f → u ≡ more_copied (set_bytes m.frames g (overlaid off (part off n b) (bytes_at m.frames f))) (m.frames.page - n)
  around_frames_of f e = around_frames ∙ ap (λ (h : ℕ). more_copied (set_bytes m.frames g (overlaid off (part off n b) (bytes_at m.frames h))) (m.frames.page - n)) (same_frame (entry_frame m o i) own.0 f at e)

  pub around_bytes : (slots : ℕ → List ℕ) → bytes_at u g ≡ overlaid off (part off n b) ((seen m slots).entry_bytes o i)
  around_bytes slots = ap (λ x. bytes_at x g) around_frames ∙ get_or-set_same m.frames.bytes g new [] filled ∙ ap (λ xs. overlaid off (part off n b) xs) (sym (page_shown m slots o i own in_page))

  pub around_keeps : is_lent (counts_at m.frames g) ≡ false → KeepsLoans m (record m { frames = u })
  around_keeps l = keeps_copied m u g new (m.frames.page - n) around_frames l
