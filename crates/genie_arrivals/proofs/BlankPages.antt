-- Entries that are empty are given pages of zeros of their own, one after the other.
use Rattle.std.proofs.Common.{◌≡◌, ◌≢◌, ℕ, ◌+◌, ◌*◌, ◌^◌, ◌<◌, ◌≤◌, Bool, true, false, List, [], ◌∷◌, refl, sym, ap, subst, arith, rules, ◌∙◌, length, set, inl, inr, eq-eqb, ⊎_elim}
use Rattle.std.specs.Prelude.{Some, None, replicate}
use Rattle.std.proofs.lemmas.Bool.{cases_Bool}
use Rattle.std.proofs.lemmas.List.{length-replicate}
use Rattle.genie_base.specs.Bytes.{overlaid}
use Rattle.genie_base.specs.Lemmas.Places.{same_or}
use Rattle.genie_frame.specs.declared.frame.FrameId.{FrameId}
use Rattle.genie_frame.specs.declared.frame.Meters.{Meters}
use Rattle.genie_frame.specs.declared.frame.Owner.TheVariants.{Free, Page}
use Rattle.genie_frame.specs.FrameTable.{FrameTable, bytes_at, counts_at, is_held, owner_at, set_owner}
use Rattle.genie_frame.specs.Frames.{more_taken, more_zeroed, stored}
use Rattle.genie_object.specs.declared.memory.Memory.{Memory}
use Rattle.genie_object.specs.declared.objects.Entry.{Entry}
use Rattle.genie_object.specs.declared.pages.PageId.{PageId}
use Rattle.genie_object.specs.declared.pages.PageInfo.{PageInfo}
use Rattle.genie_object.specs.declared.pages.Place.TheVariants.{Frame, Zero}
use Rattle.genie_object.specs.Costs.{AreBelow}
use Rattle.genie_object.specs.Leaving.{IsEmpty, is_object}
use Rattle.genie_object.specs.Memory.{page_bytes, seen, Seen}
use Rattle.genie_object.specs.Objects.{entry_at, names, object_at}
use Rattle.genie_object.specs.Pages.{PageTable, no_page, page_at, set_page}
use Rattle.genie_object.specs.Sound.{IsPrivate, IsSound}
use Rattle.genie_object.specs.Steps.{CanRename, filled, left_owners, left_slots, metered, renamed}
use Rattle.genie_object.specs.Touching.{IsOutside, is_entry}
use Rattle.genie_object.specs.Lemmas.Emptied.{entry_object}
use Rattle.genie_object.specs.Lemmas.Filled.{count_filled, free_filled, keeps_filled, of_page, strong_filled, touches_filled}
use Rattle.genie_object.specs.Lemmas.Lookup.{named}
use Rattle.genie_object.specs.Lemmas.Parted.{fresh_some, fresh_unheld, names_fresh, seen_parted, sound_parted}
use Rattle.genie_object.specs.Lemmas.Renamed.{count_renamed, here, keeps_renamed, of_q, sound_renamed, touches_renamed}
use Rattle.genie_object.specs.Lemmas.Touching.{keeps_all, keeps_metered, keeps_on, sound_metered, touches_metered, touches_more, touches_none, touches_on}
use Rattle.genie_object.specs.Lemmas.Works.{page_most}
use Rattle.genie_kernel.specs.Rising.{NoneFell}
use Rattle.genie_kernel.specs.Lemmas.Rising.{rises_most, rises_none, rises_twice}
use Rattle.genie_arrivals.specs.Blanks.{BlanksObject, BlanksPage, BlanksSoFar}
use Rattle.genie_arrivals.specs.Clearing.{ClearsObject}
use Rattle.genie_arrivals.proofs.PooledOwn.{other_entry, private_kept}
use Rattle.genie_arrivals.proofs.Rising.{rises_owners}

spoken : (o i : ℕ) → is_entry o i o i ≡ true
spoken o i = grind (arith, rules, eq-eqb o o refl, eq-eqb i i refl)

outside_not : (m : Memory) (o i : ℕ) (p : PageId) → (entry_at m.objects o i).page ≡ Some p → (q : ℕ) → IsOutside (is_entry o i) m q → q ≢ p.0
outside_not m o i p e q y s = let bad : true ≡ false = sym (spoken o i) ∙ y.named o i (ap (λ n. names n (entry_at m.objects o i)) s ∙ named p (entry_at m.objects o i) e) in cc

module _ (m : Memory) (o i q : ℕ) (x : CanRename m o i q) (g : FrameId) (b : List ℕ) (there : g.0 < length m.frames.owners) (free : owner_at m.frames g.0 ≡ Free) (full : length b ≡ m.frames.page) (t : Meters) where
  abbrev base : Memory
  base = renamed m o i q

  abbrev new : Memory
  new = filled base q g b

  abbrev number : PageId
  number = record { 0 = q }

  some : 0 < (page_at base.pages.pages q).shares
  some = fresh_some m o i q x

  unheld : (f : FrameId) → (page_at base.pages.pages q).place ≡ Frame f → is_held (counts_at m.frames f.0) ≡ false
  unheld = fresh_unheld m o i q x

  sound : IsSound base
  sound = sound_renamed m o i q x

  -- with a page of these bytes
  pub page_blank : ((slots : ℕ → List ℕ) → b ≡ (seen m slots).entry_bytes o i) → NoneFell m.frames.meters t → ((n : ℕ) → AreBelow n m.frames.meters → AreBelow (n + 4097) t) → BlanksPage m (metered new t) o i
  page_blank bytes low below = record {
    sound = sound_metered new t (sound_parted m o i q x g b there free full);
    keeps = keeps_metered m new t (keeps_on m base new (keeps_renamed m o i q x) (keeps_filled base q g b sound some unheld there free full));
    touches = touches_metered (is_entry o i) m new t (touches_on (is_entry o i) m base new (touches_renamed m o i q x (is_entry o i) (spoken o i)) (touches_filled base q g b sound some unheld there free full (is_entry o i) (outside_not base o i number (names_fresh m o i q x))));
    counts = refl;
    shows = λ slots. seen_parted m o i q x g b there free full slots (bytes slots);
    own = record {
      number = number;
      frame = g;
      is_page = names_fresh m o i q x;
      is_place = ap (λ (r : PageInfo). r.place) (of_page base q g b sound some unheld there free full);
      alone = ap (λ (r : PageInfo). r.shares) (of_page base q g b sound some unheld there free full) ∙ ap (λ (r : PageInfo). r.shares) (of_q m o i q x);
      unlent = strong_filled base q g b sound some unheld there free full;
    };
    shut = ap (λ (e : Entry). e.writable) (here m o i q x);
    free = free_filled base q g b sound some unheld there free full;
    pages = omega (arith, count_filled base q g b sound some unheld there free full, count_renamed m o i q x);
    low = low;
    below = below;
    landed = refl;
  }

overlaid-whole : (new old : List ℕ) → length new ≡ length old → overlaid 0 new old ≡ new
overlaid-whole [] [] e = refl
overlaid-whole [] (o ∷ old) e = absurd (omega (arith, e))
overlaid-whole (b ∷ new) [] e = absurd (omega (arith, e))
overlaid-whole (b ∷ new) (o ∷ old) e = ap (λ l. b ∷ l) (overlaid-whole new old (omega (arith, e)))

-- a frame that was taken for a new page and zeroed has such a page
pub page_made : (m r : Memory) (t u : FrameTable) (pages : PageTable) (o i q n : ℕ) (g : FrameId) → IsSound m → i < length (object_at m.objects o) → IsEmpty m o i
    → q < length m.pages.pages → page_at m.pages.pages q ≡ no_page → r ≡ renamed m o i q
    → g.0 < length r.frames.owners → owner_at r.frames g.0 ≡ Free → t ≡ more_taken (set_owner r.frames g.0 (Page q))
    → n ≡ t.page → u ≡ more_zeroed (stored t g.0 0 (replicate n 0)) n
    → pages ≡ set_page r.pages q (record (page_at r.pages.pages q) { place = Frame g })
    → BlanksPage m (record { frames = u; pages = pages; objects = r.objects; slots = r.slots }) o i
page_made m r t u pages o i q n g s l empty room spare er lg free et en eu ep =
    let page : ℕ = m.frames.page in
    let b : List ℕ = replicate page 0 in
    let base : Memory = renamed m o i q in
    let x : CanRename m o i q = record { sound = s; there = l; many = λ p e. let bad = sym empty ∙ e in cc; spare = spare; room = room } in
    let zero : (page_at base.pages.pages q).place ≡ Zero = ap (λ (y : PageInfo). y.place) (of_q m o i q x) in
    let there : g.0 < length m.frames.owners = omega (arith, lg, ap (λ (y : Memory). length y.frames.owners) er) in
    let was : owner_at m.frames g.0 ≡ Free = sym (ap (λ (y : Memory). owner_at y.frames g.0) er) ∙ free in
    let taken : t ≡ more_taken (set_owner m.frames g.0 (Page q)) = et ∙ ap (λ (y : Memory). more_taken (set_owner y.frames g.0 (Page q))) er in
    let size : n ≡ page = en ∙ ap (λ (y : FrameTable). y.page) taken in
    let full : length b ≡ page = length-replicate page 0 in
    let paged : length (bytes_at m.frames g.0) ≡ page = s.shaped.paged g.0 [] (omega (arith, s.shaped.filled, there)) in
    let laid : overlaid 0 b (bytes_at m.frames g.0) ≡ b = overlaid-whole b (bytes_at m.frames g.0) (full ∙ sym paged) in
    let zeroed : u ≡ more_zeroed (stored (more_taken (set_owner m.frames g.0 (Page q))) g.0 0 b) page = eu ∙ ap (λ (y : FrameTable). more_zeroed (stored y g.0 0 (replicate n 0)) n) taken ∙ ap (λ j. more_zeroed (stored (more_taken (set_owner m.frames g.0 (Page q))) g.0 0 (replicate j 0)) j) size in
    let meters : Meters = record (m.frames.meters) { taken = m.frames.meters.taken + 1; zeroed = m.frames.meters.zeroed + page } in
    let frames : u ≡ record (m.frames) { owners = set m.frames.owners g.0 (Page q); bytes = set m.frames.bytes g.0 b; meters = meters } = zeroed ∙ (λ k. record (m.frames) { owners = set m.frames.owners g.0 (Page q); bytes = set m.frames.bytes g.0 (laid k); meters = meters }) in
    let after : Memory = record { frames = u; pages = pages; objects = r.objects; slots = r.slots } in
    let made : after ≡ metered (filled base q g b) meters =
    (λ k. record { frames = frames k; pages = ep k; objects = (er k).objects; slots = (er k).slots })
    ∙ (λ k. record { frames = record (m.frames) { owners = set m.frames.owners g.0 (Page q); bytes = set m.frames.bytes g.0 b; meters = meters }; pages = set_page (er k).pages q (record (page_at (er k).pages.pages q) { place = Frame g }); objects = base.objects; slots = m.slots })
    ∙ (λ k. record { frames = record (m.frames) { owners = left_owners (set m.frames.owners g.0 (Page q)) m.frames.counts (sym zero k); bytes = set m.frames.bytes g.0 b; meters = meters }; pages = set_page base.pages q (record (page_at base.pages.pages q) { place = Frame g }); objects = base.objects; slots = left_slots m.slots (sym zero k) }) in
    let most = page_most page s.shaped.size in
    subst (λ (z : Memory). BlanksPage m z o i) (sym made) (page_blank m o i q x g b there was full meters
    (λ slots. sym (ap (page_bytes m.frames m.pages.pages slots) empty))
    (record { read = omega arith; written = omega arith; copied = omega arith; zeroed = omega arith; puts = omega arith; gets = omega arith; taken = omega arith })
    (λ k below. record { read = omega (arith, below.read); written = omega (arith, below.written); copied = omega (arith, below.copied); zeroed = omega (arith, below.zeroed, most); puts = omega (arith, below.puts); gets = omega (arith, below.gets); taken = omega (arith, below.taken) }))

empty_shut : (m : Memory) (o i : ℕ) → IsSound m → IsEmpty m o i → (entry_at m.objects o i).writable ≡ false
empty_shut m o i s e = ⊎_elim
    (λ (yes : (entry_at m.objects o i).writable ≡ true). let p = s.guarded.writable o i yes in let clash : None ≡ Some p.number = sym e ∙ p.is_page in cc)
    (λ no. no)
    (cases_Bool (entry_at m.objects o i).writable)

pub blanks_none : (m : Memory) (o : ℕ) → IsSound m → ((i : ℕ) → IsEmpty m o i) → BlanksSoFar m m o 0
blanks_none m o s e = record {
  sound = s;
  keeps = keeps_all m;
  touches = touches_none (is_object o) m;
  counts = refl;
  shows = λ slots. refl;
  own = λ j l. absurd (omega (arith, l));
  empty = λ j l. e j;
  shut = λ j. empty_shut m o j s (e j);
  free = omega arith;
  pages = omega arith;
  rises = rises_none (8192 * 0) m.frames m.frames refl;
}

pub blanks_more : (old now new : Memory) (o n : ℕ) → BlanksSoFar old now o n → BlanksPage now new o n → BlanksSoFar old new o (n + 1)
blanks_more old now new o n x y = record {
  sound = y.sound;
  keeps = keeps_on old now new x.keeps y.keeps;
  touches = touches_on (is_object o) old now new x.touches (touches_more (is_entry o n) (is_object o) now new (entry_object o n) y.touches);
  counts = y.counts ∙ x.counts;
  shows = λ slots. y.shows slots ∙ x.shows slots;
  own = λ j l. elim (same_or j n) [
    | inl e ↦ subst (λ z. IsPrivate new.frames.counts new.pages.pages (entry_at new.objects o z).page) (sym e) y.own
    | inr ne ↦ private_kept (is_entry o n) now new o j x.sound (other_entry o j n ne) y.touches (x.own j (omega (arith, l, ne)))
  ];
  empty = λ j l. (y.touches.entries o j (other_entry o j n (λ e. absurd (omega (arith, e, l))))).page ∙ x.empty j (omega (arith, l));
  shut = λ j. elim (same_or j n) [
    | inl e ↦ ap (λ z. (entry_at new.objects o z).writable) e ∙ y.shut
    | inr ne ↦ still_shut (entry_at now.objects o j).writable (entry_at new.objects o j).writable (y.touches.entries o j (other_entry o j n ne)).writable (x.shut j)
  ];
  free = omega (arith, x.free, y.free);
  pages = omega (arith, x.pages, y.pages);
  rises = rises_twice (8192 * n) 4097 (8192 * (n + 1)) old.frames now.frames new.frames (omega arith) x.rises (record { low = y.low; meters = y.below; landed = omega (arith, y.landed) });
}
  where
    still_shut : (a b : Bool) → (b ≡ true → a ≡ true) → a ≡ false → b ≡ false
    still_shut a true f e = let yes = f refl in cc
    still_shut a false f e = refl

not_object : (o a : ℕ) (b : ℕ) → a ≢ o → is_object o a b ≡ false
not_object o a b n = grind (arith, rules, n)

pub object_blank : (old clear new : Memory) (o n : ℕ) → n ≤ 65 → ClearsObject old clear o → BlanksSoFar clear new o n → BlanksObject old new o n
object_blank old clear new o n most c x = record {
  sound = x.sound;
  keeps = keeps_on old clear new c.keeps x.keeps;
  touches = touches_on (is_object o) old clear new c.empties.touches x.touches;
  counts = x.counts ∙ ap (λ (z : FrameTable). z.counts) c.empties.frames;
  own = λ j l. let same : j ≡ 0 + j = omega arith in subst (λ z. IsPrivate new.frames.counts new.pages.pages (entry_at new.objects o z).page) same (x.own j l);
  shut = x.shut;
  zeros = λ slots i. ap (λ (s : Seen). s.entry_bytes o i) (x.shows slots) ∙ ap (page_bytes clear.frames clear.pages.pages slots) (c.empty i) ∙ ap (λ z. replicate z 0) c.keeps.page;
  others = λ slots a b ne. ap (λ (s : Seen). s.entry_bytes a b) (x.shows slots) ∙ c.empties.entries slots a b (not_object o a b ne);
  kept = λ slots. ap (λ (s : Seen). s.kept_bytes) (x.shows slots) ∙ c.shows slots;
  rises = rises_owners (2 ^ 20) old.frames clear.frames new.frames c.empties.frames (rises_most (8192 * n) (2 ^ 20) clear.frames new.frames (omega (arith, most)) x.rises);
}
