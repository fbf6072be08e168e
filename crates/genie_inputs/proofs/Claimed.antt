-- A buffer in the frames of an object's pages, entry by entry.
use Rattle.std.proofs.Common.{◌≡◌, ◌≢◌, ℕ, ◌+◌, ◌<◌, ◌≤◌, Bool, true, false, List, [], ◌∷◌, ◌++◌, refl, sym, ap, subst, arith, rules, ◌∙◌, inl, inr, length, length-append, length-set, get_or-set_same, get_or-set_other}
use Rattle.std.specs.Prelude.{Option, Some, None, ◌==◌, ◌&&◌, nat_lt, count_by, slice_set, slice_index_or, if◌then◌else◌, IsTrue, ◌%◌, All}
use Rattle.std.proofs.lemmas.Bool.{eq-eqb}
use Rattle.std.proofs.lemmas.Bool.Decides.{nat_tests}
use Rattle.std.proofs.lemmas.List.{map-append, set-set}
use Rattle.genie_base.specs.Counts.{span, is_page_size}
use Rattle.genie_base.specs.Lemmas.Places.{num, same_or, count_by-set, count_by-push}
use Rattle.genie_frame.specs.declared.frame.FrameId.{FrameId}
use Rattle.genie_frame.specs.declared.frame.InLoan.{InLoan}
use Rattle.genie_frame.specs.declared.frame.Owner.{Owner}
use Rattle.genie_frame.specs.declared.frame.Owner.TheVariants.{Free, System, Nobody}
use Rattle.genie_frame.specs.FrameTable.{FrameTable, owner_at, counts_at, is_free, is_lent, IsShaped, AreLoansOwned}
use Rattle.genie_frame.specs.Frames.{one_input_more, unowned}
use Rattle.genie_object.specs.declared.memory.Memory.{Memory}
use Rattle.genie_object.specs.declared.pages.PageId.{PageId}
use Rattle.genie_object.specs.declared.pages.Place.{Place}
use Rattle.genie_object.specs.declared.pages.Place.TheVariants.{Zero, Frame, Slot}
use Rattle.genie_object.specs.Leaving.{dropped, emptied_entry, left_by, left_one, removed, is_object, Empties, IsEmpty, Removes}
use Rattle.genie_object.specs.Memory.{entry_frame, frame_in, frame_of}
use Rattle.genie_object.specs.declared.objects.Entry.{Entry}
use Rattle.genie_object.specs.Objects.{entry_at, object_at, no_entry}
use Rattle.genie_object.specs.Pages.{page_at}
use Rattle.genie_object.specs.Sound.{IsCached, IsSound}
use Rattle.genie_object.specs.Steps.{left_owners, left_slots}
use Rattle.genie_object.specs.Touching.{is_entry}
use Rattle.genie_object.specs.Lemmas.Emptied.{empties_entry, empties_more, empties_none, empties_on, is_emptied, other_entry}
use Rattle.genie_object.specs.Lemmas.Lookup.{frame_known, in_range}
use Rattle.genie_object.specs.Lemmas.PlaceOf.{framed_place}
use Rattle.genie_object.specs.Lemmas.Relocated.{frame_is}
use Rattle.genie_object.specs.Lemmas.Removed.{all_empty, empty_more, removes}
use Rattle.genie_hiding.specs.Lemmas.Naming.{cached_kept}
use Rattle.genie_plan.specs.declared.plan.InPlan.{InPlan}
use Rattle.genie_plan.specs.Buffers.{taken_lent, AreLentFresh}
use Rattle.genie_plan.specs.Fresh.{ShowsBesides}
use Rattle.genie_plan.specs.Plans.{times, input_frames}
use Rattle.genie_plan.specs.Lemmas.Ending.{some_or}
use Rattle.genie_plan.specs.Lemmas.Fresh.{fresh_more, fresh_none}
use Rattle.genie_plan.specs.Lemmas.FreshSound.{fresh_shows, fresh_sound}
use Rattle.genie_kernel.specs.declared.transfer.Loans.TheVariants.{Inward}
use Rattle.genie_inputs.specs.declared.claim.Unlent.{Unlent}
use Rattle.genie_inputs.specs.Buffers.{with_taken}
use Rattle.genie_inputs.specs.Claiming.{claimed, FindsUnlent, IsUnlent, LendsEntry, LendsObject}

-- the same frames are lent where a frame that is none of them leaves its owner before
module _ (owner : Owner) (fs : List ℕ) (t u : FrameTable) (f : ℕ) (x : AreLentFresh owner fs t u) (l : f < length t.owners) (had : is_free (owner_at t f) ≡ false) where
  abbrev left_before : FrameTable
  left_before = record t { owners = slice_set t.owners f (unowned (counts_at t f)) }

  abbrev left_after : FrameTable
  left_after = record u { owners = slice_set u.owners f (unowned (counts_at u f)) }

  unmet : times fs f ≡ 0
  unmet = elim (some_or (times fs f)) [
    | inl h ↦ let bad : false ≡ true = sym had ∙ ap is_free (x.were_free f h) in cc
    | inr z ↦ z
  ]

  counts_same : counts_at u f ≡ counts_at t f
  counts_same = let e : (counts_at t f).input + times fs f ≡ (counts_at t f).input = omega (arith, unmet) in x.counts f ∙ (λ k. record (counts_at t f) { input = e k })

  there_new : f < length u.owners
  there_new = let size = x.size in omega (arith, l, size)

  here_old : owner_at left_before f ≡ unowned (counts_at t f)
  here_old = get_or-set_same t.owners f (unowned (counts_at t f)) Free l

  here_new : owner_at left_after f ≡ unowned (counts_at u f)
  here_new = get_or-set_same u.owners f (unowned (counts_at u f)) Free there_new

  else_old : (g : ℕ) → g ≢ f → owner_at left_before g ≡ owner_at t g
  else_old g n = get_or-set_other t.owners f g (unowned (counts_at t f)) Free n

  else_new : (g : ℕ) → g ≢ f → owner_at left_after g ≡ owner_at u g
  else_new g n = get_or-set_other u.owners f g (unowned (counts_at u f)) Free n

  not_f : (g : ℕ) → 0 < times fs g → g ≢ f
  not_f g h s = let none : times fs g ≡ 0 = ap (times fs) s ∙ unmet in absurd (omega (arith, h, none))

  pub fresh_left : AreLentFresh owner fs left_before left_after
  fresh_left = record {
    there = λ g h. let was = x.there g h in let size : length left_before.owners ≡ length t.owners = length-set t.owners f (unowned (counts_at t f)) in omega (arith, was, size);
    were_free = λ g h. else_old g (not_f g h) ∙ x.were_free g h;
    apart = x.apart;
    owned = λ g h. else_new g (not_f g h) ∙ x.owned g h;
    others = λ g z. elim (same_or g f) [
      | inl s ↦ ap (owner_at left_after) s ∙ here_new ∙ ap unowned counts_same ∙ sym here_old ∙ ap (owner_at left_before) (sym s)
      | inr n ↦ else_new g n ∙ x.others g z ∙ sym (else_old g n)
    ];
    counts = x.counts;
    free =
        let a = count_by-set is_free t.owners f (unowned (counts_at t f)) Free l in
        let b = count_by-set is_free u.owners f (unowned (counts_at u f)) Free there_new in
        let was_old : num (is_free (owner_at t f)) ≡ 0 = ap num had in
        let was_new : num (is_free (owner_at u f)) ≡ 0 = ap (λ o. num (is_free o)) (x.others f unmet) ∙ was_old in
        let same : num (is_free (unowned (counts_at u f))) ≡ num (is_free (unowned (counts_at t f))) = ap (λ c. num (is_free (unowned c))) counts_same in
        let all = x.free in
        omega (arith, a, b, was_old, was_new, same, all);
    meters = x.meters;
    page = x.page;
    bytes = x.bytes;
    landed = x.landed;
    size = length-set u.owners f (unowned (counts_at u f)) ∙ x.size ∙ sym (length-set t.owners f (unowned (counts_at t f)));
  }

-- so it is where an entry is emptied before
module _ (m : Memory) (t : FrameTable) (owner : Owner) (fs : List ℕ) (s : IsSound m) (x : AreLentFresh owner fs m.frames t) where
  fresh_place : (p : ℕ) (from : Place) → (page_at m.pages.pages p).place ≡ from → AreLentFresh owner fs (record (m.frames) { owners = left_owners m.frames.owners m.frames.counts from }) (record t { owners = left_owners t.owners t.counts from })
  fresh_place p Zero e = x
  fresh_place p (Slot r) e = x
  fresh_place p (Frame f) e = fresh_left owner fs m.frames t f.0 x (frame_known m p f s e) (ap is_free (s.placed.in_frame p f e))

  fresh_one : (o i : ℕ) (p : PageId) (b : Bool) → AreLentFresh owner fs (left_one m o i p b).frames (left_one (record m { frames = t }) o i p b).frames
  fresh_one o i p true = fresh_place p.0 (page_at m.pages.pages p.0).place refl
  fresh_one o i p false = x

  fresh_page : (o i : ℕ) (page : Option PageId) → AreLentFresh owner fs (left_by m o i page).frames (left_by (record m { frames = t }) o i page).frames
  fresh_page o i None = x
  fresh_page o i (Some p) = fresh_one o i p ((page_at m.pages.pages p.0).shares == 1)

  pub fresh_emptied : (o i : ℕ) → AreLentFresh owner fs (emptied_entry m o i).frames (emptied_entry (record m { frames = t }) o i).frames
  fresh_emptied o i = fresh_page o i (entry_at m.objects o i).page

-- of the memory but its frames the same is left, and of the frames but their meter
rest_one : (m : Memory) (t : FrameTable) (o i : ℕ) (p : PageId) (b : Bool) → left_one (record m { frames = t }) o i p b ≡ record (left_one m o i p b) { frames = (left_one (record m { frames = t }) o i p b).frames }
rest_one m t o i p true = refl
rest_one m t o i p false = refl

rest_page : (m : Memory) (t : FrameTable) (o i : ℕ) (page : Option PageId) → left_by (record m { frames = t }) o i page ≡ record (left_by m o i page) { frames = (left_by (record m { frames = t }) o i page).frames }
rest_page m t o i None = refl
rest_page m t o i (Some p) = rest_one m t o i p ((page_at m.pages.pages p.0).shares == 1)

rest_emptied : (m : Memory) (t : FrameTable) (o i : ℕ) → emptied_entry (record m { frames = t }) o i ≡ record (emptied_entry m o i) { frames = (emptied_entry (record m { frames = t }) o i).frames }
rest_emptied m t o i = rest_page m t o i (entry_at m.objects o i).page

taken_one : (m : Memory) (c o i : ℕ) (p : PageId) (b : Bool) → (left_one (record m { frames = with_taken m.frames c }) o i p b).frames ≡ with_taken (left_one m o i p b).frames c
taken_one m c o i p true = refl
taken_one m c o i p false = refl

taken_page : (m : Memory) (c o i : ℕ) (page : Option PageId) → (left_by (record m { frames = with_taken m.frames c }) o i page).frames ≡ with_taken (left_by m o i page).frames c
taken_page m c o i None = refl
taken_page m c o i (Some p) = taken_one m c o i p ((page_at m.pages.pages p.0).shares == 1)

taken_emptied : (m : Memory) (c o i : ℕ) → (emptied_entry (record m { frames = with_taken m.frames c }) o i).frames ≡ with_taken (emptied_entry m o i).frames c
taken_emptied m c o i = taken_page m c o i (entry_at m.objects o i).page

-- no free frame is taken
module _ (m : Memory) (s : IsSound m) where
  free_place : (p : ℕ) (from : Place) → (page_at m.pages.pages p).place ≡ from → count_by is_free m.frames.owners ≤ count_by is_free (left_owners m.frames.owners m.frames.counts from)
  free_place p Zero e = omega arith
  free_place p (Slot r) e = omega arith
  free_place p (Frame f) e =
      let a = count_by-set is_free m.frames.owners f.0 (unowned (counts_at m.frames f.0)) Free (frame_known m p f s e) in
      let had : num (is_free (owner_at m.frames f.0)) ≡ 0 = ap (λ o. num (is_free o)) (s.placed.in_frame p f e) in
      omega (arith, a, had)

  free_one : (o i : ℕ) (p : PageId) (b : Bool) → count_by is_free m.frames.owners ≤ count_by is_free (left_one m o i p b).frames.owners
  free_one o i p true = free_place p.0 (page_at m.pages.pages p.0).place refl
  free_one o i p false = omega arith

  free_page : (o i : ℕ) (page : Option PageId) → count_by is_free m.frames.owners ≤ count_by is_free (left_by m o i page).frames.owners
  free_page o i None = omega arith
  free_page o i (Some p) = free_one o i p ((page_at m.pages.pages p.0).shares == 1)

  pub free_emptied : (o i : ℕ) → count_by is_free m.frames.owners ≤ count_by is_free (emptied_entry m o i).frames.owners
  free_emptied o i = free_page o i (entry_at m.objects o i).page

-- an entry's frame is a page's
framed_owner : (m : Memory) (f : ℕ) (page : Option PageId) → IsSound m → frame_of m.pages.pages page ≡ Some f → is_free (owner_at m.frames f) ≡ false
framed_owner m f None s e = absurd (cc)
framed_owner m f (Some p) s e = let x = frame_is (page_at m.pages.pages p.0).place f e in ap (λ g. is_free (owner_at m.frames g)) x.number ∙ ap is_free (s.placed.in_frame p.0 x.frame x.is)

-- what is found of an entry that names no page, and of one whose page is lent or in no frame
pub unnamed_found : (m : Memory) (o i : ℕ) → (entry_at m.objects o i).page ≡ None → FindsUnlent m o i None
unnamed_found m o i is f e = let bad : None ≡ Some f = sym (ap (frame_of m.pages.pages) is) ∙ e in cc

pub lent_found : (m : Memory) (o i : ℕ) (p : PageId) → (entry_at m.objects o i).page ≡ Some p → ((f : FrameId) → (page_at m.pages.pages p.0).place ≡ Frame f → is_lent (counts_at m.frames f.0) ≡ true) → FindsUnlent m o i None
lent_found m o i p is h f e = let x = frame_is (page_at m.pages.pages p.0).place f (sym (ap (frame_of m.pages.pages) is) ∙ e) in ap (λ g. is_lent (counts_at m.frames g)) x.number ∙ h x.frame x.is

-- what a claim of an entry's own page leaves
module _ (m : Memory) (o i n : ℕ) (u : Unlent) (s : IsSound m) (x : IsUnlent m o i u) (alone : (page_at m.pages.pages u.page.0).shares ≡ 1) where
  abbrev f : ℕ
  f = u.frame.0

  abbrev from : Place
  from = (page_at m.pages.pages u.page.0).place

  is_dropped : emptied_entry m o i ≡ dropped m o i u.page.0
  is_dropped = ap (left_by m o i) x.is_page ∙ ap (left_one m o i u.page) (eq-eqb (page_at m.pages.pages u.page.0).shares 1 alone)

  claim_owners : slice_set (left_owners m.frames.owners m.frames.counts from) f (System n) ≡ slice_set m.frames.owners f (System n)
  claim_owners = ap (λ q. slice_set (left_owners m.frames.owners m.frames.counts q) f (System n)) x.is_place ∙ set-set m.frames.owners f (unowned (counts_at m.frames f)) (System n)

  pub claimed_lends : LendsEntry n o i m (claimed m o i u n) f
  claimed_lends = record {
    there = frame_known m u.page.0 u.frame s x.is_place;
    was_free =
        ap (λ (z : Memory). owner_at z.frames f) is_dropped
        ∙ ap (λ q. slice_index_or (left_owners m.frames.owners m.frames.counts q) f Free) x.is_place
        ∙ get_or-set_same m.frames.owners f (unowned (counts_at m.frames f)) Free (frame_known m u.page.0 u.frame s x.is_place)
        ∙ ap (λ b. if b then Nobody else Free) x.unlent;
    frames = λ count.
        (λ k. record (m.frames) { owners = sym claim_owners k; counts = slice_set m.frames.counts f (one_input_more (counts_at m.frames f)); meters = record (m.frames.meters) { taken = count + 1 } })
        ∙ ap (λ (z : Memory). taken_lent (with_taken z.frames count) f (System n)) (sym is_dropped);
    rest =
        (λ k. record (claimed m o i u n) { slots = sym (ap (left_slots m.slots) x.is_place) k })
        ∙ ap (λ (z : Memory). record z { frames = (claimed m o i u n).frames }) (sym is_dropped);
    same = λ g e free. let is : Some f ≡ Some g = sym (ap (frame_of m.pages.pages) x.is_page ∙ ap frame_in x.is_place) ∙ e in cc;
    meter = omega arith;
    low = omega arith;
  }

-- what another frame leaves, where a loan is out on the page's own
pub free_lends : (m z new : Memory) (o i n g : ℕ) → IsSound m → z ≡ emptied_entry m o i → FindsUnlent m o i None → g < length z.frames.owners → owner_at z.frames g ≡ Free → new ≡ record z { frames = taken_lent z.frames g (System n) } → LendsEntry n o i m new g
free_lends m z new o i n g s is none there free e =
    let x = empties_entry m o i s in
    let frames : new.frames ≡ taken_lent z.frames g (System n) = ap (λ (y : Memory). y.frames) e in
    let after : new.frames.meters.taken ≡ z.frames.meters.taken + 1 = ap (λ (t : FrameTable). t.meters.taken) frames in
    let before : z.frames.meters.taken ≡ m.frames.meters.taken = ap (λ (y : Memory). y.frames.meters.taken) is ∙ ap (λ (t : FrameTable). t.meters.taken) x.frames in
    record {
      there = let size = x.number in let same : length z.frames.owners ≡ length (emptied_entry m o i).frames.owners = ap (λ (y : Memory). length y.frames.owners) is in omega (arith, there, same, size);
      was_free = ap (λ (y : Memory). owner_at y.frames g) (sym is) ∙ free;
      frames = λ count. ap (λ t. with_taken t (count + 1)) frames ∙ ap (λ (y : Memory). taken_lent (with_taken y.frames count) g (System n)) is;
      rest = e ∙ ap (λ t. record z { frames = t }) (sym frames) ∙ ap (λ (y : Memory). record y { frames = new.frames }) is;
      same = λ h at unlent. let lent = none h at in absurd (cc);
      meter = omega (arith, before, after);
      low = omega (arith, before, after);
    }

-- the entries of object o below k
abbrev pub is_below : ℕ → ℕ → ℕ → ℕ → Bool
is_below o k a b = (a == o) && nat_lt b k

-- the first k entries are empty, and these frames are lent as if from those that were free then
pub record ClaimedSoFar (n o : ℕ) (frames : List ℕ) (k : ℕ) (old now : Memory) : Type 0 where
  pub mid : Memory
  pub count : ℕ
  pub empties : Empties (is_below o k) old mid
  pub empty : (j : ℕ) → j < k → IsEmpty mid o j
  pub cached : IsCached mid o
  pub fresh : AreLentFresh (System n) frames mid.frames (with_taken now.frames count)
  pub rest : now ≡ record mid { frames = now.frames }
  pub number : length frames ≡ k
  pub more : count_by is_free old.frames.owners ≤ count_by is_free mid.frames.owners
  pub same : (j f : ℕ) → j < k → entry_frame old o j ≡ Some f → is_lent (counts_at old.frames f) ≡ false → 0 < times frames f
  pub meter : now.frames.meters.taken ≤ old.frames.meters.taken + k
  pub low : old.frames.meters.taken ≤ now.frames.meters.taken

pub none_claimed : (n o : ℕ) (frames : List ℕ) (m : Memory) → frames ≡ [] → IsSound m → IsCached m o → ClaimedSoFar n o frames 0 m m
none_claimed n o frames m e s cached = subst (λ fs. ClaimedSoFar n o fs 0 m m) (sym e) (record {
  mid = m;
  count = m.frames.meters.taken;
  empties = empties_none (is_below o 0) m s;
  empty = λ j l. absurd (omega (arith, l));
  cached = cached;
  fresh = fresh_none (System n) m.frames;
  rest = refl;
  number = refl;
  more = omega arith;
  same = λ j f l. absurd (omega (arith, l));
  meter = omega arith;
  low = omega arith;
})

-- the meter of frames that were handed out is no part of what is sound
untaken_sound : (m : Memory) (t : FrameTable) (c : ℕ) → IsSound (record m { frames = with_taken t c }) → IsSound (record m { frames = t })
untaken_sound m t c s = record { shaped = s.shaped; placed = s.placed; lent = s.lent; held = s.held; wired = s.wired; slotted = s.slotted; shared = s.shared; guarded = s.guarded }

lent_sound : (m : Memory) (t : FrameTable) (n c : ℕ) (fs : List ℕ) → IsSound m → AreLentFresh (System n) fs m.frames (with_taken t c) → IsShaped t.page t.owners t.counts t.bytes → AreLoansOwned t.owners t.counts → IsSound (record m { frames = t })
lent_sound m t n c fs s x shaped lent = untaken_sound m t c (fresh_sound m (with_taken t c) (System n) fs s refl x shaped lent)

pub sound_so_far : (n o k : ℕ) (fs : List ℕ) (old now : Memory) → ClaimedSoFar n o fs k old now → IsShaped now.frames.page now.frames.owners now.frames.counts now.frames.bytes → AreLoansOwned now.frames.owners now.frames.counts → IsSound now
sound_so_far n o k fs old now x shaped lent = subst IsSound (sym x.rest) (lent_sound x.mid now.frames n x.count fs x.empties.sound x.fresh shaped lent)

below_step : (o k a b : ℕ) → is_below o (k + 1) a b ≡ false → is_below o k a b ≡ false
below_step o k a b e = grind (arith, rules, e)

below_entry : (o k a b : ℕ) → is_below o (k + 1) a b ≡ false → is_entry o k a b ≡ false
below_entry o k a b e = grind (arith, rules, e)

not_below : (o k : ℕ) → is_below o k o k ≡ false
not_below o k = grind (arith, rules)

quiet_entry : (m : Memory) (o k i : ℕ) (q : PageId) → IsEmpty m o k → (entry_at m.objects o i).page ≡ Some q → is_entry o k o i ≡ false
quiet_entry m o k i q empty e = elim (same_or i k) [
  | inl s ↦ let bad : None ≡ Some q = sym empty ∙ ap (λ j. (entry_at m.objects o j).page) (sym s) ∙ e in cc
  | inr d ↦ other_entry o k i d
]

-- one entry more
module _ (n o k : ℕ) (fs : List ℕ) (old now new : Memory) (g : ℕ) (x : ClaimedSoFar n o fs k old now) (sound : IsSound now) (lend : LendsEntry n o k now new g) where
  abbrev mid : Memory
  mid = x.mid

  abbrev after : Memory
  after = emptied_entry mid o k

  step : Empties (is_entry o k) mid after
  step = empties_entry mid o k x.empties.sound

  path : (emptied_entry (record mid { frames = with_taken now.frames x.count }) o k).frames ≡ with_taken (emptied_entry now o k).frames x.count
  path = ap (λ (z : Memory). (emptied_entry (record z { frames = with_taken now.frames x.count }) o k).frames) (sym x.rest) ∙ taken_emptied now x.count o k

  one_fresh : AreLentFresh (System n) (fs ++ g ∷ []) after.frames (with_taken new.frames (x.count + 1))
  one_fresh =
      let empty_now = empties_entry now o k sound in
      let counted = empty_now.sound.shaped.counted in
      let size = empty_now.number in
      let there = lend.there in
      fresh_more (System n) fs after.frames (with_taken (emptied_entry now o k).frames x.count) (with_taken new.frames (x.count + 1)) g refl counted
      (subst (AreLentFresh (System n) fs after.frames) path (fresh_emptied mid (with_taken now.frames x.count) (System n) fs x.empties.sound x.fresh o k))
      (omega (arith, there, size)) lend.was_free (lend.frames x.count)

  new_rest : new ≡ record after { frames = new.frames }
  new_rest = lend.rest ∙ ap (λ (z : Memory). record (emptied_entry z o k) { frames = new.frames }) x.rest ∙ ap (λ (z : Memory). record z { frames = new.frames }) (rest_emptied mid now.frames o k)

  -- the frame of the entry's page, as it was at first
  met : (f : ℕ) → entry_frame old o k ≡ Some f → is_lent (counts_at old.frames f) ≡ false → g ≡ f
  met f e unlent =
      let at : entry_frame mid o k ≡ Some f = framed_place mid old o k (x.empties.places o k (not_below o k)) ∙ e in
      let had = framed_owner mid f (entry_at mid.objects o k).page x.empties.sound at in
      let none : times fs f ≡ 0 = elim (some_or (times fs f)) [ inl h ↦ let bad : false ≡ true = sym had ∙ ap is_free (x.fresh.were_free f h) in cc | inr z ↦ z ] in
      let zero_more : (counts_at mid.frames f).input + times fs f ≡ (counts_at mid.frames f).input = omega (arith, none) in
      let counts : counts_at now.frames f ≡ counts_at old.frames f = x.fresh.counts f ∙ (λ j. record (counts_at mid.frames f) { input = zero_more j }) ∙ ap (λ (t : FrameTable). counts_at t f) x.empties.frames in
      lend.same f (ap (λ (z : Memory). entry_frame z o k) x.rest ∙ at) (ap is_lent counts ∙ unlent)

  pub claimed_more : ClaimedSoFar n o (fs ++ g ∷ []) (k + 1) old new
  claimed_more = record {
    mid = after;
    count = x.count + 1;
    empties = empties_on (is_below o (k + 1)) old mid after (empties_more (is_below o k) (is_below o (k + 1)) old mid (below_step o k) x.empties) (empties_more (is_entry o k) (is_below o (k + 1)) mid after (below_entry o k) step);
    empty = empty_more mid after o k step.touches (is_emptied mid o k x.empties.sound) x.empty;
    cached = cached_kept (is_entry o k) mid after o x.empties.sound step.touches (step.sizes o) (λ i q e. quiet_entry after o k i q (is_emptied mid o k x.empties.sound) e) x.cached;
    fresh = one_fresh;
    rest = new_rest;
    number = let number = x.number in length-append fs (g ∷ []) ∙ ap (λ z. z + 1) number;
    more = let more = x.more in let free = free_emptied mid x.empties.sound o k in omega (arith, more, free);
    same = λ j f l e unlent.
        let pushed = count_by-push (λ z. z == f) fs g in
        elim (same_or j k) [
          | inl s ↦ let is = met f (ap (entry_frame old o) (sym s) ∙ e) unlent in let one : num (g == f) ≡ 1 = ap num (eq-eqb g f is) in omega (arith, pushed, one)
          | inr d ↦ let was = x.same j f (omega (arith, l, d)) e unlent in omega (arith, pushed, was)
        ];
    meter = let a = x.meter in let b = lend.meter in omega (arith, a, b);
    low = let a = x.low in let b = lend.low in omega (arith, a, b);
  }

-- what the next entry asks for
pub next_there : (n o k : ℕ) (fs : List ℕ) (old now : Memory) → ClaimedSoFar n o fs k old now → k < length (object_at old.objects o) → k < length (object_at now.objects o)
next_there n o k fs old now x l = let size = x.empties.sizes o in let same : length (object_at now.objects o) ≡ length (object_at x.mid.objects o) = ap (λ (z : Memory). length (object_at z.objects o)) x.rest in omega (arith, l, size, same)

pub next_own : (n o k : ℕ) (fs : List ℕ) (old now : Memory) → ClaimedSoFar n o fs k old now → (p : PageId) → (entry_at now.objects o k).page ≡ Some p → (page_at now.pages.pages p.0).shares ≡ 1
next_own n o k fs old now x p e = ap (λ (z : Memory). (page_at z.pages.pages p.0).shares) x.rest ∙ x.cached.own k p (sym (ap (λ (z : Memory). (entry_at z.objects o k).page) x.rest) ∙ e)

pub next_free : (n o k : ℕ) (fs : List ℕ) (old now : Memory) → ClaimedSoFar n o fs k old now → k < count_by is_free old.frames.owners → 0 < count_by is_free now.frames.owners
next_free n o k fs old now x l = let free = x.fresh.free in let number = x.number in let more = x.more in omega (arith, l, free, number, more)

pub next_claimed : (n o k : ℕ) (loans items : List InLoan) (loan : InLoan) (old now new : Memory) → ClaimedSoFar n o (input_frames loans) k old now → IsSound now → LendsEntry n o k now new loan.frame.0 → items ≡ loans ++ loan ∷ [] → ClaimedSoFar n o (input_frames items) (k + 1) old new
next_claimed n o k loans items loan old now new x sound lend e =
    let frames : input_frames items ≡ input_frames loans ++ loan.frame.0 ∷ [] = ap input_frames e ∙ map-append (λ (y : InLoan). y.frame.0) loans (loan ∷ []) in
    subst (λ fs. ClaimedSoFar n o fs (k + 1) old new) (sym frames) (claimed_more n o k (input_frames loans) old now new loan.frame.0 x sound lend)

-- what is left is an object of empty entries
pub all_there : (n o k : ℕ) (fs : List ℕ) (old now : Memory) → ClaimedSoFar n o fs k old now → object_at now.objects o ≢ []
all_there n o k fs old now x e = let some = x.cached.there in let none = sym (ap (λ (z : Memory). length (object_at z.objects o)) x.rest) ∙ ap length e in absurd (omega (arith, some, none))

pub all_are_empty : (n o k : ℕ) (fs : List ℕ) (old now : Memory) → ClaimedSoFar n o fs k old now → k ≡ length (object_at old.objects o) → All (λ e. e.page ≡ None) (object_at now.objects o)
all_are_empty n o k fs old now x all = subst (λ (es : List (List Entry)). All (λ e. e.page ≡ None) (object_at es o)) (sym (ap (λ (z : Memory). z.objects) x.rest)) (all_empty x.mid o (λ i l. let size = x.empties.sizes o in x.empty i (omega (arith, l, size, all))))

zero_rest : (page : ℕ) → 0 < page → 0 ≡ 0 % page
zero_rest page p = grind (arith, rules, p)

below_object : (o k a b : ℕ) → is_object o a b ≡ false → is_below o k a b ≡ false
below_object o k a b e = ap (λ v. v && nat_lt b k) e

untaken_shows : (fs : List ℕ) (m : Memory) (t : FrameTable) (c : ℕ) → ShowsBesides fs m (record m { frames = with_taken t c }) → ShowsBesides fs m (record m { frames = t })
untaken_shows fs m t c x = record { entries = x.entries; others = x.others }

-- all entries, and the object is taken away
module _ (n len o : ℕ) (plan : InPlan) (old now : Memory) (sound : IsSound old) (x : ClaimedSoFar n o (input_frames plan.loans.items) (length (object_at old.objects o)) old now) (pages : length (object_at old.objects o) ≡ span old.frames.page 0 len) (first : plan.first ≡ 0) (long : plan.len ≡ len) (shaped : IsShaped now.frames.page now.frames.owners now.frames.counts now.frames.bytes) (lent : AreLoansOwned now.frames.owners now.frames.counts) where
  abbrev fs : List ℕ
  fs = input_frames plan.loans.items

  abbrev gone : Memory
  gone = removed x.mid o

  page_same : x.mid.frames.page ≡ old.frames.page
  page_same = ap (λ (t : FrameTable). t.page) x.empties.frames

  some_page : 0 < old.frames.page
  some_page = by_size old.frames.page sound.shaped.size
    where
      by_size : (page : ℕ) → IsTrue (is_page_size page) → 0 < page
      by_size page e = grind (arith, nat_tests)

  is_removed : Removes o old gone
  is_removed = removes old x.mid o (empties_more (is_below o (length (object_at old.objects o))) (is_object o) old x.mid (below_object o (length (object_at old.objects o))) x.empties)
      (λ e. let some = x.cached.there in let none = ap length e in absurd (omega (arith, some, none)))
      (λ i l. let size = x.empties.sizes o in x.empty i (omega (arith, l, size)))

  lent_gone : LendsObject n len o old (record gone { frames = now.frames }) (Inward plan)
  lent_gone = record {
    gone = gone;
    removes = is_removed;
    buffer = record {
      sound = lent_sound gone now.frames n x.count fs is_removed.sound x.fresh shaped lent;
      lends = record {
        pages = x.number ∙ pages ∙ ap (λ p. span p 0 len) (sym page_same);
        begins = first ∙ zero_rest old.frames.page some_page ∙ ap (λ p. 0 % p) (sym page_same);
        length_kept = long;
      };
      count = x.count;
      fresh = x.fresh;
      taken = let meter = x.meter in let number = x.number in let same = ap (λ (t : FrameTable). t.meters.taken) x.empties.frames in omega (arith, meter, number, same);
      low = let low = x.low in let same = ap (λ (t : FrameTable). t.meters.taken) x.empties.frames in omega (arith, low, same);
      shows = untaken_shows fs gone now.frames x.count (fresh_shows gone (with_taken now.frames x.count) (System n) fs is_removed.sound refl x.fresh);
      pages = refl;
      objects = refl;
      slots = refl;
    };
    same = λ i f e unlent. x.same i f (entry_below i f e) e unlent;
  }
    where
      entry_below : (i f : ℕ) → entry_frame old o i ≡ Some f → i < length (object_at old.objects o)
      entry_below i f e = in_range (object_at old.objects o) i no_entry (λ none. let bad : None ≡ Some f = sym (ap (λ (t : Entry). frame_of old.pages.pages t.page) none) ∙ e in cc)

  pub all_claimed : (new : Memory) → new ≡ removed now o → LendsObject n len o old new (Inward plan)
  all_claimed new e = subst (λ (z : Memory). LendsObject n len o old z (Inward plan)) (sym (e ∙ ap (λ (z : Memory). removed z o) x.rest)) lent_gone
