-- A settled kernel of which a process loses a region.
use Rattle.std.proofs.Common.{◌≡◌, ◌≢◌, ℕ, ◌<◌, suc, Bool, true, false, not, cond, List, [], ◌∷◌, refl, sym, ap, subst, arith, rules, ◌∙◌, ⊎_elim, inl, inr, length, map, filter, find, get_or, get_or-set_same, get_or-set_other, set, eq-eqb}
use Rattle.std.specs.Prelude.{Option, Some, None, AllPairs, is_some, count_by, ◌==◌, ◌||◌, if◌then◌else◌}
use Rattle.std.specs.List.{list_any}
use Rattle.std.proofs.lemmas.Bool.{cases_Bool, cases_eq, cases_lt, cond_both}
use Rattle.std.proofs.lemmas.List.{length-replicate}
use Rattle.std.proofs.lemmas.List.Kept.{AllPairs-filter}
use Rattle.std.proofs.lemmas.List.Sums.{sum_by-cons}
use Rattle.genie_frame.specs.declared.frame.FrameId.{FrameId}
use Rattle.genie_frame.specs.declared.frame.Owner.{Owner}
use Rattle.genie_frame.specs.declared.frame.Owner.TheVariants.{Page, Nobody}
use Rattle.genie_frame.specs.FrameTable.{FrameTable, owner_at, counts_at, bytes_at, is_held, is_lent, is_page}
use Rattle.genie_hiding.specs.declared.hidden.Hidden.{Hidden}
use Rattle.genie_hiding.specs.Hidden.{objects_of}
use Rattle.genie_hiding.specs.Lemmas.Naming.{names_page}
use Rattle.genie_hiding.specs.Lemmas.Searching.{count_found}
use Rattle.genie_object.specs.declared.memory.Memory.{Memory}
use Rattle.genie_object.specs.declared.objects.Entry.{Entry}
use Rattle.genie_object.specs.declared.pages.PageId.{PageId}
use Rattle.genie_object.specs.declared.pages.PageInfo.{PageInfo}
use Rattle.genie_object.specs.declared.pages.Place.{Place}
use Rattle.genie_object.specs.declared.pages.Place.TheVariants.{Zero, Frame, Slot}
use Rattle.genie_object.specs.Costs.{place_of}
use Rattle.genie_object.specs.Leaving.{is_object}
use Rattle.genie_object.specs.Touching.{Lasts, system_owner}
use Rattle.genie_object.specs.Memory.{seen, is_kept, frame_in, frame_of, entry_frame, page_bytes, place_bytes}
use Rattle.genie_object.specs.Objects.{entry_at, names, no_entry}
use Rattle.genie_object.specs.Pages.{page_at, no_page}
use Rattle.genie_object.specs.Sound.{IsSound, FitsHidden, times_named}
use Rattle.genie_object.specs.Lemmas.Lookup.{in_range, frame_known, slot_taken}
use Rattle.genie_object.specs.Lemmas.Naming.{named_once}
use Rattle.genie_region.specs.declared.region.Region.{Region}
use Rattle.genie_model.specs.Lemmas.Lists.{Has, all_has, has_any, has_at, has_left, find_has}
use Rattle.genie_model.specs.Tables.{entry}
use Rattle.genie_kernel.specs.declared.kernel.Kernel.{Kernel}
use Rattle.genie_kernel.specs.declared.transfer.Transfer.{Transfer}
use Rattle.genie_kernel.specs.Backed.{AreBacked, AreFew, AreGuarded, IsGuarded, all_regions, hidden_region}
use Rattle.genie_kernel.specs.Calls.{has_number}
use Rattle.genie_kernel.specs.Held.{weak_transfers}
use Rattle.genie_kernel.specs.Kept.{Kept}
use Rattle.genie_kernel.specs.Loans.{has_frame}
use Rattle.genie_kernel.specs.Regions.{has_id, owned_regions, regions_of}
use Rattle.genie_kernel.specs.Lemmas.Staying.{lent_true, system_same}
use Rattle.genie_changes.specs.Pages.{EachFrame, FindsOthers, LeavesFrame}
use Rattle.genie_changes.specs.Paged.{HavePages}
use Rattle.genie_changes.specs.Premises.{ShowsLeft}
use Rattle.genie_changes.specs.Regions.{without_number}
use Rattle.genie_changes.specs.Removing.{FitsTables, IsOnlyIn}
use Rattle.genie_changes.specs.Removal.{removed_from, unlisted}
use Rattle.genie_changes.specs.Settled.{AreListed, AreNumbered, IsSettled, LieInRegions}
use Rattle.genie_changes.proofs.Holding.{held_as_orphans}
use Rattle.genie_changes.proofs.Leaving.{finds_others, found_here, objects_differ, other_any, owned_left}
use Rattle.genie_changes.proofs.Lent.{LeavesOwners, bytes_same, counted_still, lent_kept, nobody_still, owned_still, pool_kept, same_one, weak_frames_held}
use Rattle.genie_changes.proofs.Planning.{planned_stay}
use Rattle.genie_changes.proofs.Processes.{all_filtered, all_set, regions_set}
use Rattle.genie_changes.proofs.Spaces.{spaced_stay}

-- what a call leaves that takes an object's pages away, or some of them: every other entry is as it was, has its page where
-- it was, and shows what it showed, and no entry of the object is in a frame that a device holds
pub record LeavesObject (o : ℕ) (old new : Memory) : Type 0 where
  pub sound : IsSound new
  pub others : (a b : ℕ) → is_object o a b ≡ false → entry_at new.objects a b ≡ entry_at old.objects a b
  pub places : (a b : ℕ) → is_object o a b ≡ false → place_of new a b ≡ place_of old a b
  pub lent : (f : ℕ) → is_lent (counts_at old.frames f) ≡ true → Lasts old.frames new.frames f
  pub systems : (f : ℕ) → system_owner (owner_at new.frames f) ≡ system_owner (owner_at old.frames f)
  pub frames : new.frames ≡ record (old.frames) { owners = new.frames.owners }
  pub number : length new.frames.owners ≡ length old.frames.owners
  pub slots : length new.slots ≡ length old.slots
  pub most : new.pages.most ≡ old.pages.most
  pub unheld : (i f : ℕ) → is_held (counts_at old.frames f) ≡ true → entry_frame new o i ≡ Some f → ⊥

-- an object that names the page
record NamesPage (objects : List (List Entry)) (p : ℕ) : Type 0 where
  object : ℕ
  index : ℕ
  named : names p (entry_at objects object index) ≡ true

named_by : (objects : List (List Entry)) (p : ℕ) → 0 < times_named objects p → NamesPage objects p
named_by [] p l = absurd (omega arith)
named_by (x ∷ objects) p l = elim (cases_lt 0 (count_by (names p) x)) [
  | inl h ↦ let at = count_found (names p) no_entry x h in record { object = 0; index = at.at; named = at.passes }
  | inr h ↦ let at = named_by objects p (omega (arith, l, h, sum_by-cons (count_by (names p)) x objects)) in record { object = suc at.object; index = at.index; named = at.named }
]

frame_place : (m : Memory) (o i : ℕ) → frame_in (place_of m o i) ≡ entry_frame m o i
frame_place m o i = of_page (entry_at m.objects o i).page where
  of_page : (page : Option PageId) → frame_in (elim page as (λ _. Place) [ None ↦ Zero | Some q ↦ (page_at m.pages.pages q.0).place ]) ≡ frame_of m.pages.pages page
  of_page None = refl
  of_page (Some q) = refl

-- a page in a frame
record IsInto (m : Memory) (page : Option PageId) (f : ℕ) : Type 0 where
  number : PageId
  frame : FrameId
  is_page : page ≡ Some number
  is_place : (page_at m.pages.pages number.0).place ≡ Frame frame
  is_frame : frame.0 ≡ f

into_place : (m : Memory) (q : PageId) (place : Place) (f : ℕ) → (page_at m.pages.pages q.0).place ≡ place → frame_in place ≡ Some f → IsInto m (Some q) f
into_place m q Zero f is e = absurd (cc)
into_place m q (Frame g) f is e = record { number = q; frame = g; is_page = refl; is_place = is; is_frame = cc }
into_place m q (Slot s) f is e = absurd (cc)

into : (m : Memory) (page : Option PageId) (f : ℕ) → frame_of m.pages.pages page ≡ Some f → IsInto m page f
into m None f e = absurd (cc)
into m (Some q) f e = into_place m q (page_at m.pages.pages q.0).place f refl e

none_filtered : {X : Type 0} (q p : X → Bool) (xs : List X) → list_any q xs ≡ false → list_any q (filter p xs) ≡ false
none_filtered q p [] e = refl
none_filtered q p (x ∷ xs) e = cond_both (p x) (x ∷ filter p xs) (filter p xs) (λ l. list_any q l ≡ false)
    (λ t. let rest = none_filtered q p xs (none_rest e) in let here = none_first e in ap (λ b. b || list_any q (filter p xs)) here ∙ rest)
    (λ t. none_filtered q p xs (none_rest e)) where
      none_first : (q x || list_any q xs) ≡ false → q x ≡ false
      none_first h = grind (arith, rules, h)

      none_rest : (q x || list_any q xs) ≡ false → list_any q xs ≡ false
      none_rest h = grind (arith, rules, h)

unlisted_none : (n : ℕ) (q : List ℕ) → list_any (λ m. m == n) (unlisted n q) ≡ false
unlisted_none n [] = refl
unlisted_none n (x ∷ q) = elim (x == n) as (λ b. (x == n) ≡ b → list_any (λ m. m == n) (cond (not b) (x ∷ unlisted n q) (unlisted n q)) ≡ false) [
  | true ↦ λ e. unlisted_none n q
  | false ↦ λ e. ap (λ b. b || list_any (λ m. m == n) (unlisted n q)) e ∙ unlisted_none n q
] refl

has_filtered : {X : Type 0} (p : X → Bool) (x : X) (xs : List X) → Has x (filter p xs) → Has x xs × (p x ≡ true)
has_filtered p x [] h = absurd h
has_filtered p x (y ∷ ys) h = cond_both (p y) (y ∷ filter p ys) (filter p ys) (λ l. Has x l → Has x (y ∷ ys) × (p x ≡ true))
    (λ t i. ⊎_elim (λ (same : y ≡ x). (inl same, ap p (sym same) ∙ t)) (λ later. let rest = has_filtered p x ys later in (inr rest.0, rest.1)) i)
    (λ f i. let rest = has_filtered p x ys i in (inr rest.0, rest.1)) h

pub some_below : {X : Type 0} (xs : List (Option X)) (p : ℕ) (x : X) → entry xs p ≡ Some x → p < length xs
some_below xs p x e = in_range xs p None (λ none. let bad : None ≡ Some x = sym none ∙ e in absurd (cc))

place_size : (m : Memory) (slots : ℕ → List ℕ) (p : ℕ) (q : Place) → IsSound m → HavePages m slots → (page_at m.pages.pages p).place ≡ q → length (place_bytes m.frames slots q) ≡ m.frames.page
place_size m slots p Zero s h e = length-replicate m.frames.page 0
place_size m slots p (Frame f) s h e = s.shaped.paged f.0 [] (omega (arith, s.shaped.filled, frame_known m p f s e))
place_size m slots p (Slot r) s h e =
    let there : p < length m.pages.pages = in_range m.pages.pages p no_page (λ n. let bad : Zero ≡ Slot r = sym (ap (λ (z : PageInfo). z.place) n) ∙ e in cc) in
    let taken = slot_taken m.pages.pages m.slots p r e there s.slotted in
    h r (in_range m.slots r false (λ n. let bad : false ≡ true = sym n ∙ taken in cc))

-- an entry has a page of bytes
pub entry_size : (m : Memory) (slots : ℕ → List ℕ) (o i : ℕ) → IsSound m → HavePages m slots → length ((seen m slots).entry_bytes o i) ≡ m.frames.page
entry_size m slots o i s h = of_page (entry_at m.objects o i).page where
  of_page : (page : Option PageId) → length (page_bytes m.frames m.pages.pages slots page) ≡ m.frames.page
  of_page None = length-replicate m.frames.page 0
  of_page (Some p) = place_size m slots p.0 (page_at m.pages.pages p.0).place s h refl

module _ (p : ℕ) (r : Region) (k : Kernel) (m : Memory) (rs : List Region) (there : entry k.spaces.processes p ≡ Some rs) (found : find (has_id r.id.0) rs ≡ Some r) (d : LeavesObject r.object.0 k.memory m) (g : IsSettled k) where
  abbrev n : ℕ
  n = r.id.0

  abbrev o : ℕ
  o = r.object.0

  abbrev ps : List (Option (List Region))
  ps = k.spaces.processes

  abbrev owned : List Region
  owned = owned_regions ps

  abbrev left_ps : List (Option (List Region))
  left_ps = set ps p (Some (without_number n rs))

  abbrev left_queues : List (List ℕ)
  left_queues = set k.queues p (unlisted n (get_or k.queues p []))

  abbrev after : Kernel
  after = removed_from k m p n rs

  pub has : Has r rs
  has = (find_has (has_id n) rs r found).0

  pub only : IsOnlyIn n p ps
  only = g.numbered.only p n (ap (λ (z : Option (List Region)). list_any (has_id n) (regions_of z)) there ∙ has_any (has_id n) r rs has (eq-eqb n n refl))

  pub owns : LeavesOwners k.memory m
  owns = record { lent = d.lent; systems = d.systems; frames = d.frames }

  pub left_owned : owned_regions left_ps ≡ without_number n owned
  left_owned = owned_left n ps p rs there only

  pub finds : FindsOthers r owned (owned_regions left_ps)
  finds = finds_others k.memory.objects k.hidden ps p r rs there found only g.backed

  pub there_below : p < length k.queues
  there_below = omega (arith, some_below ps p rs there, g.spaced.processes, g.spaced.queue_places)

  -- regions
  none_before : (q i : ℕ) → list_any (has_id q) (regions_of (entry ps i)) ≡ false → list_any (has_id q) (regions_of (entry left_ps i)) ≡ false
  none_before q i e = regions_set rs (without_number n rs) (λ l. list_any (has_id q) l ≡ false) ps p i there (λ same was. none_filtered (has_id q) (λ x. not (has_id n x)) rs was) e

  pub left_numbered : AreNumbered left_ps
  left_numbered = record {
    only = λ i q here j ne. none_before q j (g.numbered.only i q (⊎_elim (λ (e : list_any (has_id q) (regions_of (entry ps i)) ≡ true). e) (λ e. let none = none_before q i e in let bad : false ≡ true = sym none ∙ here in absurd (cc)) (cases_Bool (list_any (has_id q) (regions_of (entry ps i))))) j ne);
    each = λ i. regions_set rs (without_number n rs) (AllPairs (λ (a b : Region). a.id.0 ≢ b.id.0)) ps p i there (λ same was. AllPairs-filter (λ (a b : Region). a.id.0 ≢ b.id.0) (λ x. not (has_id n x)) rs was) (g.numbered.each i);
    fit = all_set rs (without_number n rs) FitsTables ps p there (all_filtered FitsTables (λ x. not (has_id n x)) rs) g.numbered.fit;
  }

  pub left_here : regions_of (entry left_ps p) ≡ without_number n rs
  left_here = ap regions_of (get_or-set_same ps p (Some (without_number n rs)) None (some_below ps p rs there))

  queue_here : get_or left_queues p [] ≡ unlisted n (get_or k.queues p [])
  queue_here = get_or-set_same k.queues p (unlisted n (get_or k.queues p [])) [] there_below

  own_listed : (q : ℕ) → list_any (has_id q) (without_number n rs) ≡ false → list_any (λ x. x == q) (unlisted n (get_or k.queues p [])) ≡ false
  own_listed q none = ⊎_elim
      (λ (same : q ≡ n). ap (λ z. list_any (λ x. x == z) (unlisted n (get_or k.queues p []))) same ∙ unlisted_none n (get_or k.queues p []))
      (λ (other : q ≢ n).
      let was : list_any (has_id q) rs ≡ false = sym (other_any n q rs other) ∙ none in
      none_filtered (λ x. x == q) (λ x. not (x == n)) (get_or k.queues p []) (g.listed p q (ap is_some there) (ap (λ (z : Option (List Region)). list_any (has_id q) (regions_of z)) there ∙ was)))
      (cases_eq q n)

  left_listed : AreListed left_ps left_queues
  left_listed i q live none = ⊎_elim
      (λ (same : i ≡ p).
      let here : list_any (has_id q) (without_number n rs) ≡ false = ap (list_any (has_id q)) (sym left_here) ∙ ap (λ j. list_any (has_id q) (regions_of (entry left_ps j))) (sym same) ∙ none in
      ap (λ j. list_any (λ x. x == q) (get_or left_queues j [])) same ∙ ap (list_any (λ x. x == q)) queue_here ∙ own_listed q here)
      (λ (other : i ≢ p).
      let same : entry left_ps i ≡ entry ps i = get_or-set_other ps p i (Some (without_number n rs)) None other in
      ap (list_any (λ x. x == q)) (get_or-set_other k.queues p i (unlisted n (get_or k.queues p [])) [] other) ∙ g.listed i q (ap is_some (sym same) ∙ live) (ap (λ (z : Option (List Region)). list_any (has_id q) (regions_of z)) (sym same) ∙ none))
      (cases_eq i p)

  left_ranges : LieInRegions k.config.page (owned_regions left_ps) k.transfers
  left_ranges i e l q is passes = g.ranges i e l q (⊎_elim
      (λ (same : q.id.0 ≡ n). let bad : None ≡ Some q = sym finds.gone ∙ ap (λ j. find (has_id j) (owned_regions left_ps)) (sym same) ∙ is in absurd (cc))
      (λ (other : q.id.0 ≢ n). sym (finds.others q.id.0 other) ∙ is)
      (cases_eq q.id.0 n)) passes

  -- objects
  pub owned_has : Has r owned
  owned_has = (find_has (has_id n) owned r (found_here n ps p rs r there found only)).0

  pub quiet : (a i : ℕ) → a ≢ o → is_object o a i ≡ false
  quiet a i ne = grind (arith, rules, ne)

  pub each_apart : AllPairs (λ (a b : Region). a.id.0 ≢ b.id.0) rs
  each_apart = subst (λ (z : Option (List Region)). AllPairs (λ (a b : Region). a.id.0 ≢ b.id.0) (regions_of z)) there (g.numbered.each p)

  -- a region that is left has another object
  pub left_apart : (q : Region) → Has q (without_number n owned) → Has q owned × (q.object.0 ≢ o)
  left_apart q h =
      let both = has_filtered (λ x. not (has_id n x)) q owned h in
      let passes = both.1 in
      let differ : q.id.0 ≢ r.id.0 = λ (e : q.id.0 ≡ r.id.0). grind (arith, rules, passes, e) in
      (both.0, objects_differ k.memory.objects (all_regions ps k.hidden) q r g.backed differ (has_left q owned (map hidden_region k.hidden) both.0) (has_left r owned (map hidden_region k.hidden) owned_has))

  left_guarded : AreGuarded m.objects (owned_regions left_ps)
  left_guarded = subst (AreGuarded m.objects) (sym left_owned) (λ j e l shut i.
      let q : Region = get_or (without_number n owned) j e in
      let is = left_apart q (has_at (without_number n owned) j e l) in
      ap (λ (x : Entry). x.writable) (d.others q.object.0 i (quiet q.object.0 i is.1)) ∙ all_has (IsGuarded k.memory.objects) owned g.guarded q is.0 shut i)

  -- where a device holds a page of it, its frame is nobody's now
  pub left_to_nobody : (i f : ℕ) → is_held (counts_at k.memory.frames f) ≡ true → entry_frame k.memory o i ≡ Some f → owner_at m.frames f ≡ Nobody
  left_to_nobody i f held e =
      let at = into k.memory (entry_at k.memory.objects o i).page f e in
      let q : PageId = at.number in
      let owner : owner_at k.memory.frames f ≡ Page q.0 = ap (owner_at k.memory.frames) (sym at.is_frame) ∙ g.sound.placed.in_frame q.0 at.frame at.is_place in
      let alone : (page_at k.memory.pages.pages q.0).shares ≡ 1 = g.sound.held.alone f q.0 owner held in
      ⊎_elim
      (λ (same : owner_at m.frames f ≡ owner_at k.memory.frames f).
      let still : owner_at m.frames at.frame.0 ≡ Page q.0 = ap (owner_at m.frames) at.is_frame ∙ same ∙ owner in
      let placed : (page_at m.pages.pages q.0).place ≡ Frame at.frame = d.sound.placed.of_page at.frame q.0 still in
      ⊎_elim
      (λ some.
      let by = named_by m.objects q.0 some in
      let page : (entry_at m.objects by.object by.index).page ≡ Some q = names_page q (entry_at m.objects by.object by.index) by.named in
      let apart : by.object ≢ o = λ (z : by.object ≡ o).
      let on : (entry_at m.objects o by.index).page ≡ Some q = ap (λ x. (entry_at m.objects x by.index).page) (sym z) ∙ page in
      let framed : entry_frame m o by.index ≡ Some f = ap (frame_of m.pages.pages) on ∙ ap frame_in placed ∙ ap Some at.is_frame in
      d.unheld by.index f held framed in
      let was : (entry_at k.memory.objects by.object by.index).page ≡ Some q = ap (λ (x : Entry). x.page) (sym (d.others by.object by.index (quiet by.object by.index apart))) ∙ page in
      absurd (apart (named_once k.memory.pages.pages k.memory.objects by.object by.index o i q g.sound.shared alone was at.is_page).0))
      (λ none.
      let spare = d.sound.shared.spare q.0 (omega (arith, d.sound.shared.counted q.0, none)) in
      let bad : Zero ≡ Frame at.frame = sym spare ∙ placed in
      absurd (cc))
      (cases_lt 0 (times_named m.objects q.0)))
      (λ (left : (is_page (owner_at k.memory.frames f) ≡ true) × (owner_at m.frames f ≡ Nobody)). left.1)
      (d.lent f (lent_true (counts_at k.memory.frames f) held)).owner

  others_stay : (a i f : ℕ) → a ≢ o → entry_frame k.memory a i ≡ Some f → entry_frame m a i ≡ Some f
  others_stay a i f ne e = sym (frame_place m a i) ∙ ap frame_in (d.places a i (quiet a i ne)) ∙ frame_place k.memory a i ∙ e

  leaves : EachFrame (LeavesFrame r k.memory m) (weak_transfers k.transfers)
  leaves i e l j lt =
      let held = weak_frames_held k g i e l j lt in
      record {
        left = λ x is. left_to_nobody x _ held is;
        entries = λ a x ne is. others_stay a x _ ne is;
        nobody = λ is. nobody_still k g m owns _ held is;
      }

  -- what is true between two changes stays so, over hidden regions that fit
  pub settled_with : (hidden : List Hidden) → FitsHidden m (objects_of hidden) → AreFew left_ps hidden → AreBacked m.objects (all_regions left_ps hidden) → IsSettled (record after { hidden = hidden })
  settled_with hidden cached few backed = record {
    fits = g.fits;
    has_bytes = g.has_bytes;
    sized = record { page = ap (λ (t : FrameTable). t.page) d.frames ∙ g.sized.page; frames = d.number ∙ g.sized.frames; slots = d.slots ∙ g.sized.slots; pages = d.most ∙ g.sized.pages };
    spaced = spaced_stay k.config k.spaces k.queues p p (Some (without_number n rs)) (unlisted n (get_or k.queues p [])) g.spaced;
    equipped = g.equipped;
    numbered = left_numbered;
    listed = left_listed;
    ranges = left_ranges;
    rising = g.rising;
    sound = d.sound;
    cached = cached;
    few = few;
    backed = backed;
    guarded = left_guarded;
    counted = counted_still k g m owns;
    owners = owned_still k g m owns;
    held = held_as_orphans k.config.page r owned (owned_regions left_ps) k.memory m k.transfers finds leaves g.held;
    planned = planned_stay k.config.page k.memory.frames.owners m.frames.owners k.devices k.transfers (λ i e l f is. system_same (owner_at k.memory.frames f) (owner_at m.frames f) (get_or k.transfers i e).id.0 (sym (d.systems f)) is) g.planned;
    fitting = g.fitting;
    posted = g.posted;
    sending = g.sending;
    receiving = g.receiving;
    arrived = g.arrived;
  }

  pub kept_with : (hidden : List Hidden) → Kept k (record after { hidden = hidden })
  kept_with hidden = record {
    lent = λ j f t u is on still. lent_kept k g m owns j f t is.was on;
    pooled = λ j f on still. pool_kept k g m owns j f on;
    fresh = λ j f t u is unready on. subst (λ (x : Transfer). has_frame f x ≡ true) (sym (same_one (find (has_number j) k.transfers) t u is.was is.is)) on;
  }

  -- what a device holds of it, its frame shows
  pub shows_left : (slots : ℕ → List ℕ) → HavePages k.memory slots → ShowsLeft k r (seen k.memory slots).entry_bytes (seen m slots).kept_bytes
  shows_left slots paged = record {
    shown = λ i f e held.
        let at = into k.memory (entry_at k.memory.objects o i).page f e in
        let nobody = left_to_nobody i f held e in
        frame_shown (owner_at m.frames f) f nobody
        ∙ bytes_same k g m owns f
        ∙ sym (ap (page_bytes k.memory.frames k.memory.pages.pages slots) at.is_page ∙ ap (place_bytes k.memory.frames slots) at.is_place ∙ ap (bytes_at k.memory.frames) at.is_frame);
    full = λ i. entry_size k.memory slots o i g.sound paged ∙ g.sized.page;
  } where
    frame_shown : (owner : Owner) (f : ℕ) → owner_at m.frames f ≡ Nobody → (seen m slots).kept_bytes f ≡ bytes_at m.frames f
    frame_shown owner f e = ap (λ z. if is_kept z (counts_at m.frames f) then bytes_at m.frames f else []) e
