-- The kernel with a child whose pages are untouched: it is good, and their copying can't want for room.
use Rattle.std.proofs.Common.{◌≡◌, ◌≢◌, ℕ, ◌+◌, ◌*◌, ◌-◌, ◌^◌, ◌<◌, ◌≤◌, zero, suc, Bool, true, false, not, cond, List, [], ◌∷◌, ◌++◌, refl, sym, ap, ap₂, subst, arith, rules, ◌∙◌, map, length, length-set, filter, find, take, set, get_or, get_or-set_same, replicate, inl, inr, ⊎_elim, eq-eqb, eqb-true}
use Rattle.std.specs.Prelude.{Option, Some, None, All, ◌==◌, count_by, sum_by, nat_lt, if◌then◌else◌}
use Rattle.std.specs.List.{AllPairs, list_any}
use Rattle.std.proofs.lemmas.Bool.{cases_Bool, cond_both}
use Rattle.std.proofs.lemmas.List.{take_all}
use Rattle.std.proofs.lemmas.List.Sums.{sum_by-cons, sum_by-append}
use Rattle.genie_base.specs.declared.event.Event.TheVariants.{Fork}
use Rattle.genie_base.specs.declared.reply.Reply.TheVariants as reply
use Rattle.genie_base.specs.Lemmas.Places.{num}
use Rattle.genie_hiding.specs.declared.hidden.Hidden.{Hidden}
use Rattle.genie_hiding.specs.Hidden.{is_among, no_hidden, object_of, objects_of}
use Rattle.genie_hiding.specs.Lemmas.Naming.{cached_at, fits_kept, names_page}
use Rattle.genie_hiding.specs.Lemmas.Searching.{count_found}
use Rattle.genie_object.specs.declared.memory.Memory.{Memory}
use Rattle.genie_object.specs.declared.objects.Entry.{Entry}
use Rattle.genie_object.specs.Memory.{entry_frame, frame_of, page_bytes, seen}
use Rattle.genie_object.specs.Objects.{entry_at, is_absent, names, no_entry, object_at}
use Rattle.genie_object.specs.Pages.{page_at}
use Rattle.genie_object.specs.Sound.{FitsHidden, IsSound}
use Rattle.genie_object.specs.Touching.{Touches}
use Rattle.genie_region.specs.declared.region.Region.{Region}
use Rattle.genie_region.specs.Layouts.{starts_at}
use Rattle.genie_space.specs.Translations.{IsBacked}
use Rattle.genie_sharing.specs.Copying.{StaysRoomy}
use Rattle.genie_sharing.specs.Regions.{AreCopies, IsCopyOf, has_object}
use Rattle.genie_model.specs.Lemmas.Lists.{Has, all_has, has_at, has_either, has_left, has_right, find_has}
use Rattle.genie_model.specs.Refusing.{refuse}
use Rattle.genie_model.specs.Regions.{regions_at}
use Rattle.genie_model.specs.Space.{accessible, add_copies, spawned, tidy}
use Rattle.genie_model.specs.Step.{accept}
use Rattle.genie_model.specs.Tables.{entry}
use Rattle.genie_kernel.specs.declared.kernel.Kernel.{Kernel}
use Rattle.genie_kernel.specs.declared.transfer.Transfer.{Transfer}
use Rattle.genie_kernel.specs.Backed.{AreGuarded, all_regions, has_object as has_region_object, hidden_region}
use Rattle.genie_kernel.specs.Good.{IsGood}
use Rattle.genie_kernel.specs.Held.{AreHeldPages, IsInFrame, page_of_loan, region_named, weak_transfers}
use Rattle.genie_kernel.specs.Loans.{frames_of}
use Rattle.genie_kernel.specs.Regions.{owned_regions, region_view, regions_of}
use Rattle.genie_kernel.specs.Steps.{Steps}
use Rattle.genie_kernel.specs.View.{Bytes, no_bytes, outline, state_of}
use Rattle.genie_kernel.specs.Lemmas.Processes.{regions_view}
use Rattle.genie_kernel.specs.Lemmas.Tidying.{tidy_view}
use Rattle.genie_changes.specs.Removing.{FitsTables, GoodRegionsFit}
use Rattle.genie_room.specs.Frames.{FourAreAvailable}
use Rattle.genie_room.specs.Rooms.{RoomIsKept}
use Rattle.genie_spaces.specs.Forking.{HasCopies, ShowsSource, is_forked, with_child, with_entries}
use Rattle.genie_spaces.specs.RegionLaws.{RegionLaws}
use Rattle.genie_spaces.proofs.Beside.{count_owned, has_owned_set, inside}
use Rattle.genie_spaces.proofs.Copying.{MayFork}
use Rattle.genie_spaces.proofs.Numbering.{has_owned}

accessible_view : (s : ℕ → ℕ → List ℕ) (rs : List Region) → accessible (map (region_view s) rs) ≡ map (region_view s) (filter is_forked rs)
accessible_view s [] = refl
accessible_view s (r ∷ rs) = elim (is_forked r) as (λ b. cond b (region_view s r ∷ accessible (map (region_view s) rs)) (accessible (map (region_view s) rs)) ≡ map (region_view s) (cond b (r ∷ filter is_forked rs) (filter is_forked rs))) [ true ↦ ap (λ l. region_view s r ∷ l) (accessible_view s rs) | false ↦ accessible_view s rs ]

-- the child of the flat machine's step
pub forked_state : (k : Kernel) (b : Bytes) (p child : ℕ) (rs : List Region) → entry k.spaces.processes p ≡ Some rs → (accept (state_of k b) (Fork p child)).0 ≡ tidy (add_copies (spawned (state_of k b) child) child (map (region_view b.seen.entry_bytes) (filter is_forked rs)))
forked_state k b p child rs there =
    let view = region_view b.seen.entry_bytes in
    let are : accessible (regions_at (state_of k b) p) ≡ map view (filter is_forked rs) = ap accessible (regions_view b.seen.entry_bytes k.spaces.processes k.queues p ∙ ap (λ (o : Option (List Region)). map view (regions_of o)) there) ∙ accessible_view b.seen.entry_bytes rs in
    ap (λ l. tidy (add_copies (spawned (state_of k b) child) child l)) are

count_has : (o : ℕ) (r : Region) (rs : List Region) → Has r rs → r.object.0 ≡ o → 1 ≤ count_by (has_region_object o) rs
count_has o r [] h e = absurd h
count_has o r (x ∷ rs) (inl s) e = let here : num (has_region_object o x) ≡ 1 = ap num (eq-eqb x.object.0 o (ap (λ (y : Region). y.object.0) s ∙ e)) in omega (arith, sum_by-cons (λ (y : Region). num (has_region_object o y)) x rs, here)
count_has o r (x ∷ rs) (inr h) e = let later = count_has o r rs h e in omega (arith, sum_by-cons (λ (y : Region). num (has_region_object o y)) x rs, later)

count_hidden : (o : ℕ) (hidden : List Hidden) → count_by (λ h. h == o) (objects_of hidden) ≡ count_by (has_region_object o) (map hidden_region hidden)
count_hidden o [] = refl
count_hidden o (h ∷ hidden) = omega (arith, count_hidden o hidden, sum_by-cons (λ (y : Region). num (has_region_object o y)) (hidden_region h) (map hidden_region hidden), sum_by-cons (λ n. num (n == o)) (object_of h) (objects_of hidden))

one_most : (b : Bool) → (if b then 0 else 1) ≤ 1
one_most true = omega arith
one_most false = omega arith

none_above : (n : ℕ) → n ≡ 0 → nat_lt 0 n ≡ false
none_above n e = ap (nat_lt 0) e

-- an object is that of one region, and not of a hidden one
pub unhidden : (k : Kernel) → IsGood k → (r : Region) → Has r (owned_regions k.spaces.processes) → is_among r.object.0 (objects_of k.hidden) ≡ false
unhidden k g r h =
    let o : ℕ = r.object.0 in
    let most = one_most (is_absent (object_at k.memory.objects o)) in
    let one = g.backed.one o in
    let some = count_has o r (owned_regions k.spaces.processes) h refl in
    let both = sum_by-append (λ (x : Region). num (has_region_object o x)) (owned_regions k.spaces.processes) (map hidden_region k.hidden) in
    none_above _ (omega (arith, some, one, most, both, count_hidden o k.hidden))

differ_by_count : (rs : List Region) → ((o : ℕ) → count_by (has_region_object o) rs ≤ 1) → AllPairs (λ (a b : Region). a.object.0 ≢ b.object.0) rs
differ_by_count [] h i j d l m e = absurd (omega (arith, m))
differ_by_count (x ∷ rs) h zero zero d l m e = absurd (omega (arith, l))
differ_by_count (x ∷ rs) h zero (suc j) d l m e =
    let o : ℕ = x.object.0 in
    let later = count_has o (get_or rs j d) rs (has_at rs j d (omega (arith, m))) (sym e) in
    let here : num (has_region_object o x) ≡ 1 = ap num (eq-eqb o o refl) in
    absurd (omega (arith, h o, later, here, sum_by-cons (λ (y : Region). num (has_region_object o y)) x rs))
differ_by_count (x ∷ rs) h (suc i) zero d l m e = absurd (omega (arith, l))
differ_by_count (x ∷ rs) h (suc i) (suc j) d l m e = differ_by_count rs (λ o. let all = h o in omega (arith, all, sum_by-cons (λ (y : Region). num (has_region_object o y)) x rs)) i j d (omega (arith, l)) (omega (arith, m)) e

nothing : {X : Type 0} (xs : List X) → length xs ≡ 0 → xs ≡ []
nothing [] h = refl
nothing (y ∷ ys) h = absurd (omega (arith, h))

module _ (laws : RegionLaws) (k : Kernel) (p child : ℕ) (rs cs : List Region) (os : List (List Entry)) (may : MayFork k p child rs) (accepted : refuse (outline k) (Fork p child) ≡ None) (x : HasCopies k child rs (length rs) cs os) where
  abbrev m : Memory
  m = with_entries k os

  abbrev ps : List (Option (List Region))
  ps = k.spaces.processes

  abbrev now : List (Option (List Region))
  now = set ps child (Some cs)

  abbrev h : Kernel
  h = record (with_child k child cs) { memory = m }

  pub seen_same : (slots : ℕ → List ℕ) → seen m slots ≡ seen k.memory slots
  seen_same slots = λ j. record { entry_bytes = λ a i. page_bytes k.memory.frames k.memory.pages.pages slots (x.entries a i j).page; kept_bytes = (seen k.memory slots).kept_bytes }

  frame_same : (a i : ℕ) → entry_frame m a i ≡ entry_frame k.memory a i
  frame_same a i = ap (λ (e : Entry). frame_of k.memory.pages.pages e.page) (x.entries a i)

  touches_none : Touches (λ a i. false) k.memory m
  touches_none = record {
    entries = λ a i f. let is = x.entries a i in record { page = ap (λ (e : Entry). e.page) is; readable = λ w. sym (ap (λ (e : Entry). e.readable) is) ∙ w; writable = λ w. sym (ap (λ (e : Entry). e.writable) is) ∙ w };
    pages = λ q out. refl;
    outside = λ q out. record { there = out.there; named = λ a i n. refl };
    counts = λ q f out e. refl;
  }

  -- a copy's object wasn't there
  copy_absent : (a : ℕ) → object_at k.memory.objects a ≢ [] → list_any (has_object a) cs ≡ false
  copy_absent a some = ⊎_elim (λ (yes : list_any (has_object a) cs ≡ true). absurd (some (x.absent a yes))) (λ other. other) (cases_Bool (list_any (has_object a) cs))

  cached : FitsHidden m (objects_of k.hidden)
  cached = record {
    cached = λ j l.
        let was = may.good.cached.cached j l in
        let a : ℕ = get_or (objects_of k.hidden) j 0 in
        let some : object_at k.memory.objects a ≢ [] = λ e. let z : 0 < 0 = subst (λ (es : List Entry). 0 < length es) e was.there in absurd (omega arith) in
        Rattle.genie_hiding.specs.Lemmas.Naming.cached_kept (λ b i. false) k.memory m a may.good.sound touches_none (ap length (x.others a (copy_absent a some))) (λ i q e. refl) was;
    apart = may.good.cached.apart;
  }

  has_copy : (c : Region) (xs : List Region) → Has c xs → list_any (has_object c.object.0) xs ≡ true
  has_copy c xs is = Rattle.genie_model.specs.Lemmas.Lists.has_any (has_object c.object.0) c xs is (eq-eqb c.object.0 c.object.0 refl)

  guarded : AreGuarded os (owned_regions now)
  guarded = λ j d l shut i.
      let r : Region = get_or (owned_regions now) j d in
      let same = ap (λ (e : Entry). e.writable) (x.entries r.object.0 i) in
      same ∙ ⊎_elim
      (λ (old : Has r (owned_regions ps)). all_has (λ (q : Region). q.writable ≡ false → (n : ℕ) → (entry_at k.memory.objects q.object.0 n).writable ≡ false) (owned_regions ps) may.good.guarded r old shut i)
      (λ (new : Has r cs). ap (λ (es : List Entry). (get_or es i no_entry).writable) (x.absent r.object.0 (has_copy r cs new)))
      (has_owned_set ps child cs r (has_at (owned_regions now) j d l))

  in_frame_same : (r : Option Region) (i f : ℕ) → IsInFrame k.memory r i f → IsInFrame m r i f
  in_frame_same None i f e = e
  in_frame_same (Some r) i f e = frame_same r.object.0 i ∙ e

  held_same : AreHeldPages k.config.page m (owned_regions ps) k.transfers
  held_same = record {
    page_in = may.good.held.page_in;
    frame_of = may.good.held.frame_of;
    each = λ i d l. let was = may.good.held.each i d l in let t : Transfer = get_or (weak_transfers k.transfers) i d in record {
      pages = was.pages;
      frames = was.frames;
      held = λ j lt. in_frame_same (region_named (owned_regions ps) (page_of_loan k.config.page t j).region) (page_of_loan k.config.page t j).index (get_or (frames_of t.loans) j 0) (was.held j lt);
    };
  }

  all_forked : filter is_forked (take (length rs) rs) ≡ filter is_forked rs
  all_forked = ap (filter is_forked) (take_all (length rs) rs (omega arith))

  -- the state is the flat machine's, where the copies show what their sources show
  pub state_forked : (b : Bytes) → ((c : Region) → Has c cs → ShowsSource b.seen.entry_bytes rs c) → state_of h b ≡ (accept (state_of k b) (Fork p child)).0
  state_forked b shows =
      sym (tidy_view h b)
      ∙ ap tidy (x.state b shows ∙ ap (λ l. add_copies (spawned (state_of k b) child) child (map (region_view b.seen.entry_bytes) l)) all_forked)
      ∙ sym (forked_state k b p child rs may.there)

  orderly_steps : Steps (outline k) (Fork p child) (outline h) reply.Okay
  orderly_steps = record { state = state_forked (no_bytes k.config.page) (λ c is r i found below. refl); reply_is = refl }

  pub good_forked : IsGood h
  good_forked = let g = may.good in record {
    fits = g.fits;
    sized = record { page = g.sized.page; frames = g.sized.frames; slots = g.sized.slots; pages = g.sized.pages };
    spaced = record { page = g.spaced.page; processes = length-set ps child (Some cs) ∙ g.spaced.processes; queue_places = length-set k.queues child [] ∙ g.spaced.queue_places };
    equipped = g.equipped;
    orderly = laws.orderly (outline k) (outline h) (Fork p child) reply.Okay refl accepted orderly_steps g.orderly;
    sound = x.sound;
    cached = cached;
    few = x.few;
    backed = x.backed;
    guarded = guarded;
    counted = g.counted;
    owners = g.owners;
    held = laws.held k.config.page m (owned_regions ps) (owned_regions now) k.transfers x.named held_same;
    planned = g.planned;
    fitting = g.fitting;
    posted = g.posted;
    sending = g.sending;
    receiving = g.receiving;
    arrived = g.arrived;
  }

  in_ps : child < length ps
  in_ps = inside k child cs may.good may.place may.free

  pub copy_owned : (c : Region) → Has c cs → Has c (owned_regions now)
  copy_owned c is = has_owned now child cs c (get_or-set_same ps child (Some cs) None in_ps) is

  pub source_owned : (r : Region) → Has r rs → Has r (owned_regions ps)
  source_owned r is = has_owned ps p rs r may.there is

  -- the parent is another process
  other_process : p ≢ child
  other_process e = let bad : Some rs ≡ None = sym may.there ∙ ap (entry ps) e ∙ may.free in cc

  pub source_there : (r : Region) → Has r rs → Has r (owned_regions now)
  source_there r is = has_owned now p rs r (Rattle.std.proofs.Common.get_or-set_other ps child p (Some cs) None other_process ∙ may.there) is

  backed_by : (c : Region) → Has c (owned_regions now) → length (object_at os c.object.0) ≡ c.pages
  backed_by c is = all_has (IsBacked os) (all_regions now k.hidden) x.backed.each c (has_left c (owned_regions now) (map hidden_region k.hidden) is)

  was_backed : (r : Region) → Has r rs → length (object_at k.memory.objects r.object.0) ≡ r.pages
  was_backed r is = all_has (IsBacked k.memory.objects) (all_regions ps k.hidden) may.good.backed.each r (has_left r (owned_regions ps) (map hidden_region k.hidden) (source_owned r is))

  some_object : (r : Region) (es : List Entry) → Has r rs → length es ≡ r.pages → es ≢ []
  some_object r es is long e = absurd (omega (arith, long, ap length e, may.some r is))

  pub source_apart : (r : Region) → Has r rs → list_any (has_object r.object.0) cs ≡ false
  source_apart r is = copy_absent r.object.0 (some_object r (object_at k.memory.objects r.object.0) is (was_backed r is))

  copy_of_source : (c : Region) → Has c cs → IsCopyOf m (objects_of k.hidden) rs cs c
  copy_of_source c is =
      let s = x.sources c is in
      let there = (find_has (starts_at c.start) rs s.region s.found).0 in
      record {
        region = s.region;
        found = s.found;
        there = some_object s.region (object_at os s.region.object.0) there (backed_by s.region (source_there s.region there));
        apart = source_apart s.region there;
        size = backed_by c (copy_owned c is) ∙ s.pages ∙ sym (backed_by s.region (source_there s.region there));
        empty = λ i. ap (λ (e : Entry). e.page) (x.entries c.object.0 i) ∙ ap (λ (es : List Entry). (get_or es i no_entry).page) (x.absent c.object.0 (has_copy c cs is));
        from_owned = unhidden h good_forked s.region (source_there s.region there);
        to_owned = unhidden h good_forked c (copy_owned c is);
      }

  copies_once : (o : ℕ) → count_by (has_region_object o) cs ≤ 1
  copies_once o =
      let one = x.backed.one o in
      let both = sum_by-append (λ (y : Region). num (has_region_object o y)) (owned_regions now) (map hidden_region k.hidden) in
      omega (arith, one, both, one_most (is_absent (object_at os o)), count_owned (has_region_object o) ps child cs may.free in_ps)

  pub are_copies : AreCopies m (objects_of k.hidden) rs cs
  are_copies = record {
    each = λ j d l. copy_of_source (get_or cs j d) (has_at cs j d l);
    differ = differ_by_count cs copies_once;
  }

  -- each copy's object is there
  pub copies_there : All (λ (c : Region). object_at os c.object.0 ≢ []) cs
  copies_there = λ j d l e.
      let c : Region = get_or cs j d in
      let is = has_at cs j d l in
      let s = x.sources c is in
      let some = may.some s.region (find_has (starts_at c.start) rs s.region s.found).0 in
      absurd (omega (arith, ap length e, backed_by c (copy_owned c is), s.pages, some))

-- a sum over a table beneath one over another
sum_under : {X Y : Type 0} (g : X → ℕ) (f : Y → ℕ) (d : X) (e : Y) (xs : List X) (ys : List Y) → f e ≡ 0 → ((i : ℕ) → g (get_or xs i d) ≤ f (get_or ys i e)) → sum_by g xs ≤ sum_by f ys
sum_under g f d e [] ys none h = omega arith
sum_under g f d e (x ∷ xs) [] none h = let first = h 0 in let rest = sum_under g f d e xs [] none (λ i. let l = h (suc i) in l) in omega (arith, first, none, rest, sum_by-cons g x xs)
sum_under g f d e (x ∷ xs) (y ∷ ys) none h = let first = h 0 in let rest = sum_under g f d e xs ys none (λ i. h (suc i)) in omega (arith, first, rest, sum_by-cons g x xs, sum_by-cons f y ys)

abbrev present : List Entry → ℕ
present es = num (not (is_absent es))

sum_of_present : (os : List (List Entry)) → sum_by (λ es. 64 * present es) os ≡ 64 * count_by (λ es. not (is_absent es)) os
sum_of_present [] = refl
sum_of_present (es ∷ os) = omega (arith, sum_of_present os, sum_by-cons (λ x. 64 * present x) es os, sum_by-cons (λ x. present x) es os)

counted_length : (q : Entry → Bool) (es : List Entry) → count_by q es ≤ length es
counted_length q [] = omega arith
counted_length q (x ∷ es) = let rest = counted_length q es in let first = cond_most (q x) in omega (arith, rest, first, sum_by-cons (λ y. num (q y)) x es) where
  cond_most : (b : Bool) → num b ≤ 1
  cond_most true = omega arith
  cond_most false = omega arith

none_counted : (q : Entry → Bool) (es : List Entry) → ((i : ℕ) → i < length es → q (get_or es i no_entry) ≡ false) → count_by q es ≡ 0
none_counted q [] h = refl
none_counted q (x ∷ es) h = let rest = none_counted q es (λ i l. h (suc i) (omega (arith, l))) in let first : num (q x) ≡ 0 = ap num (h 0 (omega arith)) in omega (arith, rest, first, sum_by-cons (λ y. num (q y)) x es)

among_hidden : (o : ℕ) (hidden : List Hidden) → 1 ≤ count_by (has_region_object o) (map hidden_region hidden) → is_among o (objects_of hidden) ≡ true
among_hidden o hidden l = let n = count_hidden o hidden in grind (arith, rules, l, n)

-- there may be a holder more of each page, whatever the entries name
holders_few : GoodRegionsFit → (k : Kernel) (m : Memory) (p : ℕ) → IsGood k → IsSound m → FitsHidden m (objects_of k.hidden) → ((o : ℕ) → length (object_at m.objects o) ≡ length (object_at k.memory.objects o)) → count_by (λ es. not (is_absent es)) k.memory.objects ≤ 512 → (page_at m.pages.pages p).shares < 2 ^ 32 - 1
holders_few fit k m p good sound fits sizes few = ⊎_elim
    (λ (one : (page_at m.pages.pages p).shares ≡ 1). omega (arith, one))
    (λ (other : (page_at m.pages.pages p).shares ≢ 1).
    let places : (a : ℕ) → count_by (names p) (object_at m.objects a) ≤ 64 * present (object_at k.memory.objects a) = λ a. at_place a other (object_at k.memory.objects a) refl in
    let all = sum_under (count_by (names p)) (λ es. 64 * present es) [] [] m.objects k.memory.objects refl places in
    omega (arith, sound.shared.counted p, all, sum_of_present k.memory.objects, few))
    (Rattle.std.proofs.lemmas.Bool.cases_eq (page_at m.pages.pages p).shares 1)
  where
    at_place : (a : ℕ) → (page_at m.pages.pages p).shares ≢ 1 → (es : List Entry) → object_at k.memory.objects a ≡ es → count_by (names p) (object_at m.objects a) ≤ 64 * present es
    at_place a other [] is = let none = sizes a ∙ ap length is in omega (arith, none, counted_length (names p) (object_at m.objects a))
    at_place a other (e ∷ es) is =
        let one : count_by (has_region_object a) (all_regions k.spaces.processes k.hidden) ≡ 1 = good.backed.one a ∙ ap (λ (l : List Entry). if is_absent l then 0 else 1) is in
        let y = count_found (has_region_object a) no_hidden.region (all_regions k.spaces.processes k.hidden) (omega (arith, one)) in
        let r : Region = get_or (all_regions k.spaces.processes k.hidden) y.at no_hidden.region in
        let here : r.object.0 ≡ a = eqb-true r.object.0 a y.passes in
        ⊎_elim
        (λ (owned : Has r (owned_regions k.spaces.processes)).
        let long : length (object_at k.memory.objects r.object.0) ≡ r.pages = all_has (IsBacked k.memory.objects) (all_regions k.spaces.processes k.hidden) good.backed.each r (has_left r (owned_regions k.spaces.processes) (map hidden_region k.hidden) owned) in
        let most = (all_has FitsTables (owned_regions k.spaces.processes) (fit k good) r owned).most in
        omega (arith, counted_length (names p) (object_at m.objects a), sizes a, ap (λ o. length (object_at k.memory.objects o)) here, long, most))
        (λ (hid : Has r (map hidden_region k.hidden)).
        let is_hid = among_hidden a k.hidden (count_has a r (map hidden_region k.hidden) hid here) in
        let cache = cached_at (objects_of k.hidden) m a fits is_hid in
        let none = none_counted (names p) (object_at m.objects a) (λ i l. ⊎_elim
        (λ (yes : names p (entry_at m.objects a i) ≡ true). absurd (other (cache.own i (record { 0 = p }) (names_page (record { 0 = p }) (entry_at m.objects a i) yes))))
        (λ n. n)
        (cases_Bool (names p (entry_at m.objects a i)))) in
        omega (arith, none))
        (has_either r (owned_regions k.spaces.processes) (map hidden_region k.hidden) (has_at (all_regions k.spaces.processes k.hidden) y.at no_hidden.region y.there))

-- so a good kernel of few objects has room for copies
pub stays_roomy : GoodRegionsFit → FourAreAvailable → RoomIsKept → (k : Kernel) → IsGood k → count_by (λ es. not (is_absent es)) k.memory.objects ≤ 512 → StaysRoomy (objects_of k.hidden) k.memory
stays_roomy fit four kept k good few = λ m sound fits keeps counts.
    let room = kept k m good sound fits keeps counts in
    let some = four k good in
    record {
      slots = room.places.slots;
      frames = omega (arith, some, room.frames);
      pages = room.places.free;
      holders = λ p. holders_few fit k m p good sound fits keeps.entries few;
    }
