-- The hidden regions of a process, dropped.
use Rattle.std.proofs.Common.{◌≡◌, ℕ, ◌+◌, ◌-◌, ◌<◌, ◌≤◌, zero, suc, Bool, true, false, not, cond, List, [], ◌∷◌, ◌++◌, refl, sym, ap, ap₂, subst, arith, rules, ◌∙◌, map, length, get_or, inl, inr, ⊎_elim, eq-eqb, filter, find}
use Rattle.std.specs.Prelude.{Option, Some, None, All, IfSome, ◌==◌, ◌&&◌, count_by, nat_lt, if◌then◌else◌, slice_index, nat_le, remove}
use Rattle.std.specs.List.{list_any}
use Rattle.std.proofs.lemmas.Bool.{cases_Bool, cond_both, and_parts, eqb-true, ne_eqb}
use Rattle.std.proofs.lemmas.List.Sums.{sum_by-cons, sum_by-append}
use Rattle.genie_base.specs.declared.semantics.Direction.{Direction}
use Rattle.genie_base.specs.declared.semantics.Direction.TheVariants as direction
use Rattle.genie_base.specs.Bytes.{part}
use Rattle.genie_base.specs.Lemmas.Places.{num}
use Rattle.genie_frame.specs.declared.frame.Counts.{Counts}
use Rattle.genie_frame.specs.declared.frame.OutLoan.{OutLoan}
use Rattle.genie_frame.specs.declared.frame.Owner.{Owner}
use Rattle.genie_frame.specs.declared.frame.Owner.TheVariants.{Free, Page, System, Pool, Nobody}
use Rattle.genie_frame.specs.FrameTable.{FrameTable, owner_at, counts_at, bytes_at, is_held, is_page}
use Rattle.genie_hiding.specs.declared.hidden.Hidden.{Hidden}
use Rattle.genie_hiding.specs.Discarding.{Discards, is_object_of, has_object as has_hidden_object}
use Rattle.genie_hiding.specs.Hidden.{is_among, is_of, object_of, others, objects_of, no_hidden}
use Rattle.genie_input.specs.Pools.{PoolState}
use Rattle.genie_object.specs.declared.memory.Memory.{Memory}
use Rattle.genie_object.specs.declared.objects.Entry.{Entry}
use Rattle.genie_object.specs.declared.pages.PageId.{PageId}
use Rattle.genie_object.specs.declared.pages.Place.{Place}
use Rattle.genie_object.specs.declared.pages.Place.TheVariants.{Zero}
use Rattle.genie_object.specs.Costs.{place_of}
use Rattle.genie_object.specs.Leaving.{Removes}
use Rattle.genie_object.specs.Memory.{is_kept, frame_in, frame_of, entry_frame}
use Rattle.genie_object.specs.Objects.{object_at, entry_at, is_absent}
use Rattle.genie_object.specs.Pages.{page_at}
use Rattle.genie_object.specs.Sound.{FitsHidden}
use Rattle.genie_object.specs.Touching.{KeepsLoans}
use Rattle.genie_object.specs.Lemmas.Touching.{as_many}
use Rattle.genie_plan.specs.Loans.{Loan, is_kind, loan_times, output_kind, output_loan, output_loans}
use Rattle.genie_plan.specs.Loans as kind
use Rattle.genie_plan.specs.Plans.{output_frames, input_frames}
use Rattle.genie_region.specs.declared.region.Region.{Region}
use Rattle.genie_space.specs.Translations.{IsBacked}
use Rattle.genie_model.specs.Lemmas.Lists.{Has, all_has, has_any, has_at, has_either, has_left, has_right, find_has, find_none}
use Rattle.genie_model.specs.Pending.{is_just}
use Rattle.genie_model.specs.Tables.{entry}
use Rattle.genie_kernel.specs.declared.kernel.Kernel.{Kernel}
use Rattle.genie_kernel.specs.declared.transfer.Loans.{Loans}
use Rattle.genie_kernel.specs.declared.transfer.Loans.TheVariants.{Nothing, Outward, Inward}
use Rattle.genie_kernel.specs.declared.transfer.Transfer.{Transfer}
use Rattle.genie_kernel.specs.Backed.{AreBacked, AreGuarded, all_regions, has_object, hidden_region}
use Rattle.genie_kernel.specs.Calls.{is_strong_call, is_named, names_weakly, region_number}
use Rattle.genie_kernel.specs.Counted.{lent_of, loans_on, pool_on}
use Rattle.genie_kernel.specs.Good.{IsGood}
use Rattle.genie_kernel.specs.Held.{AreHeldPages, HoldsPages, IsInFrame, region_named, page_of_loan, weak_transfers}
use Rattle.genie_kernel.specs.Loans.{bytes_in_frames, first_of, frames_of, loans_of}
use Rattle.genie_kernel.specs.Orphans.{covers, is_orphan, is_owned, byte_under, orphan_byte}
use Rattle.genie_kernel.specs.Planned.{Lends, LendsOut, LendsInput, LendsStrongly, is_early_device}
use Rattle.genie_kernel.specs.Regions.{has_id, owned_regions}
use Rattle.genie_kernel.specs.Same.{SameNeeded, ShowSame}
use Rattle.genie_kernel.specs.Lemmas.Keeping.{calls_kept, transfer_lent}
use Rattle.genie_kernel.specs.Lemmas.Staying.{at_least, lends_kept, lent_true, pool_same, system_same, weak_held, weak_there}
use Rattle.genie_changes.specs.Regions.{KeepsBytes}
use Rattle.genie_kernel.specs.Steps.{bytes_over}
use Rattle.genie_copying.specs.Spending.{StayUnheld}
use Rattle.genie_spaces.specs.Clearing.{Clears, HiddenRegionGoes}
use Rattle.genie_spaces.proofs.Keeping.{keeps_bytes, kept_all}

-- how many regions have an object, and how many hidden ones of the process
hidden_split : (p o : ℕ) (hs : List Hidden) → count_by (has_object o) (map hidden_region hs) ≡ count_by (has_object o) (map hidden_region (others p hs)) + count_by (has_hidden_object p o) hs
hidden_split p o [] = refl
hidden_split p o (h ∷ hs) =
    let a = sum_by-cons (λ (x : Region). cond (has_object o x) 1 0) h.region (map hidden_region hs) in
    let b = sum_by-cons (λ (z : Hidden). cond (has_hidden_object p o z) 1 0) h hs in
    let rest = hidden_split p o hs in
    elim (is_of p h) as (λ v. is_of p h ≡ v → count_by (has_object o) (map hidden_region (h ∷ hs)) ≡ count_by (has_object o) (map hidden_region (cond (not v) (h ∷ others p hs) (others p hs))) + count_by (has_hidden_object p o) (h ∷ hs)) [
      | true ↦ λ e. let v : num (has_hidden_object p o h) ≡ num (has_object o h.region) = ap (λ c. num (c && (h.region.object.0 == o))) e in omega (arith, a, b, rest, v)
      | false ↦ λ e. let v : num (has_hidden_object p o h) ≡ 0 = ap (λ c. num (c && (h.region.object.0 == o))) e in let d = sum_by-cons (λ (x : Region). cond (has_object o x) 1 0) h.region (map hidden_region (others p hs)) in omega (arith, a, b, d, rest, v)
    ] refl

count_has : (o : ℕ) (r : Region) (rs : List Region) → Has r rs → r.object.0 ≡ o → 1 ≤ count_by (has_object o) rs
count_has o r [] h e = absurd h
count_has o r (x ∷ rs) (inl s) e = let here : num (has_object o x) ≡ 1 = ap num (eq-eqb x.object.0 o (ap (λ (y : Region). y.object.0) s ∙ e)) in omega (arith, sum_by-cons (λ (y : Region). cond (has_object o y) 1 0) x rs, here)
count_has o r (x ∷ rs) (inr h) e = let later = count_has o r rs h e in omega (arith, sum_by-cons (λ (y : Region). cond (has_object o y) 1 0) x rs, later)

abbrev present : List Entry → ℕ
present es = if is_absent es then 0 else 1

one_most : (b : Bool) → (if b then 0 else 1) ≤ 1
one_most true = omega arith
one_most false = omega arith

some_counted : (n : ℕ) → nat_lt 0 n ≡ true → 1 ≤ n
some_counted n e = grind (arith, rules, e)

none_counted : (n : ℕ) → nat_lt 0 n ≡ false → n ≡ 0
none_counted n e = grind (arith, rules, e)

has_others : (p : ℕ) (hs : List Hidden) (h : Hidden) → Has h (others p hs) → Has h hs
has_others p [] h is = is
has_others p (x ∷ hs) h is = cond_both (not (is_of p x)) (x ∷ others p hs) (others p hs) (λ l. Has h l → Has h (x ∷ hs))
    (λ t g. ⊎_elim inl (λ later. inr (has_others p hs h later)) g) (λ t g. inr (has_others p hs h g)) is

absent_same : (a b : List Entry) → length b ≡ length a → is_absent a ≡ is_absent b
absent_same [] [] e = refl
absent_same [] (y ∷ b) e = absurd (omega (arith, e))
absent_same (x ∷ a) [] e = absurd (omega (arith, e))
absent_same (x ∷ a) (y ∷ b) e = refl

fewer_hidden : (p n : ℕ) (hs : List Hidden) → count_by (is_of n) (others p hs) ≤ count_by (is_of n) hs
fewer_hidden p n [] = omega arith
fewer_hidden p n (h ∷ hs) = let rest = fewer_hidden p n hs in let a = sum_by-cons (λ (x : Hidden). cond (is_of n x) 1 0) h hs in cond_both (not (is_of p h)) (h ∷ others p hs) (others p hs) (λ l. count_by (is_of n) l ≤ count_by (is_of n) (h ∷ hs))
    (λ t. let b = sum_by-cons (λ (x : Hidden). cond (is_of n x) 1 0) h (others p hs) in omega (arith, a, b, rest)) (λ t. omega (arith, a, rest))

pub none_hidden : (p : ℕ) (hs : List Hidden) → count_by (is_of p) (others p hs) ≡ 0
none_hidden p [] = refl
none_hidden p (h ∷ hs) = let rest = none_hidden p hs in elim (is_of p h) as (λ v. is_of p h ≡ v → count_by (is_of p) (cond (not v) (h ∷ others p hs) (others p hs)) ≡ 0) [
  | true ↦ λ e. rest
  | false ↦ λ e. let v : num (is_of p h) ≡ 0 = ap num e in omega (arith, sum_by-cons (λ (x : Hidden). cond (is_of p x) 1 0) h (others p hs), rest, v)
] refl

-- a strong output has a strong loan on each of its frames
strong_loan : (f : ℕ) (xs : List OutLoan) → All (λ (l : OutLoan). l.strong ≡ true) xs → Has f (output_frames xs) → 1 ≤ loan_times (output_loans xs) kind.Strong f
strong_loan f [] a h = absurd h
strong_loan f (x ∷ xs) a (inl e) =
    let passes : (is_kind kind.Strong (output_kind x.strong) && (x.frame.0 == f)) ≡ true = ap (λ b. is_kind kind.Strong (output_kind b) && (x.frame.0 == f)) (a 0 x (omega arith)) ∙ eq-eqb x.frame.0 f e in
    let one : num (is_kind kind.Strong (output_kind x.strong) && (x.frame.0 == f)) ≡ 1 = ap num passes in
    omega (arith, sum_by-cons (λ (y : Loan). cond (is_kind kind.Strong y.kind && (y.frame == f)) 1 0) (output_loan x) (output_loans xs), one)
strong_loan f (x ∷ xs) a (inr h) = let later = strong_loan f xs (λ k d l. a (suc k) d (omega (arith, l))) h in omega (arith, sum_by-cons (λ (y : Loan). cond (is_kind kind.Strong y.kind && (y.frame == f)) 1 0) (output_loan x) (output_loans xs), later)

-- a frame of a strong call is a page's only where it is lent strongly
out_strong : (page f : ℕ) (t : Transfer) (loans : Loans) → is_strong_call t ≡ true → LendsOut page t loans → Has f (frames_of loans) → 1 ≤ loan_times (loans_of loans) kind.Strong f
out_strong page f t Nothing strong h has = absurd h
out_strong page f t (Outward p) strong h has = strong_loan f p.loans.items (λ k d l. h.0 k d l ∙ strong) has
out_strong page f t (Inward p) strong h has = absurd h

no_frames : (f : ℕ) (loans : Loans) → loans ≡ Nothing → Has f (frames_of loans) → ⊥
no_frames f loans e h = subst (λ l. Has f (frames_of l)) e h

in_system : (page f : ℕ) (owners : List Owner) (early : Bool) (t : Transfer) → LendsStrongly page owners early t t.loans → Has f (frames_of t.loans) → is_page (get_or owners f Free) ≡ false
in_system page f owners false t h has = absurd (no_frames f t.loans h has)
in_system page f owners true t h has = ap is_page (all_has (λ g. get_or owners g Free ≡ System t.id.0) (frames_of t.loans) h.1.own f has)

strong_lends : (page f : ℕ) (owners : List Owner) (early : Bool) (t : Transfer) (d : Direction) → is_strong_call t ≡ true → Lends page owners early t d → Has f (frames_of t.loans) → is_page (get_or owners f Free) ≡ true → 1 ≤ loans_on kind.Strong f t
strong_lends page f owners early t direction.Outward strong h has paged = out_strong page f t t.loans strong h has
strong_lends page f owners early t direction.Inward strong h has paged = let no = in_system page f owners early t (subst (LendsInput page owners early t) strong h) has in absurd (cc)

paged_kept : (owner : Owner) (c : Counts) → is_page owner ≡ true → 1 ≤ c.strong → is_kept owner c ≡ true
paged_kept Free c e l = absurd (cc)
paged_kept (Page p) c e l = grind (arith, rules, l)
paged_kept (System t) c e l = absurd (cc)
paged_kept (Pool d) c e l = absurd (cc)
paged_kept Nobody c e l = absurd (cc)

frame_place : (m : Memory) (o i : ℕ) → frame_in (place_of m o i) ≡ entry_frame m o i
frame_place m o i = of_page (entry_at m.objects o i).page where
  of_page : (page : Option PageId) → frame_in (elim page as (λ _. Place) [ None ↦ Zero | Some q ↦ (page_at m.pages.pages q.0).place ]) ≡ frame_of m.pages.pages page
  of_page None = refl
  of_page (Some q) = refl

just_is : (o : Option ℕ) (k : ℕ) → is_just o k ≡ true → o ≡ Some k
just_is None k e = absurd (cc)
just_is (Some n) k e = let same : n ≡ k = grind (arith, rules, e) in ap Some same

has_filter : {X : Type 0} (q : X → Bool) (xs : List X) (x : X) → Has x xs → q x ≡ true → Has x (filter q xs)
has_filter q [] x h e = h
has_filter q (y ∷ ys) x h e = cond_both (q y) (y ∷ filter q ys) (filter q ys) (λ l. Has x l)
    (λ t. ⊎_elim inl (λ later. inr (has_filter q ys x later e)) h)
    (λ f. ⊎_elim (λ s. let bad : q y ≡ true = ap q s ∙ e in absurd (cc)) (λ later. has_filter q ys x later e) h)

flat_same : (old new : ℕ → List ℕ) (fs : List ℕ) → ((j : ℕ) → j < length fs → new (get_or fs j 0) ≡ old (get_or fs j 0)) → bytes_in_frames new fs ≡ bytes_in_frames old fs
flat_same old new [] h = refl
flat_same old new (f ∷ fs) h = ap₂ ◌++◌ (h 0 (omega arith)) (flat_same old new fs (λ j l. h (suc j) (omega (arith, l))))

count_named : (o : ℕ) (hs : List Hidden) → count_by (λ h. h == o) (objects_of hs) ≡ count_by (has_object o) (map hidden_region hs)
count_named o [] = refl
count_named o (h ∷ hs) = omega (arith, count_named o hs, sum_by-cons (λ (x : Region). num (has_object o x)) (hidden_region h) (map hidden_region hs), sum_by-cons (λ n. num (n == o)) (object_of h) (objects_of hs))

-- those are left of the hidden regions whose objects aren't these
pub record LeavesOut (objects : ℕ → Bool) (kept left : List Hidden) : Type 0 where
  pub had : (h : Hidden) → Has h left → Has h kept
  pub gone : ℕ → ℕ
  pub split : (o : ℕ) → count_by (has_object o) (map hidden_region kept) ≡ count_by (has_object o) (map hidden_region left) + gone o
  pub some : (o : ℕ) → objects o ≡ true → 1 ≤ gone o
  pub none : (o : ℕ) → objects o ≡ false → gone o ≡ 0
  pub fewer : (p : ℕ) → count_by (is_of p) left ≤ count_by (is_of p) kept

hidden_had : (r : Region) (left kept : List Hidden) → ((h : Hidden) → Has h left → Has h kept) → Has r (map hidden_region left) → Has r (map hidden_region kept)
hidden_had r [] kept f h = absurd h
hidden_had r (x ∷ left) kept f (inl e) = subst (λ q. Has q (map hidden_region kept)) e (as_region x kept (f x (inl refl)))
  where
    as_region : (x : Hidden) (hs : List Hidden) → Has x hs → Has x.region (map hidden_region hs)
    as_region x [] h = absurd h
    as_region x (y ∷ hs) (inl e) = inl (ap hidden_region e)
    as_region x (y ∷ hs) (inr h) = inr (as_region x hs h)
hidden_had r (x ∷ left) kept f (inr h) = hidden_had r left kept (λ y i. f y (inr i)) h

module _ (k : Kernel) (m : Memory) (objects : ℕ → Bool) (hid : List Hidden) (out : LeavesOut objects k.hidden hid) (good : IsGood k) (d : Discards objects k.memory m) (fits : FitsHidden m (objects_of hid)) where
  abbrev ps : List (Option (List Region))
  ps = k.spaces.processes

  abbrev owned : List Region
  owned = owned_regions ps

  abbrev cleared : Kernel
  cleared = record k { memory = m; hidden = hid }

  -- the frames as they are now, under the pages as they were
  abbrev star : Memory
  star = record (k.memory) { frames = m.frames }

  counts_same : (f : ℕ) → counts_at m.frames f ≡ counts_at k.memory.frames f
  counts_same f = ap (λ (t : FrameTable). counts_at t f) d.frames

  star_keeps : KeepsLoans k.memory star
  star_keeps = record {
    entry_held = λ o i f e held. e;
    held = λ f h. ap is_held (counts_same f) ∙ h;
    lent = d.lent;
    loans = λ f. as_many (counts_at k.memory.frames f) (counts_at m.frames f) (counts_same f);
    systems = d.systems;
    entries = λ o. refl;
    number = d.number;
    page = ap (λ (t : FrameTable). t.page) d.frames;
    slots = refl;
    most = refl;
  }

  split : (o : ℕ) → count_by (has_object o) (all_regions ps k.hidden) ≡ count_by (has_object o) (all_regions ps hid) + out.gone o
  split o =
      let a = sum_by-append (λ (x : Region). num (has_object o x)) owned (map hidden_region k.hidden) in
      let b = sum_by-append (λ (x : Region). num (has_object o x)) owned (map hidden_region hid) in
      omega (arith, a, b, out.split o)

  at_most : (o : ℕ) → count_by (has_object o) (all_regions ps k.hidden) ≤ 1
  at_most o = let one = good.backed.one o in omega (arith, one, one_most (is_absent (object_at k.memory.objects o)))

  -- the object of a region that stays isn't one of those
  not_object : (r : Region) → Has r (all_regions ps hid) → objects r.object.0 ≡ false
  not_object r h = ⊎_elim
      (λ (e : objects r.object.0 ≡ true). absurd (omega (arith, out.some r.object.0 e, split r.object.0, at_most r.object.0, count_has r.object.0 r (all_regions ps hid) h refl)))
      (λ e. e)
      (cases_Bool (objects r.object.0))

  not_owned : (r : Region) → Has r owned → objects r.object.0 ≡ false
  not_owned r h = not_object r (has_left r owned (map hidden_region hid) h)

  was_there : (r : Region) → Has r (all_regions ps hid) → Has r (all_regions ps k.hidden)
  was_there r h = ⊎_elim (λ a. has_left r owned (map hidden_region k.hidden) a) (λ b. has_right r owned (map hidden_region k.hidden) (hidden_had r hid k.hidden out.had b)) (has_either r owned (map hidden_region hid) h)

  cleared_backed : AreBacked m.objects (all_regions ps hid)
  cleared_backed = record {
    each = λ j e l. let r : Region = get_or (all_regions ps hid) j e in let h = has_at (all_regions ps hid) j e l in d.sizes r.object.0 (not_object r h) ∙ all_has (IsBacked k.memory.objects) (all_regions ps k.hidden) good.backed.each r (was_there r h);
    some = λ j e l. let r : Region = get_or (all_regions ps hid) j e in let h = has_at (all_regions ps hid) j e l in all_has (λ (x : Region). 0 < x.pages) (all_regions ps k.hidden) good.backed.some r (was_there r h);
    one = λ o. ⊎_elim
        (λ (e : objects o ≡ true).
        let gone : present (object_at m.objects o) ≡ 0 = ap present (d.gone o e) in
        omega (arith, gone, out.some o e, split o, at_most o))
        (λ (e : objects o ≡ false).
        let same : present (object_at k.memory.objects o) ≡ present (object_at m.objects o) = ap (λ b. if b then 0 else 1) (absent_same (object_at k.memory.objects o) (object_at m.objects o) (d.sizes o e)) in
        omega (arith, same, out.none o e, split o, good.backed.one o))
        (cases_Bool (objects o));
  }

  cleared_guarded : AreGuarded m.objects owned
  cleared_guarded = λ j e l shut i.
      let r : Region = get_or owned j e in
      ap (λ (x : Entry). x.writable) (d.others r.object.0 i (not_owned r (has_at owned j e l))) ∙ good.guarded j e l shut i

  in_frame : (f i : ℕ) (r : Option Region) → is_held (counts_at k.memory.frames f) ≡ true → ((q : Region) → r ≡ Some q → Has q owned) → IsInFrame k.memory r i f → IsInFrame m r i f
  in_frame f i None held h e = ⊎_elim (λ same. same ∙ e) (λ (left : (is_page (owner_at k.memory.frames f) ≡ true) × (owner_at m.frames f ≡ Nobody)). left.1) (d.lent f (lent_true (counts_at k.memory.frames f) held)).owner
  in_frame f i (Some q) held h e = sym (frame_place m q.object.0 i) ∙ ap frame_in (d.places q.object.0 i (not_owned q (h q refl))) ∙ frame_place k.memory q.object.0 i ∙ e

  named_owned : (o : Option ℕ) (q : Region) → region_named owned o ≡ Some q → Has q owned
  named_owned None q e = absurd (cc)
  named_owned (Some n) q e = (find_has (has_id n) owned q e).0

  not_strong : (b : Bool) → not b ≡ true → b ≡ false
  not_strong true e = absurd (cc)
  not_strong false e = refl

  cleared_held : AreHeldPages k.config.page m owned k.transfers
  cleared_held = record {
    page_in = good.held.page_in;
    frame_of = good.held.frame_of;
    each = λ i e l.
        let t : Transfer = get_or (weak_transfers k.transfers) i e in
        let there = weak_there k.transfers t (has_at (weak_transfers k.transfers) i e l) in
        let was = good.held.each i e l in
        record {
          pages = was.pages;
          frames = was.frames;
          held = λ j lt. in_frame (get_or (frames_of t.loans) j 0) (page_of_loan k.config.page t j).index (region_named owned (page_of_loan k.config.page t j).region) (weak_held k t j good there.0 (not_strong (is_strong_call t) there.1) lt) (λ q is. named_owned (page_of_loan k.config.page t j).region q is) (was.held j lt);
        };
  }

  cleared_good : IsGood cleared
  cleared_good = record {
    fits = good.fits;
    sized = record { page = star_keeps.page ∙ good.sized.page; frames = d.number ∙ good.sized.frames; slots = d.slots ∙ good.sized.slots; pages = d.most ∙ good.sized.pages };
    spaced = good.spaced;
    equipped = good.equipped;
    orderly = good.orderly;
    sound = d.sound;
    cached = fits;
    few = record {
      process = λ j e l. all_has (λ (h : Hidden). h.pid < 16) k.hidden good.few.process (get_or hid j e) (out.had (get_or hid j e) (has_at hid j e l));
      few = λ n. let was = good.few.few n in omega (arith, was, out.fewer n);
    };
    backed = cleared_backed;
    guarded = cleared_guarded;
    counted = λ f. counts_same f ∙ good.counted f;
    owners = record {
      system = λ f j e. good.owners.system f j (system_same (owner_at m.frames f) (owner_at k.memory.frames f) j (d.systems f) e);
      pooled = λ f j e. good.owners.pooled f j (pool_same (owner_at m.frames f) (owner_at k.memory.frames f) j (d.systems f) e);
      spare = λ f j e. good.owners.spare f j (pool_same (owner_at m.frames f) (owner_at k.memory.frames f) j (d.systems f) e);
      pool_frames = λ f j l. pool_same (owner_at k.memory.frames f) (owner_at m.frames f) j (sym (d.systems f)) (good.owners.pool_frames f j l);
    };
    held = cleared_held;
    planned = λ j e l. let u : Transfer = get_or k.transfers j e in lends_kept k.config.page k.memory star star_keeps (is_early_device (entry k.devices u.dev)) u u.dir (good.planned j e l);
    fitting = good.fitting;
    posted = good.posted;
    sending = good.sending;
    receiving = good.receiving;
    arrived = good.arrived;
  }

  abbrev was_kept : ℕ → List ℕ
  was_kept f = if is_kept (owner_at k.memory.frames f) (counts_at k.memory.frames f) then bytes_at k.memory.frames f else []

  abbrev now_kept : ℕ → List ℕ
  now_kept f = if is_kept (owner_at m.frames f) (counts_at m.frames f) then bytes_at m.frames f else []

  bytes_same : (f : ℕ) → bytes_at m.frames f ≡ bytes_at k.memory.frames f
  bytes_same f = ap (λ (t : FrameTable). bytes_at t f) d.frames

  -- a frame that is seen by itself before and afterwards shows the same, and one whose owner stays
  shows_kept : (f : ℕ) → is_kept (owner_at m.frames f) (counts_at m.frames f) ≡ is_kept (owner_at k.memory.frames f) (counts_at k.memory.frames f) → now_kept f ≡ was_kept f
  shows_kept f e = ap₂ (λ b (l : List ℕ). if b then l else []) e (bytes_same f)

  owner_same : (f : ℕ) → owner_at m.frames f ≡ owner_at k.memory.frames f → now_kept f ≡ was_kept f
  owner_same f e = shows_kept f (ap₂ is_kept e (counts_same f))

  strong_same : (t : Transfer) (f : ℕ) → Has t k.transfers → is_strong_call t ≡ true → Has f (frames_of t.loans) → now_kept f ≡ was_kept f
  strong_same t f there strong on =
      let lends : Lends k.config.page k.memory.frames.owners (is_early_device (entry k.devices t.dev)) t t.dir = all_has (λ (u : Transfer). Lends k.config.page k.memory.frames.owners (is_early_device (entry k.devices u.dev)) u u.dir) k.transfers good.planned t there in
      let lent = transfer_lent k f t good there (has_any (λ g. g == f) f (frames_of t.loans) on (eq-eqb f f refl)) in
      ⊎_elim
      (λ same. owner_same f same)
      (λ (left : (is_page (owner_at k.memory.frames f) ≡ true) × (owner_at m.frames f ≡ Nobody)).
      let some = strong_lends k.config.page f k.memory.frames.owners (is_early_device (entry k.devices t.dev)) t t.dir strong lends on left.0 in
      let counted : (counts_at k.memory.frames f).strong ≡ (lent_of k.transfers k.pools f).strong = ap (λ (c : Counts). c.strong) (good.counted f) in
      let was = paged_kept (owner_at k.memory.frames f) (counts_at k.memory.frames f) left.0 (omega (arith, some, counted, at_least (loans_on kind.Strong f) k.transfers t there)) in
      shows_kept f (ap (λ o. is_kept o (counts_at m.frames f)) left.1 ∙ sym was))
      (d.lent f lent).owner

  -- so does a frame of a pool
  times_has : (f : ℕ) (xs : List ℕ) → Has f xs → 1 ≤ count_by (λ g. g == f) xs
  times_has f [] h = absurd h
  times_has f (x ∷ xs) (inl e) = let here : num (x == f) ≡ 1 = ap num (eq-eqb x f e) in omega (arith, sum_by-cons (λ g. num (g == f)) x xs, here)
  times_has f (x ∷ xs) (inr h) = let later = times_has f xs h in omega (arith, sum_by-cons (λ g. num (g == f)) x xs, later)

  pool_shows : (j : ℕ) (o : Option PoolState) → entry k.pools j ≡ o → IfSome o (λ (q : PoolState). ShowSame was_kept now_kept (input_frames q.loans))
  pool_shows j None is = tt
  pool_shows j (Some q) is = λ i e l.
      let f : ℕ = get_or (input_frames q.loans) i e in
      let some = times_has f (input_frames q.loans) (has_at (input_frames q.loans) i e l) in
      let was = good.owners.pool_frames f j (subst (λ x. 0 < pool_on f x) (sym is) (omega (arith, some))) in
      let now = pool_same (owner_at k.memory.frames f) (owner_at m.frames f) j (sym (d.systems f)) was in
      owner_same f (now ∙ sym was)

  -- and a frame of an orphan
  orphan_frame : (n x : ℕ) (t : Transfer) → is_orphan owned k.transfers n ≡ true → find (covers n x) k.transfers ≡ Some t → (j : ℕ) → j < length (frames_of t.loans) → now_kept (get_or (frames_of t.loans) j 0) ≡ was_kept (get_or (frames_of t.loans) j 0)
  orphan_frame n x t orphan e j l =
      let f : ℕ = get_or (frames_of t.loans) j 0 in
      let found = find_has (covers n x) k.transfers t e in
      let first = (and_parts (names_weakly n t && nat_le t.offset x) (nat_lt x (t.offset + t.len)) found.1).0 in
      let names = and_parts (not (is_strong_call t)) (is_named t.region n) (and_parts (names_weakly n t) (nat_le t.offset x) first).0 in
      let unowned = not_strong (is_owned owned n) (and_parts (list_any (names_weakly n) k.transfers) (not (is_owned owned n)) orphan).1 in
      let none : region_named owned (region_number t) ≡ None = ap (region_named owned) (just_is (region_number t) n names.1) ∙ find_none (has_id n) owned unowned in
      let holds = all_has (HoldsPages k.config.page k.memory owned good.held.page_in good.held.frame_of) (weak_transfers k.transfers) good.held.each t (has_filter (λ u. not (is_strong_call u)) k.transfers t found.0 names.0) in
      let nobody : owner_at k.memory.frames f ≡ Nobody = subst (λ (r : Option Region). IsInFrame k.memory r (page_of_loan k.config.page t j).index f) none (holds.held j l) in
      let lent = transfer_lent k f t good found.0 (has_any (λ g. g == f) f (frames_of t.loans) (has_at (frames_of t.loans) j 0 l) (eq-eqb f f refl)) in
      ⊎_elim (λ same. owner_same f same) (λ (left : (is_page (owner_at k.memory.frames f) ≡ true) × (owner_at m.frames f ≡ Nobody)). let no : is_page Nobody ≡ true = ap is_page (sym nobody) ∙ left.0 in absurd (cc)) (d.lent f lent).owner

  orphan_shows : (n x : ℕ) → is_orphan owned k.transfers n ≡ true → orphan_byte now_kept k.transfers n x ≡ orphan_byte was_kept k.transfers n x
  orphan_shows n x orphan = elim (find (covers n x) k.transfers) as (λ o. find (covers n x) k.transfers ≡ o → byte_under now_kept x o ≡ byte_under was_kept x o) [
    | None ↦ λ e. refl
    | Some t ↦ λ e. ap (λ (l : List ℕ). (x, slice_index (part (first_of t.loans) t.len l) (x - t.offset)) ∷ []) (flat_same was_kept now_kept (frames_of t.loans) (orphan_frame n x t orphan e))
  ] refl

  cleared_needed : SameNeeded owned k.transfers k.pools was_kept now_kept
  cleared_needed = record {
    lent = λ i e l strong j g lt. let t : Transfer = get_or k.transfers i e in strong_same t (get_or (frames_of t.loans) j g) (has_at k.transfers i e l) strong (has_at (frames_of t.loans) j g lt);
    pooled = λ j. pool_shows j (entry k.pools j) refl;
    orphans = orphan_shows;
  }

  cleared_bytes : (slots rests sents : ℕ → List ℕ) → KeepsBytes k (bytes_over k.memory slots rests sents) (bytes_over m slots rests sents)
  cleared_bytes slots rests sents = record {
    rests = refl;
    sents = refl;
    entries = λ j e l i. let r : Region = get_or owned j e in d.entries slots r.object.0 i (not_owned r (has_at owned j e l));
    frames = cleared_needed;
  }

  -- outside hidden regions no page has become weakly held: it is in the frame that it was in, with the same loans
  beside : (o : ℕ) → is_among o (objects_of k.hidden) ≡ false → objects o ≡ false
  beside o away =
      let none = none_counted (count_by (λ h. h == o) (objects_of k.hidden)) away in
      let same = count_named o k.hidden in
      ⊎_elim (λ (yes : objects o ≡ true). absurd (omega (arith, out.some o yes, out.split o, same, none))) (λ (f : objects o ≡ false). f) (cases_Bool (objects o))

  unheld : StayUnheld (objects_of k.hidden) k.memory m
  unheld o i away free =
      let here : entry_frame m o i ≡ entry_frame k.memory o i = sym (frame_place m o i) ∙ ap frame_in (d.places o i (beside o away)) ∙ frame_place k.memory o i in
      ap (λ (t : FrameTable). elim (entry_frame m o i) as (λ _. Bool) [ None ↦ false | Some f ↦ is_held (counts_at t f) ]) d.frames ∙ ap (λ (x : Option ℕ). elim x as (λ _. Bool) [ None ↦ false | Some f ↦ is_held (counts_at k.memory.frames f) ]) here ∙ free

  -- all that the kernel stands for stays
  pub clears : Clears k cleared
  clears = let kept = calls_kept k star good star_keeps in record {
    good = cleared_good;
    only = refl;
    bytes = cleared_bytes;
    kept = record { lent = λ n f t u is. kept.lent n f t u (record { was = is.was; is = is.is }); pooled = kept.pooled; fresh = λ n f t u is. kept.fresh n f t u (record { was = is.was; is = is.is }) };
    meters = ap (λ (t : FrameTable). t.meters) d.frames;
    landed = ap (λ (t : FrameTable). t.landed) d.frames;
    unheld = unheld;
  }

-- the hidden regions of a process go
others_left : (p : ℕ) (kept : List Hidden) → LeavesOut (is_object_of p kept) kept (others p kept)
others_left p kept = record {
  had = has_others p kept;
  gone = λ o. count_by (has_hidden_object p o) kept;
  split = λ o. hidden_split p o kept;
  some = λ o e. some_counted (count_by (has_hidden_object p o) kept) e;
  none = λ o e. none_counted (count_by (has_hidden_object p o) kept) e;
  fewer = λ n. fewer_hidden p n kept;
}

-- what the call leaves, as its contract says it
pub discarded : (k : Kernel) (m : Memory) (hid : List Hidden) (p : ℕ) → IsGood k → hid ≡ others p k.hidden → Discards (is_object_of p k.hidden) k.memory m → FitsHidden m (objects_of hid) → Clears k (record k { memory = m; hidden = hid })
discarded k m hid p good is d fits = clears k m (is_object_of p k.hidden) hid (subst (LeavesOut (is_object_of p k.hidden) k.hidden) (sym is) (others_left p k.hidden)) good d fits

-- one hidden region goes
has_removed : (hs : List Hidden) (i : ℕ) (h : Hidden) → Has h (remove hs i) → Has h hs
has_removed [] zero h is = is
has_removed [] (suc i) h is = is
has_removed (x ∷ hs) zero h is = inr is
has_removed (x ∷ hs) (suc i) h (inl e) = inl e
has_removed (x ∷ hs) (suc i) h (inr g) = inr (has_removed hs i h g)

count_removed : (q : Hidden → Bool) (hs : List Hidden) (i : ℕ) → i < length hs → count_by q (remove hs i) + num (q (get_or hs i no_hidden)) ≡ count_by q hs
count_removed q [] i l = absurd (omega arith)
count_removed q (x ∷ hs) zero l = omega (arith, sum_by-cons (λ y. num (q y)) x hs)
count_removed q (x ∷ hs) (suc i) l = omega (arith, sum_by-cons (λ y. num (q y)) x hs, sum_by-cons (λ y. num (q y)) x (remove hs i), count_removed q hs i (omega arith))

count_mapped : (o : ℕ) (hs : List Hidden) → count_by (has_object o) (map hidden_region hs) ≡ count_by (λ (h : Hidden). has_object o h.region) hs
count_mapped o [] = refl
count_mapped o (h ∷ hs) = omega (arith, sum_by-cons (λ (x : Region). num (has_object o x)) h.region (map hidden_region hs), sum_by-cons (λ (x : Hidden). num (has_object o x.region)) h hs, count_mapped o hs)

one_left : (kept : List Hidden) (i : ℕ) → i < length kept → LeavesOut (λ a. a == (get_or kept i no_hidden).region.object.0) kept (remove kept i)
one_left kept i l =
    let r : Region = (get_or kept i no_hidden).region in
    record {
      had = has_removed kept i;
      gone = λ o. num (has_object o r);
      split = λ o. let all = count_mapped o kept in let left = count_mapped o (remove kept i) in let one = count_removed (λ (h : Hidden). has_object o h.region) kept i l in omega (arith, all, left, one);
      some = λ o e. let same : num (r.object.0 == o) ≡ 1 = ap num (eq-eqb r.object.0 o (sym (eqb-true o r.object.0 e))) in omega (arith, same);
      none = λ o e. ap num (ne_eqb r.object.0 o (λ (same : r.object.0 ≡ o). let bad : (o == r.object.0) ≡ true = eq-eqb o r.object.0 (sym same) in cc));
      fewer = λ p. let one = count_removed (is_of p) kept i l in omega (arith, one);
    }

-- an object that is taken away is one of those that a call takes away
removed_discards : (old new : Memory) (o : ℕ) → Removes o old new → Discards (λ a. a == o) old new
removed_discards old new o x = record {
  sound = x.sound;
  gone = λ a e. ap (object_at new.objects) (eqb-true a o e) ∙ x.gone;
  entries = λ slots a b e. x.entries slots a b e;
  others = λ a b e. x.others a b e;
  places = λ a b e. x.places a b e;
  touches = x.touches;
  lent = x.lent;
  systems = x.systems;
  sizes = λ a e. x.sizes a (λ (same : a ≡ o). let bad : (a == o) ≡ true = eq-eqb a o same in cc);
  frames = x.frames;
  number = x.number;
  slots = x.slots;
  fewer = x.fewer;
  most = x.most;
}

pub hidden_goes : HiddenRegionGoes
hidden_goes k m i good l x fits = clears k m (λ a. a == (get_or k.hidden i no_hidden).region.object.0) (remove k.hidden i) (one_left k.hidden i l) good (removed_discards k.memory m (get_or k.hidden i no_hidden).region.object.0 x) fits

pub clears_nothing : (k : Kernel) → IsGood k → Clears k k
clears_nothing k good = record { good = good; only = refl; bytes = λ slots rests sents. keeps_bytes k (bytes_over k.memory slots rests sents); kept = kept_all k good; meters = refl; landed = refl; unheld = λ o i away free. free }

pub room_made : (k : Kernel) (hid : List Hidden) (p n : ℕ) → n < 32 → hid ≡ others p k.hidden → n + count_by (is_of p) hid < 32
room_made k hid p n few is = let none : count_by (is_of p) hid ≡ 0 = ap (count_by (is_of p)) is ∙ none_hidden p k.hidden in omega (arith, few, none)
