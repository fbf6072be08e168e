-- Pages are lent weakly, one after the other.
use Rattle.std.proofs.Common.{◌^◌, ◌≡◌, ℕ, zero, suc, ◌+◌, ◌-◌, ◌*◌, ◌<◌, ◌≤◌, Bool, true, false, List, [], ◌∷◌, ◌++◌, length, map, refl, ap, sym, ◌∙◌, arith, subst, get_or, length-append, inl, inr}
use Rattle.std.specs.Prelude.{IfSome, Some, None, Option, ◌||◌, count_by, nat_lt}
use Rattle.std.proofs.lemmas.Bool.{cases_lt}
use Rattle.std.proofs.lemmas.List.{map-append}
use Rattle.genie_frame.specs.declared.frame.FrameId.{FrameId}
use Rattle.genie_frame.specs.declared.frame.Owner.TheVariants.{Free, Page}
use Rattle.genie_frame.specs.declared.frame.Counts.{Counts}
use Rattle.genie_frame.specs.FrameTable.{owner_at, counts_at, bytes_at, is_held, is_owned, is_nobody, is_free}
use Rattle.genie_store.specs.StoreView.{StoreView}
use Rattle.genie_object.specs.declared.memory.Memory.{Memory}
use Rattle.genie_object.specs.declared.pages.Place.{Place}
use Rattle.genie_object.specs.declared.pages.Place.TheVariants.{Zero, Frame, Slot}
use Rattle.genie_object.specs.declared.pages.PageId.{PageId}
use Rattle.genie_object.specs.Pages.{page_at, is_there}
use Rattle.genie_object.specs.Objects.{entry_at, object_at, names}
use Rattle.genie_object.specs.Memory.{seen_with, entry_frame, frame_of, frame_in}
use Rattle.genie_object.specs.Sound.{IsSound, IsSized, strong_at}
use Rattle.genie_object.specs.Keeping.{IsReady}
use Rattle.genie_object.specs.Touching.{KeepsLoans, Touches, is_entry, system_owner}
use Rattle.genie_object.specs.Calls.{OnlyMoves, TakesAtMost}
use Rattle.genie_object.specs.Costs.{AreBelow, Spends, CostsNoMore, must_copy, write_work, writes_work, is_zero, is_fixed, is_strong_in}
use Rattle.genie_object.specs.Steps.{metered}
use Rattle.genie_object.specs.Lemmas.Lookup.{named}
use Rattle.genie_object.specs.Lemmas.Spending.{spends_more, spends_none, spends_on, costs_on}
use Rattle.genie_object.specs.Lemmas.Touching.{keeps_on, keeps_all, keeps_metered}
use Rattle.genie_plan.specs.Loans.{Strong, Weak, Loan, loan_times}
use Rattle.genie_tcow.specs.Lending.{lent_more, loans_on, HasLentWeak}
use Rattle.genie_tcow.specs.Ranges.{HoldsEntries}
use Rattle.genie_tcow.proofs.Counting.{times_most, on_one, index_on, at_last, at_front, held_with}
use Rattle.genie_plan.specs.Lemmas.Landings.{page_in}
use Rattle.genie_tcow.proofs.PageFrames.{page_owner}
use Rattle.genie_tcow.proofs.Owned.{ready_owner}
use Rattle.genie_tcow.proofs.More.{IsSpoken, more_sound, more_keeps, more_counts}
use Rattle.genie_tcow.proofs.Lent.{besides_all, lent_one, lent_on, lent_none, lent_failed, is_out}
use Rattle.genie_tcow.specs.Costs.{total_work}
use Rattle.genie_tcow.proofs.Totals.{chosen_less, chosen_most, total_most, total_grow, spends_next, below_page, below_then, page_most}
use Rattle.genie_tcow.proofs.Holding.{entries_seen, entries_still, framed_bytes, holds_none, holds_one, holds_on}

abbrev weak_loan : ℕ → Loan
weak_loan f = record { kind = Weak; frame = f }

-- no entry is dearer to write for a weak loan
strong_same : (counts now : List Counts) → ((f : ℕ) → strong_at now f ≡ strong_at counts f) → (place : Place) → is_strong_in now place ≡ is_strong_in counts place
strong_same counts now h Zero = refl
strong_same counts now h (Frame f) = ap (nat_lt 0) (h f.0)
strong_same counts now h (Slot s) = refl

copy_same : (old m : Memory) (page : Option PageId) → ((place : Place) → is_strong_in m.frames.counts place ≡ is_strong_in old.frames.counts place) → elim page as (λ _. Bool) [ None ↦ true | Some p ↦ is_fixed m.frames.counts (page_at old.pages.pages p.0) ] ≡ elim page as (λ _. Bool) [ None ↦ true | Some p ↦ is_fixed old.frames.counts (page_at old.pages.pages p.0) ]
copy_same old m None h = refl
copy_same old m (Some p) h = ap (λ b. is_zero (page_at old.pages.pages p.0).place || nat_lt 1 (page_at old.pages.pages p.0).shares || b) (h (page_at old.pages.pages p.0).place)

module _ (spoken : ℕ → ℕ → Bool) (o i : ℕ) (f : FrameId) (m : Memory) (here : spoken o i ≡ true) (s : IsSound m) (r : IsReady m o i f) where
  abbrev new : Memory
  new = lent_more m Weak f.0

  owner : owner_at m.frames f.0 ≡ Page r.number.0
  owner = ready_owner m o i f s r

  owned : is_owned (owner_at m.frames f.0) ≡ true
  owned = ap is_owned owner

  after : IsSound (lent_more m Weak f.0)
  after = more_sound Weak m f.0 s owned
      (λ p e h. let two : Page p ≡ Page r.number.0 = sym e ∙ owner in let is : p ≡ r.number.0 = cc in ap (λ n. (page_at m.pages.pages n).shares) is ∙ r.alone)
      (λ e h. r.unlent)
      (λ a b e h. r.unlent)

  of_entry : (p : ℕ) → owner_at m.frames f.0 ≡ Page p → IsSpoken spoken m p
  of_entry p e =
      let two : Page r.number.0 ≡ Page p = sym owner ∙ e in
      let is : r.number.0 ≡ p = cc in
      record { object = o; index = i; here = here; named = subst (λ n. names n (entry_at m.objects o i) ≡ true) is (named r.number (entry_at m.objects o i) r.is_page) }

  on_frame : entry_frame m o i ≡ Some f.0
  on_frame = ap (frame_of m.pages.pages) r.is_page ∙ ap frame_in r.is_place

  unsystem : (g : ℕ) → 0 < loans_on (weak_loan f.0 ∷ []) g → system_owner (owner_at m.frames g) ≡ Free
  unsystem g h = elim (on_one Weak f.0 g) [
    | inl y ↦ ap (λ n. system_owner (owner_at m.frames n)) y.0 ∙ ap system_owner owner
    | inr y ↦ absurd (omega (arith, h, y.1))
  ]

  strong_kept : (g : ℕ) → strong_at new.frames.counts g ≡ strong_at m.frames.counts g
  strong_kept g =
      let none : loan_times (weak_loan f.0 ∷ []) Strong g ≡ 0 = refl in
      omega (arith, ap (λ (c : Counts). c.strong) (more_counts Weak m f.0 s owned g), none)

  costs_kept : CostsNoMore m (lent_more m Weak f.0)
  costs_kept = record {
    read = λ a b e. e;
    write = λ a b e. copy_same m new (entry_at m.objects a b).page (strong_same m.frames.counts new.frames.counts strong_kept) ∙ e;
  }

  pub page_lent : (old now : Memory) (v w : StoreView) → now ≡ lent_more m Weak f.0 → OnlyMoves (is_entry o i) old m v w → Touches spoken old m → TakesAtMost 1 1 old m
      → HasLentWeak spoken o i (weak_loan f.0 ∷ []) old now v w
  page_lent old now v w is x touches takes = subst (λ n. HasLentWeak spoken o i (weak_loan f.0 ∷ []) old n v w) (sym is) (record {
    lent = lent_one Weak 0 spoken f.0 old m m v w (record {
      sound = s;
      owned = owned;
      after = after;
      of = of_entry;
      base_shows = x.seen;
      shows = λ slots. refl;
      keeps = besides_all 0 (weak_loan f.0 ∷ []) old m x.keeps unsystem;
      touches = touches;
      counts = x.counts;
      landed = x.landed;
      free = takes.free;
      added = takes.added;
    });
    keeps = keeps_on old m new x.keeps (more_keeps Weak m f.0 s owned);
    placed = placed_one;
    bytes = holds_one old v o i (weak_loan f.0) new.frames (subst (λ y. IfSome y (λ b. bytes_at m.frames f.0 ≡ b)) (entries_seen old m v w x.seen o i) (framed_bytes m w o i f.0 on_frame));
    costs = costs_on old m new x.costs costs_kept;
  }) where
    placed_one : (k : ℕ) (d : Loan) → k < 1 → entry_frame m o (i + k) ≡ Some (get_or (weak_loan f.0 ∷ []) k d).frame
    placed_one zero d l = let at : i + 0 ≡ i = omega arith in ap (entry_frame m o) at ∙ on_frame
    placed_one (suc k) d l = absurd (omega (arith, l))

-- one page more
pub weak_on : (spoken : ℕ → ℕ → Bool) (o i j : ℕ) (loans : List Loan) (loan : Loan) (old m new : Memory) (v w z : StoreView) → j ≡ i + length loans → HasLentWeak spoken o i loans old m v w → HasLentWeak spoken o j (loan ∷ []) m new w z → HasLentWeak spoken o i (loans ++ loan ∷ []) old new v z
weak_on spoken o i j loans loan old m new v w z at x y = record {
  lent = lent_on Weak 0 spoken loans loan old m new v w z somebody x.lent y.lent;
  keeps = keeps_on old m new x.keeps y.keeps;
  placed = λ k d l. elim (cases_lt k (length loans)) [
    | inl h ↦ still k d h ∙ ap (λ (q : Loan). Some q.frame) (sym (at_front loans loan d k h))
    | inr h ↦
        let size : length (loans ++ loan ∷ []) ≡ length loans + 1 = length-append loans (loan ∷ []) in
        let e : k ≡ length loans = omega (arith, size, l, h) in
        let place : i + k ≡ j + 0 = omega (arith, e, at) in
        ap (entry_frame new o) place ∙ y.placed 0 d (omega arith) ∙ ap (λ (q : Loan). Some q.frame) (sym (at_last loans loan d k e))
  ];
  bytes = holds_on old m v w o i j loans loan m.frames new.frames at (entries_still Weak 0 spoken loans old m v w x.lent) (λ f h. (y.keeps.lent f (is_out Weak 0 spoken loans old m v w x.lent f h)).bytes) x.bytes y.bytes;
  costs = costs_on old m new x.costs y.costs;
} where
  still : (k : ℕ) (d : Loan) → k < length loans → entry_frame new o (i + k) ≡ Some (get_or loans k d).frame
  still k d h = y.keeps.entry_held o (i + k) (get_or loans k d).frame (x.placed k d h) (ap is_held (x.lent.counts (get_or loans k d).frame) ∙ held_with loans k d (counts_at old.frames (get_or loans k d).frame) (x.lent.kinds k d h) h)

  somebody : (f : ℕ) → 0 < loans_on loans f → is_nobody (owner_at new.frames f) ≡ false
  somebody f h =
      let k = index_on loans (weak_loan 0) f h in
      let on : entry_frame new o (i + k.0) ≡ Some f = still k.0 (weak_loan 0) k.1 ∙ ap Some k.2 in
      ap is_nobody (page_owner new o (i + k.0) f (page_in new o (i + k.0) f on) y.lent.sound)

-- the pages that were lent so far
pub record LentSoFar (spoken : ℕ → ℕ → Bool) (o i : ℕ) (loans : List Loan) (n : ℕ) (old new : Memory) (before now : StoreView) : Type 0 where
  pub lent : HasLentWeak spoken o i loans old new before now
  pub number : length loans ≡ n
  pub spends : Spends (writes_work old o i n) n 0 n old.frames.meters new.frames.meters
  pub sized : IsSized new now
  pub faults : now.faults ≡ before.faults

pub so_far_none : {X : Type 0} (loan_of : X → Loan) (spoken : ℕ → ℕ → Bool) (o i : ℕ) (loans : List X) (m : Memory) (v : StoreView) → loans ≡ [] → IsSound m → IsSized m v → LentSoFar spoken o i (map loan_of loans) 0 m m v v
so_far_none loan_of spoken o i loans m v e s z = subst (λ xs. LentSoFar spoken o i (map loan_of xs) 0 m m v v) (sym e) (record {
  lent = record { lent = lent_none Weak 0 spoken m v s; keeps = keeps_all m; placed = λ k d l. absurd (omega (arith, l)); bytes = holds_none m v o i m.frames; costs = record { read = λ a b h. h; write = λ a b h. h } };
  number = refl;
  spends = spends_none _ _ _ _ m.frames.meters;
  sized = z;
  faults = refl;
})

pub work_less : (old m : Memory) (o i : ℕ) → m.frames.page ≡ old.frames.page → CostsNoMore old m → write_work m o i ≤ write_work old o i
work_less old m o i e c = chosen_less (must_copy old o i) (must_copy m o i) old.frames.page m.frames.page e (c.write o i)

pub so_far_more : {X : Type 0} (loan_of : X → Loan) (spoken : ℕ → ℕ → Bool) (o first i j : ℕ) (loans items : List X) (loan : X) (old m new : Memory) (before mid now : StoreView) → j ≡ first + i → LentSoFar spoken o first (map loan_of loans) i old m before mid → items ≡ loans ++ loan ∷ [] → HasLentWeak spoken o j (loan_of loan ∷ []) m new mid now → Spends (write_work m o j) 1 0 1 m.frames.meters new.frames.meters → IsSized new now → now.faults ≡ mid.faults → LentSoFar spoken o first (map loan_of items) (i + 1) old new before now
so_far_more loan_of spoken o first i j loans items loan old m new before mid now at x is y spends sized faults =
    let all : map loan_of items ≡ map loan_of loans ++ loan_of loan ∷ [] = ap (map loan_of) is ∙ map-append loan_of loans (loan ∷ []) in
    let size : length (map loan_of loans ++ loan_of loan ∷ []) ≡ length (map loan_of loans) + 1 = length-append (map loan_of loans) (loan_of loan ∷ []) in
    subst (λ xs. LentSoFar spoken o first xs (i + 1) old new before now) (sym all) (record {
      lent = weak_on spoken o first j (map loan_of loans) (loan_of loan) old m new before mid now (omega (arith, at, x.number)) x.lent y;
      number = omega (arith, size, x.number);
      spends = spends_next (writes_work old o first) (write_work m o j) i old.frames.meters m.frames.meters new.frames.meters x.spends spends (let w = subst (λ n. write_work m o j ≤ write_work old o n) at (work_less old m o j x.lent.keeps.page x.lent.costs) in omega (arith, w));
      sized = sized;
      faults = faults ∙ x.faults;
    })

-- what the entries cost together
writes_total : (m : Memory) (o first n : ℕ) → writes_work m o first n ≡ total_work (λ k. write_work m o (first + k)) n
writes_total m o first zero = refl
writes_total m o first (suc n) = ap (λ t. t + write_work m o (first + n)) (writes_total m o first n)

writes_most : (m : Memory) (o first n : ℕ) → writes_work m o first n ≤ m.frames.page * n
writes_most m o first n = let t = total_most (λ k. write_work m o (first + k)) m.frames.page n (λ k. chosen_most (must_copy m o (first + k)) m.frames.page) in omega (arith, t, writes_total m o first n)

writes_grow : (m : Memory) (o first i n : ℕ) → i < n → writes_work m o first i + write_work m o (first + i) ≤ writes_work m o first n
writes_grow m o first i n l = let t = total_grow (λ k. write_work m o (first + k)) i n l in omega (arith, t, writes_total m o first i, writes_total m o first n)

-- what the next page asks for
pub record CanGoOn (m : Memory) (o first i : ℕ) : Type 0 where
  pub there : first + i < length (object_at m.objects o)
  pub free : 0 < count_by is_free m.frames.owners
  pub room : count_by is_there m.pages.pages < m.pages.most
  pub meters : AreBelow (2 ^ 64 - 2 ^ 20) m.frames.meters
  pub few : (f : ℕ) → (counts_at m.frames f).weak < 2 ^ 32 - 1

pub goes_on : (spoken : ℕ → ℕ → Bool) (o first i n : ℕ) (loans : List Loan) (old m : Memory) (before now : StoreView) → IsSound old → first + n ≤ length (object_at old.objects o) → n ≤ 65 → n ≤ count_by is_free old.frames.owners → count_by is_there old.pages.pages + n ≤ old.pages.most → AreBelow (2 ^ 64 - 2 ^ 21) old.frames.meters → ((f : ℕ) → (counts_at old.frames f).weak < 2 ^ 31) → LentSoFar spoken o first loans i old m before now → i < n → CanGoOn m o first i
goes_on spoken o first i n loans old m before now s within few free room meters weak x l = record {
  there = omega (arith, within, l, x.lent.keeps.entries o);
  free = omega (arith, x.lent.lent.free, free, l, x.number);
  room = omega (arith, x.lent.lent.added, room, l, x.number, x.lent.keeps.most);
  meters = below_then (writes_work old o first i) i old.frames.meters m.frames.meters meters x.spends (below_page old.frames.page i (writes_work old o first i) (page_most old.frames s.shaped) (omega (arith, few, l)) (writes_most old o first i)) (omega (arith, few, l));
  few = λ f. omega (arith, weak f, ap (λ (c : Counts). c.weak) (x.lent.lent.counts f), times_most loans Weak f, x.number, few, l);
}

-- the next page failed
pub weak_failed : (spoken : ℕ → ℕ → Bool) (o i : ℕ) (loans : List Loan) (old m new : Memory) (v w z : StoreView) → HasLentWeak spoken o i loans old m v w → new ≡ metered m new.frames.meters → seen_with new z ≡ seen_with m w → HasLentWeak spoken o i loans old new v z
weak_failed spoken o i loans old m new v w z x is same = record {
  lent = lent_failed Weak 0 spoken loans old m new v w z x.lent is same;
  keeps = subst (KeepsLoans old) (sym is) (keeps_metered old m new.frames.meters x.keeps);
  placed = subst (λ (n : Memory). (k : ℕ) (d : Loan) → k < length loans → entry_frame n o (i + k) ≡ Some (get_or loans k d).frame) (sym is) x.placed;
  bytes = subst (λ (n : Memory). HoldsEntries old v o i loans n.frames) (sym is) x.bytes;
  costs = subst (CostsNoMore old) (sym is) (record { read = x.costs.read; write = x.costs.write });
}

pub spends_failed : (spoken : ℕ → ℕ → Bool) (o first i n : ℕ) (loans : List Loan) (old m new : Memory) (before mid : StoreView) → i < n → LentSoFar spoken o first loans i old m before mid → Spends (write_work m o (first + i)) 1 0 1 m.frames.meters new.frames.meters → Spends (writes_work old o first n) n 0 n old.frames.meters new.frames.meters
spends_failed spoken o first i n loans old m new before mid l x y =
    let less = work_less old m o (first + i) x.lent.keeps.page x.lent.costs in
    spends_more _ _ _ _ _ _ _ _ old.frames.meters new.frames.meters (spends_on (writes_work old o first i) i 0 i (write_work m o (first + i)) 1 0 1 old.frames.meters m.frames.meters new.frames.meters x.spends y) (omega (arith, less, writes_grow old o first i n l)) (omega (arith, l)) (omega arith) (omega (arith, l))
