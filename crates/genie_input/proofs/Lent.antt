-- One loan more in a memory.
use Rattle.std.proofs.Common.{◌^◌, mul-le-mul, mul-le-mul_left, ◌≡◌, ◌≢◌, ℕ, zero, suc, ◌+◌, ◌-◌, ◌*◌, ◌<◌, ◌≤◌, Bool, true, false, List, [], ◌∷◌, ◌++◌, length, map, refl, ap, sym, ◌∙◌, arith, rules, subst, get_or, length-set, length-append, inl, inr, ◌⊎◌}
use Rattle.std.specs.Prelude.{Option, Some, None, ◌==◌, ◌&&◌, ◌||◌, nat_lt, count_by, if◌then◌else◌}
use Rattle.std.proofs.lemmas.List.{get_or-set_same, get_or-set_other}
use Rattle.genie_base.specs.Lemmas.Places.{same_or, num, count_by-push}
use Rattle.genie_frame.specs.declared.frame.FrameId.{FrameId}
use Rattle.genie_object.specs.declared.pages.PageId.{PageId}
use Rattle.genie_frame.specs.declared.frame.Owner.{Owner}
use Rattle.genie_frame.specs.declared.frame.Owner.TheVariants.{Free, Page, Nobody}
use Rattle.genie_frame.specs.declared.frame.Counts.{Counts}
use Rattle.genie_frame.specs.FrameTable.{FrameTable, owner_at, counts_at, is_held, is_lent, no_counts, IsShaped}
use Rattle.genie_object.specs.declared.pages.Place.TheVariants.{Zero, Frame, Slot}
use Rattle.genie_object.specs.declared.pages.Place.{Place}
use Rattle.genie_object.specs.declared.memory.Memory.{Memory}
use Rattle.genie_object.specs.Pages.{page_at}
use Rattle.genie_object.specs.Objects.{entry_at, object_at, names}
use Rattle.genie_object.specs.Memory.{Seen, seen, seen_with, entry_frame, frame_of, frame_in}
use Rattle.genie_object.specs.Sound.{IsSound, strong_at}
use Rattle.genie_object.specs.Keeping.{IsReady}
use Rattle.genie_object.specs.Lemmas.Showing.{shows_counts}
use Rattle.genie_object.specs.Lemmas.Naming.{names_own}
use Rattle.genie_object.specs.Pages.{is_there}
use Rattle.genie_frame.specs.FrameTable.{is_free}
use Rattle.genie_frame.specs.declared.frame.Meters.{Meters}
use Rattle.std.proofs.lemmas.Bool.{cases_lt}
use Rattle.std.proofs.lemmas.Grind.{common_steps}
use Rattle.genie_object.specs.Costs.{AreBelow, Spends, CostsNoMore, write_work, writes_work, gets_for, must_copy, is_fixed, is_strong_in, is_zero, slot_gets, place_of}
use Rattle.genie_store.specs.StoreView.{StoreView}
use Rattle.std.specs.Option.{option_map}
use Rattle.std.specs.Prelude.{nat_le}
use Rattle.std.proofs.lemmas.Bool.Decides.{nat_tests}
use Rattle.genie_object.specs.Lemmas.Touching.{fewer_set, keeps_on, keeps_all, touches_on, touches_none, touches_more, sound_metered, keeps_metered, touches_metered}
use Rattle.genie_object.specs.Steps.{metered}
use Rattle.genie_object.specs.Sound.{IsSized}
use Rattle.std.proofs.lemmas.List.{map-append}
use Rattle.std.proofs.lemmas.List.Sums.{count_by-le-length}
use Rattle.genie_object.specs.Lemmas.Spending.{spends_more, spends_none, spends_on, costs_on}
use Rattle.genie_object.specs.Lemmas.Works.{writes_less, writes_next, writes_most, writes_up}
use Rattle.genie_object.specs.Touching.{KeepsLoans, Touches, is_entry, is_in_range}
use Rattle.genie_plan.specs.Lemmas.Staying.{one_loan_more}
use Rattle.genie_plan.specs.Loans.{LoanKind, Strong, Weak, Input, Loan, loan_times, is_kind, one_more, more, amount}
use Rattle.genie_plan.specs.Lemmas.Ending.{loan_cons, same_test, other_test}
use Rattle.genie_input.specs.Lending.{lent_more, HasLent, LendsSoFar}

pub zero_or_more : (k : ℕ) → (k ≡ 0) ⊎ (1 ≤ k)
zero_or_more zero = inl refl
zero_or_more (suc k) = inr (omega arith)

strong_more : (kind : LoanKind) (c : Counts) → is_kind Strong kind ≡ false → (one_more kind c).strong ≡ c.strong
strong_more Strong c e = cc
strong_more Weak c e = refl
strong_more Input c e = refl

wires_more : (kind : LoanKind) (c : Counts) → (one_more kind c).wires ≡ c.wires
wires_more Strong c = refl
wires_more Weak c = refl
wires_more Input c = refl

now_held : (kind : LoanKind) (c : Counts) → is_kind Strong kind ≡ false → is_held (one_more kind c) ≡ true
now_held Strong c e = cc
now_held Weak c e = weak_held c
  where
    weak_held : (c : Counts) → is_held (record c { weak = c.weak + 1 }) ≡ true
    weak_held c = let h : 0 < c.weak + 1 = omega arith in grind (arith, rules)
now_held Input c e = input_held c
  where
    input_held : (c : Counts) → is_held (record c { input = c.input + 1 }) ≡ true
    input_held c = let h : 0 < c.input + 1 = omega arith in grind (arith, rules)

held_lent : (c : Counts) → is_held c ≡ true → is_lent c ≡ true
held_lent c h = grind (arith, rules)

module _ (m : Memory) (o i : ℕ) (f : FrameId) (kind : LoanKind) (s : IsSound m) (r : IsReady m o i f) (unstrong : is_kind Strong kind ≡ false) where
  abbrev new : Memory
  new = lent_more m kind f.0

  owner : owner_at m.frames f.0 ≡ Page r.number.0
  owner = s.placed.in_frame r.number.0 f r.is_place

  owned : f.0 < length m.frames.owners
  owned = owned_by m.frames.owners f.0 r.number.0 owner
    where
      owned_by : (owners : List Owner) (g p : ℕ) → get_or owners g Free ≡ Page p → g < length owners
      owned_by [] g p e = cc
      owned_by (w ∷ owners) zero p e = omega arith
      owned_by (w ∷ owners) (suc g) p e = let l : g < length owners = owned_by owners g p e in omega arith

  pub lent_there : f.0 < length m.frames.counts
  lent_there = omega (arith, owned, s.shaped.counted)

  counts_here : counts_at new.frames f.0 ≡ one_more kind (counts_at m.frames f.0)
  counts_here = get_or-set_same m.frames.counts f.0 _ no_counts lent_there

  counts_else : (g : ℕ) → g ≢ f.0 → counts_at new.frames g ≡ counts_at m.frames g
  counts_else g n = get_or-set_other m.frames.counts f.0 g _ no_counts n

  strong_same : (g : ℕ) → strong_at new.frames.counts g ≡ strong_at m.frames.counts g
  strong_same g = elim (same_or g f.0) [
    | inl e ↦ ap (strong_at new.frames.counts) e ∙ ap (λ (c : Counts). c.strong) counts_here ∙ strong_more kind (counts_at m.frames f.0) unstrong ∙ ap (strong_at m.frames.counts) (sym e)
    | inr n ↦ ap (λ (c : Counts). c.strong) (counts_else g n)
  ]

  here_held : is_held (counts_at new.frames f.0) ≡ true
  here_held = ap is_held counts_here ∙ now_held kind (counts_at m.frames f.0) unstrong

  held_still : (g : ℕ) → is_held (counts_at m.frames g) ≡ true → is_held (counts_at new.frames g) ≡ true
  held_still g h = elim (same_or g f.0) [ inl e ↦ ap (λ n. is_held (counts_at new.frames n)) e ∙ here_held | inr n ↦ ap is_held (counts_else g n) ∙ h ]

  lent_still : (g : ℕ) → is_lent (counts_at m.frames g) ≡ true → is_lent (counts_at new.frames g) ≡ true
  lent_still g h = elim (same_or g f.0) [ inl e ↦ held_lent (counts_at new.frames g) (ap (λ n. is_held (counts_at new.frames n)) e ∙ here_held) | inr n ↦ ap is_lent (counts_else g n) ∙ h ]

  pub lent_sound : IsSound (lent_more m kind f.0)
  lent_sound = record {
    shaped = record { size = s.shaped.size; some = s.shaped.some; most = s.shaped.most; counted = length-set m.frames.counts f.0 _ ∙ s.shaped.counted; filled = s.shaped.filled; paged = s.shaped.paged };
    placed = s.placed;
    lent = λ g. elim (same_or g f.0) [
      | inl e ↦ record {
        free = λ w. let bad : Page r.number.0 ≡ Free = sym owner ∙ ap (owner_at m.frames) (sym e) ∙ w in cc;
        nobody = λ w. let bad : Page r.number.0 ≡ Nobody = sym owner ∙ ap (owner_at m.frames) (sym e) ∙ w in cc;
      }
      | inr n ↦ record { free = λ w. ap is_lent (counts_else g n) ∙ (s.lent g).free w; nobody = λ w. ap is_lent (counts_else g n) ∙ (s.lent g).nobody w }
    ];
    held = record {
      alone = λ g p w h. elim (same_or g f.0) [
        | inl e ↦
            let two : Page p ≡ Page r.number.0 = sym w ∙ ap (owner_at m.frames) e ∙ owner in
            let is : p ≡ r.number.0 = cc in
            ap (λ n. (page_at m.pages.pages n).shares) is ∙ r.alone
        | inr n ↦ s.held.alone g p w (sym (ap is_held (counts_else g n)) ∙ h)
      ];
      unlent = λ g w h. elim (same_or g f.0) [
        | inl e ↦ strong_same g ∙ ap (strong_at m.frames.counts) e ∙ r.unlent
        | inr n ↦ strong_same g ∙ s.held.unlent g w (sym (ap is_held (counts_else g n)) ∙ h)
      ];
    };
    wired = λ g w. elim (same_or g f.0) [
      | inl e ↦ ap (λ n. is_held (counts_at new.frames n)) e ∙ here_held
      | inr n ↦ ap is_held (counts_else g n) ∙ s.wired g (omega (arith, w, ap (λ (c : Counts). c.wires) (counts_else g n)))
    ];
    slotted = s.slotted;
    shared = s.shared;
    guarded = record {
      readable = s.guarded.readable;
      writable = λ a b w. let h = s.guarded.writable a b w in record { number = h.number; frame = h.frame; is_page = h.is_page; is_place = h.is_place; alone = h.alone; unlent = strong_same h.frame.0 ∙ h.unlent };
    };
  }

  pub lent_shows : seen (lent_more m kind f.0) ≡ seen m
  lent_shows = λ k slots. shows_counts m f.0 (one_more kind (counts_at m.frames f.0)) slots (strong_more kind (counts_at m.frames f.0) unstrong) k

  pub lent_placed : entry_frame (lent_more m kind f.0) o i ≡ Some f.0
  lent_placed = ap (frame_of m.pages.pages) r.is_page ∙ ap frame_in r.is_place

  pub lent_keeps : KeepsLoans m (lent_more m kind f.0)
  lent_keeps = record {
    entry_held = λ a b g e h. e;
    held = held_still;
    lent = λ g l. record { lent = lent_still g l; bytes = refl; owner = inl refl };
    loans = fewer_set m.frames f.0 (one_more kind (counts_at m.frames f.0)) lent_there (one_loan_more kind (counts_at m.frames f.0));
    systems = λ g. refl;
    entries = λ a. refl;
    number = refl;
    page = refl;
    slots = refl;
    most = refl;
  }

  pub lent_costs : CostsNoMore m (lent_more m kind f.0)
  lent_costs = record { read = λ a b e. e; write = λ a b e. must_same (entry_at m.objects a b).page ∙ e }
    where
      place_same : (place : Place) → is_strong_in new.frames.counts place ≡ is_strong_in m.frames.counts place
      place_same Zero = refl
      place_same (Frame g) = ap (nat_lt 0) (strong_same g.0)
      place_same (Slot r) = refl

      must_same : (page : Option PageId) → elim page as (λ _. Bool) [ None ↦ true | Some p ↦ is_fixed new.frames.counts (page_at m.pages.pages p.0) ] ≡ elim page as (λ _. Bool) [ None ↦ true | Some p ↦ is_fixed m.frames.counts (page_at m.pages.pages p.0) ]
      must_same None = refl
      must_same (Some p) = let q = page_at m.pages.pages p.0 in ap (λ b. is_zero q.place || nat_lt 1 q.shares || b) (place_same q.place)

  pub lent_touches : (spoken : ℕ → ℕ → Bool) → spoken o i ≡ true → Touches spoken m (lent_more m kind f.0)
  lent_touches spoken here = record {
    entries = λ a b e. record { page = refl; readable = λ h. h; writable = λ h. h };
    pages = λ p u. refl;
    outside = λ p u. record { there = u.there; named = u.named };
    counts = λ p g u e. counts_else g.0 (λ same.
        let two : Page p ≡ Page r.number.0 = sym (s.placed.in_frame p g e) ∙ ap (owner_at m.frames) same ∙ owner in
        let is : r.number.0 ≡ p = cc in
        let out : spoken o i ≡ false = u.named o i (subst (λ n. names n (entry_at m.objects o i) ≡ true) is (names_own r.number (entry_at m.objects o i) r.is_page)) in
        let bad : true ≡ false = sym here ∙ out in cc);
  }

-- a loan at the end of the list
pub times_push : (loans : List Loan) (loan : Loan) (kind : LoanKind) (f : ℕ) → loan_times (loans ++ loan ∷ []) kind f ≡ loan_times loans kind f + num (is_kind kind loan.kind && (loan.frame == f))
times_push loans loan kind f = count_by-push (λ (x : Loan). is_kind kind x.kind && (x.frame == f)) loans loan

times_one : (loan : Loan) (kind : LoanKind) (f : ℕ) → loan_times (loan ∷ []) kind f ≡ num (is_kind kind loan.kind && (loan.frame == f))
times_one loan kind f = loan_cons loan [] kind f ∙ omega arith

more_same : (a b : List Loan) (f : ℕ) (c d : Counts) → c.strong + loan_times a Strong f ≡ d.strong + loan_times b Strong f → c.weak + loan_times a Weak f ≡ d.weak + loan_times b Weak f → c.input + loan_times a Input f ≡ d.input + loan_times b Input f → c.wires ≡ d.wires → more a f c ≡ more b f d
more_same a b f c d s w n q = λ k. record { strong = s k; weak = w k; input = n k; wires = q k }

-- one more, and as many as a list says
pub more_push : (loans : List Loan) (loan : Loan) (f : ℕ) (c : Counts) → more (loan ∷ []) f (more loans f c) ≡ more (loans ++ loan ∷ []) f c
more_push loans loan f c = more_same (loan ∷ []) (loans ++ loan ∷ []) f (more loans f c) c
    (omega (arith, times_one loan Strong f, times_push loans loan Strong f))
    (omega (arith, times_one loan Weak f, times_push loans loan Weak f))
    (omega (arith, times_one loan Input f, times_push loans loan Input f))
    refl

pub more_none : (f : ℕ) (c : Counts) → c ≡ more [] f c
more_none f c =
    let s : c.strong ≡ c.strong + 0 = omega arith in
    let w : c.weak ≡ c.weak + 0 = omega arith in
    let n : c.input ≡ c.input + 0 = omega arith in
    λ k. record { strong = s k; weak = w k; input = n k; wires = c.wires }

-- one loan more
pub one_here : (kind : LoanKind) (g f : ℕ) (c : Counts) → f ≡ g → one_more kind c ≡ more (record { kind = kind; frame = g } ∷ []) f c
one_here kind g f c e = by_kind kind (times_one (record { kind = kind; frame = g }) Strong f) (times_one (record { kind = kind; frame = g }) Weak f) (times_one (record { kind = kind; frame = g }) Input f) (ap num (same_test g f (sym e)))
  where
    by_kind : (k : LoanKind)
        → loan_times (record { kind = k; frame = g } ∷ []) Strong f ≡ num (is_kind Strong k && (g == f))
        → loan_times (record { kind = k; frame = g } ∷ []) Weak f ≡ num (is_kind Weak k && (g == f))
        → loan_times (record { kind = k; frame = g } ∷ []) Input f ≡ num (is_kind Input k && (g == f))
        → num (g == f) ≡ 1 → one_more k c ≡ more (record { kind = k; frame = g } ∷ []) f c
    by_kind Strong s w n t =
        let a : c.strong + 1 ≡ c.strong + loan_times (record { kind = Strong; frame = g } ∷ []) Strong f = omega arith in
        let b : c.weak ≡ c.weak + loan_times (record { kind = Strong; frame = g } ∷ []) Weak f = omega arith in
        let d : c.input ≡ c.input + loan_times (record { kind = Strong; frame = g } ∷ []) Input f = omega arith in
        λ k. record { strong = a k; weak = b k; input = d k; wires = c.wires }
    by_kind Weak s w n t =
        let a : c.strong ≡ c.strong + loan_times (record { kind = Weak; frame = g } ∷ []) Strong f = omega arith in
        let b : c.weak + 1 ≡ c.weak + loan_times (record { kind = Weak; frame = g } ∷ []) Weak f = omega arith in
        let d : c.input ≡ c.input + loan_times (record { kind = Weak; frame = g } ∷ []) Input f = omega arith in
        λ k. record { strong = a k; weak = b k; input = d k; wires = c.wires }
    by_kind Input s w n t =
        let a : c.strong ≡ c.strong + loan_times (record { kind = Input; frame = g } ∷ []) Strong f = omega arith in
        let b : c.weak ≡ c.weak + loan_times (record { kind = Input; frame = g } ∷ []) Weak f = omega arith in
        let d : c.input + 1 ≡ c.input + loan_times (record { kind = Input; frame = g } ∷ []) Input f = omega arith in
        λ k. record { strong = a k; weak = b k; input = d k; wires = c.wires }

and_false : (b : Bool) → num (b && false) ≡ 0
and_false true = refl
and_false false = refl

pub one_else : (kind : LoanKind) (g f : ℕ) (c : Counts) → f ≢ g → c ≡ more (record { kind = kind; frame = g } ∷ []) f c
one_else kind g f c n =
    let none = (λ (k : LoanKind). times_one (record { kind = kind; frame = g }) k f ∙ ap (λ b. num (is_kind k kind && b)) (other_test g f (λ e. n (sym e))) ∙ and_false (is_kind k kind)) in
    let a : c.strong ≡ c.strong + loan_times (record { kind = kind; frame = g } ∷ []) Strong f = omega (arith, none Strong) in
    let b : c.weak ≡ c.weak + loan_times (record { kind = kind; frame = g } ∷ []) Weak f = omega (arith, none Weak) in
    let d : c.input ≡ c.input + loan_times (record { kind = kind; frame = g } ∷ []) Input f = omega (arith, none Input) in
    λ k. record { strong = a k; weak = b k; input = d k; wires = c.wires }

-- an entry's page was made its own, and its frame lent
pub page_lent : (kind : LoanKind) (spoken : ℕ → ℕ → Bool) (o i : ℕ) (f : FrameId) (old m new : Memory) → is_kind Strong kind ≡ false → spoken o i ≡ true
    → IsSound m → IsReady m o i f → new ≡ lent_more m kind f.0
    → KeepsLoans old m → Touches spoken old m → CostsNoMore old m → m.frames.counts ≡ old.frames.counts → m.frames.landed ≡ old.frames.landed
    → count_by is_free old.frames.owners ≤ count_by is_free m.frames.owners + 1 → count_by is_there m.pages.pages ≤ count_by is_there old.pages.pages + 1
    → HasLent kind spoken o i (record { kind = kind; frame = f.0 } ∷ []) old new
page_lent kind spoken o i f old m new unstrong here s r is keeps touches costs counts landed free added = subst (HasLent kind spoken o i (record { kind = kind; frame = f.0 } ∷ []) old) (sym is) (record {
  sound = lent_sound m o i f kind s r unstrong;
  kinds = λ k d l. elim (zero_or_more k) [ inl z ↦ ap (λ n. (get_or (record { kind = kind; frame = f.0 } ∷ []) n d).kind) z | inr p ↦ absurd (omega (arith, l, p)) ];
  counts = λ g. elim (same_or g f.0) [
    | inl e ↦ ap (counts_at (lent_more m kind f.0).frames) e ∙ get_or-set_same m.frames.counts f.0 _ no_counts (lent_there m o i f kind s r unstrong) ∙ ap (λ (n : ℕ). one_more kind (counts_at m.frames n)) (sym e) ∙ ap (λ (cs : List Counts). one_more kind (get_or cs g no_counts)) counts ∙ one_here kind f.0 g (counts_at old.frames g) e
    | inr n ↦ get_or-set_other m.frames.counts f.0 g _ no_counts n ∙ ap (λ (cs : List Counts). get_or cs g no_counts) counts ∙ one_else kind f.0 g (counts_at old.frames g) n
  ];
  placed = λ k d l. elim (zero_or_more k) [
    | inl z ↦
        let start : i + k ≡ i = omega (arith, z) in
        ap (entry_frame (lent_more m kind f.0) o) start ∙ lent_placed m o i f kind s r unstrong ∙ ap (λ n. Some (get_or (record { kind = kind; frame = f.0 } ∷ []) n d).frame) (sym z)
    | inr p ↦ absurd (omega (arith, l, p))
  ];
  keeps = keeps_on old m (lent_more m kind f.0) keeps (lent_keeps m o i f kind s r unstrong);
  touches = touches_on spoken old m (lent_more m kind f.0) touches (lent_touches m o i f kind s r unstrong spoken here);
  costs = costs_on old m (lent_more m kind f.0) costs (lent_costs m o i f kind s r unstrong);
  landed = landed;
  free = omega (arith, free);
  added = omega (arith, added);
})

-- a loan of the list
pub loan_times_at : (loans : List Loan) (k : ℕ) (d : Loan) → k < length loans → 0 < loan_times loans (get_or loans k d).kind (get_or loans k d).frame
loan_times_at [] k d l = absurd (omega arith)
loan_times_at (x ∷ loans) zero d l = let one = own x.kind x.frame in omega (arith, loan_cons x loans x.kind x.frame, one)
  where
    own : (kind : LoanKind) (f : ℕ) → num (is_kind kind kind && (f == f)) ≡ 1
    own Strong f = ap num (same_test f f refl)
    own Weak f = ap num (same_test f f refl)
    own Input f = ap num (same_test f f refl)
loan_times_at (x ∷ loans) (suc k) d l = let l' : k < length loans = omega arith in let y = get_or loans k d in omega (arith, loan_cons x loans y.kind y.frame, loan_times_at loans k d l')

held_kind : (kind : LoanKind) (c : Counts) → is_kind Strong kind ≡ false → 0 < amount kind c → is_held c ≡ true
held_kind Strong c e h = cc
held_kind Weak c e h = grind (arith, rules)
held_kind Input c e h = grind (arith, rules)

pub amount_more : (kind : LoanKind) (loans : List Loan) (f : ℕ) (c : Counts) → amount kind (more loans f c) ≡ amount kind c + loan_times loans kind f
amount_more Strong loans f c = refl
amount_more Weak loans f c = refl
amount_more Input loans f c = refl

-- a frame that is lent so
pub lent_held : (kind : LoanKind) (spoken : ℕ → ℕ → Bool) (o i : ℕ) (loans : List Loan) (old m : Memory) (k : ℕ) (d : Loan) → is_kind Strong kind ≡ false → HasLent kind spoken o i loans old m → k < length loans → is_held (counts_at m.frames (get_or loans k d).frame) ≡ true
lent_held kind spoken o i loans old m k d unstrong x l =
    let y = get_or loans k d in
    let some = loan_times_at loans k d l in
    let of_kind : 0 < loan_times loans kind y.frame = subst (λ q. 0 < loan_times loans q y.frame) (x.kinds k d l) some in
    ap is_held (x.counts y.frame) ∙ held_kind kind (more loans y.frame (counts_at old.frames y.frame)) unstrong (omega (arith, amount_more kind loans y.frame (counts_at old.frames y.frame)))

pub at_last : (loans : List Loan) (loan d : Loan) (k : ℕ) → k ≡ length loans → get_or (loans ++ loan ∷ []) k d ≡ loan
at_last loans loan d k e = grind (arith, common_steps, e)

pub at_front : (loans : List Loan) (loan d : Loan) (k : ℕ) → k < length loans → get_or (loans ++ loan ∷ []) k d ≡ get_or loans k d
at_front loans loan d k l = grind (arith, common_steps, l)

pub lent_on : (kind : LoanKind) (spoken : ℕ → ℕ → Bool) (o i j : ℕ) (loans : List Loan) (loan : Loan) (old m new : Memory) → is_kind Strong kind ≡ false → j ≡ i + length loans → HasLent kind spoken o i loans old m → HasLent kind spoken o j (loan ∷ []) m new → HasLent kind spoken o i (loans ++ loan ∷ []) old new
lent_on kind spoken o i j loans loan old m new unstrong at x y =
    let size : length (loans ++ loan ∷ []) ≡ length loans + 1 = length-append loans (loan ∷ []) in
    record {
      sound = y.sound;
      kinds = λ k d l. elim (cases_lt k (length loans)) [
        | inl h ↦ ap (λ (q : Loan). q.kind) (at_front loans loan d k h) ∙ x.kinds k d h
        | inr h ↦ let e : k ≡ length loans = omega (arith, size, l, h) in ap (λ (q : Loan). q.kind) (at_last loans loan d k e) ∙ y.kinds 0 d (omega arith)
      ];
      counts = λ f. y.counts f ∙ ap (more (loan ∷ []) f) (x.counts f) ∙ more_push loans loan f (counts_at old.frames f);
      placed = λ k d l. elim (cases_lt k (length loans)) [
        | inl h ↦ y.keeps.entry_held o (i + k) (get_or loans k d).frame (x.placed k d h) (lent_held kind spoken o i loans old m k d unstrong x h) ∙ ap (λ (q : Loan). Some q.frame) (sym (at_front loans loan d k h))
        | inr h ↦
            let e : k ≡ length loans = omega (arith, size, l, h) in
            let place : i + k ≡ j + 0 = omega (arith, e, at) in
            ap (entry_frame new o) place ∙ y.placed 0 d (omega arith) ∙ ap (λ (q : Loan). Some q.frame) (sym (at_last loans loan d k e))
      ];
      keeps = keeps_on old m new x.keeps y.keeps;
      touches = touches_on spoken old m new x.touches y.touches;
      costs = costs_on old m new x.costs y.costs;
      landed = y.landed ∙ x.landed;
      free = omega (arith, x.free, y.free, size);
      added = omega (arith, x.added, y.added, size);
    }

pub lent_none : (kind : LoanKind) (spoken : ℕ → ℕ → Bool) (o i : ℕ) (m : Memory) → IsSound m → HasLent kind spoken o i [] m m
lent_none kind spoken o i m s = record {
  sound = s;
  kinds = λ k d l. absurd (omega (arith, l));
  counts = λ f. more_none f (counts_at m.frames f);
  placed = λ k d l. absurd (omega (arith, l));
  keeps = keeps_all m;
  touches = touches_none spoken m;
  costs = record { read = λ a b e. e; write = λ a b e. e };
  landed = refl;
  free = omega arith;
  added = omega arith;
}

pub lent_seen : (kind : LoanKind) (m new : Memory) (o i : ℕ) (f : FrameId) (v : StoreView) → is_kind Strong kind ≡ false → IsSound m → IsReady m o i f → new ≡ lent_more m kind f.0 → seen_with new v ≡ seen_with m v
lent_seen kind m new o i f v unstrong s r e = ap (λ n. seen_with n v) e ∙ ap (λ (g : (ℕ → List ℕ) → Seen). option_map g v.slots) (lent_shows m o i f kind s r unstrong)

pub slot_most : (place : Place) → slot_gets place ≤ 1
slot_most Zero = omega arith
slot_most (Frame f) = omega arith
slot_most (Slot r) = omega arith

pub gets_most : (m : Memory) (o i : ℕ) → gets_for m o i ≤ 1
gets_most m o i = slot_most (place_of m o i)

pub spends_page : (old m : Memory) (o i : ℕ) → Spends (write_work old o i) (gets_for old o i) 0 1 old.frames.meters m.frames.meters → Spends (write_work old o i) 1 0 1 old.frames.meters m.frames.meters
spends_page old m o i x = spends_more _ _ _ _ _ _ _ _ old.frames.meters m.frames.meters x (omega arith) (gets_most old o i) (omega arith) (omega arith)

pub within_spoken : (o i from n : ℕ) → (from ≤ i) × (i < from + n) → is_in_range o from n o i ≡ true
within_spoken o i from n h = let a : (o == o) ≡ true = same_test o o refl in let b : nat_le from i ≡ true = le_true from i h.0 in let d : nat_lt i (from + n) ≡ true = lt_true i (from + n) h.1 in rw (a, b, d) refl
  where
    le_true : (a b : ℕ) → a ≤ b → nat_le a b ≡ true
    le_true a b h = grind (arith, nat_tests)

    lt_true : (a b : ℕ) → a < b → nat_lt a b ≡ true
    lt_true a b h = grind (arith, nat_tests)

-- a call that speaks of one entry speaks of the entries among which it is
pub touches_in : (o i from n : ℕ) (a b : Memory) → (from ≤ i) × (i < from + n) → Touches (is_entry o i) a b → Touches (is_in_range o from n) a b
touches_in o i from n a b h x = touches_more (is_entry o i) (is_in_range o from n) a b (λ c d out. elim (bool_or (is_entry o i c d)) [
  | inr f ↦ f
  | inl t ↦
      let same : (c ≡ o) × (d ≡ i) = both c d o i t in
      let bad : true ≡ false = sym (within_spoken o i from n h) ∙ (λ k. is_in_range o from n (sym same.0 k) (sym same.1 k)) ∙ out in cc
]) x
  where
    bool_or : (b : Bool) → (b ≡ true) ⊎ (b ≡ false)
    bool_or true = inl refl
    bool_or false = inr refl

    both : (c d o i : ℕ) → ((c == o) && (d == i)) ≡ true → (c ≡ o) × (d ≡ i)
    both c d o i t = grind (arith, rules)

-- meters don't matter
pub lent_metered : (kind : LoanKind) (spoken : ℕ → ℕ → Bool) (o i : ℕ) (loans : List Loan) (old m : Memory) (t : Meters) → HasLent kind spoken o i loans old m → HasLent kind spoken o i loans old (metered m t)
lent_metered kind spoken o i loans old m t x = record {
  sound = sound_metered m t x.sound;
  kinds = x.kinds;
  counts = x.counts;
  placed = x.placed;
  keeps = keeps_metered old m t x.keeps;
  touches = touches_metered spoken old m t x.touches;
  costs = record { read = x.costs.read; write = x.costs.write };
  landed = x.landed;
  free = x.free;
  added = x.added;
}

pub so_far_none : {X : Type 0} (loan_of : X → Loan) (kind : LoanKind) (spoken : ℕ → ℕ → Bool) (o i : ℕ) (loans : List X) (m : Memory) (v : StoreView) → loans ≡ [] → IsSound m → IsSized m v → LendsSoFar kind spoken o i (map loan_of loans) 0 m m v v
so_far_none loan_of kind spoken o i loans m v e s z = subst (λ xs. LendsSoFar kind spoken o i (map loan_of xs) 0 m m v v) (sym e) (record {
  lent = lent_none kind spoken o i m s;
  number = refl;
  spends = spends_none _ _ _ _ m.frames.meters;
  sized = z;
  is_seen = refl;
  faults = refl;
})

-- what the next page asks for
pub record CanGoOn (old m : Memory) (o first i n : ℕ) : Type 0 where
  pub there : first + i < length (object_at m.objects o)
  pub free : 0 < count_by is_free m.frames.owners
  pub room : count_by is_there m.pages.pages < m.pages.most
  pub meters : AreBelow (2 ^ 64 - 2 ^ 20) m.frames.meters
  pub few : (f : ℕ) → (counts_at m.frames f).input < 2 ^ 32 - 1

pub below_spent : (b i : ℕ) (u v : Meters) → AreBelow (2 ^ 64 - 2 ^ 21) u → Spends b i 0 i u v → b ≤ 4096 * 65 → i ≤ 65 → AreBelow (2 ^ 64 - 2 ^ 20) v
below_spent b i u v a x h l = record {
  read = omega (arith, a.read, x.work, x.read, x.written, x.copied, x.zeroed);
  written = omega (arith, a.written, x.work, x.read, x.written, x.copied, x.zeroed);
  copied = omega (arith, a.copied, x.work, x.read, x.written, x.copied, x.zeroed);
  zeroed = omega (arith, a.zeroed, x.work, x.read, x.written, x.copied, x.zeroed);
  puts = omega (arith, a.puts, x.most_puts);
  gets = omega (arith, a.gets, x.most_gets);
  taken = omega (arith, a.taken, x.most_taken);
}

pub times_most : (loans : List Loan) (kind : LoanKind) (f : ℕ) → loan_times loans kind f ≤ length loans
times_most loans kind f = count_by-le-length (λ (x : Loan). is_kind kind x.kind && (x.frame == f)) loans

pub page_most : (t : FrameTable) → IsShaped t.page t.owners t.counts t.bytes → t.page ≤ 4096
page_most t s = grind (arith, rules, s.size)

pub goes_on : (kind : LoanKind) (spoken : ℕ → ℕ → Bool) (o first i n : ℕ) (loans : List Loan) (old m : Memory) (before now : StoreView) → IsSound old → first + n ≤ length (object_at old.objects o) → n ≤ 65 → n ≤ count_by is_free old.frames.owners → count_by is_there old.pages.pages + n ≤ old.pages.most → AreBelow (2 ^ 64 - 2 ^ 21) old.frames.meters → ((f : ℕ) → (counts_at old.frames f).input < 2 ^ 31) → LendsSoFar kind spoken o first loans i old m before now → i < n → CanGoOn old m o first i n
goes_on kind spoken o first i n loans old m before now s within few free room meters weak x l = record {
  there = omega (arith, within, l, x.lent.keeps.entries o);
  free = omega (arith, x.lent.free, free, l, x.number);
  room = omega (arith, x.lent.added, room, l, x.number, x.lent.keeps.most);
  meters = below_spent (writes_work old o first i) i old.frames.meters m.frames.meters meters x.spends (omega (arith, few, l, writes_most old o first i (page_most old.frames s.shaped))) (omega (arith, few, l));
  few = λ f. omega (arith, weak f, ap (λ (c : Counts). c.input) (x.lent.counts f), times_most loans Input f, x.number, few, l);
}

-- the next page is no dearer than it was at the start
pub spends_next : (old m new : Memory) (o first i j : ℕ) → j ≡ first + i → CostsNoMore old m → m.frames.page ≡ old.frames.page → Spends (writes_work old o first i) i 0 i old.frames.meters m.frames.meters → Spends (write_work m o j) 1 0 1 m.frames.meters new.frames.meters → Spends (writes_work old o first (i + 1)) (i + 1) 0 (i + 1) old.frames.meters new.frames.meters
spends_next old m new o first i j at costs e x y = spends_more _ _ _ _ _ _ _ _ old.frames.meters new.frames.meters (spends_on (writes_work old o first i) i 0 i (write_work m o j) 1 0 1 old.frames.meters m.frames.meters new.frames.meters x y) (omega (arith, writes_less old m o j costs e, ap (write_work old o) at, writes_next old o first i (i + 1) refl)) (omega arith) (omega arith) (omega arith)

pub so_far_more : {X : Type 0} (loan_of : X → Loan) (kind : LoanKind) (unstrong : is_kind Strong kind ≡ false) (spoken : ℕ → ℕ → Bool) (o first i j : ℕ) (loans items : List X) (loan : X) (old m new : Memory) (before mid now : StoreView) → j ≡ first + i → LendsSoFar kind spoken o first (map loan_of loans) i old m before mid → items ≡ loans ++ loan ∷ [] → HasLent kind spoken o j (loan_of loan ∷ []) m new → Spends (write_work m o j) 1 0 1 m.frames.meters new.frames.meters → IsSized new now → seen_with new now ≡ seen_with m mid → now.faults ≡ mid.faults → LendsSoFar kind spoken o first (map loan_of items) (i + 1) old new before now
so_far_more loan_of kind unstrong spoken o first i j loans items loan old m new before mid now at x is y spends sized same faults =
    let all : map loan_of items ≡ map loan_of loans ++ loan_of loan ∷ [] = ap (map loan_of) is ∙ map-append loan_of loans (loan ∷ []) in
    let size : length (map loan_of loans ++ loan_of loan ∷ []) ≡ length (map loan_of loans) + 1 = length-append (map loan_of loans) (loan_of loan ∷ []) in
    subst (λ xs. LendsSoFar kind spoken o first xs (i + 1) old new before now) (sym all) (record {
      lent = lent_on kind spoken o first j (map loan_of loans) (loan_of loan) old m new unstrong (omega (arith, at, x.number)) x.lent y;
      number = omega (arith, size, x.number);
      spends = spends_next old m new o first i j at x.lent.costs x.lent.keeps.page x.spends spends;
      sized = sized;
      is_seen = same ∙ x.is_seen;
      faults = faults ∙ x.faults;
    })

-- where the next page failed
pub spends_failed : (old m new : Memory) (o first i j n : ℕ) → j ≡ first + i → CostsNoMore old m → m.frames.page ≡ old.frames.page → i < n → Spends (writes_work old o first i) i 0 i old.frames.meters m.frames.meters → Spends (write_work m o j) 1 0 1 m.frames.meters new.frames.meters → Spends (writes_work old o first n) n 0 n old.frames.meters new.frames.meters
spends_failed old m new o first i j n at costs e l x y = spends_more _ _ _ _ _ _ _ _ old.frames.meters new.frames.meters (spends_next old m new o first i j at costs e x y) (writes_up old o first (i + 1) n (omega (arith, l))) (omega (arith, l)) (omega arith) (omega (arith, l))
