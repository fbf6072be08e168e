-- Loans are taken back after a fault.
use Rattle.std.proofs.Common.{◌≡◌, ℕ, ◌<◌, Bool, true, false, List, [], refl, ap, sym, ◌∙◌, arith, rules, subst, get_or, inl, inr, ◌⊎◌}
use Rattle.std.specs.Prelude.{Option, Some, None, nat_lt, if◌then◌else◌}
use Rattle.std.specs.Option.{option_map}
use Rattle.genie_frame.specs.declared.frame.OutLoan.{OutLoan}
use Rattle.genie_frame.specs.declared.frame.Owner.{Owner}
use Rattle.genie_frame.specs.declared.frame.Owner.TheVariants.{Free, Page, System, Pool, Nobody}
use Rattle.genie_frame.specs.declared.frame.Counts.{Counts}
use Rattle.genie_frame.specs.FrameTable.{FrameTable, owner_at, counts_at, bytes_at, is_held, is_lent, is_nobody, is_system, IsShaped, AreLoansOwned}
use Rattle.genie_frame.specs.Frames.{unowned}
use Rattle.genie_store.specs.StoreView.{StoreView}
use Rattle.genie_object.specs.declared.memory.Memory.{Memory}
use Rattle.genie_object.specs.Objects.{entry_at}
use Rattle.genie_object.specs.Memory.{Seen, seen, is_kept, page_bytes}
use Rattle.genie_object.specs.Sound.{IsSound}
use Rattle.genie_object.specs.Touching.{system_owner}
use Rattle.genie_object.specs.Lemmas.Touching.{as_many}
use Rattle.genie_plan.specs.Loans.{LoanKind, Strong, Weak, Input, Loan, output_loans, less, let_go, AreOut, Ended, amount}
use Rattle.genie_tcow.specs.Lending.{loans_on, see_lent, HasLent, IsTakenBack}
use Rattle.genie_plan.specs.Lemmas.Ending.{some_or}
use Rattle.genie_tcow.proofs.Counting.{bool_or, less_more, amount_more, times_on}
use Rattle.genie_tcow.proofs.More.{lt_some, lt_none, kept_by}
use Rattle.genie_tcow.proofs.Lent.{shown_as}
use Rattle.genie_plan.specs.Ending.{CanEnd}
use Rattle.genie_plan.specs.Lemmas.Ended.{ends_soundly}

-- a frame that a loan is out on, which isn't the system's, is let go to the owner that it has
let_go_lent : (o : Owner) (c : Counts) → is_lent c ≡ true → system_owner o ≡ Free → let_go o c ≡ o
let_go_lent Free c l e = refl
let_go_lent (Page p) c l e = refl
let_go_lent (System t) c l e = cc
let_go_lent (Pool d) c l e = cc
let_go_lent Nobody c l e = ap (λ b. if b then Nobody else Free) l

unowned_system : (c : Counts) → system_owner (unowned c) ≡ Free
unowned_system c = by_lent (is_lent c)
  where
    by_lent : (b : Bool) → system_owner (if b then Nobody else Free) ≡ Free
    by_lent true = refl
    by_lent false = refl

gone_system : (o : Owner) (c : Counts) (id : ℕ) → (system_owner o ≡ Free) ⊎ (system_owner o ≡ System id) → system_owner (let_go o c) ≡ Free
gone_system Free c id e = refl
gone_system (Page p) c id e = refl
gone_system (System t) c id e = unowned_system c
gone_system (Pool d) c id e = unowned_system c
gone_system Nobody c id e = unowned_system c

system_not : (o : Owner) → is_system o ≡ true → system_owner o ≡ Free → ⊥
system_not Free b e = cc
system_not (Page p) b e = cc
system_not (System t) b e = cc
system_not (Pool d) b e = cc
system_not Nobody b e = cc

unlent_strong : (c : Counts) → is_lent c ≡ false → c.strong ≡ 0
unlent_strong c e = grind (arith, rules)

-- a frame without a loan that isn't the system's isn't seen by itself, unless it is nobody's
unseen : (o : Owner) (c : Counts) → is_lent c ≡ false → system_owner o ≡ Free → (o ≡ Nobody → is_lent c ≡ true) → is_kept o c ≡ false
unseen Free c l e n = refl
unseen (Page p) c l e n = lt_none c.strong (unlent_strong c l)
unseen (System t) c l e n = cc
unseen (Pool d) c l e n = cc
unseen Nobody c l e n = let bad : true ≡ false = sym (n refl) ∙ l in cc

-- nor is one that was let go
unseen_gone : (o : Owner) (c : Counts) (id : ℕ) → is_lent c ≡ false → (system_owner o ≡ Free) ⊎ (system_owner o ≡ System id) → is_kept (let_go o c) c ≡ false
unseen_gone Free c id l e = refl
unseen_gone (Page p) c id l e = lt_none c.strong (unlent_strong c l)
unseen_gone (System t) c id l e = ap (λ b. is_kept (if b then Nobody else Free) c) l
unseen_gone (Pool d) c id l e = ap (λ b. is_kept (if b then Nobody else Free) c) l
unseen_gone Nobody c id l e = ap (λ b. is_kept (if b then Nobody else Free) c) l

pub are_out : (kind : LoanKind) (id : ℕ) (spoken : ℕ → ℕ → Bool) (loans : List Loan) (old m : Memory) (v w : StoreView) → HasLent kind id spoken loans old m v w → AreOut m.frames loans
are_out kind id spoken loans old m v w x k f = omega (arith, ap (amount k) (x.counts f), amount_more k loans f (counts_at old.frames f))

see_else : (kind : LoanKind) (loans : List Loan) (t : FrameTable) (s : Seen) (f : ℕ) → loans_on loans f ≡ 0 → (see_lent kind loans t s).kept_bytes f ≡ s.kept_bytes f
see_else Strong loans t s f z = ap (λ b. if b then bytes_at t f else s.kept_bytes f) (lt_none (loans_on loans f) z)
see_else Weak loans t s f z = refl
see_else Input loans t s f z = refl

see_entries : (kind : LoanKind) (loans : List Loan) (t : FrameTable) (s : Seen) → (see_lent kind loans t s).entry_bytes ≡ s.entry_bytes
see_entries Strong loans t s = refl
see_entries Weak loans t s = refl
see_entries Input loans t s = refl

module _ (kind : LoanKind) (id : ℕ) (spoken : ℕ → ℕ → Bool) (loans : List Loan) (old m : Memory) (v w : StoreView) (t : FrameTable) (s : IsSound old) (x : HasLent kind id spoken loans old m v w) (e : Ended loans m.frames t) (shaped : IsShaped t.page t.owners t.counts t.bytes) (lent : AreLoansOwned t.owners t.counts) where
  abbrev new : Memory
  new = record m { frames = t }

  counts_back : (f : ℕ) → counts_at t f ≡ counts_at old.frames f
  counts_back f = e.counts f ∙ ap (less loans f) (x.counts f) ∙ less_more loans f (counts_at old.frames f)

  bytes_back : (f : ℕ) → is_lent (counts_at old.frames f) ≡ true → bytes_at t f ≡ bytes_at old.frames f
  bytes_back f l = ap (λ bs. get_or bs f []) e.bytes ∙ (x.keeps.lent f l).bytes

  -- a frame of the loans that was lent before isn't the system's
  lent_owner : (f : ℕ) → 0 < loans_on loans f → is_lent (counts_at old.frames f) ≡ true → system_owner (owner_at m.frames f) ≡ Free
  lent_owner f h l = elim (x.keeps.lent f l).owner [
    | inl d ↦ ap system_owner d ∙ (x.keeps.taken f h).was
    | inr d ↦ ap system_owner d.1
  ]

  can : CanEnd loans m.frames t
  can = record {
    wired = λ f n. ap is_held (counts_back f) ∙ s.wired f (omega (arith, n, ap (λ (c : Counts). c.wires) (counts_back f)));
    buffers = λ f h b. elim (bool_or (is_lent (counts_at old.frames f))) [
      | inl l ↦ absurd (system_not (owner_at m.frames f) b (lent_owner f h l))
      | inr l ↦ ap is_lent (counts_back f) ∙ l
    ];
  }

  owner_lent : (f : ℕ) → is_lent (counts_at old.frames f) ≡ true → owner_at t f ≡ owner_at m.frames f
  owner_lent f l = elim (some_or (loans_on loans f)) [
    | inl h ↦ e.owners f h ∙ let_go_lent (owner_at m.frames f) (counts_at t f) (ap is_lent (counts_back f) ∙ l) (lent_owner f h l)
    | inr z ↦ e.others f z
  ]

  -- what a frame shows by itself then
  abbrev left : ℕ → List ℕ
  left f = if is_kept (owner_at t f) (counts_at t f) then bytes_at t f else []

  left_lent : (slots : ℕ → List ℕ) (f : ℕ) → 0 < loans_on loans f → is_lent (counts_at old.frames f) ≡ true → left f ≡ (seen old slots).kept_bytes f
  left_lent slots f h l = elim (x.keeps.lent f l).owner [
    | inl d ↦ (λ k. if is_kept ((owner_lent f l ∙ d) k) (counts_back f k) then bytes_back f l k else [])
    | inr d ↦ let bad : true ≡ false = sym (ap is_nobody d.1) ∙ x.owned f h in cc
  ]

  left_unlent : (slots : ℕ → List ℕ) (f : ℕ) → 0 < loans_on loans f → is_lent (counts_at old.frames f) ≡ false → left f ≡ (seen old slots).kept_bytes f
  left_unlent slots f h l =
      let now : is_kept (owner_at t f) (counts_at t f) ≡ false = ap (λ o. is_kept o (counts_at t f)) (e.owners f h) ∙ unseen_gone (owner_at m.frames f) (counts_at t f) id (ap is_lent (counts_back f) ∙ l) (x.keeps.taken f h).is in
      let was : is_kept (owner_at old.frames f) (counts_at old.frames f) ≡ false = unseen (owner_at old.frames f) (counts_at old.frames f) l (x.keeps.taken f h).was (s.lent f).nobody in
      ap (λ b. if b then bytes_at t f else []) now ∙ ap (λ b. if b then bytes_at old.frames f else []) (sym was)

  abbrev undo : Seen → Seen
  undo u = record u { kept_bytes = λ f. if nat_lt 0 (loans_on loans f) then left f else u.kept_bytes f }

  strong_else : (f : ℕ) → loans_on loans f ≡ 0 → (counts_at t f).strong ≡ (counts_at m.frames f).strong
  strong_else f z = omega (arith, z, ap (λ (c : Counts). c.strong) (counts_back f), ap (λ (c : Counts). c.strong) (x.counts f), times_on loans Strong f)

  kept_else : (slots : ℕ → List ℕ) (f : ℕ) → loans_on loans f ≡ 0 → left f ≡ (seen m slots).kept_bytes f
  kept_else slots f z = (λ k. if is_kept (e.others f z k) (counts_at t f) then get_or (e.bytes k) f [] else []) ∙ ap (λ b. if b then bytes_at m.frames f else []) (kept_by (owner_at m.frames f) (counts_at t f) (counts_at m.frames f) (strong_else f z))

  shown : (slots : ℕ → List ℕ) → seen (record m { frames = t }) slots ≡ undo (seen m slots)
  shown slots = λ k. record {
    entry_bytes = λ a b. let u : FrameTable = record { page = e.page k; owners = t.owners; counts = t.counts; bytes = e.bytes k; meters = t.meters; landed = t.landed } in page_bytes u m.pages.pages slots (entry_at m.objects a b).page;
    kept_bytes = λ f. by_frame f k;
  } where
    by_frame : (f : ℕ) → left f ≡ (if nat_lt 0 (loans_on loans f) then left f else (seen m slots).kept_bytes f)
    by_frame f = elim (some_or (loans_on loans f)) [
      | inl h ↦ ap (λ b. if b then left f else (seen m slots).kept_bytes f) (sym (lt_some (loans_on loans f) h))
      | inr z ↦ kept_else slots f z ∙ ap (λ b. if b then left f else (seen m slots).kept_bytes f) (sym (lt_none (loans_on loans f) z))
    ]

  undone : (slots : ℕ → List ℕ) → undo (see_lent kind loans m.frames (seen old slots)) ≡ seen old slots
  undone slots = λ k. record { entry_bytes = see_entries kind loans m.frames (seen old slots) k; kept_bytes = λ f. by_frame f k }
    where
      by_frame : (f : ℕ) → (if nat_lt 0 (loans_on loans f) then left f else (see_lent kind loans m.frames (seen old slots)).kept_bytes f) ≡ (seen old slots).kept_bytes f
      by_frame f = elim (some_or (loans_on loans f)) [
        | inl h ↦ ap (λ b. if b then left f else (see_lent kind loans m.frames (seen old slots)).kept_bytes f) (lt_some (loans_on loans f) h) ∙ elim (bool_or (is_lent (counts_at old.frames f))) [ inl l ↦ left_lent slots f h l | inr l ↦ left_unlent slots f h l ]
        | inr z ↦ ap (λ b. if b then left f else (see_lent kind loans m.frames (seen old slots)).kept_bytes f) (lt_none (loans_on loans f) z) ∙ see_else kind loans m.frames (seen old slots) f z
      ]

  undone_with : (told : Option (ℕ → List ℕ)) → option_map undo (option_map (see_lent kind loans m.frames) (option_map (seen old) told)) ≡ option_map (seen old) told
  undone_with None = refl
  undone_with (Some slots) = ap Some (undone slots)

  pub taken_back : IsTakenBack spoken old (record m { frames = t }) v w
  taken_back = record {
    sound = ends_soundly m t loans x.sound shaped lent e can;
    counts = counts_back;
    shows = shown_as (seen (record m { frames = t })) undo (seen m) w.slots shown ∙ ap (option_map undo) x.shows ∙ undone_with v.slots;
    keeps = record {
      entry_held = x.keeps.entry_held;
      held = λ f h. ap is_held (counts_back f) ∙ h;
      lent = λ f l. let y = x.keeps.lent f l in record {
        lent = ap is_lent (counts_back f) ∙ l;
        bytes = bytes_back f l;
        owner = elim y.owner [ inl d ↦ inl (owner_lent f l ∙ d) | inr d ↦ inr (d.0, owner_lent f l ∙ d.1) ];
      };
      loans = λ f. as_many (counts_at old.frames f) (counts_at t f) (counts_back f);
      systems = λ f. elim (some_or (loans_on loans f)) [
        | inl h ↦ ap system_owner (e.owners f h) ∙ gone_system (owner_at m.frames f) (counts_at t f) id (x.keeps.taken f h).is ∙ sym (x.keeps.taken f h).was
        | inr z ↦ ap system_owner (e.others f z) ∙ x.keeps.systems f z
      ];
      entries = x.keeps.entries;
      number = e.size ∙ x.keeps.number;
      page = e.page ∙ x.keeps.page;
      slots = x.keeps.slots;
      most = x.keeps.most;
    };
    touches = record {
      entries = x.touches.entries;
      pages = x.touches.pages;
      outside = λ p u. let y = x.touches.outside p u in record { there = y.there; named = y.named };
      counts = λ p f u h. counts_back f.0;
    };
    landed = e.landed ∙ x.landed;
  }

-- the same with the loans as a slice
pub slice_out : (kind : LoanKind) (id : ℕ) (spoken : ℕ → ℕ → Bool) (loans items : List OutLoan) (old m : Memory) (v w : StoreView) → items ≡ loans → HasLent kind id spoken (output_loans loans) old m v w → AreOut m.frames (output_loans items)
slice_out kind id spoken loans items old m v w e x = subst (λ xs. AreOut m.frames (output_loans xs)) (sym e) (are_out kind id spoken (output_loans loans) old m v w x)

pub back_by : (kind : LoanKind) (id : ℕ) (spoken : ℕ → ℕ → Bool) (loans items : List OutLoan) (old m new : Memory) (v w : StoreView) → IsSound old → items ≡ loans → HasLent kind id spoken (output_loans loans) old m v w → new ≡ record m { frames = new.frames } → Ended (output_loans items) m.frames new.frames → IsShaped new.frames.page new.frames.owners new.frames.counts new.frames.bytes → AreLoansOwned new.frames.owners new.frames.counts → IsTakenBack spoken old new v w
back_by kind id spoken loans items old m new v w s e x is y shaped lent = subst (λ n. IsTakenBack spoken old n v w) (sym is) (taken_back kind id spoken (output_loans loans) old m v w new.frames s x (subst (λ xs. Ended (output_loans xs) m.frames new.frames) e y) shaped lent)
