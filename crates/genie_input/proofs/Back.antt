-- Loans are taken back after a fault.
use Rattle.std.proofs.Common.{map, ◌≡◌, ℕ, zero, suc, ◌+◌, ◌-◌, ◌<◌, Bool, true, false, List, [], ◌∷◌, length, refl, ap, sym, ◌∙◌, arith, subst, get_or, inl, inr}
use Rattle.std.specs.Prelude.{Some, ◌==◌, ◌&&◌, nat_lt, if◌then◌else◌}
use Rattle.std.specs.Option.{option_map}
use Rattle.genie_base.specs.Lemmas.Places.{same_or, num}
use Rattle.genie_frame.specs.declared.frame.Owner.{Owner}
use Rattle.genie_frame.specs.declared.frame.Owner.TheVariants.{Free, Page, System, Pool, Nobody}
use Rattle.genie_frame.specs.declared.frame.Counts.{Counts}
use Rattle.genie_frame.specs.FrameTable.{is_system, FrameTable, owner_at, counts_at, is_held, is_lent, IsShaped, AreLoansOwned}
use Rattle.genie_store.specs.StoreView.{StoreView}
use Rattle.genie_object.specs.declared.memory.Memory.{Memory}
use Rattle.genie_object.specs.Objects.{entry_at}
use Rattle.genie_object.specs.Memory.{Seen, seen_with, is_kept, page_bytes}
use Rattle.genie_object.specs.Sound.{IsSound}
use Rattle.genie_object.specs.Touching.{system_owner}
use Rattle.genie_object.specs.Lemmas.Touching.{as_many}
use Rattle.genie_plan.specs.Loans.{LoanKind, Strong, Weak, Input, Loan, loan_times, is_kind, more, less, amount, let_go, AreOut, Ended}
use Rattle.genie_plan.specs.Lemmas.Ending.{loan_cons, frame_cons, frame_times, some_or, other_test}
use Rattle.genie_plan.specs.Ending.{CanEnd}
use Rattle.genie_plan.specs.Lemmas.Ended.{ends_soundly}
use Rattle.genie_plan.specs.Lemmas.Landings.{page_in}
use Rattle.genie_input.specs.Lending.{HasLent, IsTakenBack}

pub less_more : (loans : List Loan) (f : ℕ) (c : Counts) → less loans f (more loans f c) ≡ c
less_more loans f c =
    let s : c.strong + loan_times loans Strong f - loan_times loans Strong f ≡ c.strong = omega arith in
    let w : c.weak + loan_times loans Weak f - loan_times loans Weak f ≡ c.weak = omega arith in
    let n : c.input + loan_times loans Input f - loan_times loans Input f ≡ c.input = omega arith in
    λ k. record { strong = s k; weak = w k; input = n k; wires = c.wires }

-- a loan of the list that is on a frame
pub frame_index : (loans : List Loan) (d : Loan) (f : ℕ) → 0 < frame_times loans f → (k : ℕ) × (k < length loans) × ((get_or loans k d).frame ≡ f)
frame_index [] d f h = absurd (omega (arith, h))
frame_index (x ∷ loans) d f h = elim (same_or x.frame f) [
  | inl e ↦ (zero, omega arith, e)
  | inr n ↦ let z = ap num (other_test x.frame f n) in let rest = frame_index loans d f (omega (arith, h, frame_cons x loans f, z)) in (suc rest.0, omega (arith, rest.1), rest.2)
]

strong_none : (loans : List Loan) (kind : LoanKind) (f : ℕ) (d : Loan) → is_kind Strong kind ≡ false → ((k : ℕ) → k < length loans → (get_or loans k d).kind ≡ kind) → loan_times loans Strong f ≡ 0
strong_none [] kind f d u h = refl
strong_none (x ∷ loans) kind f d u h =
    let is : is_kind Strong x.kind ≡ false = ap (is_kind Strong) (h 0 (omega arith)) ∙ u in
    let z : num (is_kind Strong x.kind && (x.frame == f)) ≡ 0 = ap (λ b. num (b && (x.frame == f))) is in
    omega (arith, loan_cons x loans Strong f, z, strong_none loans kind f d u (λ k l. h (suc k) (omega arith)))

kept_by : (o : Owner) (a b : Counts) → a.strong ≡ b.strong → is_kept o a ≡ is_kept o b
kept_by Free a b e = refl
kept_by (Page p) a b e = ap (nat_lt 0) e
kept_by (System t) a b e = refl
kept_by (Pool d) a b e = refl
kept_by Nobody a b e = refl

pub are_out : (kind : LoanKind) (spoken : ℕ → ℕ → Bool) (o i : ℕ) (loans : List Loan) (old m : Memory) → HasLent kind spoken o i loans old m → AreOut m.frames loans
are_out kind spoken o i loans old m x Strong f = omega (arith, ap (amount Strong) (x.counts f))
are_out kind spoken o i loans old m x Weak f = omega (arith, ap (amount Weak) (x.counts f))
are_out kind spoken o i loans old m x Input f = omega (arith, ap (amount Input) (x.counts f))

module _ (kind : LoanKind) (spoken : ℕ → ℕ → Bool) (o i : ℕ) (loans : List Loan) (old m : Memory) (t : FrameTable) (unstrong : is_kind Strong kind ≡ false) (s : IsSound old) (x : HasLent kind spoken o i loans old m) (e : Ended loans m.frames t) (shaped : IsShaped t.page t.owners t.counts t.bytes) (lent : AreLoansOwned t.owners t.counts) where
  abbrev new : Memory
  new = record m { frames = t }

  no_loan : Loan
  no_loan = record { kind = Weak; frame = 0 }

  counts_back : (f : ℕ) → counts_at t f ≡ counts_at old.frames f
  counts_back f = e.counts f ∙ ap (less loans f) (x.counts f) ∙ less_more loans f (counts_at old.frames f)

  page_owner : (f : ℕ) → 0 < frame_times loans f → (p : ℕ) × (owner_at m.frames f ≡ Page p)
  page_owner f h =
      let k = frame_index loans no_loan f h in
      let y = page_in m o (i + k.0) f (x.placed k.0 no_loan k.1 ∙ ap Some k.2) in
      (y.number.0, x.sound.placed.in_frame y.number.0 (record { 0 = f }) y.is_place)

  owner_same : (f : ℕ) → owner_at t f ≡ owner_at m.frames f
  owner_same f = elim (some_or (frame_times loans f)) [
    | inl h ↦ let p = page_owner f h in e.owners f h ∙ ap (λ w. let_go w (counts_at t f)) p.1 ∙ sym p.1
    | inr z ↦ e.others f z
  ]

  strong_same : (f : ℕ) → (counts_at t f).strong ≡ (counts_at m.frames f).strong
  strong_same f = omega (arith, ap (λ (c : Counts). c.strong) (counts_back f), ap (λ (c : Counts). c.strong) (x.counts f), strong_none loans kind f no_loan unstrong (λ k l. x.kinds k no_loan l))

  can : CanEnd loans m.frames t
  can = record {
    wired = λ f w. ap is_held (counts_back f) ∙ s.wired f (omega (arith, w, ap (λ (c : Counts). c.wires) (counts_back f)));
    buffers = λ f h b. let p = page_owner f h in let bad : false ≡ true = sym (ap is_system p.1) ∙ b in cc;
  }

  pub taken_back : IsTakenBack spoken old m (record m { frames = t })
  taken_back = record {
    sound = ends_soundly m t loans x.sound shaped lent e can;
    is_seen = λ k slots. record {
      entry_bytes = λ a b. let u : FrameTable = record { page = e.page k; owners = t.owners; counts = t.counts; bytes = e.bytes k; meters = t.meters; landed = t.landed } in page_bytes u m.pages.pages slots (entry_at m.objects a b).page;
      kept_bytes = λ f. if (kept_by (owner_at t f) (counts_at t f) (counts_at m.frames f) (strong_same f) ∙ ap (λ w. is_kept w (counts_at m.frames f)) (owner_same f)) k then get_or (e.bytes k) f [] else [];
    };
    counts = counts_back;
    keeps = record {
      entry_held = x.keeps.entry_held;
      held = λ f h. ap is_held (counts_back f) ∙ h;
      lent = λ f l. let y = x.keeps.lent f l in record {
        lent = ap is_lent (counts_back f) ∙ l;
        bytes = ap (λ bs. get_or bs f []) e.bytes ∙ y.bytes;
        owner = elim y.owner [ inl d ↦ inl (owner_same f ∙ d) | inr d ↦ inr (d.0, owner_same f ∙ d.1) ];
      };
      loans = λ f. as_many (counts_at old.frames f) (counts_at t f) (counts_back f);
      systems = λ f. ap system_owner (owner_same f) ∙ x.keeps.systems f;
      entries = x.keeps.entries;
      number = e.size ∙ x.keeps.number;
      page = e.page ∙ x.keeps.page;
      slots = x.keeps.slots;
      most = x.keeps.most;
    };
    touches = record {
      entries = x.touches.entries;
      pages = x.touches.pages;
      outside = λ p u. let v = x.touches.outside p u in record { there = v.there; named = v.named };
      counts = λ p f u w. counts_back f.0;
    };
  }

pub back_seen : (spoken : ℕ → ℕ → Bool) (old m new : Memory) (v : StoreView) → IsTakenBack spoken old m new → seen_with new v ≡ seen_with m v
back_seen spoken old m new v x = ap (λ (g : (ℕ → List ℕ) → Seen). option_map g v.slots) x.is_seen

-- the same, with the loans as a slice
pub back_by : {X : Type 0} (loan_of : X → Loan) (kind : LoanKind) (unstrong : is_kind Strong kind ≡ false) (spoken : ℕ → ℕ → Bool) (o i : ℕ) (loans items : List X) (old m : Memory) (t : FrameTable) → IsSound old → items ≡ loans → HasLent kind spoken o i (map loan_of loans) old m → Ended (map loan_of items) m.frames t → IsShaped t.page t.owners t.counts t.bytes → AreLoansOwned t.owners t.counts → IsTakenBack spoken old m (record m { frames = t })
back_by loan_of kind unstrong spoken o i loans items old m t s e x y shaped lent = taken_back kind spoken o i (map loan_of loans) old m t unstrong s x (subst (λ xs. Ended (map loan_of xs) m.frames t) e y) shaped lent

pub slice_out : {X : Type 0} (loan_of : X → Loan) (kind : LoanKind) (spoken : ℕ → ℕ → Bool) (o i : ℕ) (loans items : List X) (old m : Memory) → items ≡ loans → HasLent kind spoken o i (map loan_of loans) old m → AreOut m.frames (map loan_of items)
slice_out loan_of kind spoken o i loans items old m e x = subst (λ xs. AreOut m.frames (map loan_of xs)) (sym e) (are_out kind spoken o i (map loan_of loans) old m x)
