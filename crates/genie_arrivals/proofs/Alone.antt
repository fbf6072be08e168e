-- The frames of a strong input's own buffer carry its loans alone.
use Rattle.std.proofs.Common.{◌≡◌, ℕ, ◌+◌, ◌<◌, ◌≤◌, zero, suc, Bool, true, false, not, cond, List, [], ◌∷◌, refl, sym, ap, subst, arith, rules, ◌∙◌, length, map, get_or, ⊎_elim, inl, inr, eq-eqb}
use Rattle.std.specs.Prelude.{Option, Some, find, filter, sum_by, ◌==◌, ◌&&◌, ◌||◌, if◌then◌else◌}
use Rattle.std.specs.List.{list_any}
use Rattle.std.proofs.lemmas.List.Sums.{sum_by-cons}
use Rattle.genie_base.specs.Lemmas.Places.{num}
use Rattle.genie_base.specs.Transfers.{is_emulated}
use Rattle.genie_frame.specs.declared.frame.InLoan.{InLoan}
use Rattle.genie_frame.specs.declared.frame.OutLoan.{OutLoan}
use Rattle.genie_frame.specs.declared.frame.Owner.{Owner}
use Rattle.genie_frame.specs.declared.frame.Owner.TheVariants.{Free, System, Pool}
use Rattle.genie_frame.specs.FrameTable.{owner_at, counts_at, is_system}
use Rattle.genie_input.specs.Buffers.{one_input, IsBuffer, AreBuffers}
use Rattle.genie_input.specs.Pools.{PoolState}
use Rattle.genie_plan.specs.Loans.{Loan, LoanKind, is_kind, loan_times, input_loan, input_loans, output_loan}
use Rattle.genie_plan.specs.Loans as kind
use Rattle.genie_plan.specs.Plans.{times, input_frames}
use Rattle.genie_model.specs.Lemmas.Lists.{Has, has_at, has_any}
use Rattle.genie_model.specs.Tables.{entry, without}
use Rattle.genie_kernel.specs.declared.kernel.Kernel.{Kernel}
use Rattle.genie_kernel.specs.declared.transfer.Loans.{Loans}
use Rattle.genie_kernel.specs.declared.transfer.Loans.TheVariants.{Nothing, Outward, Inward}
use Rattle.genie_kernel.specs.declared.transfer.Transfer.{Transfer}
use Rattle.genie_kernel.specs.Calls.{has_number, is_strong_call, number_of}
use Rattle.genie_kernel.specs.Counted.{loans_on, wires_on, is_wiring, pool_on}
use Rattle.genie_kernel.specs.Good.{IsGood}
use Rattle.genie_kernel.specs.Loans.{frames_of, loans_of, has_frame}
use Rattle.genie_kernel.specs.Owners.{holders}
use Rattle.genie_kernel.specs.Planned.{AreItsOwn}
use Rattle.genie_kernel.specs.Lemmas.Beside.{sum_beside}

-- a frame that isn't among these isn't counted
pub times_none : (f : ℕ) (frames : List ℕ) → list_any (λ g. g == f) frames ≡ false → times frames f ≡ 0
times_none f [] e = refl
times_none f (g ∷ frames) e = elim (g == f) as (λ b. (g == f) ≡ b → (b || list_any (λ h. h == f) frames) ≡ false → times (g ∷ frames) f ≡ 0) [
  | true ↦ λ is h. absurd (cc)
  | false ↦ λ is h.
      let here : num (g == f) ≡ 0 = ap num is in
      omega (arith, times_none f frames h, here, sum_by-cons (λ (h : ℕ). num (h == f)) g frames)
] refl e

pub times_some : (f : ℕ) (frames : List ℕ) → list_any (λ g. g == f) frames ≡ true → 1 ≤ times frames f
times_some f [] e = absurd (cc)
times_some f (g ∷ frames) e = elim (g == f) as (λ b. (g == f) ≡ b → (b || list_any (λ h. h == f) frames) ≡ true → 1 ≤ times (g ∷ frames) f) [
  | true ↦ λ is h.
      let here : num (g == f) ≡ 1 = ap num is in
      omega (arith, here, sum_by-cons (λ (h : ℕ). num (h == f)) g frames)
  | false ↦ λ is h. omega (arith, times_some f frames h, sum_by-cons (λ (h : ℕ). num (h == f)) g frames)
] refl e

-- loans of one kind on a frame
module _ {X : Type 0} (frame : X → ℕ) (loan : X → Loan) (same : (x : X) → (loan x).frame ≡ frame x) where
  few_loans : (wanted : LoanKind) (f : ℕ) (xs : List X) → loan_times (map loan xs) wanted f ≤ times (map frame xs) f
  few_loans wanted f [] = omega arith
  few_loans wanted f (x ∷ xs) =
      let here : cond (is_kind wanted (loan x).kind && ((loan x).frame == f)) 1 0 ≤ cond (frame x == f) 1 0 = subst (λ j. cond (is_kind wanted (loan x).kind && (j == f)) 1 0 ≤ cond (frame x == f) 1 0) (sym (same x)) (both_less (is_kind wanted (loan x).kind) (frame x == f)) in
      omega (arith, here, few_loans wanted f xs, sum_by-cons (λ (y : Loan). cond (is_kind wanted y.kind && (y.frame == f)) 1 0) (loan x) (map loan xs), sum_by-cons (λ (g : ℕ). cond (g == f) 1 0) (frame x) (map frame xs))
    where
      both_less : (a b : Bool) → cond (a && b) 1 0 ≤ cond b 1 0
      both_less true true = omega arith
      both_less true false = omega arith
      both_less false true = omega arith
      both_less false false = omega arith

pub loans_few : (wanted : LoanKind) (f : ℕ) (loans : Loans) → loan_times (loans_of loans) wanted f ≤ times (frames_of loans) f
loans_few wanted f Nothing = omega arith
loans_few wanted f (Outward p) = few_loans (λ (x : OutLoan). x.frame.0) output_loan (λ x. refl) wanted f p.loans.items
loans_few wanted f (Inward p) = few_loans (λ (x : InLoan). x.frame.0) input_loan (λ x. refl) wanted f p.loans.items

-- a transfer without the frame has no loan and no wire on it
pub no_loan : (wanted : LoanKind) (f : ℕ) (t : Transfer) → has_frame f t ≡ false → loans_on wanted f t ≡ 0
no_loan wanted f t e = omega (arith, loans_few wanted f t.loans, times_none f (frames_of t.loans) e)

none_if : (b : Bool) (n : ℕ) → n ≡ 0 → (if b then n else 0) ≡ 0
none_if true n e = e
none_if false n e = refl

pub no_wire : (f : ℕ) (t : Transfer) → has_frame f t ≡ false → wires_on f t ≡ 0
no_wire f t e = none_if (is_wiring t) (times (frames_of t.loans) f) (times_none f (frames_of t.loans) e)

-- input loans
pub input_times : (f : ℕ) (loans : List InLoan) → loan_times (input_loans loans) kind.Input f ≡ times (input_frames loans) f
input_times f [] = refl
input_times f (x ∷ loans) = omega (arith, input_times f loans, sum_by-cons (λ (y : Loan). cond (is_kind kind.Input y.kind && (y.frame == f)) 1 0) (input_loan x) (input_loans loans), sum_by-cons (λ (g : ℕ). cond (g == f) 1 0) x.frame.0 (input_frames loans))

pub none_strong : (f : ℕ) (loans : List InLoan) → loan_times (input_loans loans) kind.Strong f ≡ 0
none_strong f [] = refl
none_strong f (x ∷ loans) = omega (arith, none_strong f loans, sum_by-cons (λ (y : Loan). cond (is_kind kind.Strong y.kind && (y.frame == f)) 1 0) (input_loan x) (input_loans loans))

pub none_weak : (f : ℕ) (loans : List InLoan) → loan_times (input_loans loans) kind.Weak f ≡ 0
none_weak f [] = refl
none_weak f (x ∷ loans) = omega (arith, none_weak f loans, sum_by-cons (λ (y : Loan). cond (is_kind kind.Weak y.kind && (y.frame == f)) 1 0) (input_loan x) (input_loans loans))

-- what no element has has sum 0
sum_none : {X : Type 0} (h : X → ℕ) (xs : List X) → ((x : X) → Has x xs → h x ≡ 0) → sum_by h xs ≡ 0
sum_none h [] z = refl
sum_none h (x ∷ xs) z = let here = z x (inl refl) in omega (arith, here, sum_none h xs (λ y i. z y (inr i)), sum_by-cons h x xs)

unheld : (f : ℕ) (ts : List Transfer) → map number_of (filter (has_frame f) ts) ≡ [] → (u : Transfer) → Has u ts → has_frame f u ≡ false
unheld f [] e u h = absurd h
unheld f (x ∷ ts) e u h = elim (has_frame f x) as (λ b. has_frame f x ≡ b → map number_of (cond b (x ∷ filter (has_frame f) ts) (filter (has_frame f) ts)) ≡ [] → has_frame f u ≡ false) [
  | true ↦ λ is none. absurd (cc)
  | false ↦ λ is none. ⊎_elim (λ (here : x ≡ u). sym (ap (has_frame f) here) ∙ is) (λ later. unheld f ts none u later) h
] refl e

first_number : (a b : ℕ) (xs : List ℕ) → a ∷ xs ≡ b ∷ [] → (a ≡ b) × (xs ≡ [])
first_number a b xs e = (cc, cc)

-- where a frame is its alone, no other transfer has it
pub others_unheld : (n f : ℕ) (ts : List Transfer) (t : Transfer) → find (has_number n) ts ≡ Some t → has_frame f t ≡ true → holders ts f ≡ n ∷ [] → (u : Transfer) → Has u (without (has_number n) ts) → has_frame f u ≡ false
others_unheld n f [] t found on is u h = absurd h
others_unheld n f (x ∷ ts) t found on is u h = elim (has_number n x) as (λ b. has_number n x ≡ b → cond b (Some x) (find (has_number n) ts) ≡ Some t → Has u (cond b ts (x ∷ without (has_number n) ts)) → has_frame f u ≡ false) [
  | true ↦ λ e here i.
      let same : x ≡ t = cc in
      let held : has_frame f x ≡ true = ap (has_frame f) same ∙ on in
      let first : number_of x ∷ map number_of (filter (has_frame f) ts) ≡ n ∷ [] = sym (ap (λ b. map number_of (cond b (x ∷ filter (has_frame f) ts) (filter (has_frame f) ts))) held) ∙ is in
      unheld f ts (first_number (number_of x) n (map number_of (filter (has_frame f) ts)) first).1 u i
  | false ↦ λ e later i.
      elim (has_frame f x) as (λ b. has_frame f x ≡ b → map number_of (cond b (x ∷ filter (has_frame f) ts) (filter (has_frame f) ts)) ≡ n ∷ [] → has_frame f u ≡ false) [
        | true ↦ λ held first.
            let number : number_of x ≡ n = (first_number (number_of x) n (map number_of (filter (has_frame f) ts)) first).0 in
            let yes : has_number n x ≡ true = grind (arith, rules, number) in
            let never : false ≡ true = sym e ∙ yes in absurd (cc)
        | false ↦ λ none rest. ⊎_elim (λ (here : x ≡ u). sym (ap (has_frame f) here) ∙ none) (λ more. others_unheld n f ts t later on rest u more) i
      ] refl is
] refl found h

sum_alone : (n f : ℕ) (ts : List Transfer) (t : Transfer) (h : Transfer → ℕ) → find (has_number n) ts ≡ Some t → has_frame f t ≡ true → holders ts f ≡ n ∷ [] → ((u : Transfer) → has_frame f u ≡ false → h u ≡ 0) → sum_by h ts ≡ h t
sum_alone n f ts t h found on is none = omega (arith, sum_beside (has_number n) t h ts found, sum_none h (without (has_number n) ts) (λ u i. none u (others_unheld n f ts t found on is u i)))

pools_none : (f : ℕ) (pools : List (Option PoolState)) → ((d : ℕ) → pool_on f (entry pools d) ≡ 0) → sum_by (pool_on f) pools ≡ 0
pools_none f [] z = refl
pools_none f (p ∷ pools) z = let here = z zero in omega (arith, here, pools_none f pools (λ d. z (suc d)), sum_by-cons (pool_on f) p pools)

none_or_some : (n : ℕ) → (0 < n → ⊥) → n ≡ 0
none_or_some zero h = refl
none_or_some (suc n) h = absurd (h (omega arith))

owned_there : (f j : ℕ) (owners : List Owner) → get_or owners f Free ≡ System j → f < length owners
owned_there f j [] e = absurd (cc)
owned_there zero j (x ∷ owners) e = omega arith
owned_there (suc f) j (x ∷ owners) e = omega (arith, owned_there f j owners e)

pub frame_there : (frames : List ℕ) (j : ℕ) → j < length frames → list_any (λ g. g == get_or frames j 0) frames ≡ true
frame_there frames j l = has_any (λ g. g == get_or frames j 0) (get_or frames j 0) frames (has_at frames j 0 l) (eq-eqb (get_or frames j 0) (get_or frames j 0) refl)

module _ (k : Kernel) (n : ℕ) (t : Transfer) (g : IsGood k) (found : find (has_number n) k.transfers ≡ Some t) (strong : is_strong_call t ≡ true) (loans : List InLoan) (is_loans : loans_of t.loans ≡ input_loans loans) (is_frames : frames_of t.loans ≡ input_frames loans) (own : AreItsOwn k.memory.frames.owners n (frames_of t.loans)) where
  -- a frame of its buffer has one loan, which is its own
  alone_on : (f : ℕ) → has_frame f t ≡ true → owner_at k.memory.frames f ≡ System n → counts_at k.memory.frames f ≡ one_input
  alone_on f on owner =
      let is : holders k.transfers f ≡ n ∷ [] = g.owners.system f n owner in
      let by : (h : Transfer → ℕ) → ((u : Transfer) → has_frame f u ≡ false → h u ≡ 0) → sum_by h k.transfers ≡ h t = λ h none. sum_alone n f k.transfers t h found on is none in
      let one : times (frames_of t.loans) f ≡ 1 = omega (arith, own.apart f, times_some f (frames_of t.loans) on) in
      let input : loans_on kind.Input f t ≡ 1 = ap (λ l. loan_times l kind.Input f) is_loans ∙ input_times f loans ∙ ap (λ l. times l f) (sym is_frames) ∙ one in
      let lent : loans_on kind.Strong f t ≡ 0 = ap (λ l. loan_times l kind.Strong f) is_loans ∙ none_strong f loans in
      let weak : loans_on kind.Weak f t ≡ 0 = ap (λ l. loan_times l kind.Weak f) is_loans ∙ none_weak f loans in
      let wires : wires_on f t ≡ 0 = ap (λ b. if not b && not (is_emulated t.sem) then times (frames_of t.loans) f else 0) strong in
      let pooled : sum_by (pool_on f) k.pools ≡ 0 = pools_none f k.pools (λ d. none_or_some (pool_on f (entry k.pools d)) (λ l. let pool = g.owners.pool_frames f d l in let clash : System n ≡ Pool d = sym owner ∙ pool in cc)) in
      let inputs : sum_by (loans_on kind.Input f) k.transfers + sum_by (pool_on f) k.pools ≡ 1 = omega (arith, by (loans_on kind.Input f) (no_loan kind.Input f), input, pooled) in
      g.counted f ∙ (λ i. record { strong = (by (loans_on kind.Strong f) (no_loan kind.Strong f) ∙ lent) i; weak = (by (loans_on kind.Weak f) (no_loan kind.Weak f) ∙ weak) i; input = inputs i; wires = (by (wires_on f) (no_wire f) ∙ wires) i })

  buffer_at : (j : ℕ) → j < length (frames_of t.loans) → IsBuffer k.memory.frames (get_or (frames_of t.loans) j 0)
  buffer_at j l =
      let f : ℕ = get_or (frames_of t.loans) j 0 in
      let owner : owner_at k.memory.frames f ≡ System n = own.own j 0 l in
      record { there = owned_there f n k.memory.frames.owners owner; own = ap is_system owner; lent = alone_on f (frame_there (frames_of t.loans) j l) owner }

  pub are_buffers : AreBuffers k.memory.frames (input_frames loans)
  are_buffers = subst (AreBuffers k.memory.frames) is_frames (record { each = buffer_at; apart = own.apart })
