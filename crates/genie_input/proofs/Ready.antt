-- A plan on the pages of a region is ready.
use Rattle.std.proofs.Common.{◌≡◌, ℕ, zero, suc, ◌+◌, ◌*◌, ◌/◌, ◌%◌, ◌^◌, ◌<◌, ◌≤◌, Bool, true, false, List, [], ◌∷◌, length, refl, ap, sym, ◌∙◌, arith, subst, get_or, inl, inr, ◌⊎◌}
use Rattle.std.specs.Prelude.{Some, ◌==◌}
use Rattle.genie_base.specs.Lemmas.Places.{same_or, num}
use Rattle.genie_frame.specs.declared.frame.InLoan.{InLoan}
use Rattle.genie_frame.specs.declared.frame.Owner.TheVariants.{Page}
use Rattle.genie_frame.specs.declared.frame.Counts.{Counts}
use Rattle.genie_frame.specs.FrameTable.{counts_at, is_held}
use Rattle.genie_object.specs.declared.memory.Memory.{Memory}
use Rattle.genie_object.specs.Memory.{entry_frame}
use Rattle.genie_object.specs.Sound.{IsSound}
use Rattle.genie_object.specs.Lemmas.Naming.{named_once}
use Rattle.genie_plan.specs.Plans.{input_frames, times, AreApart, CanLand}
use Rattle.genie_plan.specs.Loans.{Loan, Input, input_loan, input_loans, loan_times}
use Rattle.genie_plan.specs.Lemmas.Ending.{loan_cons, same_test}
use Rattle.genie_plan.specs.Lemmas.Ranges.{times-cons, other_num}
use Rattle.genie_plan.specs.Landings.{AreOfEntries}
use Rattle.genie_plan.specs.Lemmas.Landings.{page_in, times_some}
use Rattle.genie_base.specs.Counts.{span}
use Rattle.genie_input.specs.Lending.{HasLent, LiesIn}
use Rattle.genie_input.proofs.Lent.{lent_held}

held_once : (m : Memory) (a b o i f : ℕ) → IsSound m → is_held (counts_at m.frames f) ≡ true → entry_frame m a b ≡ Some f → entry_frame m o i ≡ Some f → (a ≡ o) × (b ≡ i)
held_once m a b o i f s h e d =
    let x = page_in m a b f e in
    let y = page_in m o i f d in
    let own = s.placed.in_frame x.number.0 (record { 0 = f }) x.is_place in
    let two : Page x.number.0 ≡ Page y.number.0 = sym own ∙ s.placed.in_frame y.number.0 (record { 0 = f }) y.is_place in
    let number : x.number.0 ≡ y.number.0 = cc in
    let same : x.number ≡ y.number = λ k. record { 0 = number k } in
    named_once m.pages.pages m.objects a b o i x.number s.shared (s.held.alone f x.number.0 own h) x.is_page (y.is_page ∙ ap Some (sym same))

-- the frames of different entries that a device holds are different
apart : (frames : List ℕ) (m : Memory) (o i : ℕ) → IsSound m → AreOfEntries m o i frames → ((k : ℕ) → k < length frames → is_held (counts_at m.frames (get_or frames k 0)) ≡ true) → AreApart frames
apart [] m o i s p h f = omega arith
apart (g ∷ frames) m o i s p h f = elim (same_or g f) [
  | inr n ↦ let rest = apart frames m o (suc i) s (λ k l. next k l) (λ k l. h (suc k) (omega arith)) f in omega (arith, times-cons g f frames, other_num g f n, rest)
  | inl e ↦ elim (none_or (times frames f)) [
    | inl z ↦ omega (arith, times-cons g f frames, z, num_small (g == f))
    | inr q ↦
        let t = times_some frames f q in
        let here : entry_frame m o (i + 0) ≡ Some g = p 0 (omega arith) in
        let there : entry_frame m o (i + suc t.0) ≡ Some g = p (suc t.0) (omega (arith, t.1)) ∙ ap Some (t.2 ∙ sym e) in
        let one = held_once m o (i + 0) o (i + suc t.0) g s (h 0 (omega arith)) here there in
        absurd (omega (arith, one.1))
  ]
]
  where
    next : (k : ℕ) → k < length frames → entry_frame m o (suc i + k) ≡ Some (get_or frames k 0)
    next k l = let same : i + suc k ≡ suc i + k = omega arith in subst (λ n. entry_frame m o n ≡ Some (get_or frames k 0)) same (p (suc k) (omega arith))

    none_or : (n : ℕ) → (n ≡ 0) ⊎ (0 < n)
    none_or zero = inl refl
    none_or (suc n) = inr (omega arith)

    num_small : (b : Bool) → num b ≤ 1
    num_small true = omega arith
    num_small false = omega arith

loan_at : (loans : List InLoan) (k : ℕ) (d : Loan) → k < length loans → (get_or (input_loans loans) k d).frame ≡ get_or (input_frames loans) k 0
loan_at [] k d l = absurd (omega arith)
loan_at (x ∷ loans) zero d l = refl
loan_at (x ∷ loans) (suc k) d l = loan_at loans k d (omega arith)

count_loans : (loans : List InLoan) → length (input_loans loans) ≡ length loans
count_loans [] = refl
count_loans (x ∷ loans) = ap suc (count_loans loans)

count_frames : (loans : List InLoan) → length (input_frames loans) ≡ length loans
count_frames [] = refl
count_frames (x ∷ loans) = ap suc (count_frames loans)

no_loan : Loan
no_loan = record { kind = Input; frame = 0 }

times_at : (loans : List InLoan) (k : ℕ) → k < length loans → 0 < loan_times (input_loans loans) Input (get_or (input_frames loans) k 0)
times_at [] k l = absurd (omega arith)
times_at (x ∷ loans) zero l = omega (arith, loan_cons (input_loan x) (input_loans loans) Input x.frame.0, ap num (same_test x.frame.0 x.frame.0 refl))
times_at (x ∷ loans) (suc k) l = let l' : k < length loans = omega arith in omega (arith, loan_cons (input_loan x) (input_loans loans) Input (get_or (input_frames loans) k 0), times_at loans k l')

module _ (spoken : ℕ → ℕ → Bool) (o i : ℕ) (loans : List InLoan) (old m : Memory) (x : HasLent Input spoken o i (input_loans loans) old m) where
  pub in_entries : AreOfEntries m o i (input_frames loans)
  in_entries k l =
      let l' : k < length loans = rw (count_frames loans) at l in
      x.placed k no_loan (omega (arith, l', count_loans loans)) ∙ ap Some (loan_at loans k no_loan l')

  pub in_ready : (first len n page : ℕ) → length (input_loans loans) ≡ n → m.frames.page ≡ page → first + len < 2 ^ 32 → (0 < len → first + len ≤ page * n) → CanLand m.frames (input_frames loans) first len
  in_ready first len n page number same fits covers = record {
    out = λ k l.
        let l' : k < length loans = rw (count_frames loans) at l in
        omega (arith, ap (λ (c : Counts). c.input) (x.counts (get_or (input_frames loans) k 0)), times_at loans k l');
    apart = apart (input_frames loans) m o i x.sound in_entries (λ k l.
        let l' : k < length loans = rw (count_frames loans) at l in
        subst (λ f. is_held (counts_at m.frames f) ≡ true) (loan_at loans k no_loan l') (lent_held Input spoken o i (input_loans loans) old m k no_loan refl x (omega (arith, l', count_loans loans))));
    within = λ p. let w = covers p in let count : length (input_frames loans) ≡ n = count_frames loans ∙ sym (count_loans loans) ∙ number in rw (same, count) w;
    fits = fits;
  }

-- the plan of a range on the range's pages
pub lies_in : (o off len page n : ℕ) (spoken : ℕ → ℕ → Bool) (loans : List InLoan) (old m : Memory) → page ≡ old.frames.page → HasLent Input spoken o (off / page) (input_loans loans) old m → length (input_loans loans) ≡ n → n ≡ span page off len → off % page + len < 2 ^ 32 → (0 < len → off % page + len ≤ page * n) → LiesIn m o off len (input_frames loans) (off % page) len
lies_in o off len page n spoken loans old m p x number count fits covers =
    let e : m.frames.page ≡ page = x.keeps.page ∙ sym p in
    record {
      number = count_frames loans ∙ sym (count_loans loans) ∙ number ∙ count ∙ ap (λ q. span q off len) (sym e);
      first_is = ap (λ q. off % q) (sym e);
      len_is = refl;
      of_entries = subst (λ q. AreOfEntries m o (off / q) (input_frames loans)) (sym e) (in_entries spoken o (off / page) loans old m x);
      ready = in_ready spoken o (off / page) loans old m x (off % page) len n page number e fits covers;
    }
