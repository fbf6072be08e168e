-- A plan may be sent, and has the bytes of the range's pages.
use Rattle.std.proofs.Common.{◌^◌, ◌≡◌, Bool, ℕ, zero, suc, ◌+◌, ◌*◌, ◌/◌, ◌%◌, ◌<◌, ◌≤◌, List, [], ◌∷◌, ◌++◌, length, refl, ap, sym, ◌∙◌, arith, subst, get_or}
use Rattle.std.specs.Prelude.{Option, Some, None, IfSome, flat_map}
use Rattle.std.specs.List.{range_with_len}
use Rattle.std.specs.Option.{option_map}
use Rattle.std.proofs.lemmas.List.{get_or-map}
use Rattle.genie_base.specs.Bytes.{part}
use Rattle.genie_base.specs.Counts.{span}
use Rattle.genie_frame.specs.declared.frame.OutLoan.{OutLoan}
use Rattle.genie_frame.specs.FrameTable.{FrameTable, counts_at, bytes_at}
use Rattle.genie_store.specs.StoreView.{StoreView}
use Rattle.genie_object.specs.declared.memory.Memory.{Memory}
use Rattle.genie_object.specs.declared.objects.Range.{Range}
use Rattle.genie_object.specs.Objects.{entry_at}
use Rattle.genie_object.specs.Memory.{seen, page_bytes, entry_frame}
use Rattle.genie_plan.specs.Plans.{output_frames, joined, range_bytes, CanSend}
use Rattle.genie_plan.specs.Loans.{LoanKind, Weak, Loan, output_loan, output_loans, output_kind, loan_times}
use Rattle.genie_tcow.specs.Lending.{HasLent}
use Rattle.genie_object.specs.Touching.{is_in_range}
use Rattle.genie_plan.specs.Landings.{AreOfEntries, entries_bytes}
use Rattle.genie_tcow.specs.Ranges.{is_of_range, HoldsEntries, SendsRange, IsPlanOf}
use Rattle.genie_plan.specs.Lemmas.Ending.{outputs_are}
use Rattle.genie_tcow.proofs.Counting.{times_at}
use Rattle.genie_tcow.proofs.TakenBack.{are_out}

pub out_at : (loans : List OutLoan) (k : ℕ) (d : Loan) → k < length loans → (get_or (output_loans loans) k d).frame ≡ get_or (output_frames loans) k 0
out_at [] k d l = absurd (omega arith)
out_at (x ∷ loans) zero d l = refl
out_at (x ∷ loans) (suc k) d l = out_at loans k d (omega arith)

pub frame_at : (loans : List OutLoan) (k : ℕ) (d : OutLoan) → k < length loans → (get_or loans k d).frame.0 ≡ get_or (output_frames loans) k 0
frame_at [] k d l = absurd (omega arith)
frame_at (x ∷ loans) zero d l = refl
frame_at (x ∷ loans) (suc k) d l = frame_at loans k d (omega arith)

pub count_loans : (loans : List OutLoan) → length (output_loans loans) ≡ length loans
count_loans [] = refl
count_loans (x ∷ loans) = ap suc (count_loans loans)

pub count_frames : (loans : List OutLoan) → length (output_frames loans) ≡ length loans
count_frames [] = refl
count_frames (x ∷ loans) = ap suc (count_frames loans)

pub can_send : (kind : LoanKind) (id : ℕ) (spoken : ℕ → ℕ → Bool) (loans : List OutLoan) (old m : Memory) (v w : StoreView) → HasLent kind id spoken (output_loans loans) old m v w → (first len n page : ℕ) → length (output_loans loans) ≡ n → m.frames.page ≡ page → first + len < 2 ^ 32 → (0 < len → first + len ≤ page * n) → CanSend m.frames loans first len
can_send kind id spoken loans old m v w x first len n page number same fits covers = record {
  out = λ k d l.
      let loan = get_or loans k d in
      let l' : k < length (output_loans loans) = omega (arith, l, count_loans loans) in
      let is : get_or (output_loans loans) k (output_loan d) ≡ output_loan loan = get_or-map output_loan loans k d (output_loan d) l in
      let some : 0 < loan_times (output_loans loans) (output_kind loan.strong) loan.frame.0 = subst (λ (y : Loan). 0 < loan_times (output_loans loans) y.kind y.frame) is (times_at (output_loans loans) k (output_loan d) l') in
      omega (arith, some, are_out kind id spoken (output_loans loans) old m v w x (output_kind loan.strong) loan.frame.0, outputs_are loan.strong (counts_at m.frames loan.frame.0));
  within = λ p. let c = covers p in let count : length (output_frames loans) ≡ n = count_frames loans ∙ sym (count_loans loans) ∙ number in rw (same, count) c;
  fits = fits;
}

-- frames with the bytes of entries, one after the other
pub joined_entries : (frames : List ℕ) (bytes : List (List ℕ)) (f : ℕ → List ℕ) (i : ℕ) → ((k : ℕ) → k < length frames → get_or bytes (get_or frames k 0) [] ≡ f (i + k)) → joined bytes frames ≡ flat_map f (range_with_len i (length frames))
joined_entries [] bytes f i h = refl
joined_entries (g ∷ frames) bytes f i h =
    let here : i + 0 ≡ i = omega arith in
    let one : get_or bytes g [] ≡ f i = subst (λ n. get_or bytes g [] ≡ f n) here (h 0 (omega arith)) in
    let rest = joined_entries frames bytes f (i + 1) (λ k l. subst (λ n. get_or bytes (get_or frames k 0) [] ≡ f n) (omega arith) (h (suc k) (omega arith))) in
    λ k. one k ++ rest k

no_loan : Loan
no_loan = record { kind = Weak; frame = 0 }

-- whatever is known of each frame where the store tells its bytes gives what is known of the plan
pub told_range : (P : (ℕ → List ℕ) → ℕ → List ℕ → Type 0) (Q : (ℕ → List ℕ) → Type 0) (old : Memory) (v : StoreView) (o i : ℕ) (loans : List OutLoan) (t : FrameTable)
    → ((s : ℕ → List ℕ) → IfSome v.slots (λ told. told ≡ s) → ((k : ℕ) → k < length loans → P s k (bytes_at t (get_or (output_frames loans) k 0))) → Q s)
    → ((k : ℕ) (d : Loan) → k < length (output_loans loans) → IfSome v.slots (λ s. P s k (bytes_at t (get_or (output_loans loans) k d).frame))) → IfSome v.slots Q
told_range P Q old v o i loans t all each = told v.slots each all
  where
    told : (slots : Option (ℕ → List ℕ)) → ((k : ℕ) (d : Loan) → k < length (output_loans loans) → IfSome slots (λ s. P s k (bytes_at t (get_or (output_loans loans) k d).frame))) → ((s : ℕ → List ℕ) → IfSome slots (λ told. told ≡ s) → ((k : ℕ) → k < length loans → P s k (bytes_at t (get_or (output_frames loans) k 0))) → Q s) → IfSome slots Q
    told None e a = tt
    told (Some s) e a = a s refl (λ k l. subst (λ f. P s k (bytes_at t f)) (out_at loans k no_loan l) (e k no_loan (omega (arith, l, count_loans loans))))

told_bytes : (old : Memory) (slots : Option (ℕ → List ℕ)) (o i : ℕ) (P : List ℕ → Type 0) → IfSome (option_map (λ s. page_bytes old.frames old.pages.pages s (entry_at old.objects o i).page) slots) P → IfSome slots (λ s. P ((seen old s).entry_bytes o i))
told_bytes old None o i P h = tt
told_bytes old (Some s) o i P h = h

pub sends_entries : (old : Memory) (t : FrameTable) (v : StoreView) (o i : ℕ) (loans : List OutLoan) (first len n : ℕ) → length (output_loans loans) ≡ n → HoldsEntries old v o i (output_loans loans) t → IfSome v.slots (λ s. range_bytes t (output_frames loans) first len ≡ part first len (entries_bytes (seen old s) o i n))
sends_entries old t v o i loans first len n number x = told_range (λ s k b. b ≡ (seen old s).entry_bytes o (i + k)) (λ s. range_bytes t (output_frames loans) first len ≡ part first len (entries_bytes (seen old s) o i n)) old v o i loans t
    (λ s is all.
    let count : length (output_frames loans) ≡ n = count_frames loans ∙ sym (count_loans loans) ∙ number in
    ap (part first len) (joined_entries (output_frames loans) t.bytes ((seen old s).entry_bytes o) i (λ k l. all k (rw (count_frames loans) at l)) ∙ ap (λ c. flat_map ((seen old s).entry_bytes o) (range_with_len i c)) count))
    (λ k d l. told_bytes old v.slots o (i + k) (λ b. bytes_at t (get_or (output_loans loans) k d).frame ≡ b) (x k d l))

-- the frames of weak loans are those of the entries
pub of_entries : (m : Memory) (o i : ℕ) (loans : List OutLoan) → ((k : ℕ) (d : Loan) → k < length (output_loans loans) → entry_frame m o (i + k) ≡ Some (get_or (output_loans loans) k d).frame) → AreOfEntries m o i (output_frames loans)
of_entries m o i loans x k l =
    let l' : k < length loans = rw (count_frames loans) at l in
    x k no_loan (omega (arith, l', count_loans loans)) ∙ ap Some (out_at loans k no_loan l')

-- the plan is one of the range
pub plan_of : (page p n : ℕ) (range : Range) (loans : List OutLoan) → p ≡ page → n ≡ span p range.off range.len → length (output_loans loans) ≡ n → IsPlanOf page range loans (range.off % p) range.len
plan_of page p n range loans same count number = record {
  number = sym (count_loans loans) ∙ number ∙ count ∙ ap (λ q. span q range.off range.len) same;
  first = ap (λ q. range.off % q) same;
  len = refl;
}

pub range_sent : (old new : Memory) (v : StoreView) (range : Range) (loans : List OutLoan) (p n : ℕ) → p ≡ old.frames.page → n ≡ span p range.off range.len → length (output_loans loans) ≡ n → HoldsEntries old v range.object.0 (range.off / p) (output_loans loans) new.frames → SendsRange old new v range loans (range.off % p) range.len
range_sent old new v range loans p n same count number x = subst (λ q. IfSome v.slots (λ s. range_bytes new.frames (output_frames loans) (range.off % p) range.len ≡ part (range.off % p) range.len (entries_bytes (seen old s) range.object.0 (range.off / q) (span q range.off range.len)))) same (sends_entries old new.frames v range.object.0 (range.off / p) loans (range.off % p) range.len (span p range.off range.len) (number ∙ count) x)

-- the entries of the range
pub range_spoken : (page p n : ℕ) (range : Range) → p ≡ page → n ≡ span p range.off range.len → is_in_range range.object.0 (range.off / p) n ≡ is_of_range page range
range_spoken page p n range same count = λ k. is_in_range range.object.0 (range.off / same k) ((count ∙ ap (λ q. span q range.off range.len) same) k)
