-- What a call of the memory keeps beside.
use Rattle.std.proofs.Common.{◌≡◌, ◌≢◌, ℕ, ◌+◌, ◌<◌, Bool, true, false, cond, List, [], ◌∷◌, refl, sym, ap, subst, arith, rules, ◌∙◌, ⊎_elim, inl, inr, map, get_or}
use Rattle.std.specs.Prelude.{Option, Some, All, find, ◌==◌, ◌&&◌, ◌||◌}
use Rattle.std.specs.List.{list_any}
use Rattle.std.proofs.lemmas.Bool.{cases_Bool}
use Rattle.std.proofs.lemmas.List.Sums.{sum_by-cons}
use Rattle.genie_frame.specs.declared.frame.Counts.{Counts}
use Rattle.genie_frame.specs.declared.frame.InLoan.{InLoan}
use Rattle.genie_frame.specs.declared.frame.OutLoan.{OutLoan}
use Rattle.genie_frame.specs.declared.frame.Owner.{Owner}
use Rattle.genie_frame.specs.declared.frame.Owner.TheVariants.{Free, Pool, Nobody}
use Rattle.genie_frame.specs.FrameTable.{FrameTable, owner_at, counts_at, is_lent, is_page, Agree}
use Rattle.genie_object.specs.declared.memory.Memory.{Memory}
use Rattle.genie_object.specs.Objects.{entry_at}
use Rattle.genie_object.specs.Sound.{IsSound, FitsHidden}
use Rattle.genie_object.specs.Touching.{KeepsLoans, Touches, Lasts}
use Rattle.genie_hiding.specs.Hidden.{is_among}
use Rattle.genie_hiding.specs.Lemmas.Naming.{fits_kept}
use Rattle.genie_plan.specs.Loans.{Loan, LoanKind, is_kind, loan_times, output_loan, input_loan}
use Rattle.genie_plan.specs.Loans as kind
use Rattle.genie_region.specs.declared.region.Region.{Region}
use Rattle.genie_model.specs.Lemmas.Lists.{Has, find_has}
use Rattle.genie_kernel.specs.declared.kernel.Kernel.{Kernel}
use Rattle.genie_kernel.specs.declared.transfer.Loans.{Loans}
use Rattle.genie_kernel.specs.declared.transfer.Loans.TheVariants.{Nothing, Outward, Inward}
use Rattle.genie_kernel.specs.declared.transfer.Transfer.{Transfer}
use Rattle.genie_kernel.specs.Backed.{AreGuarded}
use Rattle.genie_kernel.specs.Calls.{has_number}
use Rattle.genie_kernel.specs.Counted.{loans_on, lent_of}
use Rattle.genie_kernel.specs.Good.{IsGood}
use Rattle.genie_kernel.specs.Kept.{Kept, KeepsOwner}
use Rattle.genie_kernel.specs.Loans.{frames_of, loans_of, has_frame}
use Rattle.genie_kernel.specs.Lemmas.Staying.{at_least, pool_same}

-- entries that permitted no writing permit none where they gain nothing
pub guards_kept : (spoken : ℕ → ℕ → Bool) (old new : Memory) (regions : List Region) → Touches spoken old new → All (λ (r : Region). r.writable ≡ false → (i : ℕ) → spoken r.object.0 i ≡ false) regions → AreGuarded old.objects regions → AreGuarded new.objects regions
guards_kept spoken old new regions touches silent guarded = λ k d l shut i.
    let o : ℕ = (get_or regions k d).object.0 in
    let was = guarded k d l shut i in
    let narrows = touches.entries o i (silent k d l shut i) in
    ⊎_elim
    (λ (yes : (entry_at new.objects o i).writable ≡ true). let before = narrows.writable yes in cc)
    (λ no. no)
    (cases_Bool (entry_at new.objects o i).writable)

pub hidden_kept : (spoken : ℕ → ℕ → Bool) (old new : Memory) (objects : List ℕ) → IsSound old → KeepsLoans old new → Touches spoken old new → ((o i : ℕ) → is_among o objects ≡ true → spoken o i ≡ false) → FitsHidden old objects → FitsHidden new objects
hidden_kept spoken old new objects sound keeps touches silent fits = fits_kept spoken old new objects sound touches keeps.entries silent fits

one_kind : (k : LoanKind) (b : Bool) → b ≡ true → cond (is_kind kind.Strong k && b) 1 0 + cond (is_kind kind.Weak k && b) 1 0 + cond (is_kind kind.Input k && b) 1 0 ≡ 1
one_kind kind.Strong b e = rw e refl
one_kind kind.Weak b e = rw e refl
one_kind kind.Input b e = rw e refl

abbrev all_times : List Loan → ℕ → ℕ
all_times loans f = loan_times loans kind.Strong f + loan_times loans kind.Weak f + loan_times loans kind.Input f

-- a frame of a plan has a loan of it
some_loan : {X : Type 0} (frame : X → ℕ) (loan : X → Loan) (f : ℕ) (xs : List X) → ((x : X) → (loan x).frame ≡ frame x) → list_any (λ g. g == f) (map frame xs) ≡ true → 0 < all_times (map loan xs) f
some_loan frame loan f [] same e = absurd (cc)
some_loan frame loan f (x ∷ xs) same e =
    let strong = sum_by-cons (λ (y : Loan). cond (is_kind kind.Strong y.kind && (y.frame == f)) 1 0) (loan x) (map loan xs) in
    let weak = sum_by-cons (λ (y : Loan). cond (is_kind kind.Weak y.kind && (y.frame == f)) 1 0) (loan x) (map loan xs) in
    let input = sum_by-cons (λ (y : Loan). cond (is_kind kind.Input y.kind && (y.frame == f)) 1 0) (loan x) (map loan xs) in
    elim (frame x == f) as (λ b. (frame x == f) ≡ b → (b || list_any (λ g. g == f) (map frame xs)) ≡ true → 0 < all_times (loan x ∷ map loan xs) f) [
      | true ↦ λ is h. let on : ((loan x).frame == f) ≡ true = ap (λ n. n == f) (same x) ∙ is in let one = one_kind (loan x).kind ((loan x).frame == f) on in omega (arith, strong, weak, input, one)
      | false ↦ λ is h. let later = some_loan frame loan f xs same h in omega (arith, strong, weak, input, later)
    ] refl e

lent_for : (f : ℕ) (loans : Loans) → list_any (λ g. g == f) (frames_of loans) ≡ true → 0 < all_times (loans_of loans) f
lent_for f Nothing e = absurd (cc)
lent_for f (Outward p) e = some_loan (λ (x : OutLoan). x.frame.0) output_loan f p.loans.items (λ x. refl) e
lent_for f (Inward p) e = some_loan (λ (x : InLoan). x.frame.0) input_loan f p.loans.items (λ x. refl) e

some_lent : (c : Counts) → 0 < c.strong + c.weak + c.input → is_lent c ≡ true
some_lent c l = grind (arith, rules, l)

-- a frame of a pending transfer is lent
pub transfer_lent : (k : Kernel) (f : ℕ) (t : Transfer) → IsGood k → Has t k.transfers → has_frame f t ≡ true → is_lent (counts_at k.memory.frames f) ≡ true
transfer_lent k f t g there on =
    let some = lent_for f t.loans on in
    subst (λ c. is_lent c ≡ true) (sym (g.counted f)) (some_lent (lent_of k.transfers k.pools f) (omega (arith, some, at_least (loans_on kind.Strong f) k.transfers t there, at_least (loans_on kind.Weak f) k.transfers t there, at_least (loans_on kind.Input f) k.transfers t there)))

lent_unfree : (owner : Owner) (c : Counts) → Agree owner c → is_lent c ≡ true → owner ≢ Free
lent_unfree owner c agree lent free = let no = agree.free free in cc

owner_kept : (old new : FrameTable) (f : ℕ) → Agree (owner_at old f) (counts_at old f) → is_lent (counts_at old f) ≡ true → Lasts old new f → KeepsOwner (owner_at old f) (owner_at new f)
owner_kept old new f agree lent lasts = ⊎_elim
    (λ same. record { owner = inl same; unfreed = λ free. lent_unfree (owner_at old f) (counts_at old f) agree lent (sym same ∙ free) })
    (λ (left : (is_page (owner_at old f) ≡ true) × (owner_at new f ≡ Nobody)). record { owner = inr left.1; unfreed = λ free. let clash : Nobody ≡ Free = sym left.1 ∙ free in cc })
    lasts.owner

pooled_kept : (before after : Owner) (d : ℕ) → before ≡ Pool d → after ≡ Pool d → KeepsOwner before after
pooled_kept before after d was is = record { owner = inl (is ∙ sym was); unfreed = λ free. let clash : Pool d ≡ Free = sym is ∙ free in cc }

same_one : (o : Option Transfer) (t u : Transfer) → o ≡ Some t → o ≡ Some u → t ≡ u
same_one o t u a b = let e : Some t ≡ Some u = sym a ∙ b in cc

-- no frame is freed or gets another owner by a call that keeps loans, while a device holds it
pub calls_kept : (k : Kernel) (m : Memory) → IsGood k → KeepsLoans k.memory m → Kept k (record k { memory = m })
calls_kept k m g keeps = record {
  lent = λ n f t u p on still.
      let there = (find_has (has_number n) k.transfers t p.was).0 in
      let lent = transfer_lent k f t g there on in
      owner_kept k.memory.frames m.frames f (g.sound.lent f) lent (keeps.lent f lent);
  pooled = λ d f on still.
      let was = g.owners.pool_frames f d on in
      pooled_kept (owner_at k.memory.frames f) (owner_at m.frames f) d was (pool_same (owner_at k.memory.frames f) (owner_at m.frames f) d (sym (keeps.systems f)) was);
  fresh = λ n f t u p unready on. subst (λ x. has_frame f x ≡ true) (sym (same_one (find (has_number n) k.transfers) t u p.was p.is)) on;
}
