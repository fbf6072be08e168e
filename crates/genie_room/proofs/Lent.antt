-- Frames that can't be had are lent, for transfers or by pools.
use Rattle.std.proofs.Common.{◌≡◌, ℕ, ◌≤◌, ◌+◌, suc, zero, Bool, true, false, not, List, [], ◌∷◌, refl, arith, ap, length, map, get_or}
use Rattle.std.specs.Prelude.{◌==◌, ◌||◌, nat_lt, count_by, sum_by, Option, None, filter}
use Rattle.std.specs.List.{list_any}
use Rattle.std.proofs.lemmas.List.{length-map}
use Rattle.std.proofs.lemmas.List.Sums.{sum_by-cons, length-filter}
use Rattle.genie_base.specs.Lemmas.Mapped.{sum_by-map}
use Rattle.genie_base.specs.Lemmas.Places.{num}
use Rattle.genie_frame.specs.declared.frame.Owner.{Owner}
use Rattle.genie_frame.specs.declared.frame.Owner.TheVariants.{Free, Page, System, Pool, Nobody}
use Rattle.genie_frame.specs.declared.frame.Counts.{Counts}
use Rattle.genie_frame.specs.declared.frame.InLoan.{InLoan}
use Rattle.genie_frame.specs.declared.frame.OutLoan.{OutLoan}
use Rattle.genie_frame.specs.FrameTable.{is_lent, no_counts, AreLoansOwned}
use Rattle.genie_input.specs.Pools.{PoolState}
use Rattle.genie_plan.specs.Loans.{input_loan, output_loan}
use Rattle.genie_plan.specs.Loans as kind
use Rattle.genie_plan.specs.Plans.{times}
use Rattle.genie_plan.specs.Lemmas.Ending.{frame_times, kinds_sum}
use Rattle.genie_hiding.specs.Rooms.{is_available, count_both}
use Rattle.genie_kernel.specs.declared.transfer.Transfer.{Transfer}
use Rattle.genie_kernel.specs.declared.transfer.Loans.{Loans}
use Rattle.genie_kernel.specs.declared.transfer.Loans.TheVariants.{Nothing, Outward, Inward}
use Rattle.genie_kernel.specs.Calls.{number_of}
use Rattle.genie_kernel.specs.Counted.{loans_on, pool_on, lent_of, AreCounted}
use Rattle.genie_kernel.specs.Loans.{frames_of, loans_of, has_frame}
use Rattle.genie_kernel.specs.Owners.{AreOwned}
use Rattle.genie_room.specs.Lemmas.Totals.{total, sum_above_any}

-- how often frame f is lent for a transfer
abbrev pub lent_to : ℕ → Transfer → ℕ
lent_to f t = times (frames_of t.loans) f

-- how often it is lent at all
abbrev pub lendings : List Transfer → List (Option PoolState) → ℕ → ℕ
lendings ts pools f = sum_by (lent_to f) ts + sum_by (pool_on f) pools

loans_times : (f : ℕ) (loans : Loans) → frame_times (loans_of loans) f ≡ times (frames_of loans) f
loans_times f Nothing = refl
loans_times f (Outward p) = omega (arith, sum_by-map (λ (l : kind.Loan). num (l.frame == f)) output_loan p.loans.items, sum_by-map (λ g. num (g == f)) (λ (l : OutLoan). l.frame.0) p.loans.items)
loans_times f (Inward p) = omega (arith, sum_by-map (λ (l : kind.Loan). num (l.frame == f)) input_loan p.loans.items, sum_by-map (λ g. num (g == f)) (λ (l : InLoan). l.frame.0) p.loans.items)

-- each loan is of one kind
pub kinds_lent : (f : ℕ) (ts : List Transfer) → sum_by (loans_on kind.Strong f) ts + sum_by (loans_on kind.Weak f) ts + sum_by (loans_on kind.Input f) ts ≡ sum_by (lent_to f) ts
kinds_lent f [] = refl
kinds_lent f (t ∷ ts) = omega (arith, kinds_sum (loans_of t.loans) f, loans_times f t.loans, kinds_lent f ts, sum_by-cons (loans_on kind.Strong f) t ts, sum_by-cons (loans_on kind.Weak f) t ts, sum_by-cons (loans_on kind.Input f) t ts, sum_by-cons (lent_to f) t ts)

num_small : (b : Bool) → num b ≤ 1
num_small true = omega arith
num_small false = omega arith

lent_number : (s w i : ℕ) → num (nat_lt 0 s || nat_lt 0 w || nat_lt 0 i) ≤ s + w + i
lent_number zero zero zero = omega arith
lent_number zero zero (suc i) = omega (arith, num_small (nat_lt 0 (suc i)))
lent_number zero (suc w) i = omega (arith, num_small (nat_lt 0 (suc w) || nat_lt 0 i))
lent_number (suc s) w i = omega (arith, num_small (nat_lt 0 (suc s) || nat_lt 0 w || nat_lt 0 i))

or_number : (a b : Bool) → num (a || b) ≤ num a + num b
or_number true b = omega arith
or_number false b = omega arith

found_times : (f : ℕ) (frames : List ℕ) → num (list_any (λ g. g == f) frames) ≤ times frames f
found_times f [] = omega arith
found_times f (g ∷ frames) = omega (arith, found_times f frames, or_number (g == f) (list_any (λ x. x == f) frames), sum_by-cons (λ x. num (x == f)) g frames)

found_sum : (f : ℕ) (ts : List Transfer) → count_by (has_frame f) ts ≤ sum_by (lent_to f) ts
found_sum f [] = omega arith
found_sum f (t ∷ ts) = omega (arith, found_times f (frames_of t.loans), found_sum f ts, sum_by-cons (λ x. num (has_frame f x)) t ts, sum_by-cons (lent_to f) t ts)

-- a frame of a transfer's own is lent for it
held_times : (ts : List Transfer) (f k : ℕ) → map number_of (filter (has_frame f) ts) ≡ k ∷ [] → 1 ≤ sum_by (lent_to f) ts
held_times ts f k e =
    let long = ap length e in
    omega (arith, long, length-map (filter (has_frame f) ts) number_of, length-filter (has_frame f) ts, found_sum f ts)

twice : (b : Bool) → num (not (not b)) ≤ num b
twice true = omega arith
twice false = omega arith

module _ (owners : List Owner) (counts : List Counts) (ts : List Transfer) (pools : List (Option PoolState)) (counted : AreCounted counts ts pools) (owned : AreOwned owners ts pools) (agree : AreLoansOwned owners counts) where
  lent : (f : ℕ) → num (is_lent (get_or counts f no_counts)) ≤ lendings ts pools f
  lent f =
      let same : num (is_lent (get_or counts f no_counts)) ≡ num (is_lent (lent_of ts pools f)) = ap (λ c. num (is_lent c)) (counted f) in
      let sums = lent_number (sum_by (loans_on kind.Strong f) ts) (sum_by (loans_on kind.Weak f) ts) (sum_by (loans_on kind.Input f) ts + sum_by (pool_on f) pools) in
      omega (arith, same, sums, kinds_lent f ts)

  by_owner : (f : ℕ) (o : Owner) → get_or owners f Free ≡ o → num (not (is_available o (get_or counts f no_counts))) ≤ lendings ts pools f
  by_owner f Free e = omega (arith, twice (is_lent (get_or counts f no_counts)), lent f)
  by_owner f (Page p) e = omega (arith, twice (is_lent (get_or counts f no_counts)), lent f)
  by_owner f (System t) e = omega (arith, held_times ts f t (owned.system f t e))
  by_owner f (Pool d) e = omega (arith, owned.pooled f d e, sum_above_any (pool_on f) None pools d refl)
  by_owner f Nobody e = let on = ap num ((agree f).nobody e) in omega (arith, lent f, on)

  pub unavailable : (f : ℕ) → num (not (is_available (get_or owners f Free) (get_or counts f no_counts))) ≤ lendings ts pools f
  unavailable f = by_owner f (get_or owners f Free) refl

either_way : (b : Bool) → 1 ≤ num b + num (not b)
either_way true = omega arith
either_way false = omega arith

-- those that pass a test on owner and counts, and a bound on those that don't
pub both_total : (q : Owner → Counts → Bool) (os : List Owner) (cs : List Counts) (g : ℕ → ℕ) → length cs ≡ length os → ((f : ℕ) → num (not (q (get_or os f Free) (get_or cs f no_counts))) ≤ g f) → length os ≤ count_both q os cs + total g (length os)
both_total q [] cs g e each = omega arith
both_total q (o ∷ os) [] g e each = absurd (omega arith)
both_total q (o ∷ os) (c ∷ cs) g e each =
    let here = each 0 in
    let rest = both_total q os cs (λ f. g (suc f)) (omega arith) (λ f. each (suc f)) in
    omega (arith, here, rest, either_way (q o c))
