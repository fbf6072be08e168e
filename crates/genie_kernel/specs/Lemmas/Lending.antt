-- Counts with a transfer more or less.
use Rattle.std.proofs.Common.{◌≡◌, ℕ, ◌+◌, ◌-◌, Bool, List, [], ◌∷◌, ◌++◌, sym, ap, arith, ◌∙◌}
use Rattle.std.specs.Prelude.{Option, Some, find, sum_by}
use Rattle.std.proofs.lemmas.List.Sums.{sum_by-cons}
use Rattle.genie_frame.specs.declared.frame.Counts.{Counts}
use Rattle.genie_input.specs.Pools.{PoolState}
use Rattle.genie_plan.specs.Loans.{LoanKind}
use Rattle.genie_plan.specs.Loans as kind
use Rattle.genie_model.specs.Tables.{without}
use Rattle.genie_kernel.specs.declared.transfer.Transfer.{Transfer}
use Rattle.genie_kernel.specs.Counted.{AreCounted, loans_on, wires_on, pool_on}
use Rattle.genie_kernel.specs.Lending.{LendsFor, GivesBack, with_loans, without_loans}
use Rattle.genie_kernel.specs.Lemmas.Beside.{sum_beside}

-- a sum with one element more at the end
pub sum_pushed : {X : Type 0} (f : X → ℕ) (xs : List X) (x : X) → sum_by f (xs ++ x ∷ []) ≡ sum_by f xs + f x
sum_pushed f [] x = sum_by-cons f x [] ∙ omega arith
sum_pushed f (y ∷ xs) x = omega (arith, sum_by-cons f y (xs ++ x ∷ []), sum_by-cons f y xs, sum_pushed f xs x)

pub counts_grow : (t : Transfer) (ts : List Transfer) (pools : List (Option PoolState)) (old new : List Counts) → LendsFor t old new → AreCounted old ts pools → AreCounted new (ts ++ t ∷ []) pools
counts_grow t ts pools old new lends counted = λ f.
    let on : (k : LoanKind) → sum_by (loans_on k f) ts + loans_on k f t ≡ sum_by (loans_on k f) (ts ++ t ∷ []) = λ k. sym (sum_pushed (loans_on k f) ts t) in
    let input : sum_by (loans_on kind.Input f) ts + sum_by (pool_on f) pools + loans_on kind.Input f t ≡ sum_by (loans_on kind.Input f) (ts ++ t ∷ []) + sum_by (pool_on f) pools = omega (arith, on kind.Input) in
    let wires : sum_by (wires_on f) ts + wires_on f t ≡ sum_by (wires_on f) (ts ++ t ∷ []) = sym (sum_pushed (wires_on f) ts t) in
    lends f ∙ ap (with_loans t f) (counted f) ∙ (λ i. record { strong = on kind.Strong i; weak = on kind.Weak i; input = input i; wires = wires i })

pub counts_shrink : (p : Transfer → Bool) (t : Transfer) (ts : List Transfer) (pools : List (Option PoolState)) (old new : List Counts) → find p ts ≡ Some t → GivesBack t old new → AreCounted old ts pools → AreCounted new (without p ts) pools
counts_shrink p t ts pools old new found gives counted = λ f.
    let on : (k : LoanKind) → sum_by (loans_on k f) ts - loans_on k f t ≡ sum_by (loans_on k f) (without p ts) = λ k. omega (arith, sum_beside p t (loans_on k f) ts found) in
    let input : sum_by (loans_on kind.Input f) ts + sum_by (pool_on f) pools - loans_on kind.Input f t ≡ sum_by (loans_on kind.Input f) (without p ts) + sum_by (pool_on f) pools = omega (arith, sum_beside p t (loans_on kind.Input f) ts found) in
    let wires : sum_by (wires_on f) ts - wires_on f t ≡ sum_by (wires_on f) (without p ts) = omega (arith, sum_beside p t (wires_on f) ts found) in
    gives f ∙ ap (without_loans t f) (counted f) ∙ (λ i. record { strong = on kind.Strong i; weak = on kind.Weak i; input = input i; wires = wires i })
