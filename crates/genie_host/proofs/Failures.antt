-- How many bytes come before the failures.
use Rattle.std.proofs.Common.{◌≡◌, ℕ, ◌<◌, ◌≤◌, List, [], ◌∷◌, length, false, arith}
use Rattle.std.specs.List.{position_or_len}
use Rattle.std.proofs.lemmas.Bool.Decides.{nat_tests}
use Rattle.genie_host.specs.MemoryRecords.{FailView}
use Rattle.genie_host.specs.MemoryParts.{is_at, cut_at, before_failures, is_failing}

pub before_most : (failing : List FailView) (name : List ℕ) (place n : ℕ) → before_failures failing name place n ≤ n
before_most [] name place n = omega arith
before_most (f ∷ failing) name place n =
    let rest : before_failures failing name place (cut_at name place n f) ≤ cut_at name place n f = before_most failing name place (cut_at name place n f) in
    let cut : cut_at name place n f ≤ n = grind (arith, nat_tests) in
    omega arith

none_met : (failing : List FailView) (name : List ℕ) (place n : ℕ) → length failing ≤ position_or_len (is_at name place) failing → 0 < n → 0 < before_failures failing name place n
none_met [] name place n none some = some
none_met (f ∷ failing) name place n none some =
    let past : is_at name place f ≡ false = grind (arith, nat_tests) in
    let rest : length failing ≤ position_or_len (is_at name place) failing = grind (arith, nat_tests) in
    let cut : 0 < cut_at name place n f = grind (arith, nat_tests) in
    none_met failing name place (cut_at name place n f) rest cut

pub before_some : (failing : List FailView) (name : List ℕ) (place n : ℕ) → is_failing failing name place ≡ false → 0 < n → 0 < before_failures failing name place n
before_some failing name place n none some =
    let past : length failing ≤ position_or_len (is_at name place) failing = grind (arith, nat_tests) in
    none_met failing name place n past some
