-- A page that one entry names is named by no other.
use Rattle.std.proofs.Common.{◌≡◌, ℕ, ◌<◌, ◌≤◌, suc, zero, Bool, true, cond, List, [], ◌∷◌, refl, arith, ap, length, get_or, lit<, subst}
use Rattle.std.specs.Prelude.{count_by, sum_by}
use Rattle.std.proofs.lemmas.List.Sums.{sum_by-cons}

sum_by-above : {X : Type 0} (g : X → ℕ) (d : X) (xs : List X) (i : ℕ) → i < length xs → g (get_or xs i d) ≤ sum_by g xs
sum_by-above g d [] i l = absurd (omega arith)
sum_by-above g d (x ∷ xs) zero l = omega (arith, sum_by-cons g x xs)
sum_by-above g d (x ∷ xs) (suc n) l = let l' : n < length xs = omega arith in omega (arith, sum_by-cons g x xs, sum_by-above g d xs n l')

-- two places that add to a sum of at most one are one place
sum_of_one : {X : Type 0} (g : X → ℕ) (d : X) (xs : List X) (i j : ℕ) → i < length xs → j < length xs → 0 < g (get_or xs i d) → 0 < g (get_or xs j d) → sum_by g xs ≤ 1 → i ≡ j
sum_of_one g d [] i j li lj pi pj s = absurd (omega arith)
sum_of_one g d (x ∷ xs) zero zero li lj pi pj s = refl
sum_of_one g d (x ∷ xs) zero (suc j) li lj pi pj s = let l : j < length xs = omega arith in absurd (omega (arith, sum_by-cons g x xs, sum_by-above g d xs j l))
sum_of_one g d (x ∷ xs) (suc i) zero li lj pi pj s = let l : i < length xs = omega arith in absurd (omega (arith, sum_by-cons g x xs, sum_by-above g d xs i l))
sum_of_one g d (x ∷ xs) (suc i) (suc j) li lj pi pj s = ap suc (sum_of_one g d xs i j (omega arith) (omega arith) pi pj (omega (arith, sum_by-cons g x xs)))

some_pass : {X : Type 0} (q : X → Bool) (d : X) (xs : List X) (b : ℕ) → b < length xs → q (get_or xs b d) ≡ true → 0 < count_by q xs
some_pass q d xs b l p = omega (arith, rw p at (sum_by-above (λ x. cond (q x) 1 0) d xs b l))

-- two entries that pass a test that one entry of all lists passes are one
pub counted_once : {X : Type 0} (q : X → Bool) (d : X) (xss : List (List X)) (a b o i : ℕ) → a < length xss → b < length (get_or xss a []) → o < length xss → i < length (get_or xss o []) → q (get_or (get_or xss a []) b d) ≡ true → q (get_or (get_or xss o []) i d) ≡ true → sum_by (count_by q) xss ≡ 1 → (a ≡ o) × (b ≡ i)
counted_once {X} q d xss a b o i la lb lo li pa po s =
    let same : a ≡ o = sum_of_one (count_by q) [] xss a o la lo (some_pass q d _ b lb pa) (some_pass q d _ i li po) (omega arith) in
    let lb' : b < length (get_or xss o []) = subst (λ c. b < length (get_or xss c [])) same lb in
    let pa' : q (get_or (get_or xss o []) b d) ≡ true = subst (λ c. q (get_or (get_or xss c []) b d) ≡ true) same pa in
    let few : count_by q (get_or xss o []) ≤ 1 = omega (arith, sum_by-above (count_by q) [] xss o lo) in
    (same, sum_of_one (λ x. cond (q x) 1 0) d (get_or xss o []) b i lb' li (rw pa' (lit< tt)) (rw po (lit< tt)) few)
