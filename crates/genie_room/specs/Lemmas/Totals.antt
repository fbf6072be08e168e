-- Sums over the first n places, and over lists of such sums.
use Rattle.std.proofs.Common.{◌≡◌, ℕ, ◌<◌, ◌≤◌, ◌+◌, suc, zero, Bool, true, false, not, List, [], ◌∷◌, refl, sym, arith, ap, length, get_or, ◌∙◌}
use Rattle.std.specs.Prelude.{◌==◌, count_by, sum_by, All}
use Rattle.std.proofs.lemmas.Bool.{false_from_ne_true, eqb-true}
use Rattle.std.proofs.lemmas.List.Sums.{sum_by-cons}
use Rattle.genie_base.specs.Lemmas.Places.{num}

abbrev pub total : (ℕ → ℕ) → ℕ → ℕ
total g zero = 0
total g (suc n) = g 0 + total (λ i. g (suc i)) n

pub total_more : (g h : ℕ → ℕ) (n : ℕ) → ((i : ℕ) → i < n → g i ≤ h i) → total g n ≤ total h n
total_more g h zero l = omega arith
total_more g h (suc n) l = let here = l 0 (omega arith) in let rest = total_more (λ i. g (suc i)) (λ i. h (suc i)) n (λ i b. l (suc i) (omega arith)) in omega (arith, here, rest)

pub total_none : (n : ℕ) → total (λ i. 0) n ≡ 0
total_none zero = refl
total_none (suc n) = omega (arith, total_none n)

pub total_plus : (g h : ℕ → ℕ) (n : ℕ) → total (λ i. g i + h i) n ≡ total g n + total h n
total_plus g h zero = refl
total_plus g h (suc n) = let rest = total_plus (λ i. g (suc i)) (λ i. h (suc i)) n in omega (arith, rest)

-- a sum of sums, the other way round
pub total_turned : (h : ℕ → ℕ → ℕ) (n m : ℕ) → total (λ a. total (h a) m) n ≡ total (λ b. total (λ a. h a b) n) m
total_turned h zero m = sym (total_none m)
total_turned h (suc n) m = omega (arith, total_turned (λ a. h (suc a)) n m, total_plus (h 0) (λ b. total (λ a. h (suc a) b) n) m)

pub total_above : (g : ℕ → ℕ) (n i : ℕ) → i < n → g i ≤ total g n
total_above g zero i l = absurd (omega arith)
total_above g (suc n) zero l = omega arith
total_above g (suc n) (suc i) l = let rest = total_above (λ j. g (suc j)) n i (omega arith) in omega (arith, rest)

-- at most `most` at each place, and fewer at one
pub total_below : (g : ℕ → ℕ) (most n i : ℕ) → i < n → ((j : ℕ) → g j ≤ most) → g i < most → total g n < total (λ j. most) n
total_below g most zero i l b s = absurd (omega arith)
total_below g most (suc n) zero l b s = let rest = total_more (λ j. g (suc j)) (λ j. most) n (λ j c. b (suc j)) in omega (arith, s, rest)
total_below g most (suc n) (suc i) l b s = let here = b 0 in let rest = total_below (λ j. g (suc j)) most n i (omega arith) (λ j. b (suc j)) s in omega (arith, here, rest)

one_first : (q : ℕ → Bool) (n : ℕ) (b : Bool) → ((i j : ℕ) → q i ≡ true → q j ≡ true → i ≡ j) → q 0 ≡ b → total (λ i. num (q (suc i))) n ≤ 1 → num b + total (λ i. num (q (suc i))) n ≤ 1
one_first q n true one e rest =
    let none = total_more (λ i. num (q (suc i))) (λ i. 0) n (λ i l. let no = ap num (false_from_ne_true (q (suc i)) (λ h. let same = one 0 (suc i) e h in omega (arith, same))) in omega (arith, no)) in
    omega (arith, none, total_none n)
one_first q n false one e rest = omega (arith, rest)

-- a test that no two places pass
pub total_one : (q : ℕ → Bool) (n : ℕ) → ((i j : ℕ) → q i ≡ true → q j ≡ true → i ≡ j) → total (λ i. num (q i)) n ≤ 1
total_one q zero one = omega arith
total_one q (suc n) one =
    let rest = total_one (λ i. q (suc i)) n (λ i j a b. let same = one (suc i) (suc j) a b in omega (arith, same)) in
    one_first q n (q 0) one refl rest

-- a number is at one place at most
pub total_same : (m n : ℕ) → total (λ i. num (m == i)) n ≤ 1
total_same m n = total_one (λ i. m == i) n (λ i j a b. sym (eqb-true m i a) ∙ eqb-true m j b)

-- a sum over a list, by its places
pub sum_places : {X : Type 0} (g : X → ℕ) (d : X) (xs : List X) → sum_by g xs ≡ total (λ i. g (get_or xs i d)) (length xs)
sum_places g d [] = refl
sum_places g d (x ∷ xs) = omega (arith, sum_places g d xs, sum_by-cons g x xs)

pub sum_all : {X : Type 0} (g h : X → ℕ) (xs : List X) → All (λ x. g x ≤ h x) xs → sum_by g xs ≤ sum_by h xs
sum_all g h [] a = omega arith
sum_all g h (x ∷ xs) a = let here = a 0 x (omega arith) in let rest = sum_all g h xs (λ k d b. a (suc k) d (omega arith)) in omega (arith, here, rest, sum_by-cons g x xs, sum_by-cons h x xs)

-- one element is at most the sum, also past the end where the default counts nothing
pub sum_above_any : {X : Type 0} (g : X → ℕ) (d : X) (xs : List X) (i : ℕ) → g d ≡ 0 → g (get_or xs i d) ≤ sum_by g xs
sum_above_any g d [] i z = omega (arith, z)
sum_above_any g d (x ∷ xs) zero z = omega (arith, sum_by-cons g x xs)
sum_above_any g d (x ∷ xs) (suc n) z = omega (arith, sum_by-cons g x xs, sum_above_any g d xs n z)

-- two lists, place by place
pub sum_beneath : {X Y : Type 0} (g : X → ℕ) (h : Y → ℕ) (d : X) (e : Y) (xs : List X) (ys : List Y) → length xs ≤ length ys → ((i : ℕ) → g (get_or xs i d) ≤ h (get_or ys i e)) → sum_by g xs ≤ sum_by h ys
sum_beneath g h d e [] ys l each = omega arith
sum_beneath g h d e (x ∷ xs) [] l each = absurd (omega arith)
sum_beneath g h d e (x ∷ xs) (y ∷ ys) l each = let here = each 0 in let rest = sum_beneath g h d e xs ys (omega arith) (λ i. each (suc i)) in omega (arith, here, rest, sum_by-cons g x xs, sum_by-cons h y ys)

-- the bound on a sum, where one element has its bound beside
pub sum_beside_one : {X : Type 0} (g h : X → ℕ) (d : X) (xs : List X) (i : ℕ) → All (λ x. g x ≤ h x) xs → i < length xs → sum_by g xs + h (get_or xs i d) ≤ sum_by h xs + g (get_or xs i d)
sum_beside_one g h d [] i a l = absurd (omega arith)
sum_beside_one g h d (x ∷ xs) zero a l = omega (arith, sum_all g h xs (λ k e b. a (suc k) e (omega arith)), sum_by-cons g x xs, sum_by-cons h x xs)
sum_beside_one g h d (x ∷ xs) (suc i) a l =
    let here = a 0 x (omega arith) in
    omega (arith, here, sum_beside_one g h d xs i (λ k e b. a (suc k) e (omega arith)) (omega arith), sum_by-cons g x xs, sum_by-cons h x xs)

-- the sum over places of sums over a list
pub total_sums : {X : Type 0} (h : ℕ → X → ℕ) (n : ℕ) (xs : List X) → total (λ i. sum_by (h i) xs) n ≡ sum_by (λ x. total (λ i. h i x) n) xs
total_sums h n [] = total_none n
total_sums h n (x ∷ xs) =
    let first = total_more (λ i. sum_by (h i) (x ∷ xs)) (λ i. h i x + sum_by (h i) xs) n (λ i l. omega (arith, sum_by-cons (h i) x xs)) in
    let last = total_more (λ i. h i x + sum_by (h i) xs) (λ i. sum_by (h i) (x ∷ xs)) n (λ i l. omega (arith, sum_by-cons (h i) x xs)) in
    omega (arith, first, last, total_plus (λ i. h i x) (λ i. sum_by (h i) xs) n, total_sums h n xs, sum_by-cons (λ y. total (λ i. h i y) n) x xs)

pub sum_ones : {X : Type 0} (xs : List X) → sum_by (λ x. 1) xs ≡ length xs
sum_ones [] = refl
sum_ones {X} (x ∷ xs) = omega (arith, sum_ones xs, sum_by-cons (λ (y : X). 1) x xs)

-- tests of which at most one passes an element, over a list
pub total_counts : {X : Type 0} (q : ℕ → X → Bool) (n : ℕ) (xs : List X) → ((x : X) → total (λ i. num (q i x)) n ≤ 1) → total (λ i. count_by (q i) xs) n ≤ length xs
total_counts {X} q n xs one = omega (arith, total_sums (λ i x. num (q i x)) n xs, sum_all (λ x. total (λ i. num (q i x)) n) (λ (x : X). 1) xs (λ k d b. one (get_or xs k d)), sum_ones xs)

one_way : (b : Bool) → num b + num (not b) ≡ 1
one_way true = refl
one_way false = refl

pub count_split : {X : Type 0} (q : X → Bool) (xs : List X) → count_by q xs + count_by (λ x. not (q x)) xs ≡ length xs
count_split q [] = refl
count_split q (x ∷ xs) = let here = one_way (q x) in omega (arith, here, count_split q xs, sum_by-cons (λ y. num (q y)) x xs, sum_by-cons (λ y. num (not (q y))) x xs)
