-- Places and counts in a list of which one element was replaced.
use Rattle.std.proofs.Common.{◌≡◌, ◌≢◌, ℕ, ◌<◌, ◌≤◌, ◌+◌, suc, zero, Bool, true, false, lit≤, cond, List, [], ◌∷◌, ◌++◌, refl, arith, ap, length, set, get_or, ◌∙◌, inl, inr, get_or-set_other, get_or-set_same}
use Rattle.std.specs.Prelude.{◌⊎◌, count_by, sum_by}
use Rattle.std.proofs.lemmas.Bool.Decides.{eqb_tells}
use Rattle.std.proofs.lemmas.List.Sums.{sum_by-cons, sum_by-append, count_by-le-length}

pub same_or : (a b : ℕ) → (a ≡ b) ⊎ (a ≢ b)
same_or a b = elim (eqb_tells a b) [ inl h ↦ inl h.1 | inr h ↦ inr h.1 ]

-- what stands at place g once x was set at place f
pub set_at : {X : Type 0} (xs : List X) (f g : ℕ) (x d : X) → f < length xs → ((g ≡ f) × (get_or (set xs f x) g d ≡ x)) ⊎ ((g ≢ f) × (get_or (set xs f x) g d ≡ get_or xs g d))
set_at xs f g x d there = elim (same_or g f) [
  | inl e ↦ inl (e, ap (λ n. get_or (set xs f x) n d) e ∙ get_or-set_same xs f x d there)
  | inr n ↦ inr (n, get_or-set_other xs f g x d n)
]

pub any_default : {X : Type 0} (xs : List X) (i : ℕ) (d e : X) → i < length xs → get_or xs i d ≡ get_or xs i e
any_default [] i d e l = absurd (omega arith)
any_default (x ∷ xs) zero d e l = refl
any_default (x ∷ xs) (suc i) d e l = any_default xs i d e (omega arith)

pub past_end : {X : Type 0} (xs : List X) (i : ℕ) (d : X) → length xs ≤ i → get_or xs i d ≡ d
past_end [] i d l = refl
past_end (x ∷ xs) zero d l = absurd (omega arith)
past_end (x ∷ xs) (suc i) d l = past_end xs i d (omega arith)

pub sum_by-set : {X : Type 0} (g : X → ℕ) (xs : List X) (i : ℕ) (y d : X) → i < length xs → sum_by g (set xs i y) + g (get_or xs i d) ≡ sum_by g xs + g y
sum_by-set g [] i y d l = absurd (omega arith)
sum_by-set g (x ∷ xs) zero y d l = omega (arith, sum_by-cons g y xs, sum_by-cons g x xs)
sum_by-set g (x ∷ xs) (suc i) y d l = let l' : i < length xs = omega arith in omega (arith, sum_by-cons g x (set xs i y), sum_by-cons g x xs, sum_by-set g xs i y d l')

abbrev pub num : Bool → ℕ
num b = cond b 1 0

num_small : (b : Bool) → num b ≤ 1
num_small true = lit≤ tt
num_small false = lit≤ tt

-- how many pass a test once y was set at place i
pub count_by-set : {X : Type 0} (q : X → Bool) (xs : List X) (i : ℕ) (y d : X) → i < length xs → count_by q (set xs i y) + num (q (get_or xs i d)) ≡ count_by q xs + num (q y)
count_by-set q xs i y d l = sum_by-set (λ x. num (q x)) xs i y d l

pub count_by-push : {X : Type 0} (q : X → Bool) (xs : List X) (x : X) → count_by q (xs ++ x ∷ []) ≡ count_by q xs + num (q x)
count_by-push q xs x = omega (arith, sum_by-append (λ y. num (q y)) xs (x ∷ []), sum_by-cons (λ y. num (q y)) x [])

-- not all pass where one doesn't
pub count_by-below : {X : Type 0} (q : X → Bool) (xs : List X) (i : ℕ) (d : X) → i < length xs → q (get_or xs i d) ≡ false → count_by q xs < length xs
count_by-below q [] i d l e = absurd (omega arith)
count_by-below q (x ∷ xs) zero d l e = let n = ap num e in omega (arith, sum_by-cons (λ y. num (q y)) x xs, n, count_by-le-length q xs)
count_by-below q (x ∷ xs) (suc i) d l e = let l' : i < length xs = omega arith in omega (arith, sum_by-cons (λ y. num (q y)) x xs, num_small (q x), count_by-below q xs i d l' e)
