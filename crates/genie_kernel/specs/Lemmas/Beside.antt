-- A table without the first element that passes a test.
use Rattle.std.proofs.Common.{◌≡◌, ℕ, ◌+◌, ◌<◌, zero, suc, Bool, true, false, cond, List, [], ◌∷◌, refl, sym, ap, arith, ◌∙◌, map, length, get_or}
use Rattle.std.specs.Prelude.{Some, All, find, position, filter, sum_by, ◌||◌}
use Rattle.std.specs.List.{list_any, remove}
use Rattle.std.proofs.lemmas.List.Quantifiers.{position-Some}
use Rattle.std.proofs.lemmas.List.Sums.{sum_by-cons}
use Rattle.genie_model.specs.Tables.{without}

all_cons : {X : Type 0} (P : X → Type 0) (x : X) (xs : List X) → P x → All P xs → All P (x ∷ xs)
all_cons P x xs h a zero d l = h
all_cons P x xs h a (suc k) d l = a k d (omega arith)

module _ {X : Type 0} (p : X → Bool) (t : X) where
  -- a test that the removed one fails finds the same
  pub find_beside : (q : X → Bool) (xs : List X) → find p xs ≡ Some t → q t ≡ false → find q (without p xs) ≡ find q xs
  find_beside q [] e f = refl
  find_beside q (x ∷ xs) e f = elim (p x) as (λ b. cond b (Some x) (find p xs) ≡ Some t → find q (cond b xs (x ∷ without p xs)) ≡ find q (x ∷ xs)) [
    | true ↦ λ h. let same : x ≡ t = cc in let fails : q x ≡ false = ap q same ∙ f in sym (ap (λ b. cond b (Some x) (find q xs)) fails)
    | false ↦ λ h. ap (cond (q x) (Some x)) (find_beside q xs h f)
  ] e

  pub filter_beside : (q : X → Bool) (xs : List X) → find p xs ≡ Some t → q t ≡ false → filter q (without p xs) ≡ filter q xs
  filter_beside q [] e f = refl
  filter_beside q (x ∷ xs) e f = elim (p x) as (λ b. cond b (Some x) (find p xs) ≡ Some t → filter q (cond b xs (x ∷ without p xs)) ≡ filter q (x ∷ xs)) [
    | true ↦ λ h. let same : x ≡ t = cc in let fails : q x ≡ false = ap q same ∙ f in sym (ap (λ b. cond b (x ∷ filter q xs) (filter q xs)) fails)
    | false ↦ λ h. ap (λ l. cond (q x) (x ∷ l) l) (filter_beside q xs h f)
  ] e

  pub any_beside : (q : X → Bool) (xs : List X) → find p xs ≡ Some t → q t ≡ false → list_any q (without p xs) ≡ list_any q xs
  any_beside q [] e f = refl
  any_beside q (x ∷ xs) e f = elim (p x) as (λ b. cond b (Some x) (find p xs) ≡ Some t → list_any q (cond b xs (x ∷ without p xs)) ≡ list_any q (x ∷ xs)) [
    | true ↦ λ h. let same : x ≡ t = cc in let fails : q x ≡ false = ap q same ∙ f in sym (ap (λ b. b || list_any q xs) fails)
    | false ↦ λ h. ap (λ b. q x || b) (any_beside q xs h f)
  ] e

  -- a sum is less by what the removed one adds to it
  pub sum_beside : (f : X → ℕ) (xs : List X) → find p xs ≡ Some t → sum_by f (without p xs) + f t ≡ sum_by f xs
  sum_beside f [] e = absurd (cc)
  sum_beside f (x ∷ xs) e = elim (p x) as (λ b. cond b (Some x) (find p xs) ≡ Some t → sum_by f (cond b xs (x ∷ without p xs)) + f t ≡ sum_by f (x ∷ xs)) [
    | true ↦ λ h. let same : x ≡ t = cc in let is : f x ≡ f t = ap f same in omega (arith, sum_by-cons f x xs, is)
    | false ↦ λ h. omega (arith, sum_by-cons f x xs, sum_by-cons f x (without p xs), sum_beside f xs h)
  ] e

  pub all_without : (P : X → Type 0) (xs : List X) → All P xs → All P (without p xs)
  all_without P [] a = a
  all_without P (x ∷ xs) a = elim (p x) as (λ b. All P (cond b xs (x ∷ without p xs))) [
    | true ↦ λ k d l. a (suc k) d (omega arith)
    | false ↦ all_cons P x (without p xs) (a zero x (omega arith)) (all_without P xs (λ k d l. a (suc k) d (omega arith)))
  ]

pub map_without : {X Y : Type 0} (p : X → Bool) (q : Y → Bool) (f : X → Y) → ((x : X) → q (f x) ≡ p x) → (xs : List X) → map f (without p xs) ≡ without q (map f xs)
map_without p q f same [] = refl
map_without p q f same (x ∷ xs) = elim (p x) as (λ b. q (f x) ≡ b → map f (cond b xs (x ∷ without p xs)) ≡ cond (q (f x)) (map f xs) (f x ∷ without q (map f xs))) [
  | true ↦ λ e. sym (ap (λ b. cond b (map f xs) (f x ∷ without q (map f xs))) e)
  | false ↦ λ e. ap (λ l. f x ∷ l) (map_without p q f same xs) ∙ sym (ap (λ b. cond b (map f xs) (f x ∷ without q (map f xs))) e)
] (same x)

-- removal at the place of the first one that passes
pub removed_at : {X : Type 0} (p : X → Bool) (d : X) (xs : List X) (k : ℕ) → k < length xs → p (get_or xs k d) ≡ true → ((i : ℕ) → i < k → p (get_or xs i d) ≡ false) → remove xs k ≡ without p xs
removed_at p d [] k l e h = absurd (omega arith)
removed_at p d (x ∷ xs) zero l e h = rw e refl
removed_at p d (x ∷ xs) (suc k) l e h = rw (h 0 (omega arith)) (ap (λ ys. x ∷ ys) (removed_at p d xs k (omega arith) e (λ i m. h (suc i) (omega arith))))

pub removed_first : {X : Type 0} (p : X → Bool) (d : X) (xs : List X) (k : ℕ) → position p xs ≡ Some k → remove xs k ≡ without p xs
removed_first p d xs k e = let at = position-Some p xs k d e in removed_at p d xs k at.0 at.1 at.2
