-- How many elements of a list pass a test, where the list changes.
use Rattle.std.proofs.Common.{◌≡◌, ℕ, ◌+◌, ◌≤◌, Bool, true, false, List, [], ◌∷◌, ◌++◌, All, refl, ◌∙◌, arith, map, filter, ⊎_elim, inl, inr, sym, ap, true≢false}
use Rattle.std.specs.Prelude.{count_by, cond, Some, find}
use Rattle.std.proofs.lemmas.Bool.{cond_both, false_from_ne_true, cases_Bool}
use Rattle.std.proofs.lemmas.List.Elements.{All-head, All-tail}
use Rattle.genie_model.specs.Tables.{change, without}
use Rattle.genie_orderly.specs.Lemmas.NamingTransfers.{count-cons}
use Rattle.genie_model.specs.Lemmas.Lists.{Has}

abbrev pub as_one : Bool → ℕ
as_one b = cond b 1 0

as_count : (b : Bool) → cond b 1 0 ≤ 1
as_count true = omega arith
as_count false = omega arith

no_more : (a b : Bool) → (a ≡ true → b ≡ true) → cond a 1 0 ≤ cond b 1 0
no_more true b h = rw (h refl) (omega arith)
no_more false b h = omega arith

-- the first element that passes a test is changed, or one comes to the end
module _ {X : Type 0} where
  pub count_changed : (q p : X → Bool) (f : X → X) (xs : List X) → count_by q (change p f xs) ≤ count_by q xs + 1
  count_changed q p f [] = omega arith
  count_changed q p f (x ∷ xs) = cond_both (p x) (f x ∷ xs) (x ∷ change p f xs) (λ ys. count_by q ys ≤ count_by q (x ∷ xs) + 1)
      (λ _. omega (arith, count-cons q x xs, count-cons q (f x) xs, as_count (q (f x))))
      (λ _. omega (arith, count-cons q x xs, count-cons q x (change p f xs), count_changed q p f xs))

  pub count_pushed : (q : X → Bool) (xs : List X) (x : X) → q x ≡ false → count_by q (xs ++ x ∷ []) ≡ count_by q xs
  count_pushed q [] x n = count-cons q x [] ∙ rw n refl
  count_pushed q (y ∷ xs) x n = omega (arith, count-cons q y xs, count-cons q y (xs ++ x ∷ []), count_pushed q xs x n)

  -- where no element comes to pass that didn't
  pub count_less : (P : X → Type 0) (q p : X → Bool) (f : X → X) → ((x : X) → P x → p x ≡ true → q (f x) ≡ true → q x ≡ true) → (xs : List X) → All P xs → count_by q (change p f xs) ≤ count_by q xs
  count_less P q p f less [] h = omega arith
  count_less P q p f less (x ∷ xs) h = cond_both (p x) (f x ∷ xs) (x ∷ change p f xs) (λ ys. count_by q ys ≤ count_by q (x ∷ xs))
      (λ y. omega (arith, count-cons q x xs, count-cons q (f x) xs, no_more (q (f x)) (q x) (less x (All-head P x xs h) y)))
      (λ _. omega (arith, count-cons q x xs, count-cons q x (change p f xs), count_less P q p f less xs (All-tail P x xs h)))

-- one is taken away that isn't counted
pub count_left : {X : Type 0} (q p : X → Bool) (xs : List X) (x : X) → find p xs ≡ Some x → q x ≡ false → count_by q (without p xs) ≡ count_by q xs
count_left q p [] x e f = refl
count_left q p (y ∷ ys) x e f = ⊎_elim
    (λ (here : p y ≡ true). let g : Some y ≡ Some x = rw here at e in let same : y ≡ x = cc in let none : q y ≡ false = ap q same ∙ f in rw here (omega (arith, count-cons q y ys, ap as_one none)))
    (λ (later : p y ≡ false). let g : find p ys ≡ Some x = rw later at e in rw later (omega (arith, count-cons q y ys, count-cons q y (without p ys), count_left q p ys x g f)))
    (cases_Bool (p y))

pub count_end : {X : Type 0} (q : X → Bool) (xs : List X) (x : X) → count_by q (xs ++ x ∷ []) ≡ count_by q xs + cond (q x) 1 0
count_end q [] x = omega (arith, count-cons q x [])
count_end q (y ∷ xs) x = omega (arith, count-cons q y xs, count-cons q y (xs ++ x ∷ []), count_end q xs x)

module _ {X : Type 0} where
  -- some go and the others are changed
  pub count_exit : (q keep : X → Bool) (f : X → X) (xs : List X) → All (λ x. (q x ≡ true → keep x ≡ true) × (q (f x) ≡ q x)) xs → count_by q (map f (filter keep xs)) ≡ count_by q xs
  count_exit q keep f [] h = refl
  count_exit q keep f (x ∷ xs) h =
      let Kept : X → Type 0 = λ x. (q x ≡ true → keep x ≡ true) × (q (f x) ≡ q x) in
      let here = All-head Kept x xs h in
      let rest = count_exit q keep f xs (All-tail Kept x xs h) in
      cond_both (keep x) (x ∷ filter keep xs) (filter keep xs) (λ ys. count_by q (map f ys) ≡ count_by q (x ∷ xs))
      (λ _. omega (arith, rest, count-cons q x xs, count-cons q (f x) (map f (filter keep xs)), ap as_one here.1))
      (λ n. let none = false_from_ne_true (q x) (λ y. true≢false (sym (here.0 y) ∙ n)) in omega (arith, rest, count-cons q x xs, ap as_one none))

-- over a map and over a filter
pub count_map : {X : Type 0} (p q : X → Bool) (f : X → X) (xs : List X) → ((x : X) → Has x xs → p (f x) ≡ q x) → count_by p (map f xs) ≡ count_by q xs
count_map p q f [] same = refl
count_map p q f (x ∷ xs) same = omega (arith, count-cons p (f x) (map f xs), count-cons q x xs, ap as_one (same x (inl refl)), count_map p q f xs (λ y has. same y (inr has)))

pub count_all : {X : Type 0} (q keep : X → Bool) (xs : List X) → ((x : X) → q x ≡ true → keep x ≡ true) → count_by q (filter keep xs) ≡ count_by q xs
count_all q keep [] h = refl
count_all q keep (x ∷ xs) h = cond_both (keep x) (x ∷ filter keep xs) (filter keep xs) (λ ys. count_by q ys ≡ count_by q (x ∷ xs))
    (λ _. omega (arith, count-cons q x xs, count-cons q x (filter keep xs), count_all q keep xs h))
    (λ n. omega (arith, count-cons q x xs, count_all q keep xs h, ap as_one (false_from_ne_true (q x) (λ y. true≢false (sym (h x y) ∙ n)))))

pub count_gone : {X : Type 0} (q keep : X → Bool) (xs : List X) → ((x : X) → q x ≡ true → keep x ≡ false) → count_by q (filter keep xs) ≡ 0
count_gone q keep [] h = refl
count_gone q keep (x ∷ xs) h = cond_both (keep x) (x ∷ filter keep xs) (filter keep xs) (λ ys. count_by q ys ≡ 0)
    (λ y. omega (arith, count-cons q x (filter keep xs), count_gone q keep xs h, ap as_one (false_from_ne_true (q x) (λ t. true≢false (sym y ∙ h x t)))))
    (λ _. count_gone q keep xs h)
