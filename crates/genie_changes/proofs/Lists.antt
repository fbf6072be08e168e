-- A list with one element more at its end.
use Rattle.std.proofs.Common.{◌≡◌, zero, suc, Bool, true, false, cond, List, [], ◌∷◌, ◌++◌, refl, sym, ap, arith, ◌∙◌, inl, inr, map}
use Rattle.std.specs.Prelude.{Option, Some, None, find, All, IfSome, ◌||◌}
use Rattle.std.specs.List.{list_any}
use Rattle.genie_model.specs.Lemmas.Lists.{Has}
use Rattle.genie_model.specs.Tables.{change, without}

module _ {X : Type 0} (q : X → Bool) (t : X) where
  pub found_before : (xs : List X) (x : X) → find q xs ≡ Some x → find q (xs ++ t ∷ []) ≡ Some x
  found_before [] x e = absurd (cc)
  found_before (y ∷ ys) x e = elim (q y) as (λ b. cond b (Some y) (find q ys) ≡ Some x → cond b (Some y) (find q (ys ++ t ∷ [])) ≡ Some x) [ true ↦ λ h. h | false ↦ λ h. found_before ys x h ] e

  pub found_same : (xs : List X) → q t ≡ false → find q (xs ++ t ∷ []) ≡ find q xs
  found_same [] f = ap (λ b. cond b (Some t) None) f
  found_same (y ∷ ys) f = ap (λ o. cond (q y) (Some y) o) (found_same ys f)

  pub any_same : (xs : List X) → q t ≡ false → list_any q (xs ++ t ∷ []) ≡ list_any q xs
  any_same [] f = ap (λ b. b || false) f
  any_same (y ∷ ys) f = ap (λ b. q y || b) (any_same ys f)

  pub passes_found : (xs : List X) (x : X) → Has x xs → q x ≡ true → find q xs ≡ None → ⊥
  passes_found [] x h p e = absurd h
  passes_found (y ∷ ys) x (inl is) p e = let here : q y ≡ true = ap q is ∙ p in let never : Some y ≡ None = sym (ap (λ b. cond b (Some y) (find q ys)) here) ∙ e in absurd (cc)
  passes_found (y ∷ ys) x (inr h) p e = elim (q y) as (λ b. cond b (Some y) (find q ys) ≡ None → ⊥) [ true ↦ λ g. absurd (cc) | false ↦ λ g. passes_found ys x h p g ] e

pub append_none : {X : Type 0} (xs : List X) → xs ++ [] ≡ xs
append_none [] = refl
append_none (x ∷ xs) = ap (λ l. x ∷ l) (append_none xs)

pub map_more : {X Y : Type 0} (f : X → Y) (xs : List X) (t : X) → map f (xs ++ t ∷ []) ≡ map f xs ++ f t ∷ []
map_more f [] t = refl
map_more f (x ∷ xs) t = ap (λ l. f x ∷ l) (map_more f xs t)

pub all_more : {X : Type 0} (P : X → Type 0) (t : X) (xs : List X) → All P xs → P t → All P (xs ++ t ∷ [])
all_more P t [] a p zero d l = p
all_more P t [] a p (suc k) d l = absurd (omega (arith, l))
all_more P t (x ∷ xs) a p zero d l = a zero x (omega arith)
all_more P t (x ∷ xs) a p (suc k) d l = all_more P t xs (λ i e n. a (suc i) e (omega (arith, n))) p k d (omega (arith, l))

pub all_cons : {X : Type 0} (P : X → Type 0) (x : X) (xs : List X) → P x → All P xs → All P (x ∷ xs)
all_cons P x xs h a zero d l = h
all_cons P x xs h a (suc k) d l = a k d (omega (arith, l))

-- one element changed, of which it is so whatever it was
pub all_changed : {X : Type 0} (P : X → Type 0) (p : X → Bool) (g : X → X) → ((x : X) → P (g x)) → (xs : List X) → All P xs → All P (change p g xs)
all_changed P p g here [] a = a
all_changed P p g here (x ∷ xs) a =
    let later : All P xs = λ k d l. a (suc k) d (omega (arith, l)) in
    elim (p x) as (λ b. All P (cond b (g x ∷ xs) (x ∷ change p g xs))) [ true ↦ all_cons P (g x) xs (here x) later | false ↦ all_cons P x (change p g xs) (a zero x (omega arith)) (all_changed P p g here xs later) ]

pub all_less : {X : Type 0} (P : X → Type 0) (p : X → Bool) (xs : List X) → All P xs → All P (without p xs)
all_less P p [] a = a
all_less P p (x ∷ xs) a =
    let later : All P xs = λ k d l. a (suc k) d (omega (arith, l)) in
    elim (p x) as (λ b. All P (cond b xs (x ∷ without p xs))) [ true ↦ later | false ↦ all_cons P x (without p xs) (a zero x (omega arith)) (all_less P p xs later) ]

pub if_some_map : {X : Type 0} (P Q : X → Type 0) (o : Option X) → ((x : X) → P x → Q x) → IfSome o P → IfSome o Q
if_some_map P Q None f h = h
if_some_map P Q (Some x) f h = f x h
