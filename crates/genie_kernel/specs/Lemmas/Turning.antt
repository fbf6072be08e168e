-- The first element that passes a test, changed: what finds, sums and lists make of that.
use Rattle.std.proofs.Common.{◌≡◌, ℕ, ◌+◌, Bool, true, false, cond, List, [], ◌∷◌, refl, sym, ap, ap₂, arith, ◌∙◌, inl, inr, map}
use Rattle.std.specs.Prelude.{Some, find, filter, sum_by, ◌||◌}
use Rattle.std.specs.List.{list_any}
use Rattle.std.proofs.lemmas.List.Sums.{sum_by-cons}
use Rattle.genie_model.specs.Tables.{change, without}
use Rattle.genie_model.specs.Lemmas.Lists.{Has}
use Rattle.genie_kernel.specs.declared.transfer.Transfer.{Transfer}
use Rattle.genie_kernel.specs.Laws.{Turns}

map_same : {X Y : Type 0} (f g : X → Y) (xs : List X) → ((x : X) → Has x xs → f x ≡ g x) → map f xs ≡ map g xs
map_same f g [] h = refl
map_same f g (x ∷ xs) h = ap₂ ◌∷◌ (h x (inl refl)) (map_same f g xs (λ y e. h y (inr e)))

module _ {X : Type 0} (p : X → Bool) (g : X → X) (t : X) where
  -- what the changed one is seen as, where the others are seen as before
  pub views_changed : {Y : Type 0} (q : Y → Bool) (old new : X → Y) (f : Y → Y) → ((x : X) → q (old x) ≡ p x) → new (g t) ≡ f (old t) → (xs : List X) → find p xs ≡ Some t → ((x : X) → Has x (without p xs) → new x ≡ old x) → map new (change p g xs) ≡ change q f (map old xs)
  views_changed q old new f same here [] e others = absurd (cc)
  views_changed q old new f same here (x ∷ xs) e others = elim (p x) as (λ b. q (old x) ≡ b → cond b (Some x) (find p xs) ≡ Some t → ((y : X) → Has y (cond b xs (x ∷ without p xs)) → new y ≡ old y) → map new (cond b (g x ∷ xs) (x ∷ change p g xs)) ≡ cond (q (old x)) (f (old x) ∷ map old xs) (old x ∷ change q f (map old xs))) [
    | true ↦ λ s h o. let is : x ≡ t = cc in ap₂ ◌∷◌ (ap (λ y. new (g y)) is ∙ here ∙ ap (λ y. f (old y)) (sym is)) (map_same new old xs o) ∙ sym (ap (λ b. cond b (f (old x) ∷ map old xs) (old x ∷ change q f (map old xs))) s)
    | false ↦ λ s h o. ap₂ ◌∷◌ (o x (inl refl)) (views_changed q old new f same here xs h (λ y m. o y (inr m))) ∙ sym (ap (λ b. cond b (f (old x) ∷ map old xs) (old x ∷ change q f (map old xs))) s)
  ] (same x) e others

  -- a test that it fails before and afterwards finds the same
  pub find_changed : (q : X → Bool) → q t ≡ false → q (g t) ≡ false → (xs : List X) → find p xs ≡ Some t → find q (change p g xs) ≡ find q xs
  find_changed q before after [] e = refl
  find_changed q before after (x ∷ xs) e = elim (p x) as (λ b. cond b (Some x) (find p xs) ≡ Some t → find q (cond b (g x ∷ xs) (x ∷ change p g xs)) ≡ find q (x ∷ xs)) [
    | true ↦ λ h.
        let is : x ≡ t = cc in
        let was : q x ≡ false = ap q is ∙ before in
        let now : q (g x) ≡ false = ap (λ y. q (g y)) is ∙ after in
        ap (λ b. cond b (Some (g x)) (find q xs)) now ∙ sym (ap (λ b. cond b (Some x) (find q xs)) was)
    | false ↦ λ h. ap (cond (q x) (Some x)) (find_changed q before after xs h)
  ] e

  -- a sum changes by what it adds
  pub sum_changed : (f : X → ℕ) (xs : List X) → find p xs ≡ Some t → sum_by f (change p g xs) + f t ≡ sum_by f xs + f (g t)
  sum_changed f [] e = absurd (cc)
  sum_changed f (x ∷ xs) e = elim (p x) as (λ b. cond b (Some x) (find p xs) ≡ Some t → sum_by f (cond b (g x ∷ xs) (x ∷ change p g xs)) + f t ≡ sum_by f (x ∷ xs) + f (g t)) [
    | true ↦ λ h.
        let is : x ≡ t = cc in
        let was : f x ≡ f t = ap f is in
        let now : f (g x) ≡ f (g t) = ap (λ y. f (g y)) is in
        omega (arith, sum_by-cons f x xs, sum_by-cons f (g x) xs, was, now)
    | false ↦ λ h. omega (arith, sum_by-cons f x xs, sum_by-cons f x (change p g xs), sum_changed f xs h)
  ] e

  -- what isn't changed of it is listed as before
  pub list_changed : {Y : Type 0} (f : X → Y) → f (g t) ≡ f t → (xs : List X) → find p xs ≡ Some t → map f (change p g xs) ≡ map f xs
  list_changed f same [] e = refl
  list_changed f same (x ∷ xs) e = elim (p x) as (λ b. cond b (Some x) (find p xs) ≡ Some t → map f (cond b (g x ∷ xs) (x ∷ change p g xs)) ≡ map f (x ∷ xs)) [
    | true ↦ λ h. let is : x ≡ t = cc in ap (λ y. y ∷ map f xs) (ap (λ y. f (g y)) is ∙ same ∙ ap f (sym is))
    | false ↦ λ h. ap (λ l. f x ∷ l) (list_changed f same xs h)
  ] e

  -- so it is where only some are listed
  pub some_changed : {Y : Type 0} (q : X → Bool) (f : X → Y) → q (g t) ≡ q t → f (g t) ≡ f t → (xs : List X) → find p xs ≡ Some t → map f (filter q (change p g xs)) ≡ map f (filter q xs)
  some_changed q f passes same [] e = refl
  some_changed q f passes same (x ∷ xs) e = elim (p x) as (λ b. cond b (Some x) (find p xs) ≡ Some t → map f (filter q (cond b (g x ∷ xs) (x ∷ change p g xs))) ≡ map f (filter q (x ∷ xs))) [
    | true ↦ λ h.
        let is : x ≡ t = cc in
        let now : q (g x) ≡ q x = ap (λ y. q (g y)) is ∙ passes ∙ ap q (sym is) in
        let kept : f (g x) ≡ f x = ap (λ y. f (g y)) is ∙ same ∙ ap f (sym is) in
        ap (λ b. map f (cond b (g x ∷ filter q xs) (filter q xs))) now ∙ elim (q x) as (λ b. map f (cond b (g x ∷ filter q xs) (filter q xs)) ≡ map f (cond b (x ∷ filter q xs) (filter q xs))) [ true ↦ ap (λ y. y ∷ map f (filter q xs)) kept | false ↦ refl ]
    | false ↦ λ h. elim (q x) as (λ b. map f (cond b (x ∷ filter q (change p g xs)) (filter q (change p g xs))) ≡ map f (cond b (x ∷ filter q xs) (filter q xs))) [ true ↦ ap (λ l. f x ∷ l) (some_changed q f passes same xs h) | false ↦ some_changed q f passes same xs h ]
  ] e

  pub any_changed : (q : X → Bool) → q (g t) ≡ q t → (xs : List X) → find p xs ≡ Some t → list_any q (change p g xs) ≡ list_any q xs
  any_changed q same [] e = refl
  any_changed q same (x ∷ xs) e = elim (p x) as (λ b. cond b (Some x) (find p xs) ≡ Some t → list_any q (cond b (g x ∷ xs) (x ∷ change p g xs)) ≡ list_any q (x ∷ xs)) [
    | true ↦ λ h. let is : x ≡ t = cc in ap (λ b. b || list_any q xs) (ap (λ y. q (g y)) is ∙ same ∙ ap q (sym is))
    | false ↦ λ h. ap (λ b. q x || b) (any_changed q same xs h)
  ] e

-- one transfer, changed
pub transfers_turn : (p : Transfer → Bool) (g : Transfer → Transfer) (t : Transfer) (ts : List Transfer) → find p ts ≡ Some t → Turns p g t ts
transfers_turn p g t ts e = record {
  finds = λ q was is. find_changed p g t q was is ts e;
  sums = λ f. sum_changed p g t f ts e;
  some = λ q same. any_changed p g t q same ts e;
}
