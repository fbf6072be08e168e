-- One element of a list is so, also after the list is changed.
use Rattle.std.proofs.Common.{◌≡◌, ℕ, zero, suc, Bool, true, ◌⊎◌, inl, inr, ⊎_elim, List, [], ◌∷◌, ◌++◌, map, filter, refl}
use Rattle.std.specs.Prelude.{Option, nat_lt, slice_set}
use Rattle.std.proofs.lemmas.Bool.{cond_both}
use Rattle.genie_model.specs.Tables.{put_in, entry}
use Rattle.genie_model.specs.Lemmas.Lists.{Has}

abbrev pub Among : {X : Type 0} → (X → Type 0) → List X → Type 0
Among P [] = ⊥
Among P (x ∷ xs) = P x ⊎ Among P xs

module _ {X : Type 0} (P : X → Type 0) where
  pub among_has : (xs : List X) → Among P xs → (x : X) × Has x xs × P x
  among_has [] h = absurd h
  among_has (x ∷ xs) (inl h) = (x, inl refl, h)
  among_has (x ∷ xs) (inr h) = let later = among_has xs h in (later.0, inr later.1, later.2)

  pub has_among : (x : X) (xs : List X) → Has x xs → P x → Among P xs
  has_among x [] e h = absurd e
  has_among x (y ∷ ys) (inl e) h = rw e (inl h)
  has_among x (y ∷ ys) (inr e) h = inr (has_among x ys e h)

  pub among_left : (xs ys : List X) → Among P xs → Among P (xs ++ ys)
  among_left [] ys h = absurd h
  among_left (x ∷ xs) ys (inl h) = inl h
  among_left (x ∷ xs) ys (inr h) = inr (among_left xs ys h)

  pub among_right : (xs ys : List X) → Among P ys → Among P (xs ++ ys)
  among_right [] ys h = h
  among_right (x ∷ xs) ys h = inr (among_right xs ys h)

  pub among_map : (f : X → X) → ((x : X) → P x → P (f x)) → (xs : List X) → Among P xs → Among P (map f xs)
  among_map f so [] h = absurd h
  among_map f so (x ∷ xs) (inl h) = inl (so x h)
  among_map f so (x ∷ xs) (inr h) = inr (among_map f so xs h)

  pub among_filter : (q : X → Bool) → ((x : X) → P x → q x ≡ true) → (xs : List X) → Among P xs → Among P (filter q xs)
  among_filter q so [] h = absurd h
  among_filter q so (x ∷ xs) (inl h) = let first = so x h in rw first (inl h)
  among_filter q so (x ∷ xs) (inr h) = let later = among_filter q so xs h in cond_both (q x) (x ∷ filter q xs) (filter q xs) (Among P) (λ _. inr later) (λ _. later)

  pub among_put : (key : X → ℕ) (x : X) (ys : List X) → P x ⊎ Among P ys → Among P (put_in key x ys)
  among_put key x [] h = h
  among_put key x (y ∷ ys) h = cond_both (nat_lt (key x) (key y)) (x ∷ y ∷ ys) (y ∷ put_in key x ys) (Among P) (λ _. h)
      (λ _. ⊎_elim (λ new. inr (among_put key x ys (inl new))) (λ old. ⊎_elim inl (λ later. inr (among_put key x ys (inr later))) old) h)

-- a table in which one entry is set
module _ {X : Type 0} (P : Option X → Type 0) where
  pub among_left_or_there : (xs : List (Option X)) (p : ℕ) (y : Option X) → Among P xs → P (entry xs p) ⊎ Among P (slice_set xs p y)
  among_left_or_there [] p y h = absurd h
  among_left_or_there (x ∷ xs) zero y (inl h) = inl h
  among_left_or_there (x ∷ xs) zero y (inr h) = inr (inr h)
  among_left_or_there (x ∷ xs) (suc p) y (inl h) = inr (inl h)
  among_left_or_there (x ∷ xs) (suc p) y (inr h) = ⊎_elim inl (λ later. inr (inr later)) (among_left_or_there xs p y h)

  pub among_set : (xs : List (Option X)) (p : ℕ) (y : Option X) → (P (entry xs p) → P y) → Among P xs → Among P (slice_set xs p y)
  among_set [] p y so h = absurd h
  among_set (x ∷ xs) zero y so (inl h) = inl (so h)
  among_set (x ∷ xs) zero y so (inr h) = inr h
  among_set (x ∷ xs) (suc p) y so (inl h) = inl h
  among_set (x ∷ xs) (suc p) y so (inr h) = inr (among_set xs p y so h)
