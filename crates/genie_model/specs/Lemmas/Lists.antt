-- Which elements a list has, and the first one that passes a test.
use Rattle.std.proofs.Common.{◌≡◌, ℕ, zero, suc, ◌<◌, Bool, true, false, ◌||◌, ◌⊎◌, inl, inr, ⊎_elim, List, [], ◌∷◌, ◌++◌, length, map, filter, find, cond, get_or, All, AllPairs, refl, sym, ap, subst, ◌∙◌, true≢false, arith}
use Rattle.std.specs.Prelude.{Option, Some, None, nat_lt, slice_set}
use Rattle.std.specs.Option.{option_map}
use Rattle.std.specs.List.{list_any}
use Rattle.std.proofs.lemmas.Bool.{cases_Bool, or_cases, or_parts, or_left, or_right, or_from, cond_both}
use Rattle.std.proofs.lemmas.List.Kept.{AllPairs-cons}
use Rattle.genie_model.specs.Tables.{put_in, entry}

abbrev pub Has : {X : Type 0} → X → List X → Type 0
Has x [] = ⊥
Has x (y ∷ ys) = (y ≡ x) ⊎ Has x ys

-- the first where there is one, or else the second
abbrev pub or_next : {X : Type 0} → Option X → Option X → Option X
or_next None o = o
or_next (Some x) o = Some x

module _ {X : Type 0} where
  pub all_has : (P : X → Type 0) (xs : List X) → All P xs → (x : X) → Has x xs → P x
  all_has P [] h x e = absurd e
  all_has P (y ∷ ys) h x (inl e) = subst P e (h zero y (omega arith))
  all_has P (y ∷ ys) h x (inr e) = all_has P ys (λ i d lt. h (suc i) d (omega arith)) x e

  pub has_at : (xs : List X) (i : ℕ) (d : X) → i < length xs → Has (get_or xs i d) xs
  has_at [] i d lt = absurd (omega arith)
  has_at (x ∷ xs) zero d lt = inl refl
  has_at (x ∷ xs) (suc i) d lt = inr (has_at xs i d (omega arith))

  pub has_left : (x : X) (xs ys : List X) → Has x xs → Has x (xs ++ ys)
  has_left x [] ys e = absurd e
  has_left x (y ∷ xs) ys (inl e) = inl e
  has_left x (y ∷ xs) ys (inr e) = inr (has_left x xs ys e)

  pub has_right : (x : X) (xs ys : List X) → Has x ys → Has x (xs ++ ys)
  has_right x [] ys e = e
  has_right x (y ∷ xs) ys e = inr (has_right x xs ys e)

  pub has_either : (x : X) (xs ys : List X) → Has x (xs ++ ys) → Has x xs ⊎ Has x ys
  has_either x [] ys e = inr e
  has_either x (y ∷ xs) ys (inl e) = inl (inl e)
  has_either x (y ∷ xs) ys (inr e) = ⊎_elim (λ l. inl (inr l)) inr (has_either x xs ys e)

  pub has_map : {Y : Type 0} (f : X → Y) (x : X) (xs : List X) → Has x xs → Has (f x) (map f xs)
  has_map f x [] e = absurd e
  has_map f x (y ∷ ys) (inl e) = inl (ap f e)
  has_map f x (y ∷ ys) (inr e) = inr (has_map f x ys e)

module _ {X : Type 0} (p : X → Bool) where
  pub has_any : (x : X) (xs : List X) → Has x xs → p x ≡ true → list_any p xs ≡ true
  has_any x [] h e = absurd h
  has_any x (y ∷ ys) (inl h) e = or_left (p y) (list_any p ys) (ap p h ∙ e)
  has_any x (y ∷ ys) (inr h) e = or_right (p y) (list_any p ys) (has_any x ys h e)

  pub any_has : (xs : List X) → list_any p xs ≡ true → (x : X) × Has x xs × (p x ≡ true)
  any_has [] e = absurd (cc)
  any_has (y ∷ ys) e = ⊎_elim (λ (h : p y ≡ true). (y, inl refl, h)) (λ h. let later = any_has ys h in (later.0, inr later.1, later.2)) (or_cases (p y) (list_any p ys) e)

  pub none_has : (x : X) (xs : List X) → Has x xs → list_any p xs ≡ false → p x ≡ false
  none_has x xs h e = ⊎_elim (λ (t : p x ≡ true). let s = has_any x xs h t in absurd (cc)) (λ f. f) (cases_Bool (p x))

  pub none_from : (xs : List X) → ((x : X) → Has x xs → p x ≡ false) → list_any p xs ≡ false
  none_from xs h = ⊎_elim (λ (t : list_any p xs ≡ true). let some = any_has xs t in let not = h some.0 some.1 in let is = some.2 in absurd (cc)) (λ f. f) (cases_Bool (list_any p xs))

  pub find_has : (xs : List X) (x : X) → find p xs ≡ Some x → Has x xs × (p x ≡ true)
  find_has [] x e = absurd (cc)
  find_has (y ∷ ys) x e = cond_both (p y) (Some y) (find p ys) (λ o. o ≡ Some x → Has x (y ∷ ys) × (p x ≡ true))
      (λ t f. let same : y ≡ x = cc in (inl same, sym (ap p same) ∙ t)) (λ t f. let later = find_has ys x f in (inr later.0, later.1)) e

  pub find_none : (xs : List X) → list_any p xs ≡ false → find p xs ≡ None
  find_none [] e = refl
  find_none (y ∷ ys) e = let both = or_parts (p y) (list_any p ys) e in let first = both.0 in rw first (find_none ys both.1)

  pub none_found : (xs : List X) → find p xs ≡ None → list_any p xs ≡ false
  none_found [] e = refl
  none_found (y ∷ ys) e = cond_both (p y) (Some y) (find p ys) (λ o. o ≡ None → list_any p (y ∷ ys) ≡ false) (λ t f. absurd (cc)) (λ t f. or_from (p y) (list_any p ys) t (none_found ys f)) e

  pub any_found : (xs : List X) → list_any p xs ≡ true → (x : X) × (find p xs ≡ Some x)
  any_found [] e = absurd (cc)
  any_found (y ∷ ys) e = cond_both (p y) (Some y) (find p ys) (λ o. (x : X) × (o ≡ Some x)) (λ _. (y, refl))
      (λ f. any_found ys (⊎_elim (λ yes. absurd (true≢false (sym yes ∙ f))) (λ later. later) (or_cases (p y) (list_any p ys) e)))

  pub any_append : (xs ys : List X) → list_any p (xs ++ ys) ≡ (list_any p xs || list_any p ys)
  any_append [] ys = refl
  any_append (x ∷ xs) ys = ⊎_elim (λ (t : p x ≡ true). rw t refl) (λ (t : p x ≡ false). rw t (any_append xs ys)) (cases_Bool (p x))

  pub find_append : (xs ys : List X) → find p (xs ++ ys) ≡ or_next (find p xs) (find p ys)
  find_append [] ys = refl
  find_append (x ∷ xs) ys = ⊎_elim (λ (t : p x ≡ true). rw t refl) (λ (t : p x ≡ false). rw t (find_append xs ys)) (cases_Bool (p x))

  pub find_first : (xs ys : List X) → list_any p xs ≡ true → find p (xs ++ ys) ≡ find p xs
  find_first [] ys e = absurd (cc)
  find_first (x ∷ xs) ys e = ⊎_elim (λ (t : p x ≡ true). rw t refl)
      (λ (t : p x ≡ false). rw t (find_first xs ys (⊎_elim (λ yes. absurd (cc)) (λ later. later) (or_cases (p x) (list_any p xs) e)))) (cases_Bool (p x))

  pub find_map : (f : X → X) → ((x : X) → p (f x) ≡ p x) → (xs : List X) → find p (map f xs) ≡ option_map f (find p xs)
  find_map f h [] = refl
  find_map f h (x ∷ xs) = ⊎_elim (λ (t : p x ≡ true). rw (h x, t) refl) (λ (t : p x ≡ false). rw (h x, t) (find_map f h xs)) (cases_Bool (p x))

  pub find_filter : (q : X → Bool) → ((x : X) → p x ≡ true → q x ≡ true) → (xs : List X) → find p (filter q xs) ≡ find p xs
  find_filter q h [] = refl
  find_filter q h (x ∷ xs) = ⊎_elim (λ (t : p x ≡ true). rw (h x t, t) refl)
      (λ (t : p x ≡ false). cond_both (q x) (x ∷ filter q xs) (filter q xs) (λ l. find p l ≡ cond (p x) (Some x) (find p xs)) (λ _. rw t (find_filter q h xs)) (λ _. rw t (find_filter q h xs)))
      (cases_Bool (p x))

  pub find_put_other : (key : X → ℕ) (x : X) → p x ≡ false → (ys : List X) → find p (put_in key x ys) ≡ find p ys
  find_put_other key x t [] = rw t refl
  find_put_other key x t (y ∷ ys) = cond_both (nat_lt (key x) (key y)) (x ∷ y ∷ ys) (y ∷ put_in key x ys) (λ l. find p l ≡ find p (y ∷ ys))
      (λ _. rw t refl) (λ _. ap (λ o. cond (p y) (Some y) o) (find_put_other key x t ys))

  pub find_put_here : (key : X → ℕ) (x : X) → p x ≡ true → (ys : List X) → list_any p ys ≡ false → find p (put_in key x ys) ≡ Some x
  find_put_here key x t [] e = rw t refl
  find_put_here key x t (y ∷ ys) e =
      let both = or_parts (p y) (list_any p ys) e in
      let first = both.0 in
      cond_both (nat_lt (key x) (key y)) (x ∷ y ∷ ys) (y ∷ put_in key x ys) (λ l. find p l ≡ Some x)
      (λ _. rw t refl) (λ _. rw first (find_put_here key x t ys both.1))

  pub any_filter : (q : X → Bool) → ((x : X) → p x ≡ true → q x ≡ true) → (xs : List X) → list_any p xs ≡ true → list_any p (filter q xs) ≡ true
  any_filter q h [] e = e
  any_filter q h (x ∷ xs) e = ⊎_elim (λ (t : p x ≡ true). rw (h x t, t) refl)
      (λ (later : list_any p xs ≡ true). cond_both (q x) (x ∷ filter q xs) (filter q xs) (λ l. list_any p l ≡ true) (λ _. or_right (p x) (list_any p (filter q xs)) (any_filter q h xs later)) (λ _. any_filter q h xs later))
      (or_cases (p x) (list_any p xs) e)

  pub any_map : {Y : Type 0} (q : Y → Bool) (f : X → Y) → ((x : X) → p x ≡ true → q (f x) ≡ true) → (xs : List X) → list_any p xs ≡ true → list_any q (map f xs) ≡ true
  any_map q f h [] e = absurd (cc)
  any_map q f h (x ∷ xs) e = ⊎_elim (λ (t : p x ≡ true). or_left (q (f x)) (list_any q (map f xs)) (h x t))
      (λ (later : list_any p xs ≡ true). or_right (q (f x)) (list_any q (map f xs)) (any_map q f h xs later))
      (or_cases (p x) (list_any p xs) e)

module _ {X : Type 0} (R : X → X → Type 0) where
  pub pairs_all : (x : X) (xs : List X) → AllPairs R (x ∷ xs) → All (R x) xs
  pairs_all x xs h = λ k d lt. h zero (suc k) d (omega arith) (omega arith)

  pub pairs_head : (x : X) (xs : List X) → AllPairs R (x ∷ xs) → (y : X) → Has y xs → R x y
  pairs_head x xs h = all_has (R x) xs (pairs_all x xs h)

  pub pairs_tail : (x : X) (xs : List X) → AllPairs R (x ∷ xs) → AllPairs R xs
  pairs_tail x xs h = λ i j d lt within. h (suc i) (suc j) d (omega arith) (omega arith)

  pub pairs_right : (xs ys : List X) → AllPairs R (xs ++ ys) → AllPairs R ys
  pairs_right [] ys h = h
  pairs_right (x ∷ xs) ys h = pairs_right xs ys (pairs_tail x (xs ++ ys) h)

  -- also without a part in the middle
  pub pairs_beside : (xs ms ys : List X) → AllPairs R (xs ++ (ms ++ ys)) → AllPairs R (xs ++ ys)
  pairs_beside [] ms ys h = pairs_right ms ys h
  pairs_beside (x ∷ xs) ms ys h = AllPairs-cons R x (xs ++ ys)
      (λ k d lt. pairs_head x (xs ++ (ms ++ ys)) h (get_or (xs ++ ys) k d)
      (⊎_elim (has_left _ xs (ms ++ ys)) (λ r. has_right _ xs (ms ++ ys) (has_right _ ms ys r)) (has_either (get_or (xs ++ ys) k d) xs ys (has_at (xs ++ ys) k d lt))))
      (pairs_beside xs ms ys (pairs_tail x (xs ++ (ms ++ ys)) h))

-- what is so of each entry of a table, and where there is none
pub at_entry : {X : Type 0} (P : Option X → Type 0) (xs : List (Option X)) (n : ℕ) → P None → All P xs → P (entry xs n)
at_entry P [] n none h = none
at_entry P (x ∷ xs) zero none h = h zero x (omega arith)
at_entry P (x ∷ xs) (suc n) none h = at_entry P xs n none (λ k d lt. h (suc k) d (omega arith))

-- a table in which each entry is changed
pub entry_map : {X : Type 0} (f : Option X → Option X) → f None ≡ None → (xs : List (Option X)) (n : ℕ) → entry (map f xs) n ≡ f (entry xs n)
entry_map f e [] n = sym e
entry_map f e (x ∷ xs) zero = refl
entry_map f e (x ∷ xs) (suc n) = entry_map f e xs n

-- or one is
pub entry_set : {X : Type 0} (P : Option X → Type 0) (xs : List (Option X)) (p n : ℕ) (y : Option X) → P (entry xs n) → (n ≡ p → P y) → P (entry (slice_set xs p y) n)
entry_set P [] p n y h new = h
entry_set P (x ∷ xs) zero zero y h new = new refl
entry_set P (x ∷ xs) zero (suc n) y h new = h
entry_set P (x ∷ xs) (suc p) zero y h new = h
entry_set P (x ∷ xs) (suc p) (suc n) y h new = entry_set P xs p n y h (λ e. new (omega arith))

pub entry_same : {X : Type 0} (xs : List (Option X)) (p : ℕ) (x : X) (y : Option X) → entry xs p ≡ Some x → entry (slice_set xs p y) p ≡ y
entry_same [] p x y e = absurd (cc)
entry_same (z ∷ xs) zero x y e = refl
entry_same (z ∷ xs) (suc p) x y e = entry_same xs p x y e
