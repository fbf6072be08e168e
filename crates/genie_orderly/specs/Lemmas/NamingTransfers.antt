-- Which transfers name a region, and how many, where transfers are added, changed and taken away.
use Rattle.std.proofs.Common.{◌≡◌, ℕ, ◌+◌, ◌≤◌, Bool, true, false, ◌||◌, ◌⊎◌, ⊎_elim, List, [], ◌∷◌, ◌++◌, map, filter, find, count_by, cond, All, refl, sym, ap, ◌∙◌, true≢false, arith, subst}
use Rattle.std.specs.Prelude.{Some}
use Rattle.std.specs.List.{list_any}
use Rattle.std.proofs.lemmas.Bool.{cases_Bool, cond_both, and_parts, or_cases, or_left, or_right, or_parts, and_left}
use Rattle.std.proofs.lemmas.List.Elements.{All-cons, All-head, All-tail, All-push}
use Rattle.std.proofs.lemmas.List.Sums.{sum_by-cons, sum_by_push}
use Rattle.genie_model.specs.State.{State, Transfer}
use Rattle.genie_model.specs.Tables.{change, without}
use Rattle.genie_model.specs.Pending.{names}
use Rattle.genie_model.specs.Space.{is_move}
use Rattle.genie_orderly.specs.Orderly.{moves_into}
use Rattle.genie_model.specs.Lemmas.Lists.{any_append}
use Rattle.genie_orderly.specs.Lemmas.NamedRanges.{Fine, One, Stand}
use Rattle.genie_model.specs.Lemmas.PendingCalls.{KeepsCall}

abbrev as_one : Bool → ℕ
as_one b = cond b 1 0

module _ {X : Type 0} (q : X → Bool) where
  pub count-cons : (x : X) (xs : List X) → count_by q (x ∷ xs) ≡ cond (q x) 1 0 + count_by q xs
  count-cons x xs = sum_by-cons (λ (y : X). cond (q y) 1 0) x xs

  pub any_without : (p : X → Bool) (xs : List X) → list_any q (without p xs) ≡ true → list_any q xs ≡ true
  any_without p [] e = e
  any_without p (x ∷ xs) e = cond_both (p x) xs (x ∷ without p xs) (λ l. list_any q l ≡ true → list_any q (x ∷ xs) ≡ true)
      (λ _ h. or_right (q x) (list_any q xs) h)
      (λ _ h. ⊎_elim (or_left (q x) (list_any q xs)) (λ later. or_right (q x) (list_any q xs) (any_without p xs later)) (or_cases (q x) (list_any q (without p xs)) h)) e

  pub count_without : (p : X → Bool) (xs : List X) → count_by q (without p xs) ≤ count_by q xs
  count_without p [] = omega arith
  count_without p (x ∷ xs) = cond_both (p x) xs (x ∷ without p xs) (λ l. count_by q l ≤ count_by q (x ∷ xs))
      (λ _. omega (arith, count-cons x xs)) (λ _. omega (arith, count-cons x xs, count-cons x (without p xs), count_without p xs))

  pub count_taken : (p : X → Bool) (xs : List X) (x : X) → find p xs ≡ Some x → q x ≡ true → count_by q (without p xs) + 1 ≡ count_by q xs
  count_taken p [] x e t = absurd (cc)
  count_taken p (y ∷ ys) x e t = ⊎_elim
      (λ (here : p y ≡ true). let f : Some y ≡ Some x = rw here at e in let same : y ≡ x = cc in let is : q y ≡ true = ap q same ∙ t in rw here (omega (arith, count-cons y ys, ap as_one is)))
      (λ (later : p y ≡ false). let f : find p ys ≡ Some x = rw later at e in rw later (omega (arith, count-cons y ys, count-cons y (without p ys), count_taken p ys x f t)))
      (cases_Bool (p y))

  pub any_count : (p : X → Bool) → ((x : X) → p x ≡ true → q x ≡ true) → (xs : List X) → list_any p xs ≡ true → 1 ≤ count_by q xs
  any_count p h [] e = absurd (cc)
  any_count p h (x ∷ xs) e = ⊎_elim (λ t. omega (arith, count-cons x xs, ap as_one (h x t))) (λ later. omega (arith, count-cons x xs, any_count p h xs later)) (or_cases (p x) (list_any p xs) e)

  pub count_none : (xs : List X) → list_any q xs ≡ false → count_by q xs ≡ 0
  count_none [] e = refl
  count_none (x ∷ xs) e = let both = or_parts (q x) (list_any q xs) e in omega (arith, count-cons x xs, ap as_one both.0, count_none xs both.1)

  pub any_change : (p : X → Bool) (f : X → X) → ((x : X) → q (f x) ≡ q x) → (xs : List X) → list_any q (change p f xs) ≡ list_any q xs
  any_change p f h [] = refl
  any_change p f h (x ∷ xs) = cond_both (p x) (f x ∷ xs) (x ∷ change p f xs) (λ l. list_any q l ≡ list_any q (x ∷ xs))
      (λ _. ap (λ b. b || list_any q xs) (h x)) (λ _. ap (λ b. q x || b) (any_change p f h xs))

  pub count_change : (p : X → Bool) (f : X → X) → ((x : X) → q (f x) ≡ q x) → (xs : List X) → count_by q (change p f xs) ≡ count_by q xs
  count_change p f h [] = refl
  count_change p f h (x ∷ xs) = cond_both (p x) (f x ∷ xs) (x ∷ change p f xs) (λ l. count_by q l ≡ count_by q (x ∷ xs))
      (λ _. omega (arith, count-cons x xs, count-cons (f x) xs, ap as_one (h x))) (λ _. omega (arith, count-cons x xs, count-cons x (change p f xs), count_change p f h xs))

  -- of those that are kept, each as it is changed
  pub any_kept : (p : X → Bool) (f : X → X) → ((x : X) → q (f x) ≡ true → q x ≡ true) → (xs : List X) → list_any q (map f (filter p xs)) ≡ true → list_any q xs ≡ true
  any_kept p f h [] e = e
  any_kept p f h (x ∷ xs) e = cond_both (p x) (x ∷ filter p xs) (filter p xs) (λ l. list_any q (map f l) ≡ true → list_any q (x ∷ xs) ≡ true)
      (λ _ k. ⊎_elim (λ t. or_left (q x) (list_any q xs) (h x t)) (λ later. or_right (q x) (list_any q xs) (any_kept p f h xs later)) (or_cases (q (f x)) (list_any q (map f (filter p xs))) k))
      (λ _ k. or_right (q x) (list_any q xs) (any_kept p f h xs k)) e

  pub count_kept : (p : X → Bool) (f : X → X) → ((x : X) → q (f x) ≡ true → q x ≡ true) → (xs : List X) → count_by q (map f (filter p xs)) ≤ count_by q xs
  count_kept p f h [] = omega arith
  count_kept p f h (x ∷ xs) = cond_both (p x) (x ∷ filter p xs) (filter p xs) (λ l. count_by q (map f l) ≤ count_by q (x ∷ xs))
      (λ _. ⊎_elim (λ t. omega (arith, count-cons x xs, count-cons (f x) (map f (filter p xs)), count_kept p f h xs, ap as_one t, ap as_one (h x t)))
      (λ n. omega (arith, count-cons x xs, count-cons (f x) (map f (filter p xs)), count_kept p f h xs, ap as_one n)) (cases_Bool (q (f x))))
      (λ _. omega (arith, count-cons x xs, count_kept p f h xs))

module _ {X : Type 0} (P : X → Type 0) where
  pub all_change : (p : X → Bool) (f : X → X) → ((x : X) → P x → P (f x)) → (xs : List X) → All P xs → All P (change p f xs)
  all_change p f h [] a = a
  all_change p f h (x ∷ xs) a = cond_both (p x) (f x ∷ xs) (x ∷ change p f xs) (All P) (λ _. All-cons P (f x) xs (h x (All-head P x xs a)) (All-tail P x xs a)) (λ _. All-cons P x (change p f xs) (All-head P x xs a) (all_change p f h xs (All-tail P x xs a)))

  pub all_without : (p : X → Bool) (xs : List X) → All P xs → All P (without p xs)
  all_without p [] a = a
  all_without p (x ∷ xs) a = cond_both (p x) xs (x ∷ without p xs) (All P) (λ _. All-tail P x xs a) (λ _. All-cons P x (without p xs) (All-head P x xs a) (all_without p xs (All-tail P x xs a)))

abbrev pub fine_in : State → Transfer → Type 0
fine_in s u = Fine s u u.class u.region

pub fewer : (news olds : List Transfer) → ((k : ℕ) → list_any (moves_into k) news ≡ true → list_any (moves_into k) olds ≡ true) → ((k : ℕ) → count_by (names k) news ≤ count_by (names k) olds) → One olds → One news
fewer news olds any count one k e = omega (arith, count k, one k (any k e))

pub stand_without : (s : State) (transfers : List Transfer) (p : Transfer → Bool) → Stand s transfers → Stand s (without p transfers)
stand_without s ts p h = record {
  each = all_without (fine_in s) p ts h.each;
  one = fewer (without p ts) ts (λ k. any_without (moves_into k) p ts) (λ k. count_without (names k) p ts) h.one;
}

-- where a transfer that names k is taken away, no other one named it, or no move input does
pub none_left : (transfers : List Transfer) (p : Transfer → Bool) (t : Transfer) (k : ℕ) → One transfers → find p transfers ≡ Some t → names k t ≡ true → list_any (moves_into k) (without p transfers) ≡ false
none_left ts p t k one found named = ⊎_elim
    (λ (e : list_any (moves_into k) (without p ts) ≡ true).
    let taken = count_taken (names k) p ts t found named in
    let some = any_count (names k) (moves_into k) (λ u m. (and_parts (is_move u.class) (names k u) m).1) (without p ts) e in
    let most = one k (any_without (moves_into k) p ts e) in
    absurd (omega arith))
    (λ f. f) (cases_Bool (list_any (moves_into k) (without p ts)))

-- a transfer is changed that keeps its call
pub stand_change : (s : State) (transfers : List Transfer) (p : Transfer → Bool) (f : Transfer → Transfer) → KeepsCall f → Stand s transfers → Stand s (change p f transfers)
stand_change s ts p f call h =
    let moves = λ (k : ℕ) (u : Transfer). ap (moves_into k) (call u) in
    let named = λ (k : ℕ) (u : Transfer). ap (names k) (call u) in
    record {
      each = all_change (fine_in s) p f (λ u fine. subst (fine_in s) (sym (call u)) fine) ts h.each;
      one = fewer (change p f ts) ts (λ k e. sym (any_change (moves_into k) p f (moves k) ts) ∙ e) (λ k. omega (arith, count_change (names k) p f (named k) ts)) h.one;
    }

-- what the new transfer names no other one does, or it isn't moved into
abbrev pub Joins : List Transfer → Transfer → Type 0
Joins transfers u = (k : ℕ) → names k u ≡ true → ((is_move u.class ≡ false) × (list_any (moves_into k) transfers ≡ false)) ⊎ (list_any (names k) transfers ≡ false)

joined_one : (transfers : List Transfer) (u : Transfer) (k : ℕ) → Joins transfers u → list_any (moves_into k) (transfers ++ u ∷ []) ≡ true → (list_any (moves_into k) transfers ≡ true → count_by (names k) transfers ≤ 1) → count_by (names k) (transfers ++ u ∷ []) ≤ 1
joined_one ts u k joins e one =
    let count = sum_by_push (λ (v : Transfer). cond (names k v) 1 0) ts u in
    let either = or_cases (list_any (moves_into k) ts) (moves_into k u || false) (sym (any_append (moves_into k) ts (u ∷ [])) ∙ e) in
    ⊎_elim
    (λ (named : names k u ≡ true). ⊎_elim
    (λ weak. absurd (⊎_elim (λ moves. true≢false (sym moves ∙ weak.1)) (λ moves. ⊎_elim (λ m. true≢false (sym m ∙ and_left (is_move u.class) (names k u) weak.0)) (λ m. true≢false (sym m)) (or_cases (moves_into k u) false moves)) either))
    (λ none. omega (arith, count, count_none (names k) ts none, ap as_one named))
    (joins k named))
    (λ (not_named : names k u ≡ false).
    let old = ⊎_elim (λ moves. moves) (λ moves. ⊎_elim (λ m. absurd (true≢false (sym (and_parts (is_move u.class) (names k u) m).1 ∙ not_named))) (λ m. absurd (true≢false (sym m))) (or_cases (moves_into k u) false moves)) either in
    omega (arith, count, one old, ap as_one not_named))
    (cases_Bool (names k u))

pub stand_push : (s : State) (transfers : List Transfer) (u : Transfer) → Fine s u u.class u.region → Joins transfers u → Stand s transfers → Stand s (transfers ++ u ∷ [])
stand_push s ts u fine joins h = record { each = All-push (fine_in s) ts u h.each fine; one = λ k e. joined_one ts u k joins e (h.one k) }
