-- What searches of a list find, and edits of the one element that a search finds.
use Rattle.std.proofs.Common.{◌≡◌, ◌≢◌, ℕ, ◌<◌, ◌≤◌, ◌+◌, suc, zero, Bool, true, false, not, cond, List, [], ◌∷◌, Some, None, refl, arith, length, get_or, set, map, ap, ⊎_elim, sym, ◌∙◌, ltb}
use Rattle.std.specs.Prelude.{find, filter, position, is_some}
use Rattle.std.specs.List.{remove, range_with_len, list_all, list_any, position_or_len, AllPairs}
use Rattle.std.proofs.lemmas.Bool.{cases_Bool, cases_eq, cases_lt, both_ways, cond-true, cond-false, false_from_ne_true, lt-ltb}
use Rattle.std.proofs.lemmas.List.Folds.{Any-from_list_any, find_at}
use Rattle.std.proofs.lemmas.List.Quantifiers.{position-Some}
use Rattle.std.proofs.lemmas.Option.{slice_get_past}
use Rattle.std.proofs.lemmas.List.Elements.{All-map}
use Rattle.std.proofs.lemmas.List.Kept.{AllPairs-cons}

pub find_none : {X : Type 0} (p : X → Bool) (d : X) (xs : List X) → ((i : ℕ) → i < length xs → p (get_or xs i d) ≡ false) → find p xs ≡ None
find_none p d [] h = refl
find_none p d (x ∷ xs) h = rw (h 0 (omega arith)) (find_none p d xs (λ i l. h (suc i) (omega arith)))

pub find_first : {X : Type 0} (p : X → Bool) (d : X) (xs : List X) (k : ℕ) → k < length xs → p (get_or xs k d) ≡ true → ((i : ℕ) → i < k → p (get_or xs i d) ≡ false) → find p xs ≡ Some (get_or xs k d)
find_first p d [] k l e h = absurd (omega arith)
find_first p d (x ∷ xs) zero l e h = rw e refl
find_first p d (x ∷ xs) (suc k) l e h = rw (h 0 (omega arith)) (find_first p d xs k (omega arith) e (λ i m. h (suc i) (omega arith)))

find_some : {X : Type 0} (p : X → Bool) (d : X) (xs : List X) (i : ℕ) → i < length xs → p (get_or xs i d) ≡ true → is_some (find p xs) ≡ true
find_some p d [] i l e = absurd (omega arith)
find_some p d (x ∷ xs) zero l e = rw e refl
find_some p d (x ∷ xs) (suc i) l e = elim (p x) as (λ b. is_some (cond b (Some x) (find p xs)) ≡ true) [ true ↦ refl | false ↦ find_some p d xs i (omega arith) e ]

-- where one element alone may pass
pub find_only : {X : Type 0} (p : X → Bool) (d : X) (xs : List X) (k : ℕ) → k < length xs → ((i : ℕ) → i < length xs → i ≢ k → p (get_or xs i d) ≡ false) → find p xs ≡ cond (p (get_or xs k d)) (Some (get_or xs k d)) None
find_only p d [] k l h = absurd (omega arith)
find_only p d (x ∷ xs) zero l h = ap (cond (p x) (Some x)) (find_none p d xs (λ i k. h (suc i) (omega arith) (omega arith)))
find_only p d (x ∷ xs) (suc k) l h = rw (h 0 (omega arith) (omega arith)) (find_only p d xs k (omega arith) (λ i m n. h (suc i) (omega arith) (omega arith)))

pub filter_all : {X : Type 0} (p : X → Bool) (d : X) (xs : List X) → ((i : ℕ) → i < length xs → p (get_or xs i d) ≡ false) → filter (λ x. not (p x)) xs ≡ xs
filter_all p d [] h = refl
filter_all p d (x ∷ xs) h = rw (h 0 (omega arith)) (ap (λ ys. x ∷ ys) (filter_all p d xs (λ i l. h (suc i) (omega arith))))

-- where one element alone passes, a filter leaves the list without it
pub remove_only : {X : Type 0} (p : X → Bool) (d : X) (xs : List X) (k : ℕ) → k < length xs → p (get_or xs k d) ≡ true → ((i : ℕ) → i < length xs → i ≢ k → p (get_or xs i d) ≡ false) → remove xs k ≡ filter (λ x. not (p x)) xs
remove_only p d [] k l e h = absurd (omega arith)
remove_only p d (x ∷ xs) zero l e h = rw (e, filter_all p d xs (λ i k. h (suc i) (omega arith) (omega arith))) refl
remove_only p d (x ∷ xs) (suc k) l e h = rw (h 0 (omega arith) (omega arith)) (ap (λ ys. x ∷ ys) (remove_only p d xs k (omega arith) e (λ i m n. h (suc i) (omega arith) (omega arith))))

map_all : {X : Type 0} (p : X → Bool) (f : X → X) (d : X) (xs : List X) → ((i : ℕ) → i < length xs → p (get_or xs i d) ≡ false) → map (λ x. cond (p x) (f x) x) xs ≡ xs
map_all p f d [] h = refl
map_all p f d (x ∷ xs) h = rw (h 0 (omega arith)) (ap (λ ys. x ∷ ys) (map_all p f d xs (λ i l. h (suc i) (omega arith))))

-- and a change of what passes is a write there
pub map_only : {X : Type 0} (p : X → Bool) (f : X → X) (d : X) (xs : List X) (k : ℕ) → k < length xs → p (get_or xs k d) ≡ true → ((i : ℕ) → i < length xs → i ≢ k → p (get_or xs i d) ≡ false) → map (λ x. cond (p x) (f x) x) xs ≡ set xs k (f (get_or xs k d))
map_only p f d [] k l e h = absurd (omega arith)
map_only p f d (x ∷ xs) zero l e h = rw e (ap (λ ys. f x ∷ ys) (map_all p f d xs (λ i k. h (suc i) (omega arith) (omega arith))))
map_only p f d (x ∷ xs) (suc k) l e h = rw (h 0 (omega arith) (omega arith)) (ap (λ ys. x ∷ ys) (map_only p f d xs k (omega arith) e (λ i m n. h (suc i) (omega arith) (omega arith))))

pub all_pass : {X : Type 0} (p : X → Bool) (d : X) (xs : List X) → ((i : ℕ) → i < length xs → p (get_or xs i d) ≡ true) → list_all p xs ≡ true
all_pass p d [] h = refl
all_pass p d (x ∷ xs) h = rw (h 0 (omega arith)) (all_pass p d xs (λ i l. h (suc i) (omega arith)))

-- the least number of a range that passes
pub find_least : (p : ℕ → Bool) (low n s : ℕ) → low ≤ s → s < low + n → p s ≡ true → ((t : ℕ) → low ≤ t → t < s → p t ≡ false) → find p (range_with_len low n) ≡ Some s
find_least p low zero s le lt e h = absurd (omega arith)
find_least p low (suc n) s le lt e h = ⊎_elim (λ same. rw same (rw e refl)) (λ ne. rw (h low (omega arith) (omega arith)) (find_least p (low + 1) n s (omega arith) (omega arith) e (λ t m k. h t (omega arith) k))) (cases_eq low s)

pub find_no_number : (p : ℕ → Bool) (low n : ℕ) → ((t : ℕ) → low ≤ t → t < low + n → p t ≡ false) → find p (range_with_len low n) ≡ None
find_no_number p low zero h = refl
find_no_number p low (suc n) h = rw (h low (omega arith) (omega arith)) (find_no_number p (low + 1) n (λ t l m. h t (omega arith) (omega arith)))

-- a relation that a change keeps
pub pairs_mapped : {X : Type 0} (R : X → X → Type 0) (f : X → X) → ((a b : X) → R a b → R (f a) (f b)) → (xs : List X) → AllPairs R xs → AllPairs R (map f xs)
pairs_mapped R f keeps [] h = λ i j d l m. absurd (omega arith)
pairs_mapped R f keeps (x ∷ xs) h = AllPairs-cons R (f x) (map f xs) (All-map (R (f x)) f xs (λ k d l. keeps _ _ (h 0 (suc k) d (omega arith) (omega arith)))) (pairs_mapped R f keeps xs (λ i j d l m. h (suc i) (suc j) d (omega arith) (omega arith)))

-- where a search finds something, the search for its place does
pub position_there : {X : Type 0} (p : X → Bool) (xs : List X) → is_some (find p xs) ≡ true → is_some (position p xs) ≡ true
position_there p xs e = ⊎_elim
    (λ (lt : position_or_len p xs < length xs). rw (lt-ltb (position_or_len p xs) (length xs) lt) refl)
    (λ (ge : length xs ≤ position_or_len p xs). let none = find_at p xs ∙ slice_get_past xs (position_or_len p xs) ge in absurd (both_ways (is_some (find p xs)) (ap is_some none) e))
    (cases_lt (position_or_len p xs) (length xs))

-- and finds what stands there
pub find_there : {X : Type 0} (p : X → Bool) (d : X) (xs : List X) (k : ℕ) → position p xs ≡ Some k → find p xs ≡ Some (get_or xs k d)
find_there p d xs k e =
    let at = position-Some p xs k d e in
    find_first p d xs k at.0 at.1 at.2

pub find_nowhere : {X : Type 0} (p : X → Bool) (xs : List X) → position p xs ≡ None → find p xs ≡ None
find_nowhere p xs e = ⊎_elim
    (λ (lt : position_or_len p xs < length xs). let some : Some (position_or_len p xs) ≡ None = sym (cond-true (ltb (position_or_len p xs) (length xs)) (Some (position_or_len p xs)) None (lt-ltb _ _ lt)) ∙ e in cc)
    (λ (ge : length xs ≤ position_or_len p xs). find_at p xs ∙ slice_get_past xs (position_or_len p xs) ge)
    (cases_lt (position_or_len p xs) (length xs))

-- where a search finds nothing, each fails
pub find_fails : {X : Type 0} (p : X → Bool) (d : X) (xs : List X) → is_some (find p xs) ≡ false → (i : ℕ) → i < length xs → p (get_or xs i d) ≡ false
find_fails p d xs e i l = false_from_ne_true (p (get_or xs i d)) (λ q. both_ways (is_some (find p xs)) e (find_some p d xs i l q))

-- what a search of a range of numbers finds is the least that passes
pub record IsLeast (p : ℕ → Bool) (from to s : ℕ) : Type 0 where
  pub low : from ≤ s
  pub high : s < to
  pub passes : p s ≡ true
  pub least : (t : ℕ) → from ≤ t → t < s → p t ≡ false

pub least_found : (p : ℕ → Bool) (low n s : ℕ) → find p (range_with_len low n) ≡ Some s → IsLeast p low (low + n) s
least_found p low zero s e = absurd (cc)
least_found p low (suc n) s e = ⊎_elim
    (λ (yes : p low ≡ true).
    let same : Some low ≡ Some s = sym (cond-true (p low) (Some low) (find p (range_with_len (low + 1) n)) yes) ∙ e in
    let is : low ≡ s = cc in
    record { low = omega arith; high = omega arith; passes = ap p (sym is) ∙ yes; least = λ t l m. absurd (omega arith) })
    (λ (no : p low ≡ false).
    let later = least_found p (low + 1) n s (sym (cond-false (p low) (Some low) (find p (range_with_len (low + 1) n)) no) ∙ e) in
    record { low = omega (arith, later.low); high = omega (arith, later.high); passes = later.passes; least = λ t l m. ⊎_elim (λ (same : t ≡ low). ap p same ∙ no) (λ ne. later.least t (omega arith) m) (cases_eq t low) })
    (cases_Bool (p low))

pub none_found : (p : ℕ → Bool) (low n s : ℕ) → find p (range_with_len low n) ≡ None → low ≤ s → s < low + n → p s ≡ false
none_found p low zero s e l m = absurd (omega arith)
none_found p low (suc n) s e l m = ⊎_elim
    (λ (yes : p low ≡ true). let some : Some low ≡ None = sym (cond-true (p low) (Some low) (find p (range_with_len (low + 1) n)) yes) ∙ e in absurd (cc))
    (λ (no : p low ≡ false). ⊎_elim (λ (same : s ≡ low). ap p same ∙ no) (λ ne. none_found p (low + 1) n s (sym (cond-false (p low) (Some low) (find p (range_with_len (low + 1) n)) no) ∙ e) (omega arith) (omega arith)) (cases_eq s low))
    (cases_Bool (p low))

-- where one passes, the search for its place finds one
pub position_any : {X : Type 0} (p : X → Bool) (xs : List X) → list_any p xs ≡ true → is_some (position p xs) ≡ true
position_any p xs e = let any = Any-from_list_any p xs e in position_there p xs (find_some p any.1 xs any.0 any.2 (ap p any.3 ∙ any.4))
