-- Numbers that are marked, and the least one that isn't.
use Rattle.std.proofs.Common.{◌≡◌, ◌≢◌, ℕ, ◌+◌, ◌<◌, ◌≤◌, zero, suc, Bool, true, false, not, cond, List, [], ◌∷◌, refl, sym, ap, ap₂, subst, arith, rules, ◌∙◌, length, take, get_or, set, replicate, get_or-set_other, get_or-set_same, length-set, filter, ⊎_elim, eq-eqb}
use Rattle.std.specs.Prelude.{Option, Some, ◌||◌, ◌&&◌, ◌==◌, slice_get}
use Rattle.std.specs.List.{list_any, range_with_len}
use Rattle.std.proofs.lemmas.Bool.{cases_eq}
use Rattle.std.proofs.lemmas.List.{take_more, take_all}
use Rattle.genie_region.specs.declared.region.Region.{Region}
use Rattle.genie_model.specs.Lemmas.FreshNumbers.{fresh_begins, fresh_found, fresh_goes_on, fresh_ends}
use Rattle.genie_model.specs.Lemmas.Lists.{any_append}
use Rattle.genie_model.specs.Regions.{is_used, least_unused, fresh}
use Rattle.genie_model.specs.State.{State}
use Rattle.genie_kernel.specs.declared.kernel.Kernel.{Kernel}
use Rattle.genie_kernel.specs.Calls.{names_weakly}
use Rattle.genie_kernel.specs.Orphans.{is_orphan, all_numbers}
use Rattle.genie_kernel.specs.Regions.{has_id, owned_regions, regions_of}
use Rattle.genie_kernel.specs.View.{outline, no_bytes}
use Rattle.genie_kernel.specs.Lemmas.Fresh.{used_view}
use Rattle.genie_spaces.specs.Marks.{Marks, IsLeast, is_marked, has_region}

or_false : (b : Bool) → b ≡ (b || false)
or_false true = refl
or_false false = refl

or_true : (b : Bool) → true ≡ (b || true)
or_true true = refl
or_true false = refl

or_or : (a b c : Bool) → ((a || b) || c) ≡ (a || (b || c))
or_or true b c = refl
or_or false b c = refl

-- none is marked besides
pub marks_none : (q : ℕ → Bool) (marks : List Bool) → ((n : ℕ) → q n ≡ false) → Marks q marks marks
marks_none q marks none = record { size = refl; each = λ n l. or_false (is_marked marks n) ∙ ap (λ b. is_marked marks n || b) (sym (none n)) }

pub marks_on : (p q r : ℕ → Bool) (a b c : List Bool) → ((n : ℕ) → r n ≡ (p n || q n)) → Marks p a b → Marks q b c → Marks r a c
marks_on p q r a b c is x y = record {
  size = y.size ∙ x.size;
  each = λ n l. y.each n (let s = x.size in omega (arith, s, l)) ∙ ap (λ v. v || q n) (x.each n l) ∙ or_or (is_marked a n) (p n) (q n) ∙ ap (λ v. is_marked a n || v) (sym (is n));
}

pub marks_as : (q r : ℕ → Bool) (a b : List Bool) → ((n : ℕ) → q n ≡ r n) → Marks q a b → Marks r a b
marks_as q r a b same x = record { size = x.size; each = λ n l. x.each n l ∙ ap (λ v. is_marked a n || v) (same n) }

pub marks_one : (k : ℕ) (marks : List Bool) → k < length marks → Marks (λ n. k == n) marks (set marks k true)
marks_one k marks there = record {
  size = length-set marks k true;
  each = λ n l. ⊎_elim
      (λ (same : k ≡ n). subst (λ m. is_marked (set marks k true) m ≡ (is_marked marks m || (k == m))) same (get_or-set_same marks k true false there ∙ or_true (is_marked marks k) ∙ ap (λ v. is_marked marks k || v) (sym (eq-eqb k k refl))))
      (λ (other : k ≢ n). let fails : (k == n) ≡ false = grind (arith, rules, other) in get_or-set_other marks k n true false (λ s. other (sym s)) ∙ or_false (is_marked marks n) ∙ ap (λ v. is_marked marks n || v) (sym fails))
      (cases_eq k n);
}

-- a number past the end has no mark
pub marks_past : (k : ℕ) (marks : List Bool) → length marks ≤ k → Marks (λ n. k == n) marks marks
marks_past k marks past = record {
  size = refl;
  each = λ n l. let other : k ≢ n = λ s. absurd (omega (arith, past, l, s)) in let fails : (k == n) ≡ false = grind (arith, rules, other) in or_false (is_marked marks n) ∙ ap (λ v. is_marked marks n || v) (sym fails);
}

any_more : {X : Type 0} (q : X → Bool) (xs : List X) (i : ℕ) (d : X) → i < length xs → list_any q (take (i + 1) xs) ≡ (list_any q (take i xs) || q (get_or xs i d))
any_more q xs i d l = ap (list_any q) (take_more xs i d l) ∙ any_append q (take i xs) (get_or xs i d ∷ []) ∙ ap (λ b. list_any q (take i xs) || b) (sym (or_false (q (get_or xs i d))))

-- the marks of the first elements of a list, of one more, and of all
pub marks_begin : {X : Type 0} (q : ℕ → X → Bool) (xs : List X) (marks : List Bool) → Marks (λ n. list_any (q n) (take 0 xs)) marks marks
marks_begin q xs marks = marks_none (λ n. list_any (q n) (take 0 xs)) marks (λ n. refl)

pub marks_next : {X : Type 0} (q : ℕ → X → Bool) (xs : List X) (i : ℕ) (d : X) (a b c : List Bool) → i < length xs → Marks (λ n. list_any (q n) (take i xs)) a b → Marks (λ n. q n (get_or xs i d)) b c → Marks (λ n. list_any (q n) (take (i + 1) xs)) a c
marks_next q xs i d a b c l x y = marks_on (λ n. list_any (q n) (take i xs)) (λ n. q n (get_or xs i d)) (λ n. list_any (q n) (take (i + 1) xs)) a b c (λ n. any_more (q n) xs i d l) x y

pub marks_all : {X : Type 0} (q : ℕ → X → Bool) (xs : List X) (i : ℕ) (a b : List Bool) → length xs ≤ i → Marks (λ n. list_any (q n) (take i xs)) a b → Marks (λ n. list_any (q n) xs) a b
marks_all q xs i a b end x = subst (λ l. Marks (λ n. list_any (q n) l) a b) (take_all i xs end) x

pub got_at : (xs : List Region) (i : ℕ) (x d : Region) → slice_get xs i ≡ Some x → (i < length xs) × (get_or xs i d ≡ x)
got_at [] i x d e = absurd (cc)
got_at (y ∷ xs) zero x d e = (omega arith, cc)
got_at (y ∷ xs) (suc i) x d e = let later = got_at xs i x d e in (omega (arith, later.0), later.1)

pub least_more : (marks : List Bool) (n : ℕ) → ((j : ℕ) → j < n → is_marked marks j ≡ true) → is_marked marks n ≡ true → (j : ℕ) → j < n + 1 → is_marked marks j ≡ true
least_more marks n before here j l = ⊎_elim (λ (same : j ≡ n). ap (is_marked marks) same ∙ here) (λ other. before j (omega (arith, l, other))) (cases_eq j n)

module _ (s : State) (marks : List Bool) (size : length marks ≡ 577) (same : (n : ℕ) → n < 577 → is_marked marks n ≡ is_used s n) (r : ℕ) (least : IsLeast marks r) where
  least_from : (tries n : ℕ) → tries + n ≡ 577 → n ≤ r → least_unused s tries n ≡ r
  least_from zero n e l = fresh_ends s n ∙ (let m = least.most in omega (arith, e, l, m, size))
  least_from (suc tries) n e l = ⊎_elim
      (λ (here : n ≡ r). let below : n < 577 = omega (arith, e) in fresh_found s (suc tries) n (omega arith) (sym (same n below) ∙ ap (is_marked marks) here ∙ least.free (omega (arith, below, here, size))) ∙ here)
      (λ other. let below : n < r = omega (arith, l, other) in fresh_goes_on s tries n (sym (same n (omega (arith, e))) ∙ least.before n below) ∙ least_from tries (n + 1) (omega (arith, e)) (omega (arith, below)))
      (cases_eq n r)

  -- the first number without a mark is the least that isn't used
  pub least_fresh : r ≡ fresh s
  least_fresh = sym (least_from 577 0 refl (omega arith)) ∙ fresh_begins s 577 refl

module _ (q : ℕ → Bool) (n : ℕ) where
  none_above : (a m : ℕ) → n < a → list_any (λ j. j == n) (filter q (range_with_len a m)) ≡ false
  none_above a zero l = refl
  none_above a (suc m) l =
      let fails : (a == n) ≡ false = grind (arith, rules, l) in
      let later = none_above (a + 1) m (omega (arith, l)) in
      elim (q a) as (λ b. list_any (λ j. j == n) (cond b (a ∷ filter q (range_with_len (a + 1) m)) (filter q (range_with_len (a + 1) m))) ≡ false) [ true ↦ ap₂ ◌||◌ fails later | false ↦ later ]

  passes_there : (a m : ℕ) → a ≤ n → n < a + m → list_any (λ j. j == n) (filter q (range_with_len a m)) ≡ q n
  passes_there a zero low high = absurd (omega (arith, low, high))
  passes_there a (suc m) low high = ⊎_elim
      (λ (same : a ≡ n).
      let none = none_above (a + 1) m (omega (arith, same)) in
      let is : (a == n) ≡ true = eq-eqb a n same in
      (elim (q a) as (λ b. list_any (λ j. j == n) (cond b (a ∷ filter q (range_with_len (a + 1) m)) (filter q (range_with_len (a + 1) m))) ≡ b) [ true ↦ ap (λ b. b || list_any (λ j. j == n) (filter q (range_with_len (a + 1) m))) is | false ↦ none ]) ∙ ap q same)
      (λ (other : a ≢ n).
      let fails : (a == n) ≡ false = grind (arith, rules, other) in
      let later = passes_there (a + 1) m (omega (arith, low, other)) (omega (arith, high)) in
      elim (q a) as (λ b. list_any (λ j. j == n) (cond b (a ∷ filter q (range_with_len (a + 1) m)) (filter q (range_with_len (a + 1) m))) ≡ q n) [ true ↦ ap (λ b. b || list_any (λ j. j == n) (filter q (range_with_len (a + 1) m))) fails ∙ later | false ↦ later ])
      (cases_eq a n)

among_numbers : (q : ℕ → Bool) (n : ℕ) → n < 577 → list_any (λ j. j == n) (filter q all_numbers) ≡ q n
unfolding all_numbers
among_numbers q n l = passes_there q n 0 577 (omega arith) (omega (arith, l))

any_joined : (n : ℕ) (ps : List (Option (List Region))) → list_any (has_id n) (owned_regions ps) ≡ list_any (has_region n) ps
any_joined n [] = refl
any_joined n (p ∷ ps) = any_append (has_id n) (regions_of p) (owned_regions ps) ∙ ap (λ b. has_region n p || b) (any_joined n ps)

either : (a b : Bool) → ((a && not b) || b) ≡ (b || a)
either true true = refl
either true false = refl
either false true = refl
either false false = refl

-- a number is used that a region has or a weak transfer names
pub used_numbers : (k : Kernel) (n : ℕ) → n < 577 → is_used (outline k) n ≡ (list_any (has_region n) k.spaces.processes || list_any (names_weakly n) k.transfers)
used_numbers k n l =
    let ps = k.spaces.processes in
    used_view k (no_bytes k.config.page) n
    ∙ ap (λ b. b || list_any (has_region n) ps) (among_numbers (is_orphan (owned_regions ps) k.transfers) n l ∙ ap (λ b. list_any (names_weakly n) k.transfers && not b) (any_joined n ps))
    ∙ either (list_any (names_weakly n) k.transfers) (list_any (has_region n) ps)

get_none : (n m : ℕ) → get_or (replicate n false) m false ≡ false
get_none zero m = refl
get_none (suc n) zero = refl
get_none (suc n) (suc m) = get_none n m

-- once both are marked the first number without a mark is that of a new region
pub number_fresh : (k : Kernel) (a b c : List Bool) (r : ℕ) → a ≡ replicate 577 false → length a ≡ 577 → Marks (λ n. list_any (has_region n) k.spaces.processes) a b → Marks (λ n. list_any (names_weakly n) k.transfers) b c → IsLeast c r → r ≡ fresh (outline k)
number_fresh k a b c r none size x y least = least_fresh (outline k) c (y.size ∙ x.size ∙ size)
    (λ n l. y.each n (let s = x.size in omega (arith, s, size, l)) ∙ ap (λ v. v || list_any (names_weakly n) k.transfers) (x.each n (omega (arith, size, l)) ∙ ap (λ v. v || list_any (has_region n) k.spaces.processes) (ap (λ l. is_marked l n) none ∙ get_none 577 n)) ∙ sym (used_numbers k n l))
    r least
