-- The first record of a table that passes a test.
use Rattle.std.proofs.Common.{◌≡◌, ℕ, zero, suc, ◌+◌, ◌<◌, ◌≤◌, Bool, true, false, List, [], ◌∷◌, ◌++◌, length, take, drop, get_or, add-one, append_assoc, append-nil, refl, ap, sym, ◌∙◌, arith}
use Rattle.std.specs.Prelude.{find, Some}
use Rattle.std.proofs.Math.ListN.{set}
use Rattle.std.proofs.Math.Seq.{drop-cons, take-suc}
use Rattle.std.proofs.lemmas.List.{drop_all, take_all}
use Rattle.genie_model.specs.Tables.{change, without}

-- none of the first i records passes
pub record Passed {X : Type 0} (p : X → Bool) (xs : List X) (i : ℕ) : Type 0 where
  pub found : find p (drop i xs) ≡ find p xs
  pub changed : (f : X → X) → take i xs ++ change p f (drop i xs) ≡ change p f xs
  pub removed : take i xs ++ without p (drop i xs) ≡ without p xs

pub passed_none : {X : Type 0} (p : X → Bool) (xs : List X) → Passed p xs 0
passed_none p xs = record { found = refl; changed = λ f. refl; removed = refl }

find-other : {X : Type 0} (p : X → Bool) (x : X) (xs : List X) → p x ≡ false → find p (x ∷ xs) ≡ find p xs
find-other p x xs e = rw e refl

change-other : {X : Type 0} (p : X → Bool) (f : X → X) (x : X) (xs : List X) → p x ≡ false → change p f (x ∷ xs) ≡ x ∷ change p f xs
change-other p f x xs e = rw e refl

without-other : {X : Type 0} (p : X → Bool) (x : X) (xs : List X) → p x ≡ false → without p (x ∷ xs) ≡ x ∷ without p xs
without-other p x xs e = rw e refl

-- nor does the next one
pub passed_more : {X : Type 0} (p : X → Bool) (xs : List X) (i : ℕ) (d : X) → i < length xs → Passed p xs i → p (get_or xs i d) ≡ false → Passed p xs (i + 1)
passed_more {X} p xs i d h so other =
    let x : X = get_or xs i d in
    let rest : List X = drop (suc i) xs in
    let next : drop i xs ≡ x ∷ rest = drop-cons xs i d h in
    rw add-one (record {
      found = sym (find-other p x rest other) ∙ ap (find p) (sym next) ∙ so.found;
      changed = λ f. rw (take-suc xs i d h, append_assoc) (ap (λ l. take i xs ++ l) (sym (change-other p f x rest other)) ∙ ap (λ l. take i xs ++ change p f l) (sym next) ∙ so.changed f);
      removed = rw (take-suc xs i d h, append_assoc) (ap (λ l. take i xs ++ l) (sym (without-other p x rest other)) ∙ ap (λ l. take i xs ++ without p l) (sym next) ∙ so.removed);
    })

find-same : {X : Type 0} (p : X → Bool) (x : X) (xs : List X) → p x ≡ true → find p (x ∷ xs) ≡ Some x
find-same p x xs e = rw e refl

change-same : {X : Type 0} (p : X → Bool) (f : X → X) (x : X) (xs : List X) → p x ≡ true → change p f (x ∷ xs) ≡ f x ∷ xs
change-same p f x xs e = rw e refl

without-same : {X : Type 0} (p : X → Bool) (x : X) (xs : List X) → p x ≡ true → without p (x ∷ xs) ≡ xs
without-same p x xs e = rw e refl

set_split : {X : Type 0} (xs : List X) (i : ℕ) (y : X) → i < length xs → set xs i y ≡ take i xs ++ y ∷ drop (suc i) xs
set_split [] i y h = absurd (omega arith)
set_split (x ∷ xs) zero y h = refl
set_split (x ∷ xs) (suc i) y h = ap (λ l. x ∷ l) (set_split xs i y (omega arith))

-- the next record is the first that passes
module _ {X : Type 0} (p : X → Bool) (xs : List X) (i : ℕ) (d : X) (h : i < length xs) (so : Passed p xs i) (same : p (get_or xs i d) ≡ true) where
  pub passed_found : find p xs ≡ Some (get_or xs i d)
  passed_found = sym so.found ∙ ap (find p) (drop-cons xs i d h) ∙ find-same p (get_or xs i d) (drop (suc i) xs) same

  pub passed_changed : (f : X → X) → set xs i (f (get_or xs i d)) ≡ change p f xs
  passed_changed f = set_split xs i (f (get_or xs i d)) h ∙ ap (λ l. take i xs ++ l) (sym (ap (change p f) (drop-cons xs i d h) ∙ change-same p f (get_or xs i d) (drop (suc i) xs) same)) ∙ so.changed f

  pub passed_removed : take i xs ++ drop (suc i) xs ≡ without p xs
  passed_removed = ap (λ l. take i xs ++ l) (sym (ap (without p) (drop-cons xs i d h) ∙ without-same p (get_or xs i d) (drop (suc i) xs) same)) ∙ so.removed

-- none passes
pub passed_unchanged : {X : Type 0} (p : X → Bool) (f : X → X) (xs : List X) (i : ℕ) → length xs ≤ i → Passed p xs i → xs ≡ change p f xs
passed_unchanged p f xs i h so = sym (append-nil xs) ∙ ap (λ l. l ++ []) (sym (take_all i xs h)) ∙ ap (λ l. take i xs ++ change p f l) (sym (drop_all i xs h)) ∙ so.changed f
