-- Where a region is put into a list in the order of start pages, and a record in the order of keys.
use Rattle.std.proofs.Common.{◌≡◌, ℕ, ◌+◌, ◌<◌, ◌≤◌, List, [], ◌∷◌, ◌++◌, length, take, drop, get_or, refl, ap, sym, ◌∙◌, arith}
use Rattle.std.specs.Prelude.{insert, nat_le, nat_lt, true, false}
use Rattle.std.proofs.lemmas.Bool.Decides.{nat_tests}
use Rattle.genie_model.specs.Tables.{put_in}
use Rattle.std.proofs.Math.Seq.{drop-cons}
use Rattle.std.proofs.lemmas.List.{drop_all}
use Rattle.genie_base.specs.Regions.{Extent, add_in_order}

module _ {X : Type 0} (extent : X → Extent) (x : X) where
  before-other : (y : X) (ys : List X) → nat_le ((extent y).start + (extent y).pages) (extent x).start ≡ false → add_in_order extent x (y ∷ ys) ≡ x ∷ y ∷ ys
  before-other y ys e = rw e refl

  -- before the first one that ends behind its start
  pub placed_here : (xs : List X) (i : ℕ) (d : X) → i < length xs → take i xs ++ add_in_order extent x (drop i xs) ≡ add_in_order extent x xs
      → nat_le ((extent (get_or xs i d)).start + (extent (get_or xs i d)).pages) (extent x).start ≡ false → insert xs i x ≡ add_in_order extent x xs
  placed_here xs i d h so_far later =
      let next = drop-cons xs i d h in
      let here : add_in_order extent x (drop i xs) ≡ x ∷ drop i xs = ap (add_in_order extent x) next ∙ before-other (get_or xs i d) _ later ∙ ap (λ l. x ∷ l) (sym next) in
      ap (λ l. take i xs ++ l) (sym here) ∙ so_far

  -- or at the end
  pub placed_last : (xs : List X) (i : ℕ) → length xs ≤ i → take i xs ++ add_in_order extent x (drop i xs) ≡ add_in_order extent x xs → insert xs i x ≡ add_in_order extent x xs
  placed_last xs i h so_far =
      let none : drop i xs ≡ [] = drop_all i xs h in
      let here : add_in_order extent x (drop i xs) ≡ x ∷ drop i xs = ap (add_in_order extent x) none ∙ ap (λ l. x ∷ l) (sym none) in
      ap (λ l. take i xs ++ l) (sym here) ∙ so_far

put_in-below : {X : Type 0} (key : X → ℕ) (x y : X) (ys : List X) → nat_lt (key x) (key y) ≡ true → put_in key x (y ∷ ys) ≡ x ∷ y ∷ ys
put_in-below key x y ys e = rw e refl

-- before the first one with a higher key
pub put_here : {X : Type 0} (key : X → ℕ) (x : X) (xs : List X) (i : ℕ) (d : X) → i < length xs → take i xs ++ put_in key x (drop i xs) ≡ put_in key x xs → key x < key (get_or xs i d) → insert xs i x ≡ put_in key x xs
put_here key x xs i d h so_far lt =
    let below : nat_lt (key x) (key (get_or xs i d)) ≡ true = grind (arith, nat_tests) in
    let next = drop-cons xs i d h in
    let here : put_in key x (drop i xs) ≡ x ∷ drop i xs = ap (put_in key x) next ∙ put_in-below key x (get_or xs i d) _ below ∙ ap (λ l. x ∷ l) (sym next) in
    ap (λ l. take i xs ++ l) (sym here) ∙ so_far

-- or at the end
pub put_last : {X : Type 0} (key : X → ℕ) (x : X) (xs : List X) (i : ℕ) → length xs ≤ i → take i xs ++ put_in key x (drop i xs) ≡ put_in key x xs → insert xs i x ≡ put_in key x xs
put_last key x xs i h so_far =
    let none : drop i xs ≡ [] = drop_all i xs h in
    let here : put_in key x (drop i xs) ≡ x ∷ drop i xs = ap (put_in key x) none ∙ ap (λ l. x ∷ l) (sym none) in
    ap (λ l. take i xs ++ l) (sym here) ∙ so_far
