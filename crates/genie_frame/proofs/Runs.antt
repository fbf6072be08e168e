-- An element of a list that is made of another, through two parts of the list.
use Rattle.std.proofs.Common.{◌≡◌, ◌<◌, ℕ, suc, zero, List, [], ◌∷◌, ◌++◌, length, take, drop, set, get_or, refl, ap, ◌∙◌, arith, take-append-drop, get_or-take, get_or-drop}
use Rattle.std.proofs.lemmas.Grind.{common_steps}

write_at_split : {X : Type 0} (xs : List X) (k : ℕ) (y : X) → k < length xs → take k xs ++ set (drop k xs) 0 y ≡ set xs k y
write_at_split [] k y h = absurd (omega arith)
write_at_split (x ∷ xs) zero y h = refl
write_at_split (x ∷ xs) (suc k) y h = ap (λ ys. x ∷ ys) (write_at_split xs k y (omega arith))

write_below : {X : Type 0} (xs : List X) (k i : ℕ) (y : X) → i < k → set (take k xs) i y ++ drop k xs ≡ set xs i y
write_below [] k i y h = grind (arith, common_steps)
write_below (x ∷ xs) zero i y h = absurd (omega arith)
write_below (x ∷ xs) (suc k) zero y h = ap (λ ys. y ∷ ys) (take-append-drop k xs)
write_below (x ∷ xs) (suc k) (suc i) y h = ap (λ ys. x ∷ ys) (write_below xs k i y (omega arith))

-- one element is made of another and itself, through the two parts of the list
pub made_up : {X : Type 0} (make : X → X → X) (xs low high : List X) (from to : ℕ) (x t y d : X) → low ≡ take to xs → high ≡ drop to xs → from < to → to < length xs → x ≡ get_or low from d → t ≡ get_or high 0 d → y ≡ make x t → low ++ set high 0 y ≡ set xs to (make (get_or xs from d) (get_or xs to d))
made_up make xs low high from to x t y d a b h l is was same =
    let e : x ≡ get_or xs from d = is ∙ ap (λ ys. get_or ys from d) a ∙ get_or-take to xs from d h in
    let f : t ≡ get_or xs to d = was ∙ ap (λ ys. get_or ys 0 d) b ∙ get_or-drop to xs 0 d ∙ ap (λ i. get_or xs i d) (omega arith) in
    ap (λ ys. ys ++ set high 0 y) a ∙ ap (λ ys. take to xs ++ set ys 0 y) b ∙ write_at_split xs to y l ∙ ap (set xs to) (same ∙ (λ i. make (e i) (f i)))

pub made_down : {X : Type 0} (make : X → X → X) (xs low high : List X) (from to : ℕ) (x t y d : X) → low ≡ take from xs → high ≡ drop from xs → to < from → from < length xs → x ≡ get_or high 0 d → t ≡ get_or low to d → y ≡ make x t → set low to y ++ high ≡ set xs to (make (get_or xs from d) (get_or xs to d))
made_down make xs low high from to x t y d a b h l is was same =
    let e : x ≡ get_or xs from d = is ∙ ap (λ ys. get_or ys 0 d) b ∙ get_or-drop from xs 0 d ∙ ap (λ i. get_or xs i d) (omega arith) in
    let f : t ≡ get_or xs to d = was ∙ ap (λ ys. get_or ys to d) a ∙ get_or-take from xs to d h in
    ap (λ ys. set ys to y ++ high) a ∙ ap (λ ys. set (take from xs) to y ++ ys) b ∙ write_below xs from to y h ∙ ap (set xs to) (same ∙ (λ i. make (e i) (f i)))
