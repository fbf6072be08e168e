-- A loop that collects a piece for each element of a list.
use Rattle.std.proofs.Common.{◌≡◌, ℕ, suc, ◌+◌, ◌<◌, List, ◌∷◌, ◌++◌, length, drop, get_or, add-one, append_assoc, ap, sym, ◌∙◌}
use Rattle.std.proofs.Math.Seq.{drop-cons}

-- one element more
pub collected_more : {X Y : Type 0} (f : List X → List Y) (piece : X → List Y) → ((x : X) (rest : List X) → f (x ∷ rest) ≡ piece x ++ f rest) → (xs : List X) (i : ℕ) (d : X) (out next all : List Y)
    → i < length xs → out ++ f (drop i xs) ≡ all → next ≡ out ++ piece (get_or xs i d) → next ++ f (drop (i + 1) xs) ≡ all
collected_more f piece split xs i d out next all h so is =
    let here : f (drop i xs) ≡ piece (get_or xs i d) ++ f (drop (suc i) xs) = ap f (drop-cons xs i d h) ∙ split (get_or xs i d) (drop (suc i) xs) in
    rw (is, add-one, append_assoc) (ap (λ l. out ++ l) (sym here) ∙ so)
