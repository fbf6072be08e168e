-- Reading two digits after two digits.
use Rattle.std.proofs.Common.{◌≡◌, ℕ, ◌+◌, ◌*◌, ◌<◌, length, arith, false, eqb, List, [], ◌∷◌, ◌++◌, Option, Some, None, refl, sym, ap, ◌∙◌, append_assoc}
use Rattle.std.proofs.lemmas.List.{append-nil}
use Rattle.genie_script.specs.Words.{◌>>=◌}
use Rattle.genie_script.specs.Hex.{nibble_of, pair_at, pairs_of}

-- what was read before, and what is still read
abbrev pub with_front : List ℕ → Option (List ℕ) → Option (List ℕ)
with_front bytes read = read >>= λ more. Some (bytes ++ more)

bind_twice : (h l : Option ℕ) (make : ℕ → ℕ → ℕ) (text : List ℕ) (f : ℕ × List ℕ → Option (List ℕ)) → (h >>= λ high. l >>= λ low. f (make high low, text)) ≡ ((h >>= λ high. l >>= λ low. Some (make high low, text)) >>= f)
bind_twice (Some high) (Some low) make text f = refl
bind_twice (Some high) None make text f = refl
bind_twice None l make text f = refl

regroup : (bytes : List ℕ) (b : ℕ) (read : Option (List ℕ)) → with_front (bytes ++ b ∷ []) read ≡ with_front bytes (read >>= λ more. Some (b ∷ more))
regroup bytes b (Some more) = ap (λ (xs : List ℕ). Some xs) (append_assoc bytes (b ∷ []) more)
regroup bytes b None = refl

-- the first byte, and the bytes after it
front_is : (text : List ℕ) → 0 < length text → pairs_of text ≡ (pair_at text >>= λ x. pairs_of x.1 >>= λ more. Some (x.0 ∷ more))
unfolding pair_at pairs_of
front_is [] lt = absurd (omega arith)
front_is (a ∷ []) lt = refl
front_is (a ∷ b ∷ text) lt = bind_twice (nibble_of a) (nibble_of b) (λ high low. 16 * high + low) text (λ x. pairs_of x.1 >>= λ more. Some (x.0 ∷ more))

pub goes_on : (bytes text : List ℕ) (b : ℕ) (after : List ℕ) (total : Option (List ℕ)) → 0 < length text → pair_at text ≡ Some (b, after)
    → with_front bytes (pairs_of text) ≡ total → with_front (bytes ++ b ∷ []) (pairs_of after) ≡ total
goes_on bytes text b after total lt e so_far =
    let one : with_front bytes (pairs_of text) ≡ with_front bytes (pairs_of after >>= λ more. Some (b ∷ more)) = rw (front_is text lt, e) refl in
    regroup bytes b (pairs_of after) ∙ sym one ∙ so_far

pub stops : (bytes text : List ℕ) (total : Option (List ℕ)) → 0 < length text → pair_at text ≡ None → with_front bytes (pairs_of text) ≡ total → None ≡ total
stops bytes text total lt e so_far =
    let one : with_front bytes (pairs_of text) ≡ None = rw (front_is text lt, e) refl in
    sym one ∙ so_far

pub ends : (bytes text : List ℕ) (total : Option (List ℕ)) → length text ≡ 0 → with_front bytes (pairs_of text) ≡ total → Some bytes ≡ total
unfolding pairs_of
ends bytes [] total e so_far = ap (λ (xs : List ℕ). Some xs) (sym (append-nil bytes)) ∙ so_far
ends bytes (b ∷ text) total e so_far = absurd (omega (arith, e))

pub some_left : (text : List ℕ) → false ≡ eqb (length text) 0 → 0 < length text
some_left [] e = absurd cc
some_left (b ∷ text) e = omega arith
