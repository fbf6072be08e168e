-- Where a payload begins in what is left of a device's input.
use Rattle.std.proofs.Common.{◌≡◌, ℕ, zero, suc, ◌+◌, ◌<◌, ◌≤◌, true, ◌&&◌, List, [], ◌∷◌, ◌++◌, length, take, drop, refl, ap, ap₂, ◌∙◌, leb-true, arith}
use Rattle.std.specs.Prelude.{slice_index, ◌==◌}
use Rattle.std.proofs.lemmas.Bool.{cond_both}
use Rattle.std.proofs.lemmas.List.{get_or-take, length-take, length-append, drop-drop}
use Rattle.genie_base.specs.Bytes.{part}
use Rattle.genie_base.specs.Headers.{header_size, size_of_header, is_whole_header, header_taken}

pub part_taken : (n i : ℕ) (bytes : List ℕ) → i < length (take n bytes) → part i 1 (take n bytes) ≡ part i 1 bytes
part_taken zero i bytes lt = absurd (omega arith)
part_taken (suc n) i [] lt = refl
part_taken (suc n) zero (b ∷ bytes) lt = refl
part_taken (suc n) (suc i) (b ∷ bytes) lt = part_taken n i bytes (omega arith)

-- the first bytes tell a header's size, however many follow
pub front : (xs : List ℕ) (h : ℕ) (ys : List ℕ) (i : ℕ) → i < length (xs ++ take h ys) → slice_index (xs ++ take h ys) i ≡ slice_index (xs ++ ys) i
front [] h ys i lt = get_or-take h ys i 0 (omega (arith, length-take h ys))
front (x ∷ xs) h ys zero lt = refl
front (x ∷ xs) h ys (suc i) lt = front xs h ys i (omega arith)

pub size_least : (a b : ℕ) → 8 ≤ header_size a b
size_least a b = cond_both ((a == 71) && (b == 69)) 12 8 (λ n. 8 ≤ n) (λ _. omega arith) (λ _. omega arith)

-- a whole header tells its size as the bytes do that follow
pub whole_size : (n : ℕ) (gathered rest : List ℕ) → is_whole_header (gathered ++ take (header_taken n gathered rest) rest) ≡ true → size_of_header (gathered ++ take (header_taken n gathered rest) rest) ≡ size_of_header (gathered ++ rest)
whole_size n gathered rest whole =
    let h : ℕ = header_taken n gathered rest in
    let header : List ℕ = gathered ++ take h rest in
    let enough = leb-true (size_of_header header) (length header) whole in
    let least = size_least (slice_index header 0) (slice_index header 1) in
    ap₂ header_size (front gathered h rest 0 (omega arith)) (front gathered h rest 1 (omega arith))

-- a step that makes the header whole takes as many bytes of it as one with a budget for all that is left
pub whole_taken : (n : ℕ) (gathered rest : List ℕ) → is_whole_header (gathered ++ take (header_taken n gathered rest) rest) ≡ true → header_taken (length rest) gathered rest ≡ header_taken n gathered rest
whole_taken n gathered rest whole =
    let h : ℕ = header_taken n gathered rest in
    let header : List ℕ = gathered ++ take h rest in
    let enough = leb-true (size_of_header header) (length header) whole in
    omega (arith, enough, whole_size n gathered rest whole, length-append gathered (take h rest), length-take h rest)

-- behind them the payload begins
pub behind_header : (n : ℕ) (gathered rest : List ℕ) (i : ℕ) → is_whole_header (gathered ++ take (header_taken n gathered rest) rest) ≡ true → part i 1 (drop (header_taken n gathered rest) rest) ≡ part (header_taken (length rest) gathered rest + (0 + i)) 1 rest
behind_header n gathered rest i whole =
    let same : header_taken n gathered rest + i ≡ header_taken (length rest) gathered rest + (0 + i) = omega (arith, whole_taken n gathered rest whole) in
    ap (take 1) (drop-drop i (header_taken n gathered rest) rest ∙ ap (λ k. drop k rest) same)
