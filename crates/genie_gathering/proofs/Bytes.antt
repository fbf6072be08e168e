-- Bytes that are taken from the front of an input, and header bytes.
use Rattle.std.proofs.Common.{◌≡◌, ℕ, ◌<◌, ◌≤◌, ◌⊎◌, List, [], ◌∷◌, ◌++◌, length, refl, ap, arith, true, false, append_assoc, take, drop, inl, inr}
use Rattle.std.specs.Prelude.{Bool, if◌then◌else◌}
use Rattle.std.proofs.lemmas.List.{length-append}
use Rattle.std.proofs.lemmas.Grind.{common_steps}
use Rattle.genie_base.specs.Headers.{size_of_header, is_whole_header, header_taken, payload_taken}
use Rattle.genie_wire.specs.Headers.{IsWhole}

pub take_front : (xs ys : List ℕ) → take (length xs) (xs ++ ys) ≡ xs
take_front [] ys = refl
take_front (x ∷ xs) ys = ap (λ l. x ∷ l) (take_front xs ys)

pub drop_front : (xs ys : List ℕ) → drop (length xs) (xs ++ ys) ≡ ys
drop_front [] ys = refl
drop_front (x ∷ xs) ys = drop_front xs ys

pub append_none : (xs : List ℕ) → xs ++ [] ≡ xs
append_none [] = refl
append_none (x ∷ xs) = ap (λ l. x ∷ l) (append_none xs)

pub none_taken : (xs : List ℕ) → length xs ≡ 0 → xs ≡ []
none_taken [] e = refl
none_taken (x ∷ xs) e = absurd (omega (arith, e))

least : (b : Bool) → 8 ≤ (if b then 12 else 8)
least true = omega arith
least false = omega arith

size_least : (bytes : List ℕ) → 8 ≤ size_of_header bytes
size_least bytes = least _

-- two bytes tell it
size_told : (bytes more : List ℕ) → 2 ≤ length bytes → size_of_header (bytes ++ more) ≡ size_of_header bytes
size_told [] more h = absurd (omega arith)
size_told (a ∷ []) more h = absurd (omega arith)
size_told (a ∷ b ∷ bytes) more h = refl

one_byte : (a : ℕ) → size_of_header (a ∷ []) ≡ 8
one_byte a = grind (arith, common_steps)

-- more bytes never make it shorter
size_grows : (bytes more : List ℕ) → size_of_header bytes ≤ size_of_header (bytes ++ more)
size_grows [] more = size_least more
size_grows (a ∷ []) more = rw one_byte (size_least (a ∷ more))
size_grows (a ∷ b ∷ bytes) more = omega arith

not_whole : (bytes : List ℕ) → is_whole_header bytes ≡ false → length bytes < size_of_header bytes
not_whole bytes h = grind (arith, common_steps)

missing : (n : ℕ) (gathered taken rest : List ℕ) → length (gathered ++ taken) ≤ size_of_header (gathered ++ (taken ++ rest)) → length taken ≤ n
    → (length taken ≡ n) ⊎ (length rest ≡ 0) → length taken ≡ header_taken n gathered (taken ++ rest)
missing n gathered taken rest fits within all = let a = length-append gathered taken in let b = length-append taken rest in omega arith

-- a header that isn't whole takes all these bytes, and so does one that is
pub short_taken : (n : ℕ) (gathered taken rest : List ℕ) → is_whole_header (gathered ++ taken) ≡ false → length taken ≤ n
    → (length taken ≡ n) ⊎ (length rest ≡ 0) → length taken ≡ header_taken n gathered (taken ++ rest)
short_taken n gathered taken rest short within all =
    let fits = not_whole (gathered ++ taken) short in
    let grows = rw append_assoc at (size_grows (gathered ++ taken) rest) in
    missing n gathered taken rest (omega arith) within all

pub whole_taken : (n : ℕ) (gathered taken rest : List ℕ) → IsWhole (gathered ++ taken) → length taken ≤ n → length taken ≡ header_taken n gathered (taken ++ rest)
whole_taken n gathered taken rest whole within =
    let least = size_least (gathered ++ taken) in
    let told = rw append_assoc at (size_told (gathered ++ taken) rest (omega arith)) in
    let a = length-append gathered taken in
    let b = length-append taken rest in
    omega arith

-- payload bytes are all that the budget, the payload and the input allow
pub payload_is : (n left : ℕ) (taken rest : List ℕ) → length taken ≤ n → length taken ≤ left → (length taken ≡ n) ⊎ (length taken ≡ left) ⊎ (length rest ≡ 0) → length taken ≡ payload_taken n left (taken ++ rest)
payload_is n left taken rest within fits (inl e) = let b = length-append taken rest in omega (arith, e)
payload_is n left taken rest within fits (inr (inl e)) = let b = length-append taken rest in omega (arith, e)
payload_is n left taken rest within fits (inr (inr e)) = let b = length-append taken rest in omega (arith, e)
