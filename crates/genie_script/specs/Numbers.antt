-- Decimal numbers, and the words that hold them.
use Rattle.std.specs.Prelude.{ℕ, ◌+◌, ◌-◌, ◌*◌, ◌^◌, ◌==◌, ◌&&◌, nat_lt, List, [], ◌∷◌, Option, Some, None, if◌then◌else◌}
use Rattle.std.specs.Char.{is_ascii_digit}
use Rattle.genie_script.specs.Words.{◌>>=◌, word_at, last_word}

-- the number so far with one more digit, where it stays below 2^32
abbrev pub with_digit : ℕ → ℕ → Option ℕ
with_digit n c = if is_ascii_digit c && nat_lt (10 * n + (c - 48)) (2 ^ 32) then Some (10 * n + (c - 48)) else None

-- the number so far with more digits
unfoldable pub digits_on : ℕ → List ℕ → Option ℕ
digits_on n [] = Some n
digits_on n (c ∷ cs) = with_digit n c >>= λ m. digits_on m cs

-- a decimal below 2^32 without a leading zero
unfoldable pub number_of : List ℕ → Option ℕ
number_of [] = None
number_of (c ∷ []) = digits_on 0 (c ∷ [])
number_of (c ∷ d ∷ cs) = if c == 48 then None else digits_on 0 (c ∷ d ∷ cs)

-- a number, and the words after it
unfoldable pub number_at : List (List ℕ) → Option (ℕ × List (List ℕ))
number_at ws = do
  word ← word_at ws
  n ← number_of word.0
  Some (n, word.1)

-- the last word as a number
unfoldable pub last_number : List (List ℕ) → Option ℕ
last_number ws = last_word ws >>= λ w. number_of w

-- the last two words as numbers
unfoldable pub last_two : List (List ℕ) → Option (ℕ × ℕ)
last_two ws = do
  first ← number_at ws
  second ← last_number first.1
  Some (first.0, second)

-- the last three words as numbers
unfoldable pub last_three : List (List ℕ) → Option (ℕ × ℕ × ℕ)
last_three ws = do
  first ← number_at ws
  others ← last_two first.1
  Some (first.0, others.0, others.1)
