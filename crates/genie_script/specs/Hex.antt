-- Bytes as lower-case hex digits.
use Rattle.std.specs.Prelude.{ℕ, ◌+◌, ◌-◌, ◌*◌, ◌/◌, ◌%◌, ◌&&◌, nat_lt, List, [], ◌∷◌, length, flat_map, Option, Some, None, if◌then◌else◌}
use Rattle.std.specs.Char.{is_ascii_digit}
use Rattle.std.specs.Int.{is_in_range}
use Rattle.genie_script.specs.Words.{◌>>=◌, last_word}

-- what a digit stands for
abbrev pub nibble_of : ℕ → Option ℕ
nibble_of c = if is_ascii_digit c then Some (c - 48) else if is_in_range 97 102 c then Some (c - 87) else None

-- the byte that two digits stand for, and the digits after them
unfoldable pub pair_at : List ℕ → Option (ℕ × List ℕ)
pair_at [] = None
pair_at (a ∷ []) = None
pair_at (a ∷ b ∷ text) = do
  high ← nibble_of a
  low ← nibble_of b
  Some (16 * high + low, text)

-- two digits for each byte
unfoldable pub pairs_of : List ℕ → Option (List ℕ)
pairs_of [] = Some []
pairs_of (a ∷ []) = None
pairs_of (a ∷ b ∷ text) = do
  high ← nibble_of a
  low ← nibble_of b
  bytes ← pairs_of text
  Some ((16 * high + low) ∷ bytes)

-- 1 to 4,096 bytes
unfoldable pub bytes_of : List ℕ → Option (List ℕ)
bytes_of text = if nat_lt 0 (length text) && nat_lt (length text) 8193 then pairs_of text else None

-- the last word as bytes
unfoldable pub last_bytes : List (List ℕ) → Option (List ℕ)
last_bytes ws = last_word ws >>= λ w. bytes_of w

abbrev pub hex_digit : ℕ → ℕ
hex_digit n = if nat_lt n 10 then 48 + n else 87 + n

-- the text of bytes
abbrev pub hex_text : List ℕ → List ℕ
hex_text bytes = flat_map (λ b. hex_digit (b / 16) ∷ hex_digit (b % 16) ∷ []) bytes
