-- The made inputs of the devices.
use Rattle.std.specs.Prelude.{ℕ, zero, suc, ◌+◌, ◌*◌, ◌%◌, List, [], ◌∷◌, ◌++◌, map, codes}
use Rattle.std.specs.List.{range_with_len}

-- the length of record r of device d, in bytes
abbrev pub payload_length : ℕ → ℕ → ℕ
payload_length d r = 1 + (37 * r + 11 * d) % 64

-- its byte j
abbrev pub payload_byte : ℕ → ℕ → ℕ → ℕ
payload_byte d r j = (7 * r + 3 * j + d) % 256

-- the header of a record of port 9 without a flow, whose payload has this length below 256
abbrev pub header_of : ℕ → List ℕ
header_of length = codes "GD" ++ 0 ∷ 9 ∷ 0 ∷ 0 ∷ 0 ∷ length ∷ []

unfoldable pub record_text : ℕ → ℕ → List ℕ
record_text d r = header_of (payload_length d r) ++ map (payload_byte d r) (range_with_len 0 (payload_length d r))

-- so many records of device d from record r on
abbrev pub stream_from : ℕ → ℕ → ℕ → List ℕ
stream_from d r zero = []
stream_from d r (suc n) = record_text d r ++ stream_from d (r + 1) n

-- device d has two records for each round
abbrev pub stream_text : ℕ → ℕ → List ℕ
stream_text d rounds = stream_from d 0 (2 * rounds)
