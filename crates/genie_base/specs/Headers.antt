-- Reading the header of a record, in both formats.
use Rattle.std.specs.Prelude.{ℕ, ◌-◌, ◌==◌, ◌&&◌, ◌||◌, Bool, nat_le, min, List, ◌++◌, length, drop, slice_index, Option, None, Some, if◌then◌else◌}
use Rattle.std.specs.Int.{from_be_bytes, w16, w32}

-- how many bytes a header has that begins with these two
abbrev pub header_size : ℕ → ℕ → ℕ
header_size first second = if (first == 71) && (second == 69) then 12 else 8

-- whether a format begins with these two bytes: `GD` or `GE`
abbrev pub is_format : ℕ → ℕ → Bool
is_format first second = (first == 71) && ((second == 68) || (second == 69))

-- the port, the payload's length and the flow that a header's bytes say
abbrev pub port_in : List ℕ → ℕ
port_in bytes = from_be_bytes w16 (drop 2 bytes)

abbrev pub len_in : List ℕ → ℕ
len_in bytes = from_be_bytes w32 (drop 4 bytes)

abbrev pub flow_in : List ℕ → Option ℕ
flow_in bytes = if slice_index bytes 1 == 69 then Some (from_be_bytes w32 (drop 8 bytes)) else None

-- a whole header is valid where a format begins so and its payload has at most so many bytes
abbrev pub is_valid_header : ℕ → List ℕ → Bool
is_valid_header most bytes = is_format (slice_index bytes 0) (slice_index bytes 1) && nat_le (len_in bytes) most

-- how many bytes the header has that begins with these, as far as they tell it
abbrev pub size_of_header : List ℕ → ℕ
size_of_header bytes = header_size (slice_index bytes 0) (slice_index bytes 1)

abbrev pub is_whole_header : List ℕ → Bool
is_whole_header bytes = nat_le (size_of_header bytes) (length bytes)

-- how many bytes a step takes for a header of which these are gathered: as many as the budget, the rest of the stream
-- and the header allow
abbrev pub header_taken : ℕ → List ℕ → List ℕ → ℕ
header_taken n gathered rest = min n (min (length rest) (size_of_header (gathered ++ rest) - length gathered))

-- how many bytes of a payload a step takes of which so many are left
abbrev pub payload_taken : ℕ → ℕ → List ℕ → ℕ
payload_taken n left rest = min n (min left (length rest))
