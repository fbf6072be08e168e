-- The records of a device stream, in both formats.
use Rattle.std.specs.Prelude.{ℕ, ◌+◌, ◌-◌, List, ◌∷◌, ◌++◌, length, Option, None, Some}
use Rattle.std.specs.Int.{to_be_bytes, w16, w32}

-- how many bytes a header has: a record with a flow has format 2
abbrev pub header_len : Option ℕ → ℕ
header_len None = 8
header_len (Some flow) = 12

-- `GD`, the port and the payload's length, or `GE`, the port, the payload's length and the flow
abbrev pub header_bytes : ℕ → Option ℕ → ℕ → List ℕ
header_bytes port None len = 71 ∷ 68 ∷ to_be_bytes w16 port ++ to_be_bytes w32 len
header_bytes port (Some flow) len = 71 ∷ 69 ∷ to_be_bytes w16 port ++ to_be_bytes w32 len ++ to_be_bytes w32 flow

abbrev pub record_bytes : ℕ → Option ℕ → List ℕ → List ℕ
record_bytes port flow payload = header_bytes port flow (length payload) ++ payload

-- how many bytes of a record aren't sent, of which so many are
abbrev pub unsent_bytes : Option ℕ → ℕ → ℕ → ℕ
unsent_bytes flow len sent = header_len flow + len - sent
