-- A step that failed after some bytes, and is called again with the rest of its budget, takes or sends together as many
-- bytes as one step without the failure.
use Rattle.std.specs.Prelude.{◌≡◌, ℕ, ◌+◌, ◌-◌, ◌≤◌, min, false, List, ◌++◌, length, Option}
use Rattle.genie_base.specs.Headers.{is_whole_header, header_taken, payload_taken}
use Rattle.genie_base.specs.Records.{unsent_bytes}

pub record GoesOn : Type 0 where
  -- of a header: the two steps together take as many bytes as one, of the same input
  pub header : (n : ℕ) (gathered taken rest : List ℕ) → length taken ≤ n → is_whole_header (gathered ++ taken) ≡ false
      → length taken + header_taken (n - length taken) (gathered ++ taken) rest ≡ header_taken n gathered (taken ++ rest)
  -- of a payload
  pub payload : (n left : ℕ) (taken rest : List ℕ) → length taken ≤ n → length taken ≤ left
      → length taken + payload_taken (n - length taken) (left - length taken) rest ≡ payload_taken n left (taken ++ rest)
  -- of a record that is sent
  pub sent : (flow : Option ℕ) (len before n moved : ℕ) → moved ≤ n → moved ≤ unsent_bytes flow len before
      → moved + min (n - moved) (unsent_bytes flow len (before + moved)) ≡ min n (unsent_bytes flow len before)
