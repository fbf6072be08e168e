-- Two steps, one after the other, move what one step moves.
use Rattle.std.proofs.Common.{◌≡◌, ℕ, ◌+◌, ◌-◌, ◌≤◌, min, List, ◌++◌, length, arith, false, append_assoc}
use Rattle.std.proofs.lemmas.List.{length-append}
use Rattle.genie_base.specs.Headers.{is_whole_header, size_of_header, header_taken, payload_taken}
use Rattle.genie_base.specs.Records.{header_len}
use Rattle.genie_device.specs.GoingOn.{GoesOn}
use Rattle.genie_device.proofs.HeaderSizes.{size_grows, not_whole}

header_goes_on : (n : ℕ) (gathered taken rest : List ℕ) → length taken ≤ n → is_whole_header (gathered ++ taken) ≡ false
    → length taken + header_taken (n - length taken) (gathered ++ taken) rest ≡ header_taken n gathered (taken ++ rest)
header_goes_on n gathered taken rest within short =
    let unfilled = not_whole (gathered ++ taken) short in
    let grows = size_grows (gathered ++ taken) rest in
    let a = length-append gathered taken in
    let b = length-append taken rest in
    rw append_assoc (let grows' : size_of_header (gathered ++ taken) ≤ size_of_header (gathered ++ (taken ++ rest)) = rw append_assoc at grows in omega arith)

payload_goes_on : (n left : ℕ) (taken rest : List ℕ) → length taken ≤ n → length taken ≤ left
    → length taken + payload_taken (n - length taken) (left - length taken) rest ≡ payload_taken n left (taken ++ rest)
payload_goes_on n left taken rest within fits = let b = length-append taken rest in omega arith

sent_goes_on : (size n before moved : ℕ) → moved ≤ n → moved ≤ size - before → moved + min (n - moved) (size - (before + moved)) ≡ min n (size - before)
sent_goes_on size n before moved within fits = omega arith

pub goes_on : GoesOn
goes_on = record {
  header = header_goes_on;
  payload = payload_goes_on;
  sent = λ flow len before n moved within fits. sent_goes_on (header_len flow + len) n before moved within fits;
}
