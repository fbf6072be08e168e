-- A payload that is staged so far.
use Rattle.std.proofs.Common.{◌≡◌, ℕ, ◌+◌, ◌≤◌, List, ◌++◌, length, take, drop, ap, sym, ◌∙◌, arith, append-nil, append_assoc}
use Rattle.std.proofs.lemmas.List.{length-append, length-take}
use Rattle.std.proofs.Math.Seq.{take-add}
use Rattle.std.proofs.lemmas.Grind.{common_steps}
use Rattle.genie_device.proofs.Sending.{next_part}

pub record StagedSoFar (budget : ℕ) (old now payload : List ℕ) (moved : ℕ) : Type 0 where
  pub within : moved ≤ budget
  pub bytes : now ≡ old ++ take moved (drop (length old) payload)
  pub size : length now ≡ length old + moved

pub staged_none : (budget : ℕ) (old payload : List ℕ) → StagedSoFar budget old old payload 0
staged_none budget old payload = record { within = omega arith; bytes = sym (append-nil old); size = omega arith }

pub staged_more : (budget count : ℕ) (old now after payload piece : List ℕ) (moved : ℕ)
    → StagedSoFar budget old now payload moved → piece ≡ take (length piece) (drop (length now) payload) → count ≤ length piece → moved + count ≤ budget
    → after ≡ now ++ take count piece → StagedSoFar budget old after payload (moved + count)
staged_more budget count old now after payload piece moved m front fits most e =
    let next : take count piece ≡ take count (drop moved (drop (length old) payload)) =
    sym (all count piece) ∙ next_part (length old) moved count count payload piece (rw m.size at front) fits (omega arith) in
    let size : length now ≡ length old + moved = m.size in
    record {
      within = most;
      bytes = e ∙ rw (m.bytes, next, append_assoc) (ap (λ l. old ++ l) (sym (take-add moved count (drop (length old) payload))));
      size = ap length e ∙ (let l = length-append now (take count piece) in let t = length-take count piece in omega arith);
    } where
      all : (n : ℕ) (xs : List ℕ) → take n (take n xs) ≡ take n xs
      all n xs = grind (arith, common_steps)
