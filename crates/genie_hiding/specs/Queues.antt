-- The weak queue of a process.
use Rattle.std.specs.Prelude.{◌≢◌, ℕ, ◌≤◌, Bool, not, ◌==◌, List, length, filter}
use Rattle.std.specs.List.{AllPairs, list_any}

-- at most 32 numbers, each once
pub record IsWeakQueue (ids : List ℕ) : Type 0 where
  pub few : length ids ≤ 32
  pub once : AllPairs (λ a b. a ≢ b) ids

abbrev pub is_number : ℕ → ℕ → Bool
is_number id n = n == id

abbrev pub is_in : ℕ → List ℕ → Bool
is_in id ids = list_any (is_number id) ids

-- the other numbers
abbrev pub without : ℕ → List ℕ → List ℕ
without id ids = filter (λ n. not (is_number id n)) ids
