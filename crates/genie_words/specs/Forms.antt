-- The three forms of words.
use Rattle.std.specs.Prelude.{◌≡◌, ℕ, ◌^◌, ◌<◌, ◌≤◌, ◌==◌, Bool, true, false, not, nat_lt, ◌&&◌, List, [], ◌∷◌, length, codes, decimal}
use Rattle.genie_words.specs.declared.form.Form.{Form}
use Rattle.genie_words.specs.declared.form.Form.TheVariants.{Replay, Cost, Make}

-- a script's name has 1 to 4,096 bytes, and doesn't begin with `-`
abbrev pub is_script_name : List ℕ → Bool
is_script_name [] = false
is_script_name (b ∷ bs) = not (b == 45) && nat_lt (length bs) 4096

-- what words ask for
pub data Meaning : Type 0 where
  ReplayOf : List ℕ → Meaning
  CostOf : List ℕ → Meaning
  MakeOf : ℕ → ℕ → Meaning

abbrev pub meaning : Form → Meaning
meaning (Replay name) = ReplayOf name.now
meaning (Cost name) = CostOf name.now
meaning (Make seed rounds) = MakeOf seed rounds

-- `replay SCRIPT`, `cost SCRIPT` and `make SEED ROUNDS`, where numbers have no leading zeros
abbrev pub Means : List (List ℕ) → Meaning → Type 0
Means words (ReplayOf name) = (words ≡ codes "replay" ∷ name ∷ []) × (is_script_name name ≡ true)
Means words (CostOf name) = (words ≡ codes "cost" ∷ name ∷ []) × (is_script_name name ≡ true)
Means words (MakeOf seed rounds) = (words ≡ codes "make" ∷ decimal seed ∷ decimal rounds ∷ []) × (seed < 2 ^ 64) × (1 ≤ rounds) × (rounds ≤ 30000)

-- the words are none of the forms
abbrev pub IsNoForm : List (List ℕ) → Type 0
IsNoForm words = (m : Meaning) → Means words m → ⊥
