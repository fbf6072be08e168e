-- Two texts that are alike.
use Rattle.std.specs.Prelude.{ℕ, List, [], ◌∷◌, ◌++◌, codes}
use Rattle.genie_runs.specs.Texts.{TextsAlike}

abbrev pub basic_text : List ℕ
basic_text = codes "boot 64 256 32 0 0" ++ 10 ∷ codes "spawn 1" ++ 10 ∷ codes "out 1 c 0 7 0 16" ++ 10 ∷ codes "in 1 em 0 7 - 16" ++ 10 ∷ []

-- other thresholds, an emulated output, and a basic input
abbrev pub other_text : List ℕ
other_text = codes "boot 64 256 32 1024 64" ++ 10 ∷ codes "spawn 1" ++ 10 ∷ codes "out 1 ec 0 7 0 16" ++ 10 ∷ codes "in 1 m 0 7 - 16" ++ 10 ∷ []

abbrev pub WorkedTextsAreAlike : Type 0
WorkedTextsAreAlike = TextsAlike basic_text other_text
