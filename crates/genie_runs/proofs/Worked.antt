-- Two texts that are alike, line by line.
use Rattle.std.proofs.Common.{inl, inr, [], ◌∷◌, refl, arith}
use Rattle.std.specs.Prelude.{codes}
use Rattle.std.specs.Fmt.{digits}
use Rattle.genie_script.specs.Spelling.{line_words}
use Rattle.genie_script.specs.Words.{words}
use Rattle.genie_runs.specs.Texts.{SameBoot, SameCall}
use Rattle.genie_runs.specs.Worked.{WorkedTextsAreAlike}

boots : SameBoot (codes "boot 64 256 32 0 0") (codes "boot 64 256 32 1024 64")
unfolding line_words digits
boots = record { boot = record { page = 64; frames = 256; slots = 32; cout = 0; rcout = 0 }; out = 1024; back = 64; is = refl; other_is = refl; fits = refl; other_fits = refl }

outputs : SameCall (codes "out 1 c 0 7 0 16") (codes "out 1 ec 0 7 0 16")
unfolding words
outputs = record { word = codes "out"; pid = codes "1"; sem = codes "c"; changed = codes "ec"; rest = codes "0" ∷ codes "7" ∷ codes "0" ∷ codes "16" ∷ []; call = inl refl; is = refl; other_is = refl; level = refl; short = omega arith; other_short = omega arith }

inputs : SameCall (codes "in 1 em 0 7 - 16") (codes "in 1 m 0 7 - 16")
unfolding words
inputs = record { word = codes "in"; pid = codes "1"; sem = codes "em"; changed = codes "m"; rest = codes "0" ∷ codes "7" ∷ codes "-" ∷ codes "16" ∷ []; call = inr refl; is = refl; other_is = refl; level = refl; short = omega arith; other_short = omega arith }

pub worked_texts_are_alike : WorkedTextsAreAlike
worked_texts_are_alike = (inr (inl boots), (inl refl, (inr (inr outputs), (inr (inr inputs), tt))))
