-- The six lines of a summary.
use Rattle.std.specs.Prelude.{ℕ, List, [], ◌∷◌, ◌++◌, codes, decimal}
use Rattle.hex.specs.Hex.{encode_lower}
use Rattle.genie_gen.specs.declared.summary.Summary.{Summary}

-- a word, a space and a number
abbrev pub counted_line : List ℕ → ℕ → List ℕ
counted_line word count = word ++ 32 ∷ decimal count ++ 10 ∷ []

abbrev pub digest_line : List ℕ → List ℕ
digest_line digest = codes "sha256 " ++ encode_lower digest ++ 10 ∷ []

abbrev pub summary_text : Summary → List ℕ
summary_text s =
    counted_line (codes "events") s.events
    ++ counted_line (codes "err") s.errs
    ++ counted_line (codes "faults") s.faults
    ++ counted_line (codes "sent") s.sent
    ++ counted_line (codes "got") s.got
    ++ digest_line s.digest
