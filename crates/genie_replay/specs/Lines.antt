-- What reading one line of a text takes.
use Rattle.std.specs.Prelude.{◌≡◌, ◌⊎◌, ℕ, ◌+◌, ◌<◌, ◌≤◌, List, [], ◌∷◌, ◌++◌, length, Option, None, Some, Result, Ok, Err, ⊤}
use Rattle.std.specs.Io.KnownBytes.{Consumes, IsAtEnd, Keeps}
use Rattle.genie_script.specs.Texts.{lines_of}
use Rattle.genie_replay.specs.declared.script.LineStep.{LineStep}
use Rattle.genie_replay.specs.declared.script.LineStep.TheVariants.{Line, End, TooLong}

-- the bytes read ahead were taken from the front, and are none only at the end
abbrev pub ReadsAhead : {E : Type 0} → Option (List ℕ) → Option (List ℕ) → List ℕ → Result ℕ E → Type 0
ReadsAhead old new ahead (Ok n) = (n ≡ length ahead) × Consumes old new ahead × (n ≡ 0 → IsAtEnd new)
ReadsAhead old new ahead (Err e) = (ahead ≡ []) × Keeps old new

-- a byte was taken, or there is none
abbrev pub TakesByte : {E : Type 0} → Option (List ℕ) → Option (List ℕ) → Result (Option ℕ) E → Type 0
TakesByte old new (Ok (Some b)) = Consumes old new (b ∷ [])
TakesByte old new (Ok None) = IsAtEnd old × Keeps old new
TakesByte old new (Err e) = Keeps old new

-- what is read ahead, with the byte taken, stays within this many bytes; where no byte is taken, nothing is read ahead
abbrev pub StaysWithin : {E : Type 0} → ℕ → ℕ → ℕ → Result (Option ℕ) E → Type 0
StaysWithin most old new (Ok (Some b)) = old ≤ most → new + 1 ≤ most
StaysWithin most old new (Ok None) = new ≡ 0
StaysWithin most old new (Err e) = new ≡ 0

-- The lines that are left, of which the first one was read: it is this one, and those of the rest follow; there is
-- none; or it is too long.
abbrev pub IsPending : List (List ℕ) → LineStep → List ℕ → List ℕ → Type 0
IsPending lines Line line rest = (lines ≡ line ∷ lines_of rest) × (length line ≤ 8300)
IsPending lines End line rest = lines ≡ []
IsPending lines TooLong line rest = (long : List ℕ) × (more : List (List ℕ)) × (lines ≡ long ∷ more) × (8300 < length long)

-- The bytes that were taken from a text: a line and its end, or at the text's end the line alone; none; of a line that
-- is too long the first 8,300, and one more.
abbrev pub IsTaken : List ℕ → LineStep → List ℕ → List ℕ → Type 0
IsTaken text Line line rest = (text ≡ line ++ 10 ∷ rest) ⊎ ((text ≡ line) × (rest ≡ []))
IsTaken text End line rest = (text ≡ []) × (rest ≡ [])
IsTaken text TooLong line rest = (b : ℕ) × (text ≡ line ++ b ∷ rest) × (length line ≡ 8300)

-- where the text is told; after a failure the line has all that was taken
abbrev pub TakesBytes : {E : Type 0} → Option (List ℕ) → Option (List ℕ) → Result LineStep E → List ℕ → Type 0
TakesBytes None new result line = ⊤
TakesBytes (Some text) None result line = ⊥
TakesBytes (Some text) (Some rest) (Ok step) line = IsTaken text step line rest
TakesBytes (Some text) (Some rest) (Err e) line = text ≡ line ++ rest

-- where the text is told, the first of its lines was read
abbrev pub TakesLine : {E : Type 0} → Option (List ℕ) → Option (List ℕ) → Result LineStep E → List ℕ → Type 0
TakesLine None new result line = ⊤
TakesLine (Some text) None result line = ⊥
TakesLine (Some text) (Some rest) (Ok step) line = IsPending (lines_of text) step line rest
TakesLine (Some text) (Some rest) (Err e) line = ⊤
