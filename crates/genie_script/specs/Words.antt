-- A line as words, and reading it word by word.
use Rattle.std.specs.Prelude.{◌≡◌, ℕ, ◌==◌, List, [], ◌∷◌, length, nat_lt, Option, Some, None, if◌then◌else◌}
use Rattle.std.specs.List.{slice_split, position_or_len, before_first, after_first}
use denote.Ref.{Bor}

infixl 10 ◌>>=◌
abbrev pub ◌>>=◌ : {A B : Type 0} → Option A → (A → Option B) → Option B
(Some x) >>= f = f x
None >>= f = None

-- What a function answered, seen by view, is what reading gives.
abbrev pub Gives : {X Y : Type 0} → (X → Y) → Option X → Option Y → Type 0
Gives view (Some x) read = read ≡ Some (view x)
Gives view None read = read ≡ None

-- what stands before the first such byte, or the whole text
unfoldable pub front : ℕ → List ℕ → List ℕ
front byte text = before_first (λ b. b == byte) text

-- what stands after the first such byte, if there is one
unfoldable pub back : ℕ → List ℕ → Option (List ℕ)
back byte text = if nat_lt (position_or_len (λ b. b == byte) text) (length text) then Some (after_first (λ b. b == byte) text) else None

-- the words of a text, with one space between two of them
unfoldable pub words : List ℕ → List (List ℕ)
words text = slice_split (λ b. b == 32) text

-- the words of the text that is left; nothing is left after the last word
abbrev pub left : Option (Bor (List ℕ)) → List (List ℕ)
left None = []
left (Some text) = words text.now

-- the first word, and the words after it
abbrev pub word_at : List (List ℕ) → Option (List ℕ × List (List ℕ))
word_at [] = None
word_at (w ∷ ws) = Some (w, ws)

-- the one word that is left
unfoldable pub last_word : List (List ℕ) → Option (List ℕ)
last_word [] = None
last_word (w ∷ []) = Some w
last_word (w ∷ v ∷ ws) = None
