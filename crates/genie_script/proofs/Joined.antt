-- Words with one space between two of them, one after another.
use Rattle.std.proofs.Common.{◌≡◌, ℕ, ◌+◌, ◌<◌, ◌≤◌, lit≤, List, [], ◌∷◌, ◌++◌, length, map, take, get_or, refl, sym, ap, ◌∙◌, append_assoc, decimal}
use Rattle.std.proofs.lemmas.List.{take_more, map_push}
use Rattle.genie_base.specs.declared.refusal.Refusal.{Refusal}
use Rattle.genie_base.specs.declared.refusal.Refusal.TheVariants.{Proc, Exists, Dev, Range, Region, Denied, State, Regions, Space, Backing, Transfers, Frames}
use Rattle.genie_base.specs.Refusals.{word_of}
use Rattle.genie_script.specs.Spelling.{spaced}

-- a word more
pub spaced_push : (w : List ℕ) (ws : List (List ℕ)) (v : List ℕ) → spaced (w ∷ ws ++ v ∷ []) ≡ spaced (w ∷ ws) ++ 32 ∷ v
spaced_push w [] v = refl
spaced_push w (x ∷ ws) v = ap (λ (t : List ℕ). w ++ 32 ∷ t) (spaced_push x ws v) ∙ sym (append_assoc w (32 ∷ spaced (x ∷ ws)) (32 ∷ v))

-- a number more
pub spaced_more : (w ns : List ℕ) (i n : ℕ) → i < length ns → get_or ns i 0 ≡ n → spaced (w ∷ map decimal (take (i + 1) ns)) ≡ spaced (w ∷ map decimal (take i ns)) ++ 32 ∷ decimal n
spaced_more w ns i n lt e = rw (take_more ns i 0 lt, map_push decimal (take i ns) (get_or ns i 0), e) (spaced_push w (map decimal (take i ns)) (decimal n))

-- no word of a refusal is longer
pub short_word : (r : Refusal) → length (word_of r) ≤ 9
short_word Proc = lit≤ tt
short_word Exists = lit≤ tt
short_word Dev = lit≤ tt
short_word Range = lit≤ tt
short_word Region = lit≤ tt
short_word Denied = lit≤ tt
short_word State = lit≤ tt
short_word Regions = lit≤ tt
short_word Space = lit≤ tt
short_word Backing = lit≤ tt
short_word Transfers = lit≤ tt
short_word Frames = lit≤ tt
