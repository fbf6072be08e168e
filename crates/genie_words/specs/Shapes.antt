-- What words ask for by their number and the first of them.
use Rattle.std.specs.Prelude.{◌≡◌, Bool, true, false, List, [], ◌∷◌, Some, None, codes, ◌||◌, ◌&&◌, not, ◌==◌, Option, if◌then◌else◌}
use Rattle.std.specs.List.{list_all}
use Rattle.std.specs.Str.{bytes_eq}
use Rattle.genie_words.specs.declared.found.Asked.{Asked}
use Rattle.genie_words.specs.declared.found.Asked.TheVariants.{Replay, Cost, Make}
use Rattle.clap.specs.Lexer.{strip_byte}
use Rattle.clap.specs.Words.{Row, Text, first_of}

-- whether a word doesn't begin with a hyphen
abbrev pub is_plain : Text → Bool
is_plain [] = true
is_plain (b ∷ rest) = not (b == 45)

-- the same, as clap tests it
pub record IsPlain (w : Text) : Type 0 where
  pub minus : strip_byte 45 w ≡ None
  pub dashes : bytes_eq w (45 ∷ 45 ∷ []) ≡ false

-- the first word is that of a subcommand, and as many others stand behind it as that needs
abbrev pub has_shape : List Text → Bool
has_shape [] = false
has_shape (n ∷ []) = false
has_shape (n ∷ w ∷ []) = bytes_eq (codes "replay") n || bytes_eq (codes "cost") n
has_shape (n ∷ w ∷ x ∷ []) = bytes_eq (codes "make") n
has_shape (n ∷ w ∷ x ∷ y ∷ rest) = false

-- a subcommand with its words
pub data Shape : Type 0 where
  ReplayShape : Text → Shape
  CostShape : Text → Shape
  MakeShape : Text → Text → Shape

abbrev pub file_shape : Text → Option Text → Option Shape
file_shape n None = None
file_shape n (Some w) = if bytes_eq n (codes "replay") then Some (ReplayShape w) else Some (CostShape w)

abbrev pub make_shape : Option Text → Option Text → Option Shape
make_shape None x = None
make_shape (Some w) None = None
make_shape (Some w) (Some x) = Some (MakeShape w x)

-- what clap's subcommand and its values ask for
abbrev pub rows_shape : Text → List Row → Option Shape
rows_shape n rows = if bytes_eq n (codes "make") then make_shape (first_of (codes "seed") rows) (first_of (codes "rounds") rows) else file_shape n (first_of (codes "file") rows)

abbrev pub found_shape : Option (Text × List Row) → Option Shape
found_shape None = None
found_shape (Some p) = rows_shape p.0 p.1

-- what words of such a shape ask for
abbrev pub shape_of : List Text → Option Shape
shape_of [] = None
shape_of (n ∷ []) = None
shape_of (n ∷ w ∷ []) = if bytes_eq (codes "replay") n then Some (ReplayShape w) else if bytes_eq (codes "cost") n then Some (CostShape w) else None
shape_of (n ∷ w ∷ x ∷ []) = if bytes_eq (codes "make") n then Some (MakeShape w x) else None
shape_of (n ∷ w ∷ x ∷ y ∷ rest) = None

abbrev pub asked_shape : Asked → Shape
asked_shape (Replay w) = ReplayShape w.now
asked_shape (Cost w) = CostShape w.now
asked_shape (Make w x) = MakeShape w.now x.now

-- no word begins with a hyphen, and they have such a shape
abbrev pub is_asked : List Text → Bool
is_asked words = list_all is_plain words && has_shape words
