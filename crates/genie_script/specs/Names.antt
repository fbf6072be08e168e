-- The words of a script: names, kinds, semantics, ports and modes.
use Rattle.std.specs.Prelude.{ℕ, ◌&&◌, Bool, true, false, not, nat_lt, List, [], ◌∷◌, ◌++◌, length, codes, decimal, bytes_eq, find, Option, Some, None, if◌then◌else◌}
use Rattle.std.specs.List.{list_all}
use Rattle.genie_base.specs.declared.config.Kind.{Kind}
use Rattle.genie_base.specs.declared.config.Kind.TheVariants.{Early, Pooled, Outboard}
use Rattle.genie_base.specs.declared.semantics.Semantics.{Semantics}
use Rattle.genie_base.specs.declared.semantics.Semantics.TheVariants.{Copy, EmulatedCopy, Share, EmulatedShare, Move, EmulatedMove, WeakMove, EmulatedWeakMove}
use Rattle.genie_script.specs.Words.{◌>>=◌, word_at, last_word, front, back}
use Rattle.genie_script.specs.Numbers.{number_of}

-- a byte that a name may hold: visible, and no space
abbrev pub is_name_byte : ℕ → Bool
is_name_byte b = nat_lt 32 b && nat_lt b 127

-- 1 to 255 such bytes, other than `-` alone
unfoldable pub is_name : List ℕ → Bool
is_name text = nat_lt 0 (length text) && nat_lt (length text) 256 && list_all is_name_byte text && not (bytes_eq text (codes "-"))

-- a file's name, or `-` for none
unfoldable pub file_of : List ℕ → Option (Option (List ℕ))
file_of text = if bytes_eq text (codes "-") then Some None else if is_name text then Some (Some text) else None

abbrev pub file_text : Option (List ℕ) → List ℕ
file_text None = codes "-"
file_text (Some name) = name

unfoldable pub file_at : List (List ℕ) → Option (Option (List ℕ) × List (List ℕ))
file_at ws = do
  word ← word_at ws
  file ← file_of word.0
  Some (file, word.1)

abbrev pub kind_text : Kind → List ℕ
kind_text Early = codes "early"
kind_text Pooled = codes "pooled"
kind_text Outboard = codes "outboard"

abbrev pub kinds : List Kind
kinds = Early ∷ Pooled ∷ Outboard ∷ []

unfoldable pub kind_of : List ℕ → Option Kind
kind_of text = find (λ kind. bytes_eq (kind_text kind) text) kinds

unfoldable pub kind_at : List (List ℕ) → Option (Kind × List (List ℕ))
kind_at ws = do
  word ← word_at ws
  kind ← kind_of word.0
  Some (kind, word.1)

abbrev pub semantics_text : Semantics → List ℕ
semantics_text Copy = codes "c"
semantics_text EmulatedCopy = codes "ec"
semantics_text Share = codes "s"
semantics_text EmulatedShare = codes "es"
semantics_text Move = codes "m"
semantics_text EmulatedMove = codes "em"
semantics_text WeakMove = codes "w"
semantics_text EmulatedWeakMove = codes "ew"

abbrev pub all_semantics : List Semantics
all_semantics = Copy ∷ EmulatedCopy ∷ Share ∷ EmulatedShare ∷ Move ∷ EmulatedMove ∷ WeakMove ∷ EmulatedWeakMove ∷ []

unfoldable pub semantics_of : List ℕ → Option Semantics
semantics_of text = find (λ sem. bytes_eq (semantics_text sem) text) all_semantics

unfoldable pub semantics_at : List (List ℕ) → Option (Semantics × List (List ℕ))
semantics_at ws = do
  word ← word_at ws
  sem ← semantics_of word.0
  Some (sem, word.1)

-- a port is a decimal below 2^16
unfoldable pub port_number : List ℕ → Option ℕ
port_number text = number_of text >>= λ n. if nat_lt n 65536 then Some n else None

-- a port, with a flow where a dot follows it
unfoldable pub flow_of : Option (List ℕ) → Option (Option ℕ)
flow_of None = Some None
flow_of (Some text) = number_of text >>= λ n. Some (Some n)

unfoldable pub port_of : List ℕ → Option (ℕ × Option ℕ)
port_of text = do
  port ← port_number (front 46 text)
  flow ← flow_of (back 46 text)
  Some (port, flow)

abbrev pub port_text : ℕ → Option ℕ → List ℕ
port_text port None = decimal port
port_text port (Some flow) = decimal port ++ 46 ∷ decimal flow

unfoldable pub port_at : List (List ℕ) → Option ((ℕ × Option ℕ) × List (List ℕ))
port_at ws = do
  word ← word_at ws
  port ← port_of word.0
  Some (port, word.1)

-- whether a region may be written
unfoldable pub mode_of : List ℕ → Option Bool
mode_of text = if bytes_eq text (codes "r") then Some false else if bytes_eq text (codes "rw") then Some true else None

abbrev pub mode_text : Bool → List ℕ
mode_text false = codes "r"
mode_text true = codes "rw"

unfoldable pub last_mode : List (List ℕ) → Option Bool
last_mode ws = last_word ws >>= λ w. mode_of w

-- the words after a `-`
unfoldable pub dash_at : List (List ℕ) → Option (List (List ℕ))
dash_at ws = do
  word ← word_at ws
  if bytes_eq word.0 (codes "-") then Some word.1 else None
