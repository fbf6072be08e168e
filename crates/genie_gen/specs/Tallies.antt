-- What the replies of a run are counted by.
use Rattle.std.specs.Prelude.{ℕ, ◌+◌, ◌-◌, ◌*◌, ◌^◌, ◌==◌, min, Bool, List, [], ◌∷◌, ◌++◌, length, take, drop, codes, if◌then◌else◌}
use Rattle.std.specs.List.{fold}
use Rattle.std.specs.Str.{bytes_eq}

-- Counts of lines so far, and the front of the line that isn't ended yet. Of a line no more than 32 bytes are looked at:
-- a reply with a number is shorter.
pub record Counts : Type 0 where
  pub lines : ℕ
  pub errs : ℕ
  pub faults : ℕ
  pub sent : ℕ
  pub got : ℕ
  pub line : List ℕ

-- counts stop at 2^64 - 1
abbrev pub capped : ℕ → ℕ
capped n = min n (2 ^ 64 - 1)

abbrev pub begins : List ℕ → List ℕ → Bool
begins word line = bytes_eq (take (length word) line) word

abbrev pub one_if : Bool → ℕ
one_if b = if b then 1 else 0

abbrev pub with_digit : ℕ → ℕ → ℕ
with_digit n b = capped (capped (n * 10) + (b - 48))

-- the number that these digits read as
abbrev pub number_of : List ℕ → ℕ
number_of digits = fold with_digit 0 digits

-- the number behind this word where the line begins with it
abbrev pub number_behind : List ℕ → List ℕ → ℕ
number_behind word line = if begins word line then number_of (drop (length word) line) else 0

-- the line has ended
abbrev pub counted : Counts → Counts
counted t = record {
  lines = capped (t.lines + 1);
  errs = capped (t.errs + one_if (begins (codes "err ") t.line));
  faults = capped (t.faults + one_if (begins (codes "fault ") t.line));
  sent = capped (t.sent + number_behind (codes "sent ") t.line);
  got = capped (t.got + number_behind (codes "got ") t.line);
  line = [];
}

-- one byte more
unfoldable pub with_byte : Counts → ℕ → Counts
with_byte t b = if b == 10 then counted t else record t { line = take 32 (t.line ++ b ∷ []) }

abbrev pub no_lines : Counts
no_lines = record { lines = 0; errs = 0; faults = 0; sent = 0; got = 0; line = [] }

-- the tally of a text
abbrev pub tally_of : List ℕ → Counts
tally_of text = fold with_byte no_lines text
