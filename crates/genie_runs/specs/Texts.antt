-- Scripts whose texts differ in nothing but the two thresholds of the boot line, and the letter `e` of emulated calls.
use Rattle.std.specs.Prelude.{◌≡◌, ◌⊎◌, ℕ, ◌≤◌, ◌==◌, true, List, [], ◌∷◌, codes, length, ⊤, if◌then◌else◌}
use Rattle.genie_laws.specs.Laws.{SameButLevels}
use Rattle.genie_script.specs.declared.judge.BootLine.{BootLine}
use Rattle.genie_script.specs.declared.line.Line.{Line}
use Rattle.genie_script.specs.declared.line.Line.TheVariants as line
use Rattle.genie_script.specs.Judge.{Boot, Refused, Booted, Part, boot_fits, boot_part, events_from, ending_from}
use Rattle.genie_script.specs.Spelling.{line_text}
use Rattle.genie_script.specs.Texts.{lines_of}
use Rattle.genie_script.specs.Words.{words}
use Rattle.genie_replay.specs.Outcome.{events_of}
use Rattle.genie_runs.specs.Alike.{SameButThresholds}

-- a word without the letter `e`, if it begins with it
abbrev pub without_e : List ℕ → List ℕ
without_e [] = []
without_e (b ∷ bs) = if b == 101 then bs else b ∷ bs

-- Two lines of an output, or two of an input, that a script has room for: the same words, but that the third one, the
-- semantics, may begin with the letter `e` in one of them alone.
pub record SameCall (text other : List ℕ) : Type 0 where
  pub word : List ℕ
  pub pid : List ℕ
  pub sem : List ℕ
  pub changed : List ℕ
  pub rest : List (List ℕ)
  pub call : (word ≡ codes "out") ⊎ (word ≡ codes "in")
  pub is : words text ≡ word ∷ pid ∷ sem ∷ rest
  pub other_is : words other ≡ word ∷ pid ∷ changed ∷ rest
  pub level : without_e changed ≡ without_e sem
  pub short : length text ≤ 8300
  pub other_short : length other ≤ 8300

abbrev pub boot_line : BootLine → Line
boot_line b = line.Boot b.page b.frames b.slots b.cout b.rcout

-- the same boot line with other thresholds
abbrev pub other_boot : BootLine → ℕ → ℕ → BootLine
other_boot b out back = record b { cout = out; rcout = back }

-- two boot lines that keep the limits: the same numbers, but for the two thresholds
pub record SameBoot (text other : List ℕ) : Type 0 where
  pub boot : BootLine
  pub out : ℕ
  pub back : ℕ
  pub is : text ≡ line_text (boot_line boot)
  pub other_is : other ≡ line_text (boot_line (other_boot boot out back))
  pub fits : boot_fits boot ≡ true
  pub other_fits : boot_fits (other_boot boot out back) ≡ true

abbrev pub LinesAlike : List ℕ → List ℕ → Type 0
LinesAlike text other = (other ≡ text) ⊎ SameBoot text other ⊎ SameCall text other

-- line by line
abbrev pub AreAlike : List (List ℕ) → List (List ℕ) → Type 0
AreAlike [] [] = ⊤
AreAlike [] (other ∷ others) = ⊥
AreAlike (text ∷ lines) [] = ⊥
AreAlike (text ∷ lines) (other ∷ others) = LinesAlike text other × AreAlike lines others

abbrev pub TextsAlike : List ℕ → List ℕ → Type 0
TextsAlike text other = AreAlike (lines_of text) (lines_of other)

-- Two boot parts are of the same devices, and of the same configuration but for the thresholds, and end at the same line.
-- Behind them come the same events, but for whether calls are emulated, and the same ending.
pub record SayAlike (p : Part) (before : ℕ) (lines : List (List ℕ)) (q : Part) (behind : ℕ) (others : List (List ℕ)) : Type 0 where
  pub config : SameButThresholds p.config q.config
  pub devices : q.devices ≡ p.devices
  pub line : behind ≡ before
  pub events : SameButLevels (events_of (events_from before lines)) (events_of (events_from behind others))
  pub ending : ending_from behind others ≡ ending_from before lines

-- both boot parts are whole, and so alike; or both end the script, and in the same way
abbrev pub BootAlike : Boot → Boot → Type 0
BootAlike (Refused ending) (Refused other) = other ≡ ending
BootAlike (Refused ending) (Booted q behind others) = ⊥
BootAlike (Booted p before lines) (Refused ending) = ⊥
BootAlike (Booted p before lines) (Booted q behind others) = SayAlike p before lines q behind others

-- So it is of two such texts as the script of one name.
abbrev pub TextsSayAlike : Type 0
TextsSayAlike = (script text other : List ℕ) → TextsAlike text other → BootAlike (boot_part script 0 (lines_of text)) (boot_part script 0 (lines_of other))

-- As scripts of two names they say alike where both boot parts are whole. (No output may have its script's name.)
abbrev pub ScriptsSayAlike : Type 0
ScriptsSayAlike = (script renamed text other : List ℕ) (p q : Part) (before behind : ℕ) (lines others : List (List ℕ)) → TextsAlike text other
    → boot_part script 0 (lines_of text) ≡ Booted p before lines → boot_part renamed 0 (lines_of other) ≡ Booted q behind others → SayAlike p before lines q behind others
