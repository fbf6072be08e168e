-- The grammar and the spelling of lines say the same.
use Rattle.std.specs.Prelude.{◌≡◌, ℕ, ◌^◌, ◌<◌, ◌≤◌, ◌⊎◌, true, List, ◌∷◌, ◌++◌, length, All, Option, Some, IfSome}
use Rattle.genie_base.specs.declared.event.Event.{Event}
use Rattle.genie_base.specs.declared.event.Event.TheVariants as event
use Rattle.genie_script.specs.declared.line.Line.{Line}
use Rattle.genie_script.specs.declared.line.Line.TheVariants as line
use Rattle.genie_script.specs.declared.line.DeviceLine.{DeviceLine}
use Rattle.genie_script.specs.Names.{is_name}
use Rattle.genie_script.specs.Lines.{line_of, is_whole_line}
use Rattle.genie_script.specs.Spelling.{line_text}
use Rattle.genie_script.specs.Texts.{lines_of}

abbrev pub IsNumber : ℕ → Type 0
IsNumber n = n < 2 ^ 32

abbrev pub IsFile : Option (List ℕ) → Type 0
IsFile file = IfSome file (λ name. is_name name ≡ true)

pub record FitsDevice (d : DeviceLine) : Type 0 where
  pub number : IsNumber d.number
  pub input : IsFile d.input
  pub output : IsFile d.output
  pub depth : IsNumber d.depth
  pub offset : IsNumber d.offset

-- at most a page of bytes
pub record FitsBytes (bytes : List ℕ) : Type 0 where
  pub most : length bytes ≤ 4096
  pub each : All (λ b. b < 256) bytes

-- process, device, port and flow
abbrev pub FitsRoute : ℕ → ℕ → ℕ → Option ℕ → Type 0
FitsRoute pid dev port flow = IsNumber pid × IsNumber dev × (port < 2 ^ 16) × IfSome flow IsNumber

-- numbers, ports and bytes in the ranges of their types
abbrev pub FitsEvent : Event → Type 0
FitsEvent (event.Spawn pid) = IsNumber pid
FitsEvent (event.Fork parent child) = IsNumber parent × IsNumber child
FitsEvent (event.Exit pid) = IsNumber pid
FitsEvent (event.Map pid page pages) = IsNumber pid × IsNumber page × IsNumber pages
FitsEvent (event.Alloc pid pages) = IsNumber pid × IsNumber pages
FitsEvent (event.Unmap pid page) = IsNumber pid × IsNumber page
FitsEvent (event.Protect pid page writable) = IsNumber pid × IsNumber page
FitsEvent (event.Read pid addr len) = IsNumber pid × IsNumber addr × IsNumber len
FitsEvent (event.Write pid addr bytes) = IsNumber pid × IsNumber addr × FitsBytes bytes
FitsEvent (event.Output pid sem dev port flow addr len) = FitsRoute pid dev port flow × IsNumber addr × IsNumber len
FitsEvent (event.Input pid sem dev port flow addr len) = FitsRoute pid dev port flow × IfSome addr IsNumber × IsNumber len
FitsEvent (event.Send dev len) = IsNumber dev × IsNumber len
FitsEvent (event.Recv dev len) = IsNumber dev × IsNumber len
FitsEvent (event.Finish id) = IsNumber id
FitsEvent (event.Cancel id) = IsNumber id
FitsEvent (event.Pageout pages) = IsNumber pages

abbrev pub FitsLine : Line → Type 0
FitsLine line.Blank = Unit {0}
FitsLine (line.Boot page frames slots cout rcout) = IsNumber page × IsNumber frames × IsNumber slots × IsNumber cout × IsNumber rcout
FitsLine (line.Device device) = FitsDevice device
FitsLine (line.Event e) = FitsEvent e

-- Each line is read from its spelling.
abbrev pub LinesAreReadAgain : Type 0
LinesAreReadAgain = (l : Line) → FitsLine l → is_whole_line l ≡ true → line_of (line_text l) ≡ Some l

-- Each text that is a line, and isn't blank, is that line's one spelling.
abbrev pub LinesAreSpelledSo : Type 0
LinesAreSpelledSo = (text : List ℕ) (l : Line) → line_of text ≡ Some l → (l ≡ line.Blank) ⊎ (text ≡ line_text l)

-- Each spelling with a line end behind it is the first line of a text.
abbrev pub SpellingsAreLines : Type 0
SpellingsAreLines = (l : Line) → FitsLine l → (rest : List ℕ) → lines_of (line_text l ++ 10 ∷ rest) ≡ line_text l ∷ lines_of rest

-- No spelling is longer than a line of a script may be.
abbrev pub SpellingsAreShort : Type 0
SpellingsAreShort = (l : Line) → FitsLine l → length (line_text l) ≤ 8300
