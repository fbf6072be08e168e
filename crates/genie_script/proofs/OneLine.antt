-- The spelling of a line has no line end, and isn't too long for a script.
use Rattle.std.proofs.Common.{◌≡◌, ℕ, suc, ◌+◌, ◌^◌, ◌<◌, ◌≤◌, lit≤, Bool, true, false, eqb, not, List, [], ◌∷◌, ◌++◌, length, length-append, Option, Some, None, refl, decimal, arith}
use Rattle.std.specs.Prelude.{IfSome, codes}
use Rattle.std.proofs.lemmas.Fmt.{length-decimal-le}
use Rattle.genie_base.specs.declared.event.Event.{Event}
use Rattle.genie_base.specs.declared.event.Event.TheVariants as event
use Rattle.genie_base.specs.declared.config.Kind.{Kind}
use Rattle.genie_base.specs.declared.config.Kind.TheVariants.{Early, Pooled, Outboard}
use Rattle.genie_base.specs.declared.semantics.Semantics.{Semantics}
use Rattle.genie_base.specs.declared.semantics.Semantics.TheVariants.{Copy, EmulatedCopy, Share, EmulatedShare, Move, EmulatedMove, WeakMove, EmulatedWeakMove}
use Rattle.genie_script.specs.declared.line.DeviceLine.{DeviceLine}
use Rattle.genie_script.specs.declared.line.Line.{Line}
use Rattle.genie_script.specs.declared.line.Line.TheVariants as line
use Rattle.genie_script.specs.Hex.{hex_text}
use Rattle.genie_script.specs.Laws.{FitsBytes, FitsDevice, FitsEvent, FitsLine, FitsRoute, IsFile, IsNumber, SpellingsAreLines, SpellingsAreShort}
use Rattle.genie_script.specs.Names.{file_text, kind_text, mode_text, port_text, semantics_text}
use Rattle.genie_script.specs.Spelling.{addr_text, device_words, event_words, line_text, line_words, spaced}
use Rattle.genie_script.specs.Texts.{lines_of}
use Rattle.genie_script.proofs.Decimals.{both, of_both}
use Rattle.genie_script.proofs.Digits.{hex_free, length_hex}
use Rattle.genie_script.proofs.Ports.{free_append}
use Rattle.genie_script.proofs.Spaced.{is_free, is_no}
use Rattle.genie_script.proofs.Spells.{decimal_free, name_parts, visible_free}

-- a text without a line end, of at most so many bytes
record IsShort (most : ℕ) (text : List ℕ) : Type 0 where
  free : is_free 10 text ≡ true
  short : length text ≤ most

-- the same of words with one space between two of them
record AreShort (most : ℕ) (ws : List (List ℕ)) : Type 0 where
  free : is_free 10 (spaced ws) ≡ true
  short : length (spaced ws) ≤ most

none : AreShort 0 []
none = record { free = refl; short = lit≤ tt }

-- a word before others
before : {m n : ℕ} {w : List ℕ} {ws : List (List ℕ)} → IsShort m w → AreShort n ws → AreShort (m + suc n) (w ∷ ws)
before {ws = []} h t = record { free = h.free; short = omega (arith, h.short) }
before {w = w} {ws = v ∷ ws} h t = record {
  free = free_append 10 w (32 ∷ spaced (v ∷ ws)) h.free (both _ _ refl t.free);
  short = omega (arith, length-append w (32 ∷ spaced (v ∷ ws)), h.short, t.short);
}

within : {m : ℕ} {text : List ℕ} (n : ℕ) → m ≤ n → IsShort m text → IsShort n text
within n le h = record { free = h.free; short = omega (arith, le, h.short) }

-- ---- words

number : (n : ℕ) → IsNumber n → IsShort 10 (decimal n)
number n lt = record { free = decimal_free 10 n refl lt; short = length-decimal-le 10 n (omega arith) (omega (arith, lt)) (omega (arith, lt)) }

kind : (k : Kind) → IsShort 8 (kind_text k)
kind Early = record { free = refl; short = lit≤ tt }
kind Pooled = record { free = refl; short = lit≤ tt }
kind Outboard = record { free = refl; short = lit≤ tt }

semantics : (sem : Semantics) → IsShort 2 (semantics_text sem)
semantics Copy = record { free = refl; short = lit≤ tt }
semantics EmulatedCopy = record { free = refl; short = lit≤ tt }
semantics Share = record { free = refl; short = lit≤ tt }
semantics EmulatedShare = record { free = refl; short = lit≤ tt }
semantics Move = record { free = refl; short = lit≤ tt }
semantics EmulatedMove = record { free = refl; short = lit≤ tt }
semantics WeakMove = record { free = refl; short = lit≤ tt }
semantics EmulatedWeakMove = record { free = refl; short = lit≤ tt }

mode : (writable : Bool) → IsShort 2 (mode_text writable)
mode false = record { free = refl; short = lit≤ tt }
mode true = record { free = refl; short = lit≤ tt }

port : (p : ℕ) (flow : Option ℕ) → p < 2 ^ 16 → IfSome flow IsNumber → IsShort 21 (port_text p flow)
port p None lt f = within 21 (lit≤ tt) (number p (omega (arith, lt)))
port p (Some flow) lt f =
    let h = number p (omega (arith, lt)) in
    let t = number flow f in
    record {
      free = free_append 10 (decimal p) (46 ∷ decimal flow) h.free (both _ _ refl t.free);
      short = omega (arith, length-append (decimal p) (46 ∷ decimal flow), h.short, t.short);
    }

address : (addr : Option ℕ) → IfSome addr IsNumber → IsShort 10 (addr_text addr)
address None f = record { free = refl; short = lit≤ tt }
address (Some addr) f = number addr f

file : (name : Option (List ℕ)) → IsFile name → IsShort 255 (file_text name)
file None f = record { free = refl; short = lit≤ tt }
file (Some name) f =
    let parts = name_parts name f in
    record { free = visible_free 10 name refl parts.0; short = omega (arith, parts.2) }

hex : (bytes : List ℕ) → FitsBytes bytes → IsShort 8192 (hex_text bytes)
hex bytes f = record { free = hex_free 10 bytes (omega arith); short = omega (arith, length_hex bytes, f.most) }

-- ---- several words

one : (n : ℕ) → IsNumber n → AreShort 11 (decimal n ∷ [])
one n f = before (number n f) none

two : (m n : ℕ) → IsNumber m → IsNumber n → AreShort 22 (decimal m ∷ decimal n ∷ [])
two m n f g = before (number m f) (one n g)

three : (l m n : ℕ) → IsNumber l → IsNumber m → IsNumber n → AreShort 33 (decimal l ∷ decimal m ∷ decimal n ∷ [])
three l m n f g h = before (number l f) (two m n g h)

route : {n : ℕ} {ws : List (List ℕ)} (pid : ℕ) (sem : Semantics) (dev p : ℕ) (flow : Option ℕ) → FitsRoute pid dev p flow → AreShort n ws
    → AreShort (10 + suc (2 + suc (10 + suc (21 + suc n)))) (decimal pid ∷ semantics_text sem ∷ decimal dev ∷ port_text p flow ∷ ws)
route pid sem dev p flow f t = before (number pid f.0) (before (semantics sem) (before (number dev f.1) (before (port p flow f.2 f.3) t)))

-- the words of a whole line
line_of_words : {n : ℕ} {ws : List (List ℕ)} (word : List ℕ) → is_free 10 word ≡ true → length word ≤ 7 → n ≤ 8292 → AreShort n ws → AreShort 8300 (word ∷ ws)
line_of_words word free short le t =
    let all = before {m = 7} (record { free = free; short = short }) t in
    record { free = all.free; short = omega (arith, le, all.short) }

-- ---- lines

event_short : (e : Event) → FitsEvent e → AreShort 8300 (event_words e)
unfolding event_words
event_short (event.Spawn pid) f = line_of_words (codes "spawn") refl (lit≤ tt) (lit≤ tt) (one pid f)
event_short (event.Fork parent child) f = line_of_words (codes "fork") refl (lit≤ tt) (lit≤ tt) (two parent child f.0 f.1)
event_short (event.Exit pid) f = line_of_words (codes "exit") refl (lit≤ tt) (lit≤ tt) (one pid f)
event_short (event.Map pid page pages) f = line_of_words (codes "map") refl (lit≤ tt) (lit≤ tt) (three pid page pages f.0 f.1 f.2)
event_short (event.Alloc pid pages) f = line_of_words (codes "alloc") refl (lit≤ tt) (lit≤ tt) (two pid pages f.0 f.1)
event_short (event.Unmap pid page) f = line_of_words (codes "unmap") refl (lit≤ tt) (lit≤ tt) (two pid page f.0 f.1)
event_short (event.Protect pid page writable) f = line_of_words (codes "protect") refl (lit≤ tt) (lit≤ tt) (before (number pid f.0) (before (number page f.1) (before (mode writable) none)))
event_short (event.Read pid addr len) f = line_of_words (codes "read") refl (lit≤ tt) (lit≤ tt) (three pid addr len f.0 f.1 f.2)
event_short (event.Write pid addr bytes) f = line_of_words (codes "write") refl (lit≤ tt) (lit≤ tt) (before (number pid f.0) (before (number addr f.1) (before (hex bytes f.2) none)))
event_short (event.Output pid sem dev p flow addr len) f = line_of_words (codes "out") refl (lit≤ tt) (lit≤ tt) (route pid sem dev p flow f.0 (two addr len f.1 f.2))
event_short (event.Input pid sem dev p flow addr len) f = line_of_words (codes "in") refl (lit≤ tt) (lit≤ tt) (route pid sem dev p flow f.0 (before (address addr f.1) (one len f.2)))
event_short (event.Send dev len) f = line_of_words (codes "send") refl (lit≤ tt) (lit≤ tt) (two dev len f.0 f.1)
event_short (event.Recv dev len) f = line_of_words (codes "recv") refl (lit≤ tt) (lit≤ tt) (two dev len f.0 f.1)
event_short (event.Finish id) f = line_of_words (codes "done") refl (lit≤ tt) (lit≤ tt) (one id f)
event_short (event.Cancel id) f = line_of_words (codes "cancel") refl (lit≤ tt) (lit≤ tt) (one id f)
event_short (event.Pageout pages) f = line_of_words (codes "pageout") refl (lit≤ tt) (lit≤ tt) (one pages f)

device_short : (d : DeviceLine) → FitsDevice d → AreShort 8300 (device_words d)
device_short d f = line_of_words (codes "device") refl (lit≤ tt) (lit≤ tt) (before (number d.number f.number) (before (kind d.kind) (before (file d.input f.input) (before (file d.output f.output) (two d.depth d.offset f.depth f.offset)))))

line_short : (l : Line) → FitsLine l → AreShort 8300 (line_words l)
unfolding line_words
line_short line.Blank f = record { free = refl; short = lit≤ tt }
line_short (line.Boot page frames slots cout rcout) f = line_of_words (codes "boot") refl (lit≤ tt) (lit≤ tt) (before (number page f.0) (before (number frames f.1) (three slots cout rcout f.2 f.3 f.4)))
line_short (line.Device d) f = device_short d f
line_short (line.Event e) f = event_short e f

lines_again : (w rest : List ℕ) → is_free 10 w ≡ true → lines_of (w ++ 10 ∷ rest) ≡ w ∷ lines_of rest
lines_again [] rest e = refl
lines_again (b ∷ w) rest e =
    let t = of_both (not (eqb b 10)) (is_free 10 w) e in
    rw (is_no (eqb b 10) t.0, lines_again w rest t.1) refl

pub are_lines : SpellingsAreLines
are_lines l f rest = lines_again (line_text l) rest (line_short l f).free

pub are_short : SpellingsAreShort
are_short l f = (line_short l f).short
