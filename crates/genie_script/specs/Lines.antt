-- The lines of a script.
use Rattle.std.specs.Prelude.{ℕ, ◌==◌, Bool, true, false, List, [], ◌∷◌, codes, bytes_eq, find, option_map, Option, Some, None, if◌then◌else◌}
use Rattle.genie_base.specs.declared.event.Event.{Event}
use Rattle.genie_base.specs.declared.event.Event.TheVariants as event
use Rattle.genie_base.specs.Events.{is_whole}
use Rattle.genie_base.specs.Transfers.{class_of, is_system}
use Rattle.genie_script.specs.declared.keyword.Keyword.{Keyword}
use Rattle.genie_script.specs.declared.keyword.Keyword.TheVariants.{Boot, Device, Spawn, Fork, Exit, Map, Alloc, Unmap, Protect, Read, Write, Output, Input, Send, Recv, Finish, Cancel, Pageout}
use Rattle.genie_script.specs.declared.line.Line.{Line}
use Rattle.genie_script.specs.declared.line.Line.TheVariants as line
use Rattle.genie_script.specs.declared.line.DeviceLine.{DeviceLine}
use Rattle.genie_script.specs.declared.fields.Route.{Route}
use Rattle.genie_script.specs.Words.{◌>>=◌, words, word_at}
use Rattle.genie_script.specs.Numbers.{number_at, last_number, last_two, last_three}
use Rattle.genie_script.specs.Hex.{last_bytes}
use Rattle.genie_script.specs.Names.{file_at, kind_at, semantics_at, port_at, last_mode, dash_at}

-- the first word of a line
abbrev pub keyword_text : Keyword → List ℕ
keyword_text Boot = codes "boot"
keyword_text Device = codes "device"
keyword_text Spawn = codes "spawn"
keyword_text Fork = codes "fork"
keyword_text Exit = codes "exit"
keyword_text Map = codes "map"
keyword_text Alloc = codes "alloc"
keyword_text Unmap = codes "unmap"
keyword_text Protect = codes "protect"
keyword_text Read = codes "read"
keyword_text Write = codes "write"
keyword_text Output = codes "out"
keyword_text Input = codes "in"
keyword_text Send = codes "send"
keyword_text Recv = codes "recv"
keyword_text Finish = codes "done"
keyword_text Cancel = codes "cancel"
keyword_text Pageout = codes "pageout"

abbrev pub keywords : List Keyword
keywords = Boot ∷ Device ∷ Spawn ∷ Fork ∷ Exit ∷ Map ∷ Alloc ∷ Unmap ∷ Protect ∷ Read ∷ Write ∷ Output ∷ Input ∷ Send ∷ Recv ∷ Finish ∷ Cancel ∷ Pageout ∷ []

unfoldable pub keyword_of : List ℕ → Option Keyword
keyword_of text = find (λ keyword. bytes_eq (keyword_text keyword) text) keywords

-- P, N, S, COUT and RCOUT
unfoldable pub boot_of : List (List ℕ) → Option Line
boot_of ws = do
  page ← number_at ws
  frames ← number_at page.1
  rest ← last_three frames.1
  Some (line.Boot page.0 frames.0 rest.0 rest.1 rest.2)

-- number, kind, input, output, depth and offset
unfoldable pub device_of : List (List ℕ) → Option DeviceLine
device_of ws = do
  number ← number_at ws
  kind ← kind_at number.1
  input ← file_at kind.1
  output ← file_at input.1
  sizes ← last_two output.1
  Some (record { number = number.0; kind = kind.0; input = input.0; output = output.0; depth = sizes.0; offset = sizes.1 })

-- process, semantics, device and port
unfoldable pub route_at : List (List ℕ) → Option (Route × List (List ℕ))
route_at ws = do
  pid ← number_at ws
  sem ← semantics_at pid.1
  dev ← number_at sem.1
  port ← port_at dev.1
  Some (record { pid = pid.0; sem = sem.0; dev = dev.0; port = port.0.0; flow = port.0.1 }, port.1)

-- the address and length of an input: a system buffer has no address yet
unfoldable pub buffer_of : Bool → List (List ℕ) → Option (Option ℕ × ℕ)
buffer_of true ws = do
  rest ← dash_at ws
  len ← last_number rest
  Some (None, len)
buffer_of false ws = do
  range ← last_two ws
  Some (Some range.0, range.1)

unfoldable pub output_of : List (List ℕ) → Option Event
output_of ws = do
  route ← route_at ws
  range ← last_two route.1
  Some (event.Output route.0.pid route.0.sem route.0.dev route.0.port route.0.flow range.0 range.1)

unfoldable pub input_of : List (List ℕ) → Option Event
input_of ws = do
  route ← route_at ws
  buffer ← buffer_of (is_system (class_of route.0.sem)) route.1
  Some (event.Input route.0.pid route.0.sem route.0.dev route.0.port route.0.flow buffer.0 buffer.1)

unfoldable pub protect_of : List (List ℕ) → Option Event
protect_of ws = do
  pid ← number_at ws
  page ← number_at pid.1
  writable ← last_mode page.1
  Some (event.Protect pid.0 page.0 writable)

unfoldable pub write_of : List (List ℕ) → Option Event
write_of ws = do
  pid ← number_at ws
  addr ← number_at pid.1
  bytes ← last_bytes addr.1
  Some (event.Write pid.0 addr.0 bytes)

abbrev pub one : (ℕ → Event) → List (List ℕ) → Option Event
one make ws = option_map make (last_number ws)

abbrev pub two : (ℕ → ℕ → Event) → List (List ℕ) → Option Event
two make ws = option_map (λ n. make n.0 n.1) (last_two ws)

abbrev pub three : (ℕ → ℕ → ℕ → Event) → List (List ℕ) → Option Event
three make ws = option_map (λ n. make n.0 n.1 n.2) (last_three ws)

-- an event, by its keyword and the words after it
unfoldable pub event_of : Keyword → List (List ℕ) → Option Event
event_of Boot ws = None
event_of Device ws = None
event_of Spawn ws = one event.Spawn ws
event_of Fork ws = two event.Fork ws
event_of Exit ws = one event.Exit ws
event_of Map ws = three event.Map ws
event_of Alloc ws = two event.Alloc ws
event_of Unmap ws = two event.Unmap ws
event_of Protect ws = protect_of ws
event_of Read ws = three event.Read ws
event_of Write ws = write_of ws
event_of Output ws = output_of ws
event_of Input ws = input_of ws
event_of Send ws = two event.Send ws
event_of Recv ws = two event.Recv ws
event_of Finish ws = one event.Finish ws
event_of Cancel ws = one event.Cancel ws
event_of Pageout ws = one event.Pageout ws

-- a line, by its keyword and the words after it
unfoldable pub fields_of : Keyword → List (List ℕ) → Option Line
fields_of Boot ws = boot_of ws
fields_of Device ws = option_map line.Device (device_of ws)
fields_of keyword ws = option_map line.Event (event_of keyword ws)

-- a line whose event, if it has one, is whole
abbrev pub is_whole_line : Line → Bool
is_whole_line line.Blank = true
is_whole_line (line.Boot page frames slots cout rcout) = true
is_whole_line (line.Device device) = true
is_whole_line (line.Event e) = is_whole e

-- no bytes, or a comment
abbrev pub is_blank : List ℕ → Bool
is_blank [] = true
is_blank (b ∷ bs) = b == 35

-- the line that a text is, if it is one
unfoldable pub line_of : List ℕ → Option Line
line_of text = if is_blank text then Some line.Blank else (do
  word ← word_at (words text)
  keyword ← keyword_of word.0
  fields_of keyword word.1)
