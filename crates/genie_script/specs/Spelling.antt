-- The one spelling of each line and of each reply.
use Rattle.std.specs.Prelude.{ℕ, List, [], ◌∷◌, ◌++◌, codes, decimal, Option, Some, None}
use Rattle.std.specs.List.{join_with_byte}
use Rattle.genie_base.specs.declared.event.Event.{Event}
use Rattle.genie_base.specs.declared.event.Event.TheVariants as event
use Rattle.genie_base.specs.declared.reply.Reply.{Reply}
use Rattle.genie_base.specs.declared.reply.Reply.TheVariants as reply
use Rattle.genie_base.specs.declared.reply.Note.{Note}
use Rattle.genie_base.specs.declared.reply.Note.TheVariants.{Whole, Cut, Trunc}
use Rattle.genie_base.specs.Refusals.{word_of}
use Rattle.genie_script.specs.declared.line.Line.{Line}
use Rattle.genie_script.specs.declared.line.Line.TheVariants as line
use Rattle.genie_script.specs.declared.line.DeviceLine.{DeviceLine}
use Rattle.genie_script.specs.declared.fields.Route.{Route}
use Rattle.genie_script.specs.Hex.{hex_text}
use Rattle.genie_script.specs.Names.{file_text, kind_text, semantics_text, port_text, mode_text}

-- the address of an input's buffer, if it has one
abbrev pub addr_text : Option ℕ → List ℕ
addr_text None = codes "-"
addr_text (Some addr) = decimal addr

-- what an output and an input begin with
abbrev pub route_words : List ℕ → Route → List (List ℕ)
route_words word route = word ∷ decimal route.pid ∷ semantics_text route.sem ∷ decimal route.dev ∷ port_text route.port route.flow ∷ []

unfoldable pub event_words : Event → List (List ℕ)
event_words (event.Spawn pid) = codes "spawn" ∷ decimal pid ∷ []
event_words (event.Fork parent child) = codes "fork" ∷ decimal parent ∷ decimal child ∷ []
event_words (event.Exit pid) = codes "exit" ∷ decimal pid ∷ []
event_words (event.Map pid page pages) = codes "map" ∷ decimal pid ∷ decimal page ∷ decimal pages ∷ []
event_words (event.Alloc pid pages) = codes "alloc" ∷ decimal pid ∷ decimal pages ∷ []
event_words (event.Unmap pid page) = codes "unmap" ∷ decimal pid ∷ decimal page ∷ []
event_words (event.Protect pid page writable) = codes "protect" ∷ decimal pid ∷ decimal page ∷ mode_text writable ∷ []
event_words (event.Read pid addr len) = codes "read" ∷ decimal pid ∷ decimal addr ∷ decimal len ∷ []
event_words (event.Write pid addr bytes) = codes "write" ∷ decimal pid ∷ decimal addr ∷ hex_text bytes ∷ []
event_words (event.Output pid sem dev port flow addr len) = codes "out" ∷ decimal pid ∷ semantics_text sem ∷ decimal dev ∷ port_text port flow ∷ decimal addr ∷ decimal len ∷ []
event_words (event.Input pid sem dev port flow addr len) = codes "in" ∷ decimal pid ∷ semantics_text sem ∷ decimal dev ∷ port_text port flow ∷ addr_text addr ∷ decimal len ∷ []
event_words (event.Send dev len) = codes "send" ∷ decimal dev ∷ decimal len ∷ []
event_words (event.Recv dev len) = codes "recv" ∷ decimal dev ∷ decimal len ∷ []
event_words (event.Finish id) = codes "done" ∷ decimal id ∷ []
event_words (event.Cancel id) = codes "cancel" ∷ decimal id ∷ []
event_words (event.Pageout pages) = codes "pageout" ∷ decimal pages ∷ []

abbrev pub device_words : DeviceLine → List (List ℕ)
device_words d = codes "device" ∷ decimal d.number ∷ kind_text d.kind ∷ file_text d.input ∷ file_text d.output ∷ decimal d.depth ∷ decimal d.offset ∷ []

unfoldable pub line_words : Line → List (List ℕ)
line_words line.Blank = []
line_words (line.Boot page frames slots cout rcout) = codes "boot" ∷ decimal page ∷ decimal frames ∷ decimal slots ∷ decimal cout ∷ decimal rcout ∷ []
line_words (line.Device device) = device_words device
line_words (line.Event e) = event_words e

-- words with one space between two of them
abbrev pub spaced : List (List ℕ) → List ℕ
spaced ws = join_with_byte 32 ws

-- the text of a line, without a line end
abbrev pub line_text : Line → List ℕ
line_text l = spaced (line_words l)

-- what an input's reply ends with
abbrev pub note_words : Note → List (List ℕ)
note_words Whole = []
note_words Cut = codes "cut" ∷ []
note_words Trunc = codes "trunc" ∷ []

abbrev pub input_words : Option ℕ → ℕ → Note → List (List ℕ)
input_words None n note = codes "in" ∷ decimal n ∷ note_words note
input_words (Some addr) n note = codes "in" ∷ decimal addr ∷ decimal n ∷ note_words note

unfoldable pub reply_words : Reply → List (List ℕ)
reply_words reply.Okay = codes "ok" ∷ []
reply_words (reply.Bytes bytes) = codes "data" ∷ hex_text bytes ∷ []
reply_words (reply.At addr) = codes "at" ∷ decimal addr ∷ []
reply_words (reply.Id id) = codes "id" ∷ decimal id ∷ []
reply_words (reply.Sent n) = codes "sent" ∷ decimal n ∷ []
reply_words (reply.Staged n) = codes "staged" ∷ decimal n ∷ []
reply_words (reply.Got n) = codes "got" ∷ decimal n ∷ []
reply_words (reply.Dropped port flow len) = codes "drop" ∷ port_text port flow ∷ decimal len ∷ []
reply_words (reply.Output n) = codes "out" ∷ decimal n ∷ []
reply_words (reply.Input addr n note) = input_words addr n note
reply_words reply.Gone = codes "gone" ∷ []
reply_words reply.Lost = codes "lost" ∷ []
reply_words (reply.Fault n) = codes "fault" ∷ decimal n ∷ []
reply_words reply.StoreFault = codes "fault" ∷ codes "store" ∷ []
reply_words reply.Idle = codes "idle" ∷ []
reply_words reply.End = codes "end" ∷ []
reply_words reply.Bad = codes "bad" ∷ []
reply_words reply.Busy = codes "busy" ∷ []
reply_words (reply.Err refusal) = codes "err" ∷ word_of refusal ∷ []

-- the text of a reply, with its line end
abbrev pub reply_text : Reply → List ℕ
reply_text r = spaced (reply_words r) ++ 10 ∷ []
