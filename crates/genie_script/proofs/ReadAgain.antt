-- Each line is read from its spelling.
use Rattle.std.proofs.Common.{◌≡◌, ℕ, ◌^◌, ◌<◌, Bool, true, false, List, [], ◌∷◌, length, Option, Some, None, refl, decimal}
use Rattle.std.specs.Prelude.{IfSome, is_some}
use Rattle.std.proofs.lemmas.Bool.{ltb-true}
use Rattle.genie_base.specs.declared.event.Event.{Event}
use Rattle.genie_base.specs.declared.event.Event.TheVariants as event
use Rattle.genie_base.specs.declared.config.Kind.{Kind}
use Rattle.genie_base.specs.declared.semantics.Semantics.{Semantics}
use Rattle.genie_base.specs.Events.{is_whole, has_one}
use Rattle.genie_base.specs.Transfers.{class_of, is_system}
use Rattle.genie_script.specs.declared.keyword.Keyword.TheVariants.{Boot, Device, Spawn, Fork, Exit, Map, Alloc, Unmap, Protect, Read, Write, Output, Input, Send, Recv, Finish, Cancel, Pageout}
use Rattle.genie_script.specs.declared.line.Line.TheVariants as line
use Rattle.genie_script.specs.declared.line.DeviceLine.{DeviceLine}
use Rattle.genie_script.specs.Hex.{bytes_of, last_bytes, hex_text}
use Rattle.genie_script.specs.Names.{file_of, file_at, file_text, kind_of, kind_at, kind_text, semantics_of, semantics_at, semantics_text, port_of, port_at, port_text, mode_of, last_mode, mode_text, dash_at}
use Rattle.genie_script.specs.Lines.{boot_of, device_of, route_at, buffer_of, output_of, input_of, protect_of, write_of, event_of, fields_of, line_of}
use Rattle.genie_script.specs.Spelling.{addr_text, event_words, line_words, spaced}
use Rattle.genie_script.specs.Laws.{IsNumber, FitsEvent, FitsDevice, FitsLine}
use Rattle.genie_script.proofs.Decimals.{both}
use Rattle.genie_script.proofs.Spaced.{are_words}
use Rattle.genie_script.proofs.Spells.{numbers, device_kinds, eight_semantics, modes, files}
use Rattle.genie_script.proofs.Ports.{ports}
use Rattle.genie_script.proofs.Digits.{hex_texts, IsPage}
use Rattle.genie_script.specs.Laws.{FitsRoute, IsFile, LinesAreReadAgain}
use Rattle.genie_script.proofs.Grammar.{front_again, last_again, number_at_again, last_number_again, last_two_again, last_three_again, one_word, two_words, three_words, line_again}

semantics_at_again : (sem : Semantics) (ws : List (List ℕ)) → semantics_at (semantics_text sem ∷ ws) ≡ Some (sem, ws)
unfolding semantics_at
semantics_at_again sem ws = front_again semantics_of eight_semantics sem ws tt

kind_at_again : (kind : Kind) (ws : List (List ℕ)) → kind_at (kind_text kind ∷ ws) ≡ Some (kind, ws)
unfolding kind_at
kind_at_again kind ws = front_again kind_of device_kinds kind ws tt

file_at_again : (file : Option (List ℕ)) (ws : List (List ℕ)) → IsFile file → file_at (file_text file ∷ ws) ≡ Some (file, ws)
unfolding file_at
file_at_again file ws f = front_again file_of files file ws f

port_at_again : (port : ℕ) (flow : Option ℕ) (ws : List (List ℕ)) → port < 2 ^ 16 → IfSome flow IsNumber → port_at (port_text port flow ∷ ws) ≡ Some ((port, flow), ws)
unfolding port_at
port_at_again port flow ws f g = front_again port_of ports (port, flow) ws (f, g)

blank_again : line_of [] ≡ Some line.Blank
unfolding line_of
blank_again = refl

route_at_again : (pid : ℕ) (sem : Semantics) (dev port : ℕ) (flow : Option ℕ) (ws : List (List ℕ)) → FitsRoute pid dev port flow
    → route_at (decimal pid ∷ semantics_text sem ∷ decimal dev ∷ port_text port flow ∷ ws) ≡ Some (record { pid = pid; sem = sem; dev = dev; port = port; flow = flow }, ws)
unfolding route_at
route_at_again pid sem dev port flow ws f =
    rw (
      number_at_again pid (semantics_text sem ∷ decimal dev ∷ port_text port flow ∷ ws) f.0,
      semantics_at_again sem (decimal dev ∷ port_text port flow ∷ ws),
      number_at_again dev (port_text port flow ∷ ws) f.1,
      port_at_again port flow ws f.2 f.3,
    ) refl

route_words : (pid : ℕ) (sem : Semantics) (dev port : ℕ) (flow : Option ℕ) (ws : List (List ℕ)) → FitsRoute pid dev port flow → are_words ws ≡ true → are_words (decimal pid ∷ semantics_text sem ∷ decimal dev ∷ port_text port flow ∷ ws) ≡ true
route_words pid sem dev port flow ws f e =
    both _ _ (numbers.word pid f.0) (both _ _ (eight_semantics.word sem tt) (both _ _ (numbers.word dev f.1) (both _ _ (ports.word (port, flow) (f.2, f.3)) e)))

buffer_again : (system : Bool) (addr : Option ℕ) (len : ℕ) → has_one system (is_some addr) ≡ true → IfSome addr IsNumber → IsNumber len → buffer_of system (addr_text addr ∷ decimal len ∷ []) ≡ Some (addr, len)
unfolding buffer_of dash_at
buffer_again true None len e f g = rw (last_number_again len g) refl
buffer_again true (Some addr) len e f g = absurd cc
buffer_again false None len e f g = absurd cc
buffer_again false (Some addr) len e f g = rw (last_two_again addr len f g) refl

addr_words : (addr : Option ℕ) (len : ℕ) → IfSome addr IsNumber → IsNumber len → are_words (addr_text addr ∷ decimal len ∷ []) ≡ true
addr_words None len f g = both _ _ refl (one_word len g)
addr_words (Some addr) len f g = two_words addr len f g

protect_again : (pid page : ℕ) (writable : Bool) → IsNumber pid → IsNumber page → protect_of (decimal pid ∷ decimal page ∷ mode_text writable ∷ []) ≡ Some (event.Protect pid page writable)
unfolding protect_of last_mode
protect_again pid page writable f g = rw (number_at_again pid (decimal page ∷ mode_text writable ∷ []) f, number_at_again page (mode_text writable ∷ []) g, last_again mode_of modes writable tt) refl

write_again : (pid addr : ℕ) (bytes : List ℕ) → IsNumber pid → IsNumber addr → IsPage bytes → write_of (decimal pid ∷ decimal addr ∷ hex_text bytes ∷ []) ≡ Some (event.Write pid addr bytes)
unfolding write_of last_bytes
write_again pid addr bytes f g h = rw (number_at_again pid (decimal addr ∷ hex_text bytes ∷ []) f, number_at_again addr (hex_text bytes ∷ []) g, last_again bytes_of hex_texts bytes h) refl

event_again : (e : Event) → FitsEvent e → is_whole e ≡ true → line_of (spaced (event_words e)) ≡ Some (line.Event e)
unfolding event_words event_of fields_of output_of input_of
event_again (event.Spawn pid) f w = line_again Spawn (decimal pid ∷ []) _ (one_word pid f) (rw (last_number_again pid f) refl)
event_again (event.Fork parent child) f w = line_again Fork (decimal parent ∷ decimal child ∷ []) _ (two_words parent child f.0 f.1) (rw (last_two_again parent child f.0 f.1) refl)
event_again (event.Exit pid) f w = line_again Exit (decimal pid ∷ []) _ (one_word pid f) (rw (last_number_again pid f) refl)
event_again (event.Map pid page pages) f w = line_again Map (decimal pid ∷ decimal page ∷ decimal pages ∷ []) _ (three_words pid page pages f.0 f.1 f.2) (rw (last_three_again pid page pages f.0 f.1 f.2) refl)
event_again (event.Alloc pid pages) f w = line_again Alloc (decimal pid ∷ decimal pages ∷ []) _ (two_words pid pages f.0 f.1) (rw (last_two_again pid pages f.0 f.1) refl)
event_again (event.Unmap pid page) f w = line_again Unmap (decimal pid ∷ decimal page ∷ []) _ (two_words pid page f.0 f.1) (rw (last_two_again pid page f.0 f.1) refl)
event_again (event.Protect pid page writable) f w =
    line_again Protect (decimal pid ∷ decimal page ∷ mode_text writable ∷ []) _ (both _ _ (numbers.word pid f.0) (both _ _ (numbers.word page f.1) (both _ _ (modes.word writable tt) refl))) (rw (protect_again pid page writable f.0 f.1) refl)
event_again (event.Read pid addr len) f w = line_again Read (decimal pid ∷ decimal addr ∷ decimal len ∷ []) _ (three_words pid addr len f.0 f.1 f.2) (rw (last_three_again pid addr len f.0 f.1 f.2) refl)
event_again (event.Write pid addr bytes) f w =
    let page : IsPage bytes = (ltb-true 0 (length bytes) w, f.2) in
    line_again Write (decimal pid ∷ decimal addr ∷ hex_text bytes ∷ []) _ (both _ _ (numbers.word pid f.0) (both _ _ (numbers.word addr f.1) (both _ _ (hex_texts.word bytes page) refl))) (rw (write_again pid addr bytes f.0 f.1 page) refl)
event_again (event.Output pid sem dev port flow addr len) f w =
    line_again Output (decimal pid ∷ semantics_text sem ∷ decimal dev ∷ port_text port flow ∷ decimal addr ∷ decimal len ∷ []) _
    (route_words pid sem dev port flow (decimal addr ∷ decimal len ∷ []) f.0 (two_words addr len f.1 f.2))
    (rw (route_at_again pid sem dev port flow (decimal addr ∷ decimal len ∷ []) f.0, last_two_again addr len f.1 f.2) refl)
event_again (event.Input pid sem dev port flow addr len) f w =
    line_again Input (decimal pid ∷ semantics_text sem ∷ decimal dev ∷ port_text port flow ∷ addr_text addr ∷ decimal len ∷ []) _
    (route_words pid sem dev port flow (addr_text addr ∷ decimal len ∷ []) f.0 (addr_words addr len f.1 f.2))
    (rw (route_at_again pid sem dev port flow (addr_text addr ∷ decimal len ∷ []) f.0, buffer_again (is_system (class_of sem)) addr len w f.1 f.2) refl)
event_again (event.Send dev len) f w = line_again Send (decimal dev ∷ decimal len ∷ []) _ (two_words dev len f.0 f.1) (rw (last_two_again dev len f.0 f.1) refl)
event_again (event.Recv dev len) f w = line_again Recv (decimal dev ∷ decimal len ∷ []) _ (two_words dev len f.0 f.1) (rw (last_two_again dev len f.0 f.1) refl)
event_again (event.Finish id) f w = line_again Finish (decimal id ∷ []) _ (one_word id f) (rw (last_number_again id f) refl)
event_again (event.Cancel id) f w = line_again Cancel (decimal id ∷ []) _ (one_word id f) (rw (last_number_again id f) refl)
event_again (event.Pageout pages) f w = line_again Pageout (decimal pages ∷ []) _ (one_word pages f) (rw (last_number_again pages f) refl)

boot_again : (page frames slots cout rcout : ℕ) → FitsLine (line.Boot page frames slots cout rcout) → boot_of (decimal page ∷ decimal frames ∷ decimal slots ∷ decimal cout ∷ decimal rcout ∷ []) ≡ Some (line.Boot page frames slots cout rcout)
unfolding boot_of
boot_again page frames slots cout rcout f =
    rw (number_at_again page (decimal frames ∷ decimal slots ∷ decimal cout ∷ decimal rcout ∷ []) f.0, number_at_again frames (decimal slots ∷ decimal cout ∷ decimal rcout ∷ []) f.1, last_three_again slots cout rcout f.2 f.3 f.4) refl

device_again : (d : DeviceLine) → FitsDevice d → device_of (decimal d.number ∷ kind_text d.kind ∷ file_text d.input ∷ file_text d.output ∷ decimal d.depth ∷ decimal d.offset ∷ []) ≡ Some d
unfolding device_of
device_again d f =
    rw (
      number_at_again d.number (kind_text d.kind ∷ file_text d.input ∷ file_text d.output ∷ decimal d.depth ∷ decimal d.offset ∷ []) f.number,
      kind_at_again d.kind (file_text d.input ∷ file_text d.output ∷ decimal d.depth ∷ decimal d.offset ∷ []),
      file_at_again d.input (file_text d.output ∷ decimal d.depth ∷ decimal d.offset ∷ []) f.input,
      file_at_again d.output (decimal d.depth ∷ decimal d.offset ∷ []) f.output,
      last_two_again d.depth d.offset f.depth f.offset,
    ) refl

pub read_again : LinesAreReadAgain
unfolding line_words fields_of
read_again line.Blank f w = blank_again
read_again (line.Boot page frames slots cout rcout) f w =
    line_again Boot (decimal page ∷ decimal frames ∷ decimal slots ∷ decimal cout ∷ decimal rcout ∷ []) _
    (both _ _ (numbers.word page f.0) (both _ _ (numbers.word frames f.1) (three_words slots cout rcout f.2 f.3 f.4)))
    (boot_again page frames slots cout rcout f)
read_again (line.Device d) f w =
    line_again Device (decimal d.number ∷ kind_text d.kind ∷ file_text d.input ∷ file_text d.output ∷ decimal d.depth ∷ decimal d.offset ∷ []) _
    (both _ _ (numbers.word d.number f.number) (both _ _ (device_kinds.word d.kind tt) (both _ _ (files.word d.input f.input) (both _ _ (files.word d.output f.output) (two_words d.depth d.offset f.depth f.offset)))))
    (rw (device_again d f) refl)
read_again (line.Event e) f w = event_again e f w
