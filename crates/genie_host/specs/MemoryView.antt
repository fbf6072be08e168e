-- What a host in memory is seen as, and what its calls do to that.
use Rattle.std.specs.Prelude.{◌≡◌, ◌≢◌, ℕ, ◌+◌, ◌-◌, ◌^◌, ◌==◌, Bool, false, List, [], ◌∷◌, ◌++◌, length, Option, None, Some, Result, Ok, Err, if◌then◌else◌, slice_get, slice_set, position}
use Rattle.std.specs.Option.{option_map}
use Rattle.std.specs.List.{remove, list_any}
use Rattle.std.specs.Str.{bytes_eq}
use Rattle.genie_base.specs.declared.semantics.Direction.{Direction}
use Rattle.genie_host.specs.Host.{HandleState, HostView}
use Rattle.genie_host.specs.Host as seen
use Rattle.genie_host.specs.MemoryRecords.{FileView, FailView, SinkView, WriterView}
use Rattle.genie_host.specs.MemoryParts.{bytes_in, left, one_more, ReadsFrom, WritesTo}
use Rattle.genie_host.specs.Handles.{table_view}
use Rattle.genie_host.specs.declared.reader.Reader.{Reader}
use Rattle.genie_host.specs.declared.opened.Opened.{Opened}
use Rattle.genie_host.specs.declared.opened.Opened.TheVariants.{Reading, Writing}

pub record MemoryView : Type 0 where
  -- the readable names
  pub files : List FileView
  -- the writable names that weren't opened yet
  pub sinks : List SinkView
  -- the calls that are to fail
  pub failing : List FailView
  -- the names whose openings fail
  pub refused : List (List ℕ)
  -- how many bytes one call moves at most
  pub most : ℕ
  -- the reply output, which is handle 0
  pub output : WriterView
  -- the handles from 1 on
  pub opened : List Opened
  -- the openings tried, and how many of them failed
  pub tried : List (List ℕ × Direction)
  pub refusals : ℕ

-- nothing was added, opened or written
abbrev pub fresh : ℕ → MemoryView
fresh room = record {
  files = [];
  sinks = [];
  failing = [];
  refused = [];
  most = 2 ^ 64 - 1;
  output = record { name = []; room = room; bytes = []; faults = 0 };
  opened = [];
  tried = [];
  refusals = 0;
}

abbrev pub state_of : List FileView → Opened → HandleState
state_of files (Reading reader) = record { mode = seen.Reading; bytes = Some (left files reader); faults = reader.faults }
state_of files (Writing writer) = record { mode = seen.Writing; bytes = Some writer.bytes; faults = writer.faults }

abbrev pub output_state : WriterView → HandleState
output_state writer = record { mode = seen.Writing; bytes = Some writer.bytes; faults = writer.faults }

-- the place of the first file of this name
abbrev pub file_place : List FileView → List ℕ → Option ℕ
file_place files name = position (λ file. bytes_eq file.name name) files

-- its bytes
abbrev pub told_of : List FileView → List ℕ → Option (List ℕ)
told_of files name = option_map (λ i. bytes_in (slice_get files i)) (file_place files name)

-- a host in memory as a host, which tells everything
abbrev pub host_of : MemoryView → HostView
host_of m = table_view (told_of m.files) (state_of m.files) (output_state m.output) m.opened m.tried m.refusals

abbrev pub is_refused : List (List ℕ) → List ℕ → Bool
is_refused refused name = list_any (λ other. bytes_eq other name) refused

-- the file that an opening for reading opens: none where the name is absent or refused
abbrev pub file_to_open : MemoryView → List ℕ → Option ℕ
file_to_open m name = if is_refused m.refused name then None else file_place m.files name

-- the sink that an opening for writing opens
abbrev pub sink_to_open : MemoryView → List ℕ → Option ℕ
sink_to_open m name = if is_refused m.refused name then None else position (λ sink. bytes_eq sink.name name) m.sinks

abbrev pub noted : MemoryView → List ℕ → Direction → MemoryView
noted m name direction = record m { tried = m.tried ++ (name, direction) ∷ [] }

abbrev pub opened_with : MemoryView → Opened → MemoryView
opened_with m opened = record m { opened = m.opened ++ opened ∷ [] }

abbrev pub refusing : MemoryView → MemoryView
refusing m = record m { refusals = one_more m.refusals }

-- An opening for reading: it fails exactly where there is no file to open, and then counts one more fault.
abbrev pub OpensFile : {E : Type 0} → E → Option ℕ → MemoryView → MemoryView → Result ℕ E → Type 0
OpensFile failed None noted new result = (result ≡ Err failed) × (new ≡ refusing noted)
OpensFile failed (Some i) noted new result = (result ≡ Ok (length noted.opened + 1)) × (new ≡ opened_with noted (Reading (record { file = i; at = 0; faults = 0 })))

-- the sink as an empty file
abbrev pub emptied : Option SinkView → WriterView
emptied None = record { name = []; room = 0; bytes = []; faults = 0 }
emptied (Some sink) = record { name = sink.name; room = sink.room; bytes = []; faults = 0 }

-- an opening for writing, which takes the sink away: no other opening gets it
abbrev pub OpensSink : {E : Type 0} → E → Option ℕ → MemoryView → MemoryView → Result ℕ E → Type 0
OpensSink failed None noted new result = (result ≡ Err failed) × (new ≡ refusing noted)
OpensSink failed (Some i) noted new result =
    (result ≡ Ok (length noted.opened + 1)) × (new ≡ opened_with (record noted { sinks = remove noted.sinks i }) (Writing (emptied (slice_get noted.sinks i))))

-- a read from this handle, which changes nothing but the handle and the failures that are left
pub record MemoryReads {E : Type 0} (handle : ℕ) (old new : MemoryView) (size : ℕ) (result : Result ℕ E) : Type 0 where
  pub before : Reader
  pub after : Reader
  pub open_at : slice_get old.opened (handle - 1) ≡ Some (Reading before)
  pub step : ReadsFrom old.files old.most old.failing new.failing before after size result
  pub changed : new ≡ record old { failing = new.failing; opened = slice_set old.opened (handle - 1) (Reading after) }

-- a write to this handle
pub record SinkWrites {E : Type 0} (handle : ℕ) (old new : MemoryView) (from : List ℕ) (result : Result ℕ E) : Type 0 where
  pub before : WriterView
  pub after : WriterView
  pub open_at : slice_get old.opened (handle - 1) ≡ Some (Writing before)
  pub step : WritesTo old.most old.failing new.failing before after from result
  pub changed : new ≡ record old { failing = new.failing; opened = slice_set old.opened (handle - 1) (Writing after) }

pub record OutputWrites {E : Type 0} (old new : MemoryView) (from : List ℕ) (result : Result ℕ E) : Type 0 where
  pub step : WritesTo old.most old.failing new.failing old.output new.output from result
  pub changed : new ≡ record old { failing = new.failing; output = new.output }

-- handle 0 is the reply output
abbrev pub MemoryWrites : {E : Type 0} → ℕ → MemoryView → MemoryView → List ℕ → Result ℕ E → Type 0
MemoryWrites handle old new from result = (handle ≡ 0 → OutputWrites old new from result) × (handle ≢ 0 → SinkWrites handle old new from result)

abbrev pub is_writer_of : List ℕ → Opened → Bool
is_writer_of name (Reading reader) = false
is_writer_of name (Writing writer) = bytes_eq writer.name name

abbrev pub bytes_of : Option Opened → List ℕ
bytes_of None = []
bytes_of (Some (Reading reader)) = []
bytes_of (Some (Writing writer)) = writer.bytes

-- what was written to the first opened sink of this name
abbrev pub opened_bytes : List Opened → List ℕ → Option (List ℕ)
opened_bytes opened name = option_map (λ i. bytes_of (slice_get opened i)) (position (is_writer_of name) opened)

-- nothing was written to a sink that wasn't opened yet
abbrev pub unopened_bytes : List SinkView → List ℕ → Option (List ℕ)
unopened_bytes sinks name = if list_any (λ sink. bytes_eq sink.name name) sinks then Some [] else None

abbrev pub first_of : Option (List ℕ) → Option (List ℕ) → Option (List ℕ)
first_of None other = other
first_of (Some bytes) other = Some bytes

-- what was written to a sink: the empty name is the reply output
abbrev pub written_to : MemoryView → List ℕ → Option (List ℕ)
written_to m name = if length name == 0 then Some m.output.bytes else first_of (opened_bytes m.opened name) (unopened_bytes m.sinks name)

abbrev pub faults_of : Option Opened → ℕ
faults_of None = 0
faults_of (Some (Reading reader)) = reader.faults
faults_of (Some (Writing writer)) = writer.faults
