-- What the host of a made run is seen as.
use Rattle.std.specs.Prelude.{◌≡◌, ℕ, ◌-◌, List, [], ◌∷◌, ◌++◌, codes, Option, Some, Result, if◌then◌else◌, slice_get, slice_set}
use Rattle.std.specs.Io.KnownBytes.{ReadConsumes}
use Rattle.std.specs.Str.{bytes_eq}
use Rattle.sha2.specs.Sha256.{sha256}
use Rattle.genie_base.specs.declared.semantics.Direction.{Direction}
use Rattle.genie_host.specs.Host.{HandleState, HostView}
use Rattle.genie_host.specs.Host as seen
use Rattle.genie_host.specs.Handles.{table_view}
use Rattle.genie_gen.specs.declared.opened.Opened.{Opened}
use Rattle.genie_gen.specs.declared.opened.Opened.TheVariants.{Reading, Writing}
use Rattle.genie_gen.specs.declared.summary.Summary.{Summary}
use Rattle.genie_gen.specs.declared.written.Written.{Written}
use Rattle.genie_gen.specs.Rounds.{script_text}
use Rattle.genie_gen.specs.Streams.{stream_text}
use Rattle.genie_gen.specs.Tallies.{Counts, tally_of}

pub record GenView : Type 0 where
  pub seed : ℕ
  pub rounds : ℕ
  -- what was written to the reply output, which is handle 0
  pub replies : List ℕ
  -- the handles from 1 on
  pub opened : List Opened
  -- the openings tried
  pub tried : List (List ℕ × Direction)

-- nothing was opened or written
abbrev pub fresh : ℕ → ℕ → GenView
fresh seed rounds = record { seed = seed; rounds = rounds; replies = []; opened = []; tried = [] }

-- the bytes of a name: any other one is an empty file
abbrev pub content_of : ℕ → ℕ → List ℕ → List ℕ
content_of seed rounds name =
    if bytes_eq name (codes "made") then script_text seed rounds
    else if bytes_eq name (codes "i0") then stream_text 0 rounds
    else if bytes_eq name (codes "i1") then stream_text 1 rounds
    else if bytes_eq name (codes "i2") then stream_text 2 rounds
    else []

abbrev pub told_of : ℕ → ℕ → List ℕ → Option (List ℕ)
told_of seed rounds name = Some (content_of seed rounds name)

abbrev pub state_of : Opened → HandleState
state_of (Reading left) = record { mode = seen.Reading; bytes = Some left; faults = 0 }
state_of (Writing written) = record { mode = seen.Writing; bytes = Some written.items; faults = 0 }

abbrev pub output_state : List ℕ → HandleState
output_state written = record { mode = seen.Writing; bytes = Some written; faults = 0 }

-- The host tells everything, and nothing ever fails.
abbrev pub host_of : GenView → HostView
host_of g = table_view (told_of g.seed g.rounds) state_of (output_state g.replies) g.opened g.tried 0

abbrev pub opened_with : GenView → Opened → GenView
opened_with g opened = record g { opened = g.opened ++ opened ∷ [] }

-- a read from the handle at this place of the table
pub record ReadsAt {E : Type 0} (place : ℕ) (old new : List Opened) (result : Result ℕ E) (into : List ℕ) : Type 0 where
  pub before : List ℕ
  pub after : List ℕ
  pub open_at : slice_get old place ≡ Some (Reading before)
  pub bytes : ReadConsumes (Some before) (Some after) result into
  pub changed : new ≡ slice_set old place (Reading after)

-- a write to it
pub record WritesAt (place : ℕ) (old new : List Opened) (bytes : List ℕ) : Type 0 where
  pub before : Written
  pub after : Written
  pub open_at : slice_get old place ≡ Some (Writing before)
  pub appended : after.items ≡ before.items ++ bytes
  pub changed : new ≡ slice_set old place (Writing after)

-- The events are those behind the boot part, whose reply is the first line.
abbrev pub summary_from : Counts → List ℕ → Summary
summary_from t digest = record { events = t.lines - 1; errs = t.errs; faults = t.faults; sent = t.sent; got = t.got; digest = digest }

-- the summary of a reply text
abbrev pub summary_of : List ℕ → Summary
summary_of text = summary_from (tally_of text) (sha256 text)
