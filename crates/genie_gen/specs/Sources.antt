-- What is left of a made script or stream, from a place on.
use Rattle.std.specs.Prelude.{ℕ, ◌+◌, ◌<◌, ◌≤◌, List, [], ◌++◌, drop, flat_map, Option, None, Some, ⊤, slice_get}
use Rattle.genie_base.specs.declared.event.Event.{Event}
use Rattle.genie_gen.specs.declared.source.Source.{Source}
use Rattle.genie_gen.specs.declared.source.Source.TheVariants.{Head, Line, Record, End}
use Rattle.genie_gen.specs.Rounds.{event_line, head_text, round_events, rounds_text}
use Rattle.genie_gen.specs.Streams.{record_text, stream_from}

abbrev pub line_in : Option Event → List ℕ
line_in None = []
line_in (Some e) = event_line e

-- the piece that stands at a place: the first lines, a line, or a record
abbrev pub piece : Source → List ℕ
piece (Head state rounds) = head_text
piece (Line line round number state rounds) = line_in (slice_get (round_events round number) line)
piece (Record device number behind) = record_text device number
piece End = []

-- what stands behind it
abbrev pub behind_piece : Source → List ℕ
behind_piece (Head state rounds) = rounds_text state 0 rounds
behind_piece (Line line round number state rounds) = flat_map event_line (drop (line + 1) (round_events round number)) ++ rounds_text state (number + 1) rounds
behind_piece (Record device number behind) = stream_from device (number + 1) behind
behind_piece End = []

abbrev pub left : Source → List ℕ
left s = piece s ++ behind_piece s

-- a place within its limits
abbrev pub IsPlace : Source → Type 0
IsPlace (Head state rounds) = rounds ≤ 30000
IsPlace (Line line round number state rounds) = (line < 27) × (number + rounds < 30000) × (round.first < 256)
IsPlace (Record device number behind) = (device < 3) × (number + behind < 60000)
IsPlace End = ⊤
