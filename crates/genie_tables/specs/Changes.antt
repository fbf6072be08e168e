-- What each change of the plain machine makes of a region, and each turn of a transfer.
use Rattle.std.specs.Prelude.{◌+◌, ◌<◌, ◌^◌, length, ⊤, List, [], ◌∷◌, if◌then◌else◌}
use Rattle.genie_base.specs.Regions.{is_accessible}
use Rattle.genie_base.specs.declared.region.RegionState.TheVariants.{Live}
use Rattle.genie_model.specs.State.{Region, Transfer}
use Rattle.genie_model.specs.Regions.{with_bytes, with_state, with_mode}
use Rattle.genie_model.specs.Ending.{filled}
use Rattle.genie_model.specs.Receiving.{with_phase, with_datagram, gathered, after_receiving}
use Rattle.genie_model.specs.declared.phase.Phase.TheVariants.{Moving}
use Rattle.genie_tables.specs.declared.change.Turn.{Turn}
use Rattle.genie_tables.specs.declared.change.Turn.TheVariants as turn
use Rattle.genie_tables.specs.declared.change.Change.{Change}
use Rattle.genie_tables.specs.declared.change.Change.TheVariants.{Bytes, State, Mode, Fill}

-- a live copy, where the region is accessible
abbrev pub live_copy : Region → List Region
live_copy r = if is_accessible r.state then with_state Live r ∷ [] else []

abbrev pub change_of : Change → Region → Region
change_of (Bytes at bytes) = with_bytes at bytes.now
change_of (State state) = with_state state
change_of (Mode writable) = with_mode writable
change_of (Fill bytes) = filled bytes.now

abbrev pub turn_of : Turn → Transfer → Transfer
turn_of turn.Moving = with_phase Moving
turn_of (turn.Arrived truncated len) = with_datagram truncated len
turn_of (turn.Gathered truncated len bytes) = gathered truncated len bytes.now
turn_of (turn.Received at bytes) = after_receiving at bytes.now

-- what comes ends at a place that a number has
abbrev pub IsSmall : Turn → Type 0
IsSmall turn.Moving = ⊤
IsSmall (turn.Arrived truncated len) = ⊤
IsSmall (turn.Gathered truncated len bytes) = ⊤
IsSmall (turn.Received at bytes) = at + length bytes.now < 2 ^ 32
