-- What a host over real files is seen as: it tells no content.
use Rattle.std.specs.Prelude.{ℕ, List, [], None, Bool, true, false}
use Rattle.genie_base.specs.declared.semantics.Direction.{Direction}
use Rattle.genie_host.specs.Host.{Mode, Reading, Writing, HandleState, HostView}
use Rattle.genie_host.specs.Handles.{table_view}

-- an open file: whether it is read, and how many of its calls failed
pub record PlaceView : Type 0 where
  pub is_read : Bool
  pub faults : ℕ

pub record FileHostView : Type 0 where
  -- the handles from 1 on
  pub opened : List PlaceView
  -- how many writes of the reply output failed
  pub output_faults : ℕ
  -- the openings tried, and how many of them failed
  pub tried : List (List ℕ × Direction)
  pub refusals : ℕ

-- nothing was opened
abbrev pub unopened : FileHostView
unopened = record { opened = []; output_faults = 0; tried = []; refusals = 0 }

abbrev pub mode_of : Bool → Mode
mode_of true = Reading
mode_of false = Writing

abbrev pub untold : Mode → ℕ → HandleState
untold mode faults = record { mode = mode; bytes = None; faults = faults }

abbrev pub state_of : PlaceView → HandleState
state_of place = untold (mode_of place.is_read) place.faults

-- a host over files as a host
abbrev pub host_of : FileHostView → HostView
host_of h = table_view (λ _. None) state_of (untold Writing h.output_faults) h.opened h.tried h.refusals
