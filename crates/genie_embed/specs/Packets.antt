-- What a network interface in memory is seen as, and as which host.
use Rattle.std.specs.Prelude.{ℕ, ◌==◌, List, [], None, Some, if◌then◌else◌}
use Rattle.genie_base.specs.declared.semantics.Direction.{Direction}
use Rattle.genie_host.specs.Host.{Closed, Reading, Writing, HandleState, HostView}

pub record PacketView : Type 0 where
  -- the bytes that came and weren't read
  pub left : List ℕ
  -- the bytes that were sent, and how many may be
  pub sent : List ℕ
  pub room : ℕ
  -- how many writes of sent bytes failed
  pub faults : ℕ
  -- the openings tried, and how many of them failed
  pub tried : List (List ℕ × Direction)
  pub refusals : ℕ

-- nothing came, and nothing was sent
abbrev pub fresh : ℕ → PacketView
fresh room = record { left = []; sent = []; room = room; faults = 0; tried = []; refusals = 0 }

-- handle 0 takes replies and tells nothing, handle 1 is read, and handle 2 is written
abbrev pub handle_of : PacketView → ℕ → HandleState
handle_of h k =
    if k == 0 then record { mode = Writing; bytes = None; faults = 0 }
    else if k == 1 then record { mode = Reading; bytes = Some h.left; faults = 0 }
    else if k == 2 then record { mode = Writing; bytes = Some h.sent; faults = h.faults }
    else record { mode = Closed; bytes = None; faults = 0 }

-- the interface as a host: no name is told, and two handles are open
abbrev pub host_of : PacketView → HostView
host_of h = record { names = λ _. None; handle = handle_of h; opened = 2; tried = h.tried; refusals = h.refusals }
