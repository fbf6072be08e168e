-- Handles that stand in a table, and the reply output before them.
use Rattle.std.specs.Prelude.{ℕ, ◌-◌, ◌==◌, List, length, Option, None, Some, if◌then◌else◌, slice_get}
use Rattle.genie_base.specs.declared.semantics.Direction.{Direction}
use Rattle.genie_host.specs.Host.{Closed, HandleState, HostView}

abbrev pub closed : HandleState
closed = record { mode = Closed; bytes = None; faults = 0 }

abbrev pub state_in : {X : Type 0} → (X → HandleState) → Option X → HandleState
state_in state None = closed
state_in state (Some place) = state place

-- handle 0 is the reply output, and handle k the k-th of the table
abbrev pub handle_in : {X : Type 0} → (X → HandleState) → HandleState → List X → ℕ → HandleState
handle_in state output table k = if k == 0 then output else state_in state (slice_get table (k - 1))

abbrev pub table_view : {X : Type 0} → (names : List ℕ → Option (List ℕ)) → (state : X → HandleState) → (output : HandleState) → (table : List X) → (tried : List (List ℕ × Direction)) → (refusals : ℕ) → HostView
table_view names state output table tried refusals = record {
  names = names;
  handle = handle_in state output table;
  opened = length table;
  tried = tried;
  refusals = refusals;
}
