-- The posted inputs, in order of numbers.
use Rattle.std.specs.Prelude.{ℕ, ◌<◌, ◌≤◌, Bool, not, ◌==◌, List, length, find, filter, Option}
use Rattle.std.specs.List.{AllPairs}
use Rattle.std.specs.Option.{option_map}
use Rattle.genie_base.specs.Posted.{Address}
use Rattle.genie_demux.specs.declared.input.Input.{Input}

abbrev pub address : Input → Address
address p = record { device = p.device; port = p.port; flow = p.flow }

-- its number
abbrev pub number_of : Option Input → Option ℕ
number_of p = option_map (λ (q : Input). q.id) p

abbrev pub has_id : ℕ → Input → Bool
has_id id p = p.id == id

-- the input with this number
abbrev pub input_of : ℕ → List Input → Option Input
input_of id inputs = find (has_id id) inputs

-- the other inputs
abbrev pub without : ℕ → List Input → List Input
without id inputs = filter (λ p. not (has_id id p)) inputs

-- at most 64 inputs in order of numbers
pub record IsQueue (inputs : List Input) : Type 0 where
  pub few : length inputs ≤ 64
  pub ordered : AllPairs (λ a b. a.id < b.id) inputs
