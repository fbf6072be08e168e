-- Which posted input the record of a datagram meets.
use Rattle.std.specs.Prelude.{ℕ, Bool, true, false, ◌&&◌, ◌==◌, List, find, Option, Some, None}

-- what an input was posted for
pub record Address : Type 0 where
  pub device : ℕ
  pub port : ℕ
  pub flow : Option ℕ

-- an input without a flow meets each record of its port, one with a flow only the records of that flow
abbrev pub meets_flow : Option ℕ → Option ℕ → Bool
meets_flow None wanted = true
meets_flow (Some posted) None = false
meets_flow (Some posted) (Some wanted) = posted == wanted

-- an input of this device and port meets a record with this flow, or without one
abbrev pub meets : ℕ → ℕ → Option ℕ → Address → Bool
meets device port flow a = (a.device == device) && (a.port == port) && meets_flow a.flow flow

-- of posted inputs in order of numbers, the first one that a record meets
abbrev pub first : {X : Type 0} → (X → Address) → ℕ → ℕ → Option ℕ → List X → Option X
first address device port flow inputs = find (λ x. meets device port flow (address x)) inputs
