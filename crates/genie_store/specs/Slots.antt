-- What contracts see of the slots: which of them are taken.
use Rattle.std.specs.Prelude.{ℕ, ◌≤◌, ◌<◌, ◌^◌, Bool, true, false, not, List, length, slice_index_or}
use Rattle.genie_base.specs.FreeLists.{IsFreeList}

-- a slot that isn't there isn't taken
abbrev pub slot_at : List Bool → ℕ → Bool
slot_at slots s = slice_index_or slots s false

-- what every value of `Slots` keeps: each slot that isn't taken is listed once
pub record AreListed (slots : List Bool) (free : List ℕ) (room : ℕ) : Type 0 where
  pub list : IsFreeList not true slots free
  pub spare : length slots ≤ room
  pub most : length slots < 2 ^ 32
