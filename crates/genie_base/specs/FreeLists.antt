-- A list of the places that are free.
use Rattle.std.specs.Prelude.{◌≡◌, ℕ, ◌≤◌, ◌<◌, ◌^◌, ◌==◌, Bool, List, length, count_by, slice_index_or, if◌then◌else◌}

-- each place whose item is free is listed once, and no other; what stands past the last item isn't free
pub record IsFreeList {X : Type 0} (is_free : X → Bool) (past : X) (items : List X) (free : List ℕ) : Type 0 where
  pub listed : (i : ℕ) → count_by (λ g. g == i) free ≡ (if is_free (slice_index_or items i past) then 1 else 0)
  pub number : length free ≡ count_by is_free items

-- free numbers, and for how many there is room
pub record FreeNumbers : Type 0 where
  pub list : List ℕ
  pub room : ℕ

-- what every value of `FreeList` keeps: the numbers fit into the room, and the room into the memory that was reserved
pub record IsRoomy (n room reserved : ℕ) : Type 0 where
  pub fits : n ≤ room
  pub reserves : room ≤ reserved
  pub small : room < 2 ^ 32
