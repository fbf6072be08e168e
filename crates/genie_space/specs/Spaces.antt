-- What contracts see of the address spaces.
use Rattle.std.specs.Prelude.{ℕ, Bool, List, [], replicate, Option, Some, None, slice_index_or, slice_set, is_some, unwrap_or}
use Rattle.genie_region.specs.declared.region.Region.{Region}

-- the page size in bytes, and for each process its regions in order, or none where it isn't alive
pub record AddressSpaces : Type 0 where
  pub page : ℕ
  pub processes : List (Option (List Region))

-- 16 processes of which none is alive
abbrev pub no_process : List (Option (List Region))
no_process = replicate 16 None

abbrev pub process : ℕ → AddressSpaces → Option (List Region)
process pid s = slice_index_or s.processes pid None

abbrev pub is_alive : ℕ → AddressSpaces → Bool
is_alive pid s = is_some (process pid s)

-- the regions of a process; one that isn't alive has none
abbrev pub regions_of : ℕ → AddressSpaces → List Region
regions_of pid s = unwrap_or (process pid s) []

-- one process as given, the others as they are
abbrev pub set_process : AddressSpaces → ℕ → Option (List Region) → AddressSpaces
set_process s pid p = record s { processes = slice_set s.processes pid p }

abbrev pub set_regions : AddressSpaces → ℕ → List Region → AddressSpaces
set_regions s pid regions = set_process s pid (Some regions)
