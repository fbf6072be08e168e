-- What is left of removed regions under weak loans, as the flat machine has it.
use Rattle.std.specs.Prelude.{ℕ, ◌-◌, ◌+◌, ◌*◌, Bool, not, ◌&&◌, nat_le, nat_lt, List, [], ◌∷◌, map, filter, find, flat_map, Option, None, Some, slice_index}
use Rattle.std.specs.List.{list_any, range_with_len}
use Rattle.genie_base.specs.Bytes.{part}
use Rattle.genie_region.specs.declared.region.Region.{Region}
use Rattle.genie_model.specs.State as flat
use Rattle.genie_kernel.specs.declared.transfer.Transfer.{Transfer}
use Rattle.genie_kernel.specs.Loans.{frames_of, first_of, bytes_in_frames}
use Rattle.genie_kernel.specs.Calls.{names_weakly}
use Rattle.genie_kernel.specs.Regions.{has_id}

-- a process has region k; regions are those of all processes
abbrev pub is_owned : List Region → ℕ → Bool
is_owned regions k = list_any (has_id k) regions

-- a weak transfer names k, and no process has it
abbrev pub is_orphan : List Region → List Transfer → ℕ → Bool
is_orphan regions transfers k = list_any (names_weakly k) transfers && not (is_owned regions k)

-- the transfer covers the place of region or orphan k
abbrev pub covers : ℕ → ℕ → Transfer → Bool
covers k x t = names_weakly k t && nat_le t.offset x && nat_lt x (t.offset + t.len)

-- the bytes under the loans of a transfer's range
abbrev pub lent_bytes : (ℕ → List ℕ) → Transfer → List ℕ
lent_bytes s t = part (first_of t.loans) t.len (bytes_in_frames s (frames_of t.loans))

-- the byte at a place that a transfer covers, if one does
abbrev pub byte_under : (ℕ → List ℕ) → ℕ → Option Transfer → List (ℕ × ℕ)
byte_under s x None = []
byte_under s x (Some t) = (x, slice_index (lent_bytes s t) (x - t.offset)) ∷ []

abbrev pub orphan_byte : (ℕ → List ℕ) → List Transfer → ℕ → ℕ → List (ℕ × ℕ)
orphan_byte s transfers k x = byte_under s x (find (covers k x) transfers)

-- the places that a region may have at most, and the numbers that regions and orphans may have: all are below 577
unfoldable pub all_places : ℕ → List ℕ
all_places page = range_with_len 0 (64 * page)

unfoldable pub all_numbers : List ℕ
all_numbers = range_with_len 0 577

-- orphan k: the bytes at the places that a transfer covers
abbrev pub orphan_view : ℕ → (ℕ → List ℕ) → List Transfer → ℕ → flat.Orphan
orphan_view page s transfers k = record { number = k; bytes = flat_map (orphan_byte s transfers k) (all_places page) }

-- all orphans, in the order of their numbers
abbrev pub orphans_view : ℕ → (ℕ → List ℕ) → List Region → List Transfer → List flat.Orphan
orphans_view page s regions transfers = map (orphan_view page s transfers) (filter (is_orphan regions transfers) all_numbers)
