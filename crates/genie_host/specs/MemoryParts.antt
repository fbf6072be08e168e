-- The parts of a host in memory, and what one read or write does to them.
use Rattle.std.specs.Prelude.{◌≡◌, ◌⊎◌, ℕ, ◌+◌, ◌-◌, ◌^◌, ◌==◌, ◌<◌, ◌≤◌, nat_le, min, Bool, true, false, ◌&&◌, List, [], ◌++◌, length, take, drop, Option, None, Some, is_some, Result, Ok, Err, if◌then◌else◌, slice_get, position}
use Rattle.std.specs.List.{fold, remove}
use Rattle.std.specs.Str.{bytes_eq}
use Rattle.genie_host.specs.declared.reader.Reader.{Reader}
use Rattle.genie_host.specs.MemoryRecords.{FileView, FailView, WriterView}

-- this failure stands at this place of the file of this name
abbrev pub is_at : List ℕ → ℕ → FailView → Bool
is_at name place fail = bytes_eq fail.name name && (fail.at == place)

-- n bytes from this place on, cut where the failure stands
abbrev pub cut_at : List ℕ → ℕ → ℕ → FailView → ℕ
cut_at name place n fail = if bytes_eq fail.name name && nat_le place fail.at then min n (fail.at - place) else n

-- how many of n bytes from this place on stand before each failure
abbrev pub before_failures : List FailView → List ℕ → ℕ → ℕ → ℕ
before_failures failing name place n = fold (cut_at name place) n failing

-- a failure stands at this place
abbrev pub is_failing : List FailView → List ℕ → ℕ → Bool
is_failing failing name place = is_some (position (is_at name place) failing)

abbrev pub without : List FailView → Option ℕ → List FailView
without failing None = failing
without failing (Some i) = remove failing i

-- the failures that are left once the first at this place has come
abbrev pub used_up : List FailView → List ℕ → ℕ → List FailView
used_up failing name place = without failing (position (is_at name place) failing)

-- a count after one more fault, which stops at its type's end
abbrev pub one_more : ℕ → ℕ
one_more n = min (n + 1) (2 ^ 64 - 1)

abbrev pub name_in : Option FileView → List ℕ
name_in None = []
name_in (Some file) = file.name

abbrev pub bytes_in : Option FileView → List ℕ
bytes_in None = []
bytes_in (Some file) = file.bytes

-- what a reading handle has left
abbrev pub left : List FileView → Reader → List ℕ
left files reader = drop reader.at (bytes_in (slice_get files reader.file))

-- the name of its file
abbrev pub name_of : List FileView → Reader → List ℕ
name_of files reader = name_in (slice_get files reader.file)

-- A read of `size` bytes at most: it fails where a failure stands at the place reached, and uses that one up. Else it
-- moves as many bytes as there are, up to the next failure.
abbrev pub ReadsFrom : {E : Type 0} → List FileView → (most : ℕ) → (failing : List FailView) → (failing' : List FailView) → (old : Reader) → (new : Reader) → (size : ℕ) → Result ℕ E → Type 0
ReadsFrom files most failing failing' old new size (Ok n) =
    (is_failing failing (name_of files old) old.at ≡ false)
    × (n ≡ before_failures failing (name_of files old) old.at (min (min size most) (length (left files old))))
    × (failing' ≡ failing)
    × (new ≡ record old { at = old.at + n })
ReadsFrom files most failing failing' old new size (Err e) =
    (is_failing failing (name_of files old) old.at ≡ true)
    × (failing' ≡ used_up failing (name_of files old) old.at)
    × (new ≡ record old { faults = one_more old.faults })

-- A write: it fails where a failure stands at the place reached, which it uses up, or where the room is used up. Else
-- it appends as many bytes as there is room for, up to the next failure.
abbrev pub WritesTo : {E : Type 0} → (most : ℕ) → (failing : List FailView) → (failing' : List FailView) → (old : WriterView) → (new : WriterView) → (from : List ℕ) → Result ℕ E → Type 0
WritesTo most failing failing' old new from (Ok n) =
    (is_failing failing old.name (length old.bytes) ≡ false)
    × (length old.bytes < old.room)
    × (n ≡ before_failures failing old.name (length old.bytes) (min (min (length from) most) (old.room - length old.bytes)))
    × (failing' ≡ failing)
    × (new ≡ record old { bytes = old.bytes ++ take n from })
WritesTo most failing failing' old new from (Err e) =
    ((is_failing failing old.name (length old.bytes) ≡ true) ⊎ (old.room ≤ length old.bytes))
    × (failing' ≡ used_up failing old.name (length old.bytes))
    × (new ≡ record old { faults = one_more old.faults })
