-- What contracts see of the objects: the entries of each.
use Rattle.std.specs.Prelude.{◌≡◌, ℕ, ◌≤◌, ◌==◌, Bool, true, false, List, [], ◌∷◌, length, Some, None, slice_set, slice_index_or, if◌then◌else◌}
use Rattle.genie_base.specs.FreeLists.{IsFreeList}
use Rattle.genie_object.specs.declared.objects.Entry.{Entry}

abbrev pub no_entry : Entry
no_entry = record { page = None; readable = false; writable = false }

-- an object that isn't there has no entry
abbrev pub object_at : List (List Entry) → ℕ → List Entry
object_at objects o = slice_index_or objects o []

abbrev pub entry_at : List (List Entry) → ℕ → ℕ → Entry
entry_at objects o i = slice_index_or (object_at objects o) i no_entry

abbrev pub is_absent : List Entry → Bool
is_absent [] = true
is_absent (e ∷ entries) = false

abbrev pub set_entry : List (List Entry) → ℕ → ℕ → Entry → List (List Entry)
set_entry objects o i entry = slice_set objects o (slice_set (object_at objects o) i entry)

-- the entry names the page
abbrev pub names : ℕ → Entry → Bool
names p e = elim e.page [ None ↦ false | Some q ↦ q.0 == p ]

-- an entry without permissions, where it names the page
abbrev pub revoked : ℕ → Entry → Entry
revoked p e = if names p e then record e { readable = false; writable = false } else e

-- what every value of `Objects` keeps: there are 512 places, and each that is empty is listed once
pub record AreListed (objects : List (List Entry)) (free : List ℕ) (room : ℕ) : Type 0 where
  pub size : length objects ≡ 512
  pub list : IsFreeList is_absent (no_entry ∷ []) objects free
  pub spare : 512 ≤ room
