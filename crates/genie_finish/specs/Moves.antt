-- A buffer is stored in an object without pages, as at the end of a move.
use Rattle.std.specs.Prelude.{◌≡◌, ℕ, ◌+◌, ◌-◌, ◌*◌, ◌≤◌, List, ◌++◌, length, None, replicate}
use Rattle.genie_object.specs.declared.memory.Memory.{Memory}
use Rattle.genie_object.specs.Objects.{entry_at}
use Rattle.genie_object.specs.Memory.{seen}
use Rattle.genie_object.specs.Sound.{IsSound}
use Rattle.genie_plan.specs.Plans.{range_bytes}
use Rattle.genie_plan.specs.Landings.{entries_bytes}
use Rattle.genie_finish.specs.Ranges.{CanStoreRange, ShowsStored}

-- no entry of the object names a page
abbrev pub IsEmptyObject : Memory → ℕ → Type 0
IsEmptyObject m o = (i : ℕ) → (entry_at m.objects o i).page ≡ None

-- every range of such an object may be stored in by swapping, without the store
abbrev pub EmptyCanStore : Type 0
EmptyCanStore = (m : Memory) (o off len : ℕ) → IsSound m → IsEmptyObject m o → CanStoreRange m o off len 0

-- what is stored at its start stands there, and zeros behind it
abbrev pub ZerosBehind : Type 0
ZerosBehind = (old new : Memory) (o len pages : ℕ) (frames : List ℕ) (slots : ℕ → List ℕ) → IsSound old → IsEmptyObject old o → ShowsStored old new o 0 len frames slots → length (range_bytes old.frames frames 0 len) ≡ len → length frames ≤ pages → len ≤ old.frames.page * pages
    → entries_bytes (seen new slots) o 0 pages ≡ range_bytes old.frames frames 0 len ++ replicate (old.frames.page * pages - len) 0
