-- What contracts see of the stores in memory.
use Rattle.std.specs.Prelude.{ℕ, ◌+◌, ◌-◌, ◌^◌, min, ◌==◌, Bool, true, false, List, [], length, Some, slice_index_or}
use Rattle.std.specs.List.{list_any}
use Rattle.genie_store.specs.declared.memory.MemoryStore.{MemoryStore}
use Rattle.genie_store.specs.declared.failing.FailingStore.{FailingStore}
use Rattle.genie_store.specs.StoreView.{StoreView}

-- a store that tells these bytes
abbrev pub told : ℕ → List (List ℕ) → ℕ → StoreView
told page slots faults = record { count = length slots; page = page; slots = Some (λ s. slice_index_or slots s []); faults = faults }

-- a store in memory never fails
abbrev pub memory_view : MemoryStore → StoreView
memory_view m = told m.page m.slots.items 0

-- a store that isn't sized yet, and no call of which has failed
abbrev pub empty_store : StoreView
empty_store = told 0 [] 0

abbrev pub failing_view : FailingStore → StoreView
failing_view f = told f.memory.page f.memory.slots.items f.faults

-- how many puts and gets there were
abbrev pub calls : FailingStore → ℕ
calls f = f.calls

-- the numbers of those that fail
abbrev pub failing : FailingStore → List ℕ
failing f = f.failing.items

-- a count that stops at its type's end
abbrev pub one_more : ℕ → ℕ
one_more n = min (n + 1) (2 ^ 64 - 1)

-- whether the next call fails: calls are counted from 1
abbrev pub fails_next : FailingStore → Bool
fails_next f = list_any (λ n. n == one_more (calls f)) (failing f)

-- a store of which a call failed, or not
abbrev pub counted : Bool → StoreView → StoreView
counted true v = record v { faults = one_more v.faults }
counted false v = v
