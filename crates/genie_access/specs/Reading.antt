-- What is read of a page, and of an object.
use Rattle.std.specs.Prelude.{◌≡◌, ℕ, Bool, ◌==◌, List, ◌++◌, length, IfSome}
use Rattle.genie_base.specs.Bytes.{part}
use Rattle.genie_store.specs.StoreView.{StoreView}
use Rattle.genie_object.specs.declared.memory.Memory.{Memory}
use Rattle.genie_object.specs.Memory.{seen}
use Rattle.genie_object.specs.Objects.{object_at}
use Rattle.genie_kernel.specs.Regions.{object_bytes}

-- the n bytes from place off on of entry i's page are appended, where the store tells its bytes
abbrev pub ReadsEntry : Memory → StoreView → ℕ → ℕ → ℕ → ℕ → List ℕ → List ℕ → Type 0
ReadsEntry m v o i off n old new = IfSome v.slots (λ slots. new ≡ old ++ part off n ((seen m slots).entry_bytes o i))

-- so are those of an object's pages
abbrev pub ReadsObject : Memory → StoreView → ℕ → ℕ → ℕ → List ℕ → List ℕ → Type 0
ReadsObject m v o off n old new = IfSome v.slots (λ slots. new ≡ old ++ part off n (object_bytes (seen m slots).entry_bytes o (length (object_at m.objects o))))

-- an entry of this object
abbrev pub is_of_object : ℕ → ℕ → ℕ → Bool
is_of_object o a b = a == o
