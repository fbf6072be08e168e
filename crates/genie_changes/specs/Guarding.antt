-- Write permission that is taken from the entries of an object.
use Rattle.std.specs.Prelude.{◌≡◌, ℕ, ◌<◌, Bool, false, List, length}
use Rattle.genie_object.specs.declared.memory.Memory.{Memory}
use Rattle.genie_object.specs.declared.objects.Entry.{Entry}
use Rattle.genie_object.specs.Objects.{object_at, entry_at}
use Rattle.genie_object.specs.Sound.{times_named}
use Rattle.genie_object.specs.Touching.{Narrows}

-- each entry names the page that it named and permits nothing new, and no object gets another size
pub record NarrowsAll (old new : List (List Entry)) : Type 0 where
  pub narrows : (o i : ℕ) → Narrows (entry_at old o i) (entry_at new o i)
  pub sizes : (o : ℕ) → length (object_at new o) ≡ length (object_at old o)
  pub named : (p : ℕ) → times_named new p ≡ times_named old p

-- and the first n entries of object o permit no writing
pub record Forbids (o n : ℕ) (old new : List (List Entry)) : Type 0 where
  pub all : NarrowsAll old new
  pub first : (i : ℕ) → i < n → (entry_at new o i).writable ≡ false

-- and where the object isn't to be written no entry of it permits writing
pub record Guards (o : ℕ) (writable : Bool) (old new : List (List Entry)) : Type 0 where
  pub all : NarrowsAll old new
  pub shut : writable ≡ false → (i : ℕ) → (entry_at new o i).writable ≡ false

-- the memory with other objects
abbrev pub with_entries : Memory → List (List Entry) → Memory
with_entries m os = record m { objects = os }
