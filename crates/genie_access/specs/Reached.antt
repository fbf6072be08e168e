-- What an access reaches.
use Rattle.std.specs.Prelude.{◌≡◌, ℕ, ◌+◌, ◌-◌, ◌*◌, ◌≤◌, List, IfSome, Some}
use Rattle.genie_base.specs.Regions.{reach}
use Rattle.genie_base.specs.declared.numbers.ObjectId.{ObjectId}
use Rattle.genie_store.specs.StoreView.{StoreView}
use Rattle.genie_region.specs.declared.region.Region.{Region}
use Rattle.genie_region.specs.Layouts.{extent}
use Rattle.genie_model.specs.Regions.{reach_of}
use Rattle.genie_model.specs.Space.{bytes_reached}
use Rattle.genie_model.specs.State.{State}
use Rattle.genie_model.specs.Tables.{entry}
use Rattle.genie_kernel.specs.declared.kernel.Kernel.{Kernel}
use Rattle.genie_kernel.specs.Regions.{regions_of}
use Rattle.genie_kernel.specs.Steps.{bytes_over}
use Rattle.genie_kernel.specs.View.{state_of}

-- the n bytes from address a on of process p are those from place off on of this object, the object of a region
pub record LeadsTo (k : Kernel) (p a n : ℕ) (object : ObjectId) (off : ℕ) : Type 0 where
  pub region : Region
  pub found : reach extent k.config.page a n (regions_of (entry k.spaces.processes p)) ≡ Some region
  pub object_is : object ≡ region.object
  pub place : off ≡ a - region.start * k.config.page
  pub some : 1 ≤ n
  pub most : n ≤ k.config.page
  pub inside : off + n ≤ k.config.page * region.pages

-- the bytes that the flat machine reads there
abbrev pub bytes_at : State → ℕ → ℕ → ℕ → List ℕ
bytes_at s p a n = bytes_reached s (reach_of s p a n) a n

-- these are the bytes, where the store tells its own
abbrev pub ReadsAt : Kernel → StoreView → ℕ → ℕ → ℕ → List ℕ → Type 0
ReadsAt k v p a n bytes = IfSome v.slots (λ slots. (rests sents : ℕ → List ℕ) → bytes ≡ bytes_at (state_of k (bytes_over k.memory slots rests sents)) p a n)
