-- What tests step through: a sound memory over a store, and an object of three pages in it.
use Rattle.std.specs.Prelude.{◌≡◌, ℕ, ◌+◌, ◌≤◌, length, count_by}
use Rattle.genie_store.specs.StoreView.{StoreView}
use Rattle.genie_object.specs.declared.memory.Memory.{Memory}
use Rattle.genie_object.specs.Pages.{is_there}
use Rattle.genie_object.specs.Objects.{object_at}
use Rattle.genie_object.specs.Sound.{IsSound, IsSized}

-- so many pages may still be added
pub record IsBench (o left : ℕ) (m : Memory) (v : StoreView) : Type 0 where
  pub sound : IsSound m
  pub sized : IsSized m v
  pub entries : length (object_at m.objects o) ≡ 3
  pub page : m.frames.page ≡ 16
  pub room : count_by is_there m.pages.pages + left ≤ m.pages.most
