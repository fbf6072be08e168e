-- A memory of which a case is made.
use Rattle.std.specs.Prelude.{◌≡◌, ℕ, ◌≤◌, length, count_by}
use Rattle.genie_frame.specs.declared.frame.Owner.TheVariants.{Free}
use Rattle.genie_frame.specs.FrameTable.{counts_at, owner_at, no_counts}
use Rattle.genie_store.specs.StoreView.{StoreView}
use Rattle.genie_object.specs.declared.memory.Memory.{Memory}
use Rattle.genie_object.specs.Pages.{is_there}
use Rattle.genie_object.specs.Objects.{object_at}
use Rattle.genie_object.specs.Sound.{IsSound, IsSized}
use Rattle.genie_object.specs.Touching.{system_owner}

-- a sound memory over a sized store, in pages of 16 bytes, with an object of so many entries
pub record IsFit (m : Memory) (v : StoreView) (object entries : ℕ) : Type 0 where
  pub sound : IsSound m
  pub sized : IsSized m v
  pub page : m.frames.page ≡ 16
  pub size : length (object_at m.objects object) ≡ entries

-- the same, with at most so many pages and room for so many
pub record IsWell (m : Memory) (v : StoreView) (object entries pages most : ℕ) : Type 0 where
  pub sound : IsSound m
  pub sized : IsSized m v
  pub page : m.frames.page ≡ 16
  pub size : length (object_at m.objects object) ≡ entries
  pub few : count_by is_there m.pages.pages ≤ pages
  pub room : m.pages.most ≡ most

-- no loan is out, nothing is wired, and no frame is the system's
pub record IsIdle (m : Memory) : Type 0 where
  pub unlent : (f : ℕ) → counts_at m.frames f ≡ no_counts
  pub systems : (f : ℕ) → system_owner (owner_at m.frames f) ≡ Free

-- the objects keep their sizes
abbrev pub KeepsSizes : Memory → Memory → Type 0
KeepsSizes old new = (o : ℕ) → length (object_at new.objects o) ≡ length (object_at old.objects o)

-- at most the entries have changed, and how many share each page
pub record OnlyShares (old new : Memory) : Type 0 where
  pub sound : IsSound new
  pub frames : new.frames ≡ old.frames
  pub slots : new.slots ≡ old.slots
  pub most : new.pages.most ≡ old.pages.most
  pub pages : count_by is_there new.pages.pages ≤ count_by is_there old.pages.pages
  pub sizes : KeepsSizes old new
