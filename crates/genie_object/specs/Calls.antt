-- What calls of a memory leave that change nothing of what is seen.
use Rattle.std.specs.Prelude.{◌≡◌, ℕ, ◌+◌, ◌≤◌, Bool, count_by}
use Rattle.genie_frame.specs.FrameTable.{is_free}
use Rattle.genie_store.specs.StoreView.{StoreView}
use Rattle.genie_object.specs.declared.memory.Memory.{Memory}
use Rattle.genie_object.specs.Pages.{is_there}
use Rattle.genie_object.specs.Memory.{seen_with}
use Rattle.genie_object.specs.Sound.{IsSound, IsSized}
use Rattle.genie_object.specs.Touching.{KeepsLoans, Touches}
use Rattle.genie_object.specs.Costs.{CostsNoMore}

-- a call that speaks of these entries only moved pages: the memory is sound, shows what it showed, has the loans that it
-- had, and no entry costs more than before
pub record OnlyMoves (spoken : ℕ → ℕ → Bool) (old new : Memory) (v w : StoreView) : Type 0 where
  pub sound : IsSound new
  pub sized : IsSized new w
  pub seen : seen_with new w ≡ seen_with old v
  pub keeps : KeepsLoans old new
  pub touches : Touches spoken old new
  pub counts : new.frames.counts ≡ old.frames.counts
  pub landed : new.frames.landed ≡ old.frames.landed
  pub costs : CostsNoMore old new

-- at most so many frames fewer are free, and at most so many pages were added
pub record TakesAtMost (frames pages : ℕ) (old new : Memory) : Type 0 where
  pub free : count_by is_free old.frames.owners ≤ count_by is_free new.frames.owners + frames
  pub added : count_by is_there new.pages.pages ≤ count_by is_there old.pages.pages + pages
