-- The pages of a range are brought in, and made the object's own.
use Rattle.std.specs.Prelude.{ℕ, ◌+◌, ◌*◌, ◌<◌}
use Rattle.genie_store.specs.StoreView.{StoreView}
use Rattle.genie_object.specs.declared.memory.Memory.{Memory}
use Rattle.genie_object.specs.Calls.{OnlyMoves, TakesAtMost}
use Rattle.genie_object.specs.Objects.{entry_at}
use Rattle.genie_object.specs.Sound.{IsPrivate}
use Rattle.genie_object.specs.Touching.{is_in_range}
use Rattle.genie_object.specs.Costs.{writes_work}
use Rattle.genie_kernel.specs.Rising.{MetersRise}
use Rattle.genie_copying.specs.Spending.{CopiesAtMost}

-- n entries of object o from entry i on were made writable, or some of them before the store failed: no more is copied than
-- those of their pages that couldn't be written in place
pub record MakesOwn (old new : Memory) (before now : StoreView) (o i n : ℕ) : Type 0 where
  pub moves : OnlyMoves (is_in_range o i n) old new before now
  pub takes : TakesAtMost n n old new
  pub rises : MetersRise (8192 * n) old.frames new.frames
  pub copies : CopiesAtMost (writes_work old o i n) old new

-- each of them has a page of its own
abbrev pub ArePrivate : Memory → ℕ → ℕ → ℕ → Type 0
ArePrivate m o i n = (j : ℕ) → j < n → IsPrivate m.frames.counts m.pages.pages (entry_at m.objects o (i + j)).page
