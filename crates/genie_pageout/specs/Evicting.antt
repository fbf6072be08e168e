-- What is left once a page has gone to the store.
use Rattle.std.specs.Prelude.{◌≡◌, ℕ, ◌+◌, ◌<◌, false, not, length, count_by, Result, OnErr, slice_set}
use Rattle.std.specs.Option.{option_map}
use Rattle.genie_base.specs.Causes.{HasCause}
use Rattle.genie_frame.specs.FrameTable.{counts_at, bytes_at}
use Rattle.genie_frame.specs.Frames.{unowned}
use Rattle.genie_store.specs.StoreView.{StoreView, set_slot}
use Rattle.genie_store.specs.Slots.{slot_at}
use Rattle.genie_object.specs.declared.memory.Memory.{Memory}
use Rattle.genie_object.specs.declared.pages.Place.TheVariants.{Slot}
use Rattle.genie_object.specs.Memory.{seen_with}
use Rattle.genie_object.specs.Sound.{IsSound}
use Rattle.genie_object.specs.Steps.{metered, relocated, closed}
use Rattle.genie_object.specs.Costs.{CostsNoMore}
use Rattle.genie_object.specs.Touching.{KeepsLoans, Touches, Narrows}
use Rattle.genie_object.specs.Objects.{entry_at, names}
use Rattle.genie_object.specs.Pages.{page_at, is_there}

-- page p went to slot s, which was free
pub record IsPut (old new : Memory) (v w : StoreView) (p f s : ℕ) : Type 0 where
  pub there : s < length old.slots
  pub untaken : slot_at old.slots s ≡ false
  pub gone : new ≡ metered (relocated (closed old p) p (Slot s)) new.frames.meters
  pub stored : w.slots ≡ option_map (λ slots. set_slot slots s (bytes_at old.frames f)) v.slots

-- what a put does to the store: all its slots but one are as before
pub record StoreKept {T E : Type 0} (old new : StoreView) (result : Result T E) : Type 0 where
  pub count : new.count ≡ old.count
  pub page : new.page ≡ old.page
  pub left : OnErr result (new.slots ≡ old.slots)
  pub cause : HasCause old.faults new.faults result

-- what is left once the page in a frame has gone to a slot
pub record IsGone (old new : Memory) (v w : StoreView) (p f : ℕ) : Type 0 where
  pub sound : IsSound new
  pub seen : seen_with new w ≡ seen_with old v
  pub keeps : KeepsLoans old new
  pub touches : Touches (λ o i. names p (entry_at old.objects o i)) old new
  pub narrows : (o i : ℕ) → Narrows (entry_at old.objects o i) (entry_at new.objects o i)
  pub shares : (q : ℕ) → (page_at new.pages.pages q).shares ≡ (page_at old.pages.pages q).shares
  pub counts : new.frames.counts ≡ old.frames.counts
  pub owners : new.frames.owners ≡ slice_set old.frames.owners f (unowned (counts_at old.frames f))
  pub slots : count_by not new.slots + 1 ≡ count_by not old.slots
  pub landed : new.frames.landed ≡ old.frames.landed
  pub costs : CostsNoMore old new
  pub pages : count_by is_there new.pages.pages ≡ count_by is_there old.pages.pages
