-- What is left once room was made.
use Rattle.std.specs.Prelude.{◌≡◌, ℕ, ◌+◌, ◌≤◌, ◌<◌, Bool, true, false, not, ◌&&◌, ◌||◌, List, [], ◌∷◌, count_by, Some, slice_index_or, if◌then◌else◌}
use Rattle.genie_frame.specs.declared.frame.Owner.{Owner}
use Rattle.genie_frame.specs.declared.frame.Owner.TheVariants.{Page}
use Rattle.genie_frame.specs.declared.frame.Counts.{Counts}
use Rattle.genie_frame.specs.FrameTable.{FrameTable, owner_at, counts_at, is_page, is_free, is_lent}
use Rattle.genie_store.specs.StoreView.{StoreView}
use Rattle.genie_object.specs.declared.memory.Memory.{Memory}
use Rattle.genie_object.specs.declared.pages.PageId.{PageId}
use Rattle.genie_object.specs.Objects.{entry_at, names}
use Rattle.genie_object.specs.Pages.{page_at, is_there}
use Rattle.genie_object.specs.Sound.{IsSound, IsSized, FitsHidden}
use Rattle.genie_object.specs.Costs.{is_untouched, must_copy}
use Rattle.genie_object.specs.Touching.{KeepsLoans, Narrows}
use Rattle.genie_hiding.specs.Hidden.{is_visible, has_hidden, is_among, seen_outside}

-- a page is in the frame, and no device has it
abbrev pub can_leave : Owner → Counts → Bool
can_leave o c = is_page o && not (is_lent c)

-- the frame is free, or can be had: it is no frame of the system and isn't lent
abbrev pub is_available : Owner → Counts → Bool
is_available o c = (is_free o || is_page o) && not (is_lent c)

-- the number of frames that pass a test on owner and counts
abbrev pub count_both : (Owner → Counts → Bool) → List Owner → List Counts → ℕ
count_both q [] cs = 0
count_both q (o ∷ os) [] = 0
count_both q (o ∷ os) (c ∷ cs) = (if q o c then 1 else 0) + count_both q os cs

abbrev pub available : FrameTable → ℕ
available t = count_both is_available t.owners t.counts

-- how many pages outside hidden regions are in frames
abbrev pub visible_pages : Memory → List ℕ → ℕ
visible_pages m hidden = count_by (is_visible m.objects hidden) m.frames.owners

-- no page comes into a frame and no entry to a page, no free frame is taken, and as many as before are free or can be had
pub record Sweeps (old new : Memory) : Type 0 where
  pub pages : (f p : ℕ) → owner_at new.frames f ≡ Page p → owner_at old.frames f ≡ Page p
  pub named : (o i p : ℕ) → names p (entry_at new.objects o i) ≡ true → names p (entry_at old.objects o i) ≡ true
  pub free : count_by is_free old.frames.owners ≤ count_by is_free new.frames.owners
  pub available : available new.frames ≡ available old.frames

-- what a call that makes room leaves: an entry outside hidden regions keeps its page, which keeps its share count, and
-- gains no permission and costs no more
pub record MakesRoom (hidden : List ℕ) (old new : Memory) (v w : StoreView) : Type 0 where
  pub sound : IsSound new
  pub sized : IsSized old v → IsSized new w
  pub fits : FitsHidden new hidden
  pub seen : seen_outside hidden new w ≡ seen_outside hidden old v
  pub keeps : KeepsLoans old new
  pub counts : new.frames.counts ≡ old.frames.counts
  pub landed : new.frames.landed ≡ old.frames.landed
  pub narrows : (o i : ℕ) → is_among o hidden ≡ false → Narrows (entry_at old.objects o i) (entry_at new.objects o i)
  pub shares : (o i : ℕ) (p : PageId) → is_among o hidden ≡ false → (entry_at old.objects o i).page ≡ Some p → (page_at new.pages.pages p.0).shares ≡ (page_at old.pages.pages p.0).shares
  pub reads : (o i : ℕ) → is_among o hidden ≡ false → is_untouched old o i ≡ false → is_untouched new o i ≡ false
  pub writes : (o i : ℕ) → is_among o hidden ≡ false → must_copy old o i ≡ false → must_copy new o i ≡ false
  pub pages : count_by is_there new.pages.pages ≤ count_by is_there old.pages.pages
  pub sweeps : Sweeps old new
  pub slots : visible_pages old hidden ≤ count_by not old.slots → visible_pages new hidden ≤ count_by not new.slots

-- an entry names no page in a frame, unless a device has the frame
abbrev pub IsShed : Memory → ℕ → ℕ → Type 0
IsShed m o i = (f p : ℕ) → owner_at m.frames f ≡ Page p → names p (entry_at m.objects o i) ≡ true → is_lent (counts_at m.frames f) ≡ true

-- so it is with each entry of the first n hidden regions
abbrev pub AreShed : Memory → List ℕ → ℕ → Type 0
AreShed m hidden n = (k i : ℕ) → k < n → IsShed m (slice_index_or hidden k 0) i

-- no hidden page is left but in lent frames
abbrev pub AllShed : Memory → List ℕ → Type 0
AllShed m hidden = (f : ℕ) → has_hidden m.objects hidden (owner_at m.frames f) ≡ true → is_lent (counts_at m.frames f) ≡ true
