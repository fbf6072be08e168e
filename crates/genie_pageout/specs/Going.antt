-- Which pages may go to the store.
use Rattle.std.specs.Prelude.{◌≡◌, ℕ, ◌≤◌, ◌<◌, Bool, false, not, ◌&&◌, List, length}
use Rattle.genie_frame.specs.declared.frame.Owner.{Owner}
use Rattle.genie_frame.specs.declared.frame.Counts.{Counts}
use Rattle.genie_frame.specs.FrameTable.{owner_at, counts_at, is_held}
use Rattle.genie_object.specs.declared.memory.Memory.{Memory}
use Rattle.genie_object.specs.declared.objects.Entry.{Entry}
use Rattle.genie_hiding.specs.Hidden.{is_visible, has_hidden}
use Rattle.genie_hiding.specs.Marking.{is_marked}
use Rattle.genie_hiding.specs.Rooms.{can_leave, count_both}

-- the page in the frame isn't a hidden region's, and no device holds it
abbrev pub may_go : List (List Entry) → List ℕ → Owner → Counts → Bool
may_go objects hidden o c = is_visible objects hidden o && not (is_held c)

-- how many pages may go to the store
abbrev pub allowed : Memory → List ℕ → ℕ
allowed m hidden = count_both (may_go m.objects hidden) m.frames.owners m.frames.counts

abbrev pub may_go_from : Memory → List ℕ → ℕ → Bool
may_go_from m hidden f = may_go m.objects hidden (owner_at m.frames f) (counts_at m.frames f)

-- no frame of the range has a page that could leave it and free the frame
pub record AreSwept (m : Memory) (from to : ℕ) : Type 0 where
  pub each : (f : ℕ) → from ≤ f → f < to → can_leave (owner_at m.frames f) (counts_at m.frames f) ≡ false

-- no frame of the range has a page that may go to the store
pub record AreGone (m : Memory) (hidden : List ℕ) (from to : ℕ) : Type 0 where
  pub each : (f : ℕ) → from ≤ f → f < to → may_go_from m hidden f ≡ false

-- each frame with a hidden page is marked, and no other
pub record AreMarks (m : Memory) (hidden : List ℕ) (marks : List Bool) : Type 0 where
  pub each : (f : ℕ) → is_marked marks f ≡ has_hidden m.objects hidden (owner_at m.frames f)
  pub room : length m.frames.owners ≤ length marks

-- no frame comes to have a page that may go to the store
abbrev pub StayGone : List ℕ → Memory → Memory → Type 0
StayGone hidden old new = (f : ℕ) → may_go_from old hidden f ≡ false → may_go_from new hidden f ≡ false
