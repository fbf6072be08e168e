-- Which pages stay with a region that is hidden.
use Rattle.std.specs.Prelude.{◌≡◌, ℕ, false, Some}
use Rattle.genie_frame.specs.declared.frame.FrameId.{FrameId}
use Rattle.genie_frame.specs.FrameTable.{counts_at, is_held}
use Rattle.genie_object.specs.declared.pages.Place.TheVariants.{Frame}
use Rattle.genie_object.specs.declared.pages.PageId.{PageId}
use Rattle.genie_object.specs.declared.memory.Memory.{Memory}
use Rattle.genie_object.specs.Pages.{page_at}
use Rattle.genie_object.specs.Objects.{entry_at}

-- a page that may stay hidden: its entry's own, in a frame that no device holds
pub record MayStay (m : Memory) (p : ℕ) : Type 0 where
  pub alone : (page_at m.pages.pages p).shares ≡ 1
  pub frame : FrameId
  pub is_place : (page_at m.pages.pages p).place ≡ Frame frame
  pub unheld : is_held (counts_at m.frames frame.0) ≡ false

-- each page that the entry names may stay hidden
abbrev pub IsTrimmed : Memory → ℕ → ℕ → Type 0
IsTrimmed m o i = (p : PageId) → (entry_at m.objects o i).page ≡ Some p → MayStay m p.0

-- an entry whose page may stay hidden keeps it, and the page its place
pub record Stays (old new : Memory) (o i : ℕ) (p : PageId) : Type 0 where
  pub is_page : (entry_at new.objects o i).page ≡ Some p
  pub same : page_at new.pages.pages p.0 ≡ page_at old.pages.pages p.0
  pub may : MayStay new p.0

abbrev pub AllStay : Memory → Memory → ℕ → Type 0
AllStay old new o = (i : ℕ) (p : PageId) → (entry_at old.objects o i).page ≡ Some p → MayStay old p.0 → Stays old new o i p
