-- The frame of a page has it, and the page is in it.
use Rattle.std.proofs.Common.{◌≡◌, ℕ, ap, ◌∙◌}
use Rattle.std.specs.Prelude.{Some}
use Rattle.genie_frame.specs.declared.frame.Owner.TheVariants.{Page}
use Rattle.genie_frame.specs.FrameTable.{owner_at}
use Rattle.genie_object.specs.declared.pages.PageId.{PageId}
use Rattle.genie_object.specs.declared.memory.Memory.{Memory}
use Rattle.genie_object.specs.Objects.{entry_at}
use Rattle.genie_object.specs.Memory.{entry_frame, frame_of, frame_in}
use Rattle.genie_object.specs.Sound.{IsSound}
use Rattle.genie_plan.specs.Lemmas.Landings.{PageIn}

-- the frame is the page's
pub page_owner : (m : Memory) (o i f : ℕ) (x : PageIn m o i f) → IsSound m → owner_at m.frames f ≡ Page x.number.0
page_owner m o i f x s = s.placed.in_frame x.number.0 (record { 0 = f }) x.is_place

-- a page that has a frame is in it
pub in_own_frame : (m : Memory) (a b f : ℕ) (p : PageId) → IsSound m → (entry_at m.objects a b).page ≡ Some p → owner_at m.frames f ≡ Page p.0 → entry_frame m a b ≡ Some f
in_own_frame m a b f p s e o = ap (frame_of m.pages.pages) e ∙ ap frame_in (s.placed.of_page (record { 0 = f }) p.0 o)
