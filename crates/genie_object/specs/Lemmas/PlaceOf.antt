-- Where the page of an entry is.
use Rattle.std.proofs.Common.{◌≡◌, ℕ, Bool, true, refl, ap, sym, ◌∙◌}
use Rattle.std.specs.Prelude.{List, Option, Some, None}
use Rattle.genie_object.specs.declared.pages.Place.{Place}
use Rattle.genie_object.specs.declared.pages.Place.TheVariants.{Zero}
use Rattle.genie_object.specs.declared.pages.PageInfo.{PageInfo}
use Rattle.genie_object.specs.declared.pages.PageId.{PageId}
use Rattle.genie_object.specs.declared.objects.Entry.{Entry}
use Rattle.genie_object.specs.declared.memory.Memory.{Memory}
use Rattle.genie_object.specs.Pages.{page_at}
use Rattle.genie_object.specs.Objects.{entry_at}
use Rattle.genie_object.specs.Memory.{entry_frame, frame_of, frame_in}
use Rattle.genie_object.specs.Costs.{place_of, is_zero, is_untouched}

-- the place of a page, or of none
abbrev pub place_in : List PageInfo → Option PageId → Place
place_in pages page = elim page [ None ↦ Zero | Some p ↦ (page_at pages p.0).place ]

frame_placed : (pages : List PageInfo) (page : Option PageId) → frame_of pages page ≡ frame_in (place_in pages page)
frame_placed pages None = refl
frame_placed pages (Some p) = refl

-- an entry whose page is where it was is on the frame on which it was
pub framed_place : (new old : Memory) (a b : ℕ) → place_of new a b ≡ place_of old a b → entry_frame new a b ≡ entry_frame old a b
framed_place new old a b e = frame_placed new.pages.pages (entry_at new.objects a b).page ∙ ap frame_in e ∙ sym (frame_placed old.pages.pages (entry_at old.objects a b).page)

untouched_placed : (pages : List PageInfo) (page : Option PageId) → elim page as (λ _. Bool) [ None ↦ true | Some p ↦ is_zero (page_at pages p.0).place ] ≡ is_zero (place_in pages page)
untouched_placed pages None = refl
untouched_placed pages (Some p) = refl

pub untouched_place : (new old : Memory) (a b : ℕ) → place_of new a b ≡ place_of old a b → is_untouched new a b ≡ is_untouched old a b
untouched_place new old a b e = untouched_placed new.pages.pages (entry_at new.objects a b).page ∙ ap is_zero e ∙ sym (untouched_placed old.pages.pages (entry_at old.objects a b).page)

-- an entry that names what it named, where each page that it may name is where it was
pub same_place : (new old : Memory) (a b : ℕ) → entry_at new.objects a b ≡ entry_at old.objects a b → ((q : PageId) → (entry_at old.objects a b).page ≡ Some q → (page_at new.pages.pages q.0).place ≡ (page_at old.pages.pages q.0).place) → place_of new a b ≡ place_of old a b
same_place new old a b e h = ap (λ (t : Entry). place_in new.pages.pages t.page) e ∙ by_page (entry_at old.objects a b).page h where
  by_page : (page : Option PageId) → ((q : PageId) → page ≡ Some q → (page_at new.pages.pages q.0).place ≡ (page_at old.pages.pages q.0).place) → place_in new.pages.pages page ≡ place_in old.pages.pages page
  by_page None h = refl
  by_page (Some q) h = h q refl
