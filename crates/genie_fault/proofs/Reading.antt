-- What a page that is read in leaves of the frames.
use Rattle.std.proofs.Common.{◌≡◌, ◌≢◌, ℕ, ◌<◌, true, false, List, length, refl, ap, sym, ◌∙◌, set, get_or, get_or-set_other, subst}
use Rattle.std.specs.Prelude.{None, Some}
use Rattle.genie_frame.specs.declared.frame.Owner.{Owner}
use Rattle.genie_frame.specs.declared.frame.Owner.TheVariants.{Free, Page}
use Rattle.genie_frame.specs.declared.frame.Counts.{Counts}
use Rattle.genie_frame.specs.declared.frame.FrameId.{FrameId}
use Rattle.genie_frame.specs.declared.frame.Meters.{Meters}
use Rattle.genie_frame.specs.FrameTable.{owner_at, bytes_at, is_free}
use Rattle.genie_store.specs.StoreView.{StoreView}
use Rattle.genie_object.specs.declared.pages.PageId.{PageId}
use Rattle.genie_object.specs.declared.pages.PageInfo.{PageInfo}
use Rattle.genie_object.specs.declared.pages.Place.{Place}
use Rattle.genie_object.specs.declared.pages.Place.TheVariants.{Zero, Frame, Slot}
use Rattle.genie_object.specs.declared.memory.Memory.{Memory}
use Rattle.genie_object.specs.Pages.{page_at}
use Rattle.genie_object.specs.Objects.{entry_at, object_at}
use Rattle.genie_object.specs.Memory.{entry_frame, frame_of, frame_in}
use Rattle.genie_object.specs.Sound.{IsSound}
use Rattle.genie_object.specs.Steps.{filled, metered, renamed, left_owners}
use Rattle.genie_object.specs.Lemmas.Renamed.{of_q}
use Rattle.genie_fault.specs.Resolving.{BringsIn, IsBrought, IsParted}
use Rattle.genie_fault.proofs.Resolved.{can_rename}

-- a page that was in a frame is read where it is
pub brings_framed : (m : Memory) (o i f : ℕ) → entry_frame m o i ≡ Some f → BringsIn m m.frames o i f
brings_framed m o i f e = record {
  fresh = λ none. let bad : None ≡ Some f = sym none ∙ e in cc;
  stays = λ g w. let two : Some f ≡ Some g = sym e ∙ w in (cc, refl);
  owners = λ g w. refl;
}

owners_left : (owners : List Owner) (counts : List Counts) (place : Place) → frame_in place ≡ None → left_owners owners counts place ≡ owners
owners_left owners counts Zero e = refl
owners_left owners counts (Slot s) e = refl
owners_left owners counts (Frame f) e = cc

-- a page that was in no frame comes into a free one
brings_filled : (m base : Memory) (o i q : ℕ) (g : FrameId) (b : List ℕ) (t : Meters) → IsSound m → base.frames.owners ≡ m.frames.owners → frame_in (page_at base.pages.pages q).place ≡ None → owner_at m.frames g.0 ≡ Free → entry_frame m o i ≡ None → BringsIn m (metered (filled base q g b) t).frames o i g.0
brings_filled m base o i q g b t s same place free none = record {
  fresh = λ e. (s.lent g.0).free free;
  stays = λ h e. let bad : None ≡ Some h = sym none ∙ e in cc;
  owners = λ h taken.
      let other : h ≢ g.0 = λ e. let bad : true ≡ false = sym (ap is_free (ap (owner_at m.frames) e ∙ free)) ∙ taken in cc in
      ap (λ os. get_or os h Free) (owners_left (set base.frames.owners g.0 (Page q)) base.frames.counts (page_at base.pages.pages q).place place)
      ∙ get_or-set_other base.frames.owners g.0 h (Page q) Free other
      ∙ ap (λ os. get_or os h Free) same;
}

not_framed : (place : Place) → ((f : FrameId) → place ≡ Frame f → true ≡ false) → frame_in place ≡ None
not_framed Zero h = refl
not_framed (Slot s) h = refl
not_framed (Frame f) h = let bad : true ≡ false = h f refl in cc

pub brings_brought : (m new : Memory) (v : StoreView) (o i : ℕ) (p : PageId) (g : FrameId) → IsSound m → (entry_at m.objects o i).page ≡ Some p → ((f : FrameId) → (page_at m.pages.pages p.0).place ≡ Frame f → true ≡ false) → IsBrought m new v p.0 g → BringsIn m new.frames o i g.0
brings_brought m new v o i p g s e none y =
    let place = not_framed (page_at m.pages.pages p.0).place none in
    subst (λ (n : Memory). BringsIn m n.frames o i g.0) (sym y.arrived) (brings_filled m m o i p.0 g (bytes_at new.frames g.0) new.frames.meters s refl place y.was_free (ap (frame_of m.pages.pages) e ∙ place))

pub brings_parted : (m new : Memory) (v : StoreView) (o i : ℕ) (g : FrameId) → i < length (object_at m.objects o) → IsSound m → (entry_at m.objects o i).page ≡ None → ((p : PageId) → (entry_at m.objects o i).page ≡ Some p → 1 < (page_at m.pages.pages p.0).shares) → IsParted m new v o i g → BringsIn m new.frames o i g.0
brings_parted m new v o i g l s none many y =
    let x = can_rename m new v o i g l s many y in
    subst (λ (n : Memory). BringsIn m n.frames o i g.0) (sym y.arrived) (brings_filled m (renamed m o i y.number) o i y.number g (bytes_at new.frames g.0) new.frames.meters s refl (ap (λ (q : PageInfo). frame_in q.place) (of_q m o i y.number x)) y.was_free (ap (frame_of m.pages.pages) none))
