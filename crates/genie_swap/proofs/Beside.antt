-- A swap leaves the others as they were.
use Rattle.std.proofs.Common.{◌≡◌, ℕ, Bool, true, false, List, [], get_or, refl, ap, sym, ◌∙◌, subst, arith, rules, length-set}
use Rattle.std.specs.Prelude.{◌==◌, ◌&&◌, if◌then◌else◌}
use Rattle.std.proofs.lemmas.List.{get_or-set_other}
use Rattle.genie_base.specs.Lemmas.Places.{num, count_by-set}
use Rattle.genie_frame.specs.declared.frame.Owner.TheVariants.{Free, Page}
use Rattle.genie_frame.specs.FrameTable.{FrameTable, bytes_at}
use Rattle.genie_object.specs.declared.memory.Memory.{Memory}
use Rattle.genie_object.specs.declared.pages.PageId.{PageId}
use Rattle.genie_object.specs.declared.pages.PageInfo.{PageInfo}
use Rattle.genie_object.specs.declared.pages.Place.TheVariants.{Frame}
use Rattle.genie_object.specs.Pages.{page_at, no_page, one_page, is_there}
use Rattle.genie_object.specs.Objects.{entry_at}
use Rattle.genie_object.specs.Memory.{Seen, seen, see_entry, see_kept, zeros, entry_frame}
use Rattle.genie_object.specs.Leaving.{IsUnheld, Empties}
use Rattle.genie_object.specs.Costs.{place_of}
use Rattle.genie_object.specs.Touching.{is_entry, system_owner}
use Rattle.genie_object.specs.Lemmas.Touching.{touches_on, lasts_on}
use Rattle.genie_object.specs.Lemmas.Entries.{entries_size}
use Rattle.genie_object.specs.Lemmas.Naming.{entry_else}
use Rattle.genie_object.specs.Lemmas.PlaceOf.{framed_place, same_place}
use Rattle.genie_swap.specs.Entries.{filled, CanFill, own_entry, SwapsOne}
use Rattle.genie_swap.specs.Beside.{LeavesOthers}
use Rattle.genie_swap.proofs.Filling.{filled_touches, filled_lasts, named_other, page_else}

pub fill_beside : (m new : Memory) (o i f : ℕ) (p : PageId) → CanFill m o i f p → new ≡ filled m o i f p → LeavesOthers o i m new
fill_beside m new o i f p can e = subst (LeavesOthers o i m) (sym e) (record { touches = filled_touches m o i f p can; lent = filled_lasts m o i f p can })

pub swap_beside : (m n new : Memory) (o i : ℕ) → Empties (is_entry o i) m n → LeavesOthers o i n new → LeavesOthers o i m new
swap_beside m n new o i x y = record {
  touches = touches_on (is_entry o i) m n new x.touches y.touches;
  lent = λ g l. let u = x.lent g l in lasts_on m.frames n.frames new.frames g u (y.lent g u.lent);
}

not_entry : (a b o i : ℕ) → ((a ≡ o) × (b ≡ i) → ⊥) → is_entry o i a b ≡ false
not_entry a b o i other = elim ((a == o) && (b == i)) as (λ v. ((a == o) && (b == i)) ≡ v → is_entry o i a b ≡ false) [
  | true ↦ λ e. let same : (a ≡ o) × (b ≡ i) = grind (arith, rules) in absurd (other same)
  | false ↦ λ e. e
] refl

pub swaps_one : (m n new : Memory) (o i f : ℕ) (p : PageId) → IsUnheld m o i → Empties (is_entry o i) m n → CanFill n o i f p → new ≡ filled n o i f p → SwapsOne o i f m new
swaps_one m n new o i f p free x can e = subst (SwapsOne o i f m) (sym e) (record {
  entries = λ a b h. else_here a b h ∙ x.others a b (not_entry a b o i h);
  places = places;
  held = λ a b g at h. framed_place (filled n o i f p) m a b (places a b (λ w. let bad : true ≡ false = sym h ∙ free g ((λ k. entry_frame m (sym w.0 k) (sym w.1 k)) ∙ at) in cc)) ∙ at;
  systems = λ g h. ap system_owner (get_or-set_other n.frames.owners f g (Page p.0) Free h) ∙ x.systems g;
  pages =
      let sums = count_by-set is_there n.pages.pages p.0 (one_page (Frame (record { 0 = f }))) no_page can.spare in
      let none : num (is_there (page_at n.pages.pages p.0)) ≡ 0 = ap (λ q. num (is_there q)) can.none in
      omega (arith, sums, none, x.fewer);
  most = x.most;
  sizes = λ a. entries_size n.objects o i (own_entry p) can.there a ∙ x.sizes a;
  number = length-set n.frames.owners f (Page p.0) ∙ x.number;
  slots = x.slots;
})
  where
    else_here : (a b : ℕ) → ((a ≡ o) × (b ≡ i) → ⊥) → entry_at (filled n o i f p).objects a b ≡ entry_at n.objects a b
    else_here a b h = entry_else n.objects o i a b (own_entry p) can.there h

    places : (a b : ℕ) → ((a ≡ o) × (b ≡ i) → ⊥) → place_of (filled n o i f p) a b ≡ place_of m a b
    places a b h = same_place (filled n o i f p) n a b (else_here a b h) (λ q w. ap (λ (r : PageInfo). r.place) (page_else n o i f p can q.0 (named_other n o i f p can a b q w))) ∙ x.places a b (not_entry a b o i h)

-- what is seen of an entry last counts
see_again : (t : Seen) (o i : ℕ) (a b : List ℕ) → see_entry (see_entry t o i a) o i b ≡ see_entry t o i b
see_again t o i a b = λ k. record { entry_bytes = λ c d. chosen ((c == o) && (d == i)) (t.entry_bytes c d) k; kept_bytes = t.kept_bytes }
  where
    chosen : (v : Bool) (old : List ℕ) → (if v then b else (if v then a else old)) ≡ (if v then b else old)
    chosen true old = refl
    chosen false old = refl

pub swap_shows : (m n new : Memory) (o i f : ℕ) (slots : ℕ → List ℕ) → Empties (is_entry o i) m n → seen n slots ≡ see_entry (seen m slots) o i (zeros m.frames) → seen new slots ≡ see_kept (see_entry (seen n slots) o i (bytes_at n.frames f)) f [] → seen new slots ≡ see_kept (see_entry (seen m slots) o i (bytes_at m.frames f)) f []
swap_shows m n new o i f slots x shown e =
    let same : bytes_at n.frames f ≡ bytes_at m.frames f = ap (λ (t : FrameTable). get_or t.bytes f []) x.frames in
    e ∙ (λ k. see_kept (see_entry (shown k) o i (same k)) f []) ∙ ap (λ t. see_kept t f []) (see_again (seen m slots) o i (zeros m.frames) (bytes_at m.frames f))
