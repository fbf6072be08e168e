-- What every kernel has room for, and what calls leave of it that keep the sizes, or loans.
use Rattle.std.proofs.Common.{◌≡◌, ℕ, ◌<◌, ◌≤◌, ◌+◌, suc, true, false, not, List, [], ◌∷◌, refl, sym, arith, ap, length, get_or, ◌∙◌, subst, inl, inr}
use Rattle.std.specs.Prelude.{◌&&◌, ◌==◌, count_by, if◌then◌else◌}
use Rattle.std.proofs.lemmas.Bool.{cases_lt, eq-eqb}
use Rattle.genie_base.specs.Lemmas.Places.{num, any_default}
use Rattle.genie_frame.specs.declared.frame.Owner.{Owner}
use Rattle.genie_frame.specs.declared.frame.Owner.TheVariants.{Free, Page, System, Pool, Nobody}
use Rattle.genie_frame.specs.declared.frame.Counts.{Counts}
use Rattle.genie_frame.specs.FrameTable.{Agree, is_free, is_lent, is_system, owner_at, no_counts}
use Rattle.genie_object.specs.declared.memory.Memory.{Memory}
use Rattle.genie_object.specs.declared.objects.Entry.{Entry}
use Rattle.genie_object.specs.Lemmas.Lookup.{in_range}
use Rattle.genie_object.specs.Objects.{is_absent, object_at}
use Rattle.genie_object.specs.Touching.{system_owner}
use Rattle.genie_plan.specs.Plans.{times, AreApart}
use Rattle.genie_plan.specs.Lemmas.Landings.{times_some}
use Rattle.genie_region.specs.declared.region.Region.{Region}
use Rattle.genie_hiding.specs.Rooms.{is_available, count_both}
use Rattle.genie_model.specs.Regions.{committed}
use Rattle.genie_kernel.specs.Backed.{AreBacked, all_regions}
use Rattle.genie_kernel.specs.View.{outline}
use Rattle.genie_room.specs.Places.{KeepsSizes, is_pageless, PlacesFit, PlacesAreKept, PlacesSuffice, BuffersSuffice}
use Rattle.genie_room.specs.Frames.{AvailableIsKept}
use Rattle.genie_room.specs.Rooms.{RoomIsKept}
use Rattle.genie_room.specs.Bounds.{AreLow}
use Rattle.genie_room.specs.Lemmas.Keeping.{sizes_kept}
use Rattle.genie_room.specs.Lemmas.Totals.{total, total_more, total_plus, total_above, total_sums, sum_places, sum_all, sum_ones, count_split}
use Rattle.genie_room.proofs.Bounds.{counts_low}
use Rattle.genie_room.proofs.Named.{owned_committed}
use Rattle.genie_room.proofs.Pages.{places_owned, pages_owned}

free_pageless : (o : Owner) → num (is_free o) + num (is_system o) ≤ num (is_pageless o)
free_pageless Free = omega arith
free_pageless (Page p) = omega arith
free_pageless (System t) = omega arith
free_pageless (Pool d) = omega arith
free_pageless Nobody = omega arith

-- free frames and those of the system have no page
pageless : (owners : List Owner) → count_by is_free owners + count_by is_system owners ≤ count_by is_pageless owners
pageless owners =
    let n = length owners in
    let each = total_more (λ f. num (is_free (get_or owners f Free)) + num (is_system (get_or owners f Free))) (λ f. num (is_pageless (get_or owners f Free))) n (λ f l. free_pageless (get_or owners f Free)) in
    omega (arith, each, total_plus (λ f. num (is_free (get_or owners f Free))) (λ f. num (is_system (get_or owners f Free))) n, sum_places (λ o. num (is_free o)) Free owners, sum_places (λ o. num (is_system o)) Free owners, sum_places (λ o. num (is_pageless o)) Free owners)

pub places_fit : PlacesFit
places_fit m processes hidden sound fits backed slots most =
    let pages = pages_owned m processes hidden sound fits backed in
    record {
      slots = omega (arith, places_owned m processes hidden sound fits backed, slots, count_split (λ b. b) m.slots);
      pages = omega (arith, pages, slots, most);
      free = omega (arith, pages, slots, most, pageless m.frames.owners);
    }

absent_same : (a b : List Entry) → length a ≡ length b → is_absent a ≡ is_absent b
absent_same [] [] e = refl
absent_same [] (y ∷ b) e = absurd (omega arith)
absent_same (x ∷ a) [] e = absurd (omega arith)
absent_same (x ∷ a) (y ∷ b) e = refl

backed_kept : (old new : Memory) (regions : List Region) → KeepsSizes old new → AreBacked old.objects regions → AreBacked new.objects regions
backed_kept old new regions keeps backed = record {
  each = λ k d l. keeps.entries (get_or regions k d).object.0 ∙ backed.each k d l;
  some = backed.some;
  one = λ o. backed.one o ∙ ap (λ b. if b then 0 else 1) (sym (absent_same (object_at new.objects o) (object_at old.objects o) (keeps.entries o)));
}

pub places_kept : PlacesAreKept
places_kept k m good keeps sound fits =
    let bound : committed (outline k) ≤ k.config.slots = good.orderly.committed in
    let backed = backed_kept k.memory m (all_regions k.spaces.processes k.hidden) keeps good.backed in
    places_fit m k.spaces.processes k.hidden sound fits backed (omega (arith, bound, owned_committed k, good.sized.slots, keeps.slots)) (omega (arith, good.sized.frames, good.sized.slots, good.sized.pages, keeps.number, keeps.slots, keeps.most))

pub places_suffice : PlacesSuffice
places_suffice k good = places_kept k k.memory good (record { entries = λ o. refl; number = refl; slots = refl; most = refl }) good.sound good.cached

-- each of these frames is another one of the system's
system_frames : (owners : List Owner) (frames : List ℕ) → ((k : ℕ) → k < length frames → is_system (get_or owners (get_or frames k 0) Free) ≡ true) → AreApart frames → length frames ≤ count_by is_system owners
system_frames owners frames systems apart =
    let n = length owners in
    let each = sum_all (λ g. 1) (λ g. total (λ f. num (g == f)) n) frames (λ k d l.
    let g = get_or frames k d in
    let one = ap num (eq-eqb g g refl) in
    let system : is_system (get_or owners g Free) ≡ true = ap (λ f. is_system (get_or owners f Free)) (any_default frames k d 0 l) ∙ systems k l in
    let there = in_range owners g Free (λ free. let both : true ≡ false = sym system ∙ ap is_system free in cc) in
    omega (arith, one, total_above (λ f. num (g == f)) n g there)) in
    let once = total_more (λ f. times frames f) (λ f. num (is_system (get_or owners f Free))) n (λ f l. elim (cases_lt 0 (times frames f)) [
      | inl some ↦
          let at = times_some frames f some in
          let system : is_system (get_or owners f Free) ≡ true = subst (λ g. is_system (get_or owners g Free) ≡ true) at.2 (systems at.0 at.1) in
          let one = ap num system in
          omega (arith, one, apart f)
      | inr none ↦ omega (arith, none)
    ]) in
    omega (arith, each, once, sum_ones frames, total_sums (λ f g. num (g == f)) n frames, sum_places (λ o. num (is_system o)) Free owners)

pub buffers_suffice : BuffersSuffice
buffers_suffice m hidden frames has systems apart = omega (arith, has.pages, pageless m.frames.owners, system_frames m.frames.owners frames systems apart)

-- a frame can be had just where it is no system frame and isn't lent
by_parts : (o : Owner) (c : Counts) → Agree o c → is_available o c ≡ (not (is_system o) && not (is_lent c))
by_parts Free c a = refl
by_parts (Page p) c a = refl
by_parts (System t) c a = refl
by_parts (Pool d) c a = refl
by_parts Nobody c a = sym (ap not (a.nobody refl))

system_kept : (o : Owner) → is_system (system_owner o) ≡ is_system o
system_kept Free = refl
system_kept (Page p) = refl
system_kept (System t) = refl
system_kept (Pool d) = refl
system_kept Nobody = refl

available_same : (o p : Owner) (c : Counts) → Agree o c → Agree p c → system_owner o ≡ system_owner p → is_available o c ≡ is_available p c
available_same o p c a b e =
    let same : is_system o ≡ is_system p = sym (system_kept o) ∙ ap is_system e ∙ system_kept p in
    by_parts o c a ∙ ap (λ s. not s && not (is_lent c)) same ∙ sym (by_parts p c b)

both_same : (os ps : List Owner) (cs : List Counts) → length os ≡ length ps → ((f : ℕ) → is_available (get_or os f Free) (get_or cs f no_counts) ≡ is_available (get_or ps f Free) (get_or cs f no_counts)) → count_both is_available os cs ≡ count_both is_available ps cs
both_same [] [] cs l e = refl
both_same [] (p ∷ ps) cs l e = absurd (omega arith)
both_same (o ∷ os) [] cs l e = absurd (omega arith)
both_same (o ∷ os) (p ∷ ps) [] l e = refl
both_same (o ∷ os) (p ∷ ps) (c ∷ cs) l e = let here = ap num (e 0) in omega (arith, here, both_same os ps cs (omega arith) (λ f. e (suc f)))

pub available_kept : AvailableIsKept
available_kept old new before after keeps same =
    let agree : (f : ℕ) → Agree (owner_at new.frames f) (get_or old.frames.counts f no_counts) = λ f. subst (λ cs. Agree (owner_at new.frames f) (get_or cs f no_counts)) same (after.lent f) in
    ap (count_both is_available new.frames.owners) same ∙ both_same new.frames.owners old.frames.owners old.frames.counts keeps.number (λ f. available_same (owner_at new.frames f) (owner_at old.frames f) (get_or old.frames.counts f no_counts) (agree f) (before.lent f) (keeps.systems f))

pub room_kept : RoomIsKept
room_kept k m good sound fits keeps same = record {
  places = places_kept k m good (sizes_kept k.memory m keeps) sound fits;
  frames = available_kept k.memory m good.sound sound keeps same;
  counts = λ f. subst (λ cs. AreLow (get_or cs f no_counts)) (sym same) (counts_low k f good);
}
