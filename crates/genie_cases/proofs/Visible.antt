-- Frames with pages that aren't hidden.
use Rattle.std.proofs.Common.{◌≡◌, ℕ, ◌≤◌, ◌+◌, ◌<◌, Bool, true, false, List, [], ◌∷◌, arith, ap, length, get_or, suc, refl, sym, ◌∙◌}
use Rattle.std.specs.Prelude.{count_by}
use Rattle.std.proofs.lemmas.List.Sums.{sum_by-cons}
use Rattle.genie_base.specs.Lemmas.Places.{num}
use Rattle.genie_frame.specs.declared.frame.Owner.{Owner}
use Rattle.genie_frame.specs.declared.frame.Owner.TheVariants.{Free, Page, System, Pool, Nobody}
use Rattle.genie_frame.specs.declared.frame.Counts.{Counts}
use Rattle.genie_frame.specs.FrameTable.{is_free, is_lent, no_counts, owner_at, counts_at, Agree}
use Rattle.genie_object.specs.declared.memory.Memory.{Memory}
use Rattle.genie_object.specs.Sound.{IsSound}
use Rattle.genie_object.specs.Touching.{system_owner}
use Rattle.genie_hiding.specs.Rooms.{is_available, count_both, available}
use Rattle.genie_cases.specs.Benches.{IsIdle}
use Rattle.genie_object.specs.declared.objects.Entry.{Entry}
use Rattle.genie_hiding.specs.Hidden.{is_visible}

at_most : (b : Bool) → num b + 0 ≤ 1
at_most true = omega arith
at_most false = omega arith

here : (objects : List (List Entry)) (hidden : List ℕ) (o : Owner) → num (is_visible objects hidden o) + num (is_free o) ≤ 1
here objects hidden Free = omega arith
here objects hidden (Page p) = at_most (is_visible objects hidden (Page p))
here objects hidden (System t) = omega arith
here objects hidden (Pool d) = omega arith
here objects hidden Nobody = omega arith

-- a frame that is free has no page
pub visible_taken : (objects : List (List Entry)) (hidden : List ℕ) (owners : List Owner) → count_by (is_visible objects hidden) owners + count_by is_free owners ≤ length owners
visible_taken objects hidden [] = omega arith
visible_taken objects hidden (o ∷ owners) =
    let rest = visible_taken objects hidden owners in
    omega (arith, rest, here objects hidden o, sum_by-cons (λ x. num (is_visible objects hidden x)) o owners, sum_by-cons (λ x. num (is_free x)) o owners)

can_be_had : (o : Owner) (c : Counts) → Agree o c → c ≡ no_counts → system_owner o ≡ Free → is_available o c ≡ true
can_be_had Free c a e s = ap (λ x. is_available Free x) e
can_be_had (Page p) c a e s = ap (λ x. is_available (Page p) x) e
can_be_had (System t) c a e s = absurd (let bad : System t ≡ Free = s in cc)
can_be_had (Pool d) c a e s = absurd (let bad : Pool d ≡ Free = s in cc)
can_be_had Nobody c a e s = absurd (let bad : true ≡ false = sym (a.nobody refl) ∙ ap is_lent e in cc)

all_had : (os : List Owner) (cs : List Counts) → length cs ≡ length os → ((f : ℕ) → f < length os → is_available (get_or os f Free) (get_or cs f no_counts) ≡ true) → count_both is_available os cs ≡ length os
all_had [] cs e h = refl
all_had (o ∷ os) [] e h = absurd (omega (arith, e))
all_had (o ∷ os) (c ∷ cs) e h =
    let rest = all_had os cs (omega (arith, e)) (λ f l. h (suc f) (omega (arith, l))) in
    let here = ap num (h 0 (omega arith)) in
    omega (arith, rest, here)

-- in a memory without loans each frame can be had
pub idle_available : (m : Memory) → IsSound m → IsIdle m → available m.frames ≡ length m.frames.owners
idle_available m s x = all_had m.frames.owners m.frames.counts s.shaped.counted (λ f l. can_be_had (owner_at m.frames f) (counts_at m.frames f) (s.lent f) (x.unlent f) (x.systems f))
