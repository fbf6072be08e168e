-- What each pending transfer names is there, and stays where regions and orphans change.
use Rattle.std.proofs.Common.{◌≡◌, ℕ, ◌+◌, ◌≤◌, true, false, ◌&&◌, ◌==◌, inl, inr, ⊎_elim, List, filter, count_by, get_or, All, refl, sym, ap, subst, ◌∙◌, eqb-true, eq-eqb, ne_eqb, true≢false, le-leb, lt-ltb}
use Rattle.std.specs.Prelude.{Option, Some, None, IsTrue, ⊤, nat_le, nat_lt}
use Rattle.std.specs.Option.{option_map}
use Rattle.std.specs.List.{list_any}
use Rattle.std.proofs.lemmas.Bool.{and_parts, and_from, false_from_ne_true}
use Rattle.genie_base.specs.declared.semantics.Class.{Class}
use Rattle.genie_base.specs.declared.semantics.Class.TheVariants.{Copy, Share, Move, WeakMove}
use Rattle.genie_base.specs.declared.semantics.Direction.{Direction}
use Rattle.genie_base.specs.declared.semantics.Direction.TheVariants.{Outward, Inward}
use Rattle.genie_base.specs.declared.region.RegionState.{RegionState}
use Rattle.genie_base.specs.declared.region.RegionState.TheVariants.{Live, Out, In, Held}
use Rattle.genie_base.specs.Regions.{is_accessible}
use Rattle.genie_model.specs.State.{State, Region, Orphan, Transfer}
use Rattle.genie_model.specs.Regions.{regions_at, is_region, is_orphan, region_numbered, orphan_numbered}
use Rattle.genie_model.specs.Pending.{is_inward, is_just, names, names_weakly, covers}
use Rattle.genie_model.specs.Space.{is_move, is_named, cut, tidy}
use Rattle.genie_orderly.specs.Orderly.{LiesInRegion, LiesInOrphan, Lies, RangesLie, is_held, holds, MayName, moves_into, HeldForOne, NumbersDiffer, IsOrderly}
use Rattle.genie_model.specs.Lemmas.Lists.{Has, all_has, has_at, any_has, has_any, none_from, find_has, find_map, find_filter, any_filter}
use Rattle.genie_orderly.specs.Lemmas.FoundRegions.{all_of, has_region, found_at, no_orphan_at}

-- a move input names the region that its owner holds
abbrev pub Holds : State → Transfer → ℕ → Type 0
Holds s u k = IsTrue (holds s u.owner k) × LiesInRegion u (region_numbered s k)

-- other strong ones and move inputs without an owner name nothing, and weak ones region or orphan
abbrev pub Fine : State → Transfer → Class → Option ℕ → Type 0
Fine s u Copy None = ⊤
Fine s u Share None = ⊥
Fine s u Move None = IsTrue (is_inward u.direction) → u.owner ≡ None
Fine s u WeakMove None = ⊥
Fine s u Copy (Some k) = ⊥
Fine s u Share (Some k) = Lies s u (Some k)
Fine s u Move (Some k) = IsTrue (is_inward u.direction) × Holds s u k
Fine s u WeakMove (Some k) = Lies s u (Some k)

-- what a move input names no other transfer does
abbrev pub One : List Transfer → Type 0
One transfers = (k : ℕ) → IsTrue (list_any (moves_into k) transfers) → count_by (names k) transfers ≤ 1

abbrev pub AreFine : State → List Transfer → Type 0
AreFine s transfers = All (λ (u : Transfer). Fine s u u.class u.region) transfers

pub record Stand (s : State) (transfers : List Transfer) : Type 0 where
  pub each : AreFine s transfers
  pub one : One transfers

abbrev pub KeepsLies : State → State → Type 0
KeepsLies s t = (u : Transfer) (k : ℕ) → Lies s u (Some k) → Lies t u (Some k)

abbrev pub KeepsHeld : State → State → ℕ → Type 0
KeepsHeld s t k = (u : Transfer) → Holds s u k → Holds t u k

pub fine_stays : (s t : State) (u : Transfer) (class : Class) (named : Option ℕ) → KeepsLies s t → ((k : ℕ) → (is_move class && is_just named k) ≡ true → Holds s u k → Holds t u k) → Fine s u class named → Fine t u class named
fine_stays s t u Copy None lies held h = h
fine_stays s t u Share None lies held h = h
fine_stays s t u Move None lies held h = h
fine_stays s t u WeakMove None lies held h = h
fine_stays s t u Copy (Some k) lies held h = h
fine_stays s t u Share (Some k) lies held h = lies u k h
fine_stays s t u Move (Some k) lies held h = (h.0, held k (eq-eqb k k refl) h.1)
fine_stays s t u WeakMove (Some k) lies held h = lies u k h

pub stand_stays : (s t : State) (transfers : List Transfer) → KeepsLies s t → ((k : ℕ) → KeepsHeld s t k) → Stand s transfers → Stand t transfers
stand_stays s t transfers lies held h = record { each = λ i d lt. let u = get_or transfers i d in fine_stays s t u u.class u.region lies (λ k _. held k u) (h.each i d lt); one = h.one }

-- also where region j isn't kept, and no move input names it
pub stand_beside : (s t : State) (transfers : List Transfer) (j : ℕ) → KeepsLies s t → ((k : ℕ) → (k == j) ≡ false → KeepsHeld s t k) → list_any (moves_into j) transfers ≡ false → Stand s transfers → Stand t transfers
stand_beside s t transfers j lies held none h = record {
  each = λ i d lt.
      let u = get_or transfers i d in
      fine_stays s t u u.class u.region lies (λ k moves. held k (ne_eqb k j (λ same. true≢false (sym (has_any (moves_into j) u transfers (has_at transfers i d lt) (subst (λ n. moves_into n u ≡ true) same moves)) ∙ none))) u) (h.each i d lt);
  one = h.one;
}

may_name : (s : State) (u : Transfer) (class : Class) (direction : Direction) (named : Option ℕ) → u.direction ≡ direction → Fine s u class named → MayName s class direction u.owner named
may_name s u Copy direction None e h = refl
may_name s u Copy direction (Some k) e h = absurd h
may_name s u Share direction None e h = absurd h
may_name s u Share direction (Some k) e h = refl
may_name s u Move Outward None e h = refl
may_name s u Move Outward (Some k) e h = absurd (true≢false (sym (rw e at h.0)))
may_name s u Move Inward None e h = h (rw e refl)
may_name s u Move Inward (Some k) e h = h.1.0
may_name s u WeakMove direction None e h = absurd h
may_name s u WeakMove direction (Some k) e h = refl

pub held_region : (s : State) (o : Option ℕ) (k : ℕ) → IsTrue (holds s o k) → (r : Region) × Has r (all_of s.processes) × (r.number ≡ k) × (is_held r.state ≡ true)
held_region s None k h = absurd (cc)
held_region s (Some p) k h =
    let some = any_has (λ (r : Region). is_region k r && is_held r.state) (regions_at s p) h in
    let both = and_parts (is_region k some.0) (is_held some.0.state) some.2 in
    (some.0, has_region s p some.0 some.1, eqb-true some.0.number k both.0, both.1)

no_orphan_held : (s : State) → NumbersDiffer s → (o : Option ℕ) (k : ℕ) → IsTrue (holds s o k) → orphan_numbered s k ≡ None
no_orphan_held s differs o k h = let held = held_region s o k h in no_orphan_at s differs held.0 held.1 k held.2

fine_from : (s : State) → NumbersDiffer s → (u : Transfer) (class : Class) (direction : Direction) (named : Option ℕ) → u.direction ≡ direction → MayName s class direction u.owner named → Lies s u named → Fine s u class named
fine_from s differs u Copy direction None e may lies = tt
fine_from s differs u Copy direction (Some k) e may lies = absurd (cc)
fine_from s differs u Share direction None e may lies = absurd (true≢false (sym may))
fine_from s differs u Share direction (Some k) e may lies = lies
fine_from s differs u Move Outward None e may lies = λ inward. absurd (true≢false (sym (rw e at inward)))
fine_from s differs u Move Outward (Some k) e may lies = absurd (cc)
fine_from s differs u Move Inward None e may lies = λ inward. may
fine_from s differs u Move Inward (Some k) e may lies = (rw e refl, (may, ⊎_elim (λ r. r) (λ o. absurd (rw (no_orphan_held s differs u.owner k may) at o)) lies))
fine_from s differs u WeakMove direction None e may lies = absurd (true≢false (sym may))
fine_from s differs u WeakMove direction (Some k) e may lies = lies

pub orderly_stand : (s : State) → IsOrderly s → Stand s s.transfers
orderly_stand s o = record { each = λ i d lt. let u = get_or s.transfers i d in fine_from s o.numbers u u.class u.direction u.region refl (o.holds.held i d lt) (o.ranges i d lt); one = o.holds.one }

moved_named : (s : State) (u : Transfer) (class : Class) (named : Option ℕ) (k : ℕ) → Fine s u class named → (is_move class && is_just named k) ≡ true → Holds s u k
moved_named s u class None k h moves = absurd (true≢false (sym (and_parts (is_move class) false moves).1))
moved_named s u Copy (Some n) k h moves = absurd (cc)
moved_named s u Share (Some n) k h moves = absurd (cc)
moved_named s u Move (Some n) k h moves = subst (λ j. Holds s u j) (eqb-true n k moves) h.1
moved_named s u WeakMove (Some n) k h moves = absurd (cc)

held_not_accessible : (state : RegionState) → is_held state ≡ true → is_accessible state ≡ true → ⊥
held_not_accessible Live h a = true≢false (sym h)
held_not_accessible Out h a = true≢false (sym h)
held_not_accessible In h a = true≢false (sym h)
held_not_accessible Held h a = true≢false (sym a)

-- no move input names a region that may be accessed
pub accessible_free : (s : State) (transfers : List Transfer) → NumbersDiffer s → AreFine s transfers → (r : Region) → Has r (all_of s.processes) → is_accessible r.state ≡ true → list_any (moves_into r.number) transfers ≡ false
accessible_free s transfers differs fine r there accessible =
    none_from (moves_into r.number) transfers (λ u has. false_from_ne_true (moves_into r.number u) (λ moves.
    let h = moved_named s u u.class u.region r.number (all_has (λ (u : Transfer). Fine s u u.class u.region) transfers fine u has) moves in
    let held = held_region s u.owner r.number h.0 in
    let mine = found_at s differs r there r.number refl in
    let its = found_at s differs held.0 held.1 r.number held.2 in
    let same : held.0 ≡ r = cc in
    held_not_accessible r.state (subst (λ (x : Region). is_held x.state ≡ true) same held.3) accessible))

-- the end of an event keeps the places that are covered
cut_lies : (transfers : List Transfer) (u : Transfer) (k : ℕ) (o : Option Orphan) → Has u transfers → names_weakly k u ≡ true → ((x : Orphan) → o ≡ Some x → x.number ≡ k) → LiesInOrphan u o → LiesInOrphan u (option_map (cut transfers) o)
cut_lies transfers u k None has weak number h = h
cut_lies transfers u k (Some o) has weak number h = λ x low high.
    let covered : covers k x u ≡ true = rw weak (and_from (nat_le u.offset x) (nat_lt x (u.offset + u.len)) (le-leb u.offset x low) (lt-ltb x (u.offset + u.len) high)) in
    let there : list_any (covers o.number x) transfers ≡ true = rw (number o refl) (has_any (covers k x) u transfers has covered) in
    any_filter (λ (e : ℕ × ℕ). e.0 == x) (λ (e : ℕ × ℕ). list_any (covers o.number e.0) transfers) (λ e t. subst (λ y. list_any (covers o.number y) transfers ≡ true) (sym (eqb-true e.0 x t)) there) o.bytes (h x low high)

pub tidy_orphan : (s : State) (k : ℕ) → list_any (names_weakly k) s.transfers ≡ true → orphan_numbered (tidy s) k ≡ option_map (cut s.transfers) (orphan_numbered s k)
tidy_orphan s k e = find_map (is_orphan k) (cut s.transfers) (λ o. refl) (filter (is_named s.transfers) s.orphans)
    ∙ ap (option_map (cut s.transfers)) (find_filter (is_orphan k) (is_named s.transfers) (λ o t. subst (λ n. list_any (names_weakly n) s.transfers ≡ true) (sym (eqb-true o.number k t)) e) s.orphans)

tidy_lies : (s : State) (u : Transfer) (k : ℕ) → Has u s.transfers → names_weakly k u ≡ true → Lies s u (Some k) → Lies (tidy s) u (Some k)
tidy_lies s u k has weak h = ⊎_elim inl (λ o. inr (rw (tidy_orphan s k (has_any (names_weakly k) u s.transfers has weak))
    (cut_lies s.transfers u k (orphan_numbered s k) has weak (λ x e. eqb-true x.number k (find_has (is_orphan k) s.orphans x e).1) o))) h

tidy_fine : (s : State) (u : Transfer) (class : Class) (named : Option ℕ) → u.class ≡ class → u.region ≡ named → Has u s.transfers → Fine s u class named → Lies (tidy s) u named
tidy_fine s u class None c r has h = tt
tidy_fine s u Copy (Some k) c r has h = absurd h
tidy_fine s u Share (Some k) c r has h = tidy_lies s u k has (rw (c, r) (eq-eqb k k refl)) h
tidy_fine s u Move (Some k) c r has h = inl h.1.1
tidy_fine s u WeakMove (Some k) c r has h = tidy_lies s u k has (rw (c, r) (eq-eqb k k refl)) h

pub tidied_ranges : (s : State) → Stand s s.transfers → RangesLie (tidy s)
tidied_ranges s h = λ i d lt. let u = get_or s.transfers i d in tidy_fine s u u.class u.region refl refl (has_at s.transfers i d lt) (h.each i d lt)

pub tidied_holds : (s : State) → Stand s s.transfers → HeldForOne (tidy s)
tidied_holds s h = record { held = λ i d lt. let u = get_or s.transfers i d in may_name s u u.class u.direction u.region refl (h.each i d lt); one = h.one }
