-- What an event stores in a place that a pending weak transfer covers.
use Rattle.std.proofs.Common.{◌≡◌, ℕ, true, false, ◌⊎◌, inl, inr, ⊎_elim, List, length, refl, sym, ap, subst, ◌∙◌, eqb-true, arith}
use Rattle.std.specs.Prelude.{Option, Some, None, ◌==◌}
use Rattle.std.specs.Option.{option_map}
use Rattle.std.specs.List.{list_any}
use Rattle.std.proofs.lemmas.Bool.{cond_both, and_parts}
use Rattle.genie_base.specs.Bytes.{part}
use Rattle.genie_base.specs.declared.event.Event.{Event}
use Rattle.genie_base.specs.declared.event.Event.TheVariants.{Write, Recv, Finish}
use Rattle.genie_base.specs.declared.region.RegionState.TheVariants.{Live}
use Rattle.genie_base.specs.declared.reply.Mark.{Mark}
use Rattle.genie_base.specs.declared.semantics.Class.{Class}
use Rattle.genie_base.specs.declared.semantics.Class.TheVariants.{Copy, Share, Move, WeakMove}
use Rattle.genie_base.specs.declared.semantics.Direction.{Direction}
use Rattle.genie_base.specs.declared.semantics.Direction.TheVariants.{Outward, Inward}
use Rattle.genie_model.specs.Ending.{without_transfer, region_of, filled, after_landing, finish_copy, finish_share, finish_move, finish_weak_move, finish_input, finish_owned, finish_for, finish_found}
use Rattle.genie_model.specs.Inputs.{address_or_zero}
use Rattle.genie_laws.specs.Integrity.{IsByteAt, buffer_of, start_in, Stores, CoveredBytesStay}
use Rattle.genie_orderly.specs.Steps.{Stays}
use Rattle.genie_orderly.specs.Orderly.{moves_into, IsOrderly}
use Rattle.genie_model.specs.Pending.{is_early_at, is_inward, is_numbered, names, names_weakly, covers, pending}
use Rattle.genie_model.specs.Regions.{region_numbered, is_orphan, orphan_numbered, reach_of, write_reach_of, place_in, bytes_within, orphan_part, region_part, bytes_of, changed, change_region, with_state, put}
use Rattle.genie_model.specs.Space.{is_move, cut, tidy, stored}
use Rattle.genie_model.specs.State.{State, Region, Orphan, Transfer}
use Rattle.genie_model.specs.Step.{perform, with_budget, step}
use Rattle.genie_orderly.specs.Lemmas.ChangedRegions.{InPlace, place_found}
use Rattle.genie_laws.proofs.Inputs.ReceiveSteps.{inputs_keep_integrity}
use Rattle.genie_orderly.specs.Lemmas.FoundRegions.{number_has, named_region}
use Rattle.genie_orderly.specs.Lemmas.BufferRegions.{filled_place}
use Rattle.genie_model.specs.Lemmas.Lists.{any_has, has_any, find_has}
use Rattle.genie_laws.proofs.Inputs.StoredBytes.{IsNew, put_gives}
use Rattle.genie_laws.proofs.Covered.OtherEvents.{names_covered, cut_has, others_leave}
use Rattle.genie_orderly.specs.Lemmas.NamingTransfers.{any_count, count_taken}
use Rattle.genie_model.specs.Lemmas.OnlyRegions.{finish_for_like}
use Rattle.genie_orderly.specs.Lemmas.NamedRanges.{tidy_orphan}
use Rattle.genie_orderly.specs.Lemmas.BufferRegions.{live_place}
use Rattle.genie_model.specs.Lemmas.Steps.{event_so}

-- the end of an event leaves the bytes of covered places
module _ (k x : ℕ) (s : State) (covered : list_any (covers k x) s.transfers ≡ true) where
  cut_part : (o : Option Orphan) → ((q : Orphan) → o ≡ Some q → q.number ≡ k) → orphan_part x 1 (option_map (cut s.transfers) o) ≡ orphan_part x 1 o
  cut_part None is = refl
  cut_part (Some q) is = (cut_has k x (bytes_within x 1 q.bytes) s.transfers covered q (is q refl, refl)).1

  tidy_part : bytes_of (tidy s) k x 1 ≡ bytes_of s k x 1
  tidy_part =
      let some = any_has (covers k x) s.transfers covered in
      let named = has_any (names_weakly k) some.0 s.transfers some.1 (names_covered k x some.0 some.2) in
      ap (region_part x 1 (region_numbered s k)) (ap (orphan_part x 1) (tidy_orphan s k named) ∙ cut_part (orphan_numbered s k) (λ q e. eqb-true q.number k (find_has (is_orphan k) s.orphans q e).1))

-- region j is changed, but its byte there stays
module _ (s : State) (j k x : ℕ) (f : Region → Region) (same : (r : Region) → r.number ≡ k → r.number ≡ j → part x 1 (f r).bytes ≡ part x 1 r.bytes) where
  part_kept : (o : Option Region) (b : List ℕ) → ((r : Region) → o ≡ Some r → r.number ≡ k) → region_part x 1 (option_map (changed j f) o) b ≡ region_part x 1 o b
  part_kept None b is = refl
  part_kept (Some r) b is = cond_both (r.number == j) (f r) r (λ (q : Region). part x 1 q.bytes ≡ part x 1 r.bytes) (λ t. same r (is r refl) (eqb-true r.number j t)) (λ _. refl)

  change_part : InPlace s (change_region s j f) j f → bytes_of (change_region s j f) k x 1 ≡ bytes_of s k x 1
  change_part place = ap (λ o. region_part x 1 o (orphan_part x 1 (orphan_numbered s k))) (place_found s (change_region s j f) j f place k)
      ∙ part_kept (region_numbered s k) _ (λ r e. eqb-true r.number k (number_has s k r e).1)

-- a byte stays, or this event stored it
abbrev Shows : State → Event → ℕ → ℕ → List ℕ → Type 0
Shows s e k x byte = (byte ≡ bytes_of s k x 1) ⊎ Stores s e k x byte

one_of : {k y x : ℕ} {new now : List ℕ} {j : ℕ} → IsNew k y new j x now → IsByteAt y new x now
one_of h = record { index = h.index; place = h.place; within = h.within; is = h.byte }

write_shows : (s : State) (p a : ℕ) (bytes : List ℕ) (k x : ℕ) → IsOrderly s → (found : Option Region) → reach_of s p a (length bytes) ≡ found → Shows s (Write p a bytes) k x (bytes_of (stored s found a bytes) k x 1)
write_shows s p a bytes k x o None e = inl refl
write_shows s p a bytes k x o (Some r) e = ⊎_elim inl (λ new. inr (record { region = r; reached = e; number = sym new.same; stored = one_of new })) (put_gives s r.number (place_in s r a) k x bytes o.order)

-- transfer t of process p, an input, ends
module _ (s : State) (o : IsOrderly s) (j k x : ℕ) (t : Transfer) (is : pending s j ≡ Some t) (covered : list_any (covers k x) (without_transfer s j).transfers ≡ true) where
  abbrev rest : State
  rest = without_transfer s j

  abbrev Ends : State → Type 0
  Ends u = Shows s (Finish j) k x (bytes_of u k x 1)

  -- no other transfer names the region of a move input
  moved_alone : moves_into k t ≡ true → ⊥
  moved_alone moves =
      let named = (and_parts (is_move t.class) (names k t) moves).1 in
      let few = o.holds.one k (has_any (moves_into k) t s.transfers (find_has (is_numbered j) s.transfers t is).0 moves) in
      let taken = count_taken (names k) (is_numbered j) s.transfers t is named in
      let left = any_count (names k) (covers k x) (λ u c. (and_parts _ (names k u) (names_covered k x u c)).1) rest.transfers covered in
      absurd (omega (arith, few, taken, left))

  module _ (p : ℕ) (owned : t.owner ≡ Some p) (inward : is_inward t.direction ≡ true) where
    put_ends : (class : Class) → t.class ≡ class → (r : Region) → buffer_of s p t class ≡ Some r → Ends (put rest r.number (start_in s t class r) t.payload)
    put_ends class e r found = ⊎_elim inl
        (λ new. inr (record { input = t; pending = is; inward = inward; owner = p; owned = owned; region = r; buffer = rw e found; number = sym new.same; stored = rw e (one_of new) }))
        (put_gives rest r.number (start_in s t class r) k x t.payload o.order)

    copy_ends : (found : Option Region) → t.class ≡ Copy → buffer_of s p t Copy ≡ found → Ends (finish_copy rest t found).0
    copy_ends None e f = inl refl
    copy_ends (Some r) e f = put_ends Copy e r f

    land_ends : (class : Class) → t.class ≡ class → (r : Region) → (is_early_at s t.device ≡ false → buffer_of s p t class ≡ Some r) → start_in s t class r ≡ t.offset → Ends (after_landing rest t r)
    land_ends class e r f at = cond_both (is_early_at s t.device) rest (put rest r.number t.offset t.payload) Ends (λ _. inl refl) (λ late. subst (λ y. Ends (put rest r.number y t.payload)) at (put_ends class e r (f late)))

    share_ends : (found : Option Region) → t.class ≡ Share → region_of s t ≡ found → Ends (finish_share rest t found).0
    share_ends None e f = inl refl
    share_ends (Some r) e f = land_ends Share e r (λ late. rw late f) refl

    move_ends : (found : Option Region) → t.class ≡ Move → region_of s t ≡ found → Ends (finish_move rest t found).0
    move_ends None e f = inl refl
    move_ends (Some r) e f =
        let named = (named_region s t.region r f).1 in
        inl (change_part rest r.number k x (filled t.payload) (λ q i same. absurd (moved_alone (rw e (subst (λ n. names n t ≡ true) (sym same ∙ i) named)))) (filled_place rest r.number t.payload))

    weak_move_ends : (found : Option Region) → t.class ≡ WeakMove → region_of s t ≡ found → Ends (finish_weak_move rest t found).0
    weak_move_ends None e f = inl refl
    weak_move_ends (Some r) e f =
        let u : State = after_landing rest t r in
        subst (Shows s (Finish j) k x) (sym (change_part u r.number k x (with_state Live) (λ q i same. refl) (live_place u r.number))) (land_ends WeakMove e r (λ late. rw late f) refl)

    input_ends : (class : Class) → t.class ≡ class → Ends (finish_input rest p t class).0
    input_ends Copy e = copy_ends (write_reach_of s p (address_or_zero t.addr) t.len) e refl
    input_ends Share e = share_ends (region_of s t) e refl
    input_ends Move e = move_ends (region_of s t) e refl
    input_ends WeakMove e = weak_move_ends (region_of s t) e refl

  owned_ends : (p : ℕ) → t.owner ≡ Some p → (direction : Direction) → t.direction ≡ direction → Ends (finish_owned rest p t direction).0
  owned_ends p owned Outward e = inl refl
  owned_ends p owned Inward e = input_ends p owned (ap is_inward e) t.class refl

  for_ends : (owner : Option ℕ) → t.owner ≡ owner → Ends (finish_for rest t owner).0
  for_ends None e = inl refl
  for_ends (Some p) e = owned_ends p e t.direction refl

finish_shows : (s : State) (j k x : ℕ) → IsOrderly s → (found : Option Transfer) → pending s j ≡ found → list_any (covers k x) (finish_found s j found).0.transfers ≡ true → Shows s (Finish j) k x (bytes_of (finish_found s j found).0 k x 1)
finish_shows s j k x o None is covered = inl refl
finish_shows s j k x o (Some t) is covered =
    let kept = ap (λ (u : State). u.transfers) (finish_for_like (without_transfer s j) t t.owner) in
    for_ends s o j k x t is (subst (λ l. list_any (covers k x) l ≡ true) kept covered) t.owner refl

-- where the place is covered at the end
module _ (s : State) (e : Event) (k x : ℕ) where
  abbrev IsShown : State → Type 0
  IsShown u = list_any (covers k x) u.transfers ≡ true → Shows s e k x (bytes_of u k x 1)

  step_shows : IsShown (perform s e).0 → ((b : ℕ) → with_budget e b ≡ e) → (m : Mark) → IsShown (step s e m).0
  step_shows shown same m =
      let tidied : IsShown (tidy (perform s e).0) = λ c. rw (tidy_part k x (perform s e).0 c) (shown c) in
      event_so IsShown s (λ _. inl refl) e (λ _. tidied) (λ _ b. rw (same b) tidied) m

pub covered_bytes_stay : Stays IsOrderly → CoveredBytesStay
covered_bytes_stay stay s (Write p a bytes) m k x whole o before after = step_shows s (Write p a bytes) k x (λ _. write_shows s p a bytes k x o (reach_of s p a (length bytes)) refl) (λ b. refl) m after
covered_bytes_stay stay s (Recv d n) m k x whole o before after = inputs_keep_integrity s d n m k x o
covered_bytes_stay stay s (Finish j) m k x whole o before after = step_shows s (Finish j) k x (finish_shows s j k x o (pending s j) refl) (λ b. refl) m after
covered_bytes_stay stay s e m k x whole o before after = inl (others_leave stay s e m k x whole o refl before after)
