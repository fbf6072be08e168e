-- The weak queue of each process lists its Out regions after every step.
use Rattle.std.proofs.Common.{◌≡◌, ℕ, zero, suc, ◌≤◌, Bool, true, false, not, ◌&&◌, ◌==◌, List, [], ◌∷◌, ◌++◌, length, map, count_by, get_or, All, ⊎_elim, refl, sym, ap, subst, ◌∙◌, eqb-true, eq-eqb, ne_eqb, true≢false, arith}
use Rattle.std.specs.Prelude.{Option, Some, None, IfSome, cond, slice_set, ◌≢◌}
use Rattle.std.specs.List.{list_any}
use Rattle.std.proofs.lemmas.Bool.{cond_both, and_parts, and_from, false_from_ne_true, cases_Bool, not_from_false, not_from_true}
use Rattle.std.proofs.lemmas.List.{map-append}
use Rattle.genie_base.specs.Transfers.{class_of}
use Rattle.genie_base.specs.declared.event.Event.{Event}
use Rattle.genie_base.specs.declared.event.Event.TheVariants.{Spawn, Fork, Exit, Map, Alloc, Unmap, Protect, Read, Write, Output, Input, Send, Recv, Finish, Cancel, Pageout}
use Rattle.genie_base.specs.declared.refusal.Refusal.TheVariants.{Proc}
use Rattle.genie_base.specs.declared.region.RegionState.{RegionState}
use Rattle.genie_base.specs.declared.region.RegionState.TheVariants.{Live, Out, In, Held}
use Rattle.genie_base.specs.declared.region.Area.TheVariants.{App}
use Rattle.genie_base.specs.declared.semantics.Class.{Class}
use Rattle.genie_base.specs.declared.semantics.Class.TheVariants.{Copy, Share, Move, WeakMove}
use Rattle.genie_base.specs.declared.semantics.Direction.{Direction}
use Rattle.genie_base.specs.declared.semantics.Direction.TheVariants.{Outward, Inward}
use Rattle.genie_model.specs.State.{State, Region, Process, Transfer}
use Rattle.genie_model.specs.Tables.{entry}
use Rattle.genie_model.specs.Regions.{extent_of, regions_of, regions_at, is_region, has_number, reach_of, write_reach_of, place_in, change_process, changed, changed_in, change_region, with_bytes, with_state, with_mode, put}
use Rattle.genie_model.specs.Pending.{is_inward, is_posted, is_numbered, is_early_at, names, first_queued, pending, add_transfer}
use Rattle.genie_model.specs.Space.{zeros, zeros_at_place, with_region, add_region, copy_of, add_copies, spawned, accessible, without_region, remove_found, region_from, protect_found, stored}
use Rattle.genie_model.specs.Outputs.{moved_out_of, give_up}
use Rattle.genie_model.specs.Inputs.{pages_for, reusable, moved_in_of, weak_buffer, with_buffer, address_or_zero}
use Rattle.genie_model.specs.Sending.{must_stage, send_next}
use Rattle.genie_model.specs.Receiving.{recv}
use Rattle.genie_model.specs.Ending.{without_transfer, region_of, filled, finish_copy, finish_share, finish_move, finish_weak_move, finish_input, finish_owned, finish_for, finish_found, cancel_found}
use Rattle.genie_model.specs.Refusing.{causes, refuse, may_cancel}
use Rattle.genie_model.specs.Step.{accept, perform, with_budget}
use Rattle.genie_model.specs.Lemmas.Lists.{Has, has_at, all_has, has_any, has_map, none_from, find_has, pairs_head, pairs_tail, entry_map, entry_set}
use Rattle.genie_model.specs.Lemmas.Causes.{none_holds}
use Rattle.genie_model.specs.Lemmas.ReceiveSteps.{choice, recv_keeps}
use Rattle.genie_model.specs.Lemmas.Steps.{event_so}
use Rattle.genie_orderly.specs.Steps.{Stays}
use Rattle.genie_orderly.specs.Orderly.{fills_state, fills, awaited, is_out, is_out_region, ListsOut, QueuesListOut, orphan_numbers, IsOrderly}
use Rattle.genie_orderly.specs.Lemmas.AcceptedEvents.{allowed}
use Rattle.genie_orderly.specs.Lemmas.FoundRegions.{all_of, has_region, named_region, numbers_in, Differ, differ, found_at}
use Rattle.genie_orderly.specs.Lemmas.NamingTransfers.{count_none, any_count, count-cons}
use Rattle.genie_orderly.proofs.Regions.Apart.{sum_added}
use Rattle.genie_orderly.proofs.Regions.Filled.{stored_filled, reached_live, moves_weakly}
use Rattle.genie_orderly.proofs.Transfers.Counts.{as_one, count_pushed, count_end, count_map, count_all, count_gone}
use Rattle.genie_orderly.proofs.Regions.Tables.{Regs, pairs_left, later_differ}

-- what is so of each process
abbrev Queues : List (Option Process) → Type 0
Queues ps = (p : ℕ) → IfSome (entry ps p) ListsOut

queues_map : (g : Process → Process) (ps : List (Option Process)) → ((p : ℕ) (x : Process) → entry ps p ≡ Some x → ListsOut x → ListsOut (g x)) → Queues ps → Queues (map (change_process g) ps)
queues_map g ps so h p = subst (λ (o : Option Process). IfSome o ListsOut) (sym (entry_map (change_process g) refl ps p)) (each (entry ps p) refl (h p))
  where
    each : (o : Option Process) → entry ps p ≡ o → IfSome o ListsOut → IfSome (change_process g o) ListsOut
    each None e a = tt
    each (Some x) e a = so p x e a

queues_set : (ps : List (Option Process)) (q : ℕ) (new : Option Process) → IfSome new ListsOut → Queues ps → Queues (slice_set ps q new)
queues_set ps q new here h p = entry_set (λ (o : Option Process). IfSome o ListsOut) ps q p new (h p) (λ same. here)

-- a region that isn't Out comes
added_queue : (s : State) (p : ℕ) (r : Region) → is_out r.state ≡ false → Queues s.processes → Queues (add_region s p r).processes
added_queue s p r live h = queues_set s.processes p (change_process (with_region r) (entry s.processes p)) (each (entry s.processes p) (h p)) h
  where
    each : (o : Option Process) → IfSome o ListsOut → IfSome (change_process (with_region r) o) ListsOut
    each None a = a
    each (Some x) a = λ k.
        let none = false_from_ne_true (is_out_region k r) (λ y. true≢false (sym (and_parts (is_region k r) (is_out r.state) y).1 ∙ live)) in
        omega (arith, a k, sum_added extent_of (λ (y : Region). cond (is_out_region k y) 1 0) r x.regions, ap as_one none)

-- a region goes
removed_queue : (k : ℕ) (ps : List (Option Process)) → Queues ps → Queues (map (change_process (without_region k)) ps)
removed_queue k ps h = queues_map (without_region k) ps (λ p x e a j. ⊎_elim
    (λ (here : (k == j) ≡ true). let same = eqb-true k j here in
    count_gone (λ n. n == j) (λ n. not (n == k)) x.queue (λ n y. not_from_true (n == k) (subst (λ i. (n == i) ≡ true) (sym same) y))
    ∙ sym (count_gone (is_out_region j) (λ r. not (is_region k r)) x.regions (λ r y. not_from_true (is_region k r) (subst (λ i. (r.number == i) ≡ true) (sym same) (and_parts (is_region j r) (is_out r.state) y).0))))
    (λ (other : (k == j) ≡ false).
    count_all (λ n. n == j) (λ n. not (n == k)) x.queue (λ n y. not_from_false (n == k) (beside n j other y))
    ∙ a j ∙ sym (count_all (is_out_region j) (λ r. not (is_region k r)) x.regions (λ r y. not_from_false (is_region k r) (beside r.number j other (and_parts (is_region j r) (is_out r.state) y).0))))
    (cases_Bool (k == j))) h
  where
    beside : (n j : ℕ) → (k == j) ≡ false → (n == j) ≡ true → (n == k) ≡ false
    beside n j other y = ne_eqb n k (λ same. true≢false (sym (eq-eqb k j (sym same ∙ eqb-true n j y)) ∙ other))

-- region k isn't Out
abbrev NotOut : ℕ → ℕ → Region → Type 0
NotOut k p r = r.number ≡ k → is_out r.state ≡ false

-- a region changes that isn't Out before or after
changed_queue : (k : ℕ) (f : Region → Region) → ((r : Region) → (f r).number ≡ r.number) → ((r : Region) → is_out r.state ≡ false → is_out (f r).state ≡ false) → (ps : List (Option Process)) → Regs (NotOut k) ps → Queues ps → Queues (map (change_process (changed_in k f)) ps)
changed_queue k f number state ps still h = queues_map (changed_in k f) ps (λ p x e a j. a j ∙ sym (count_map (is_out_region j) (is_out_region j) (changed k f) x.regions (λ r has.
    cond_both (r.number == k) (f r) r (λ q. is_out_region j q ≡ is_out_region j r)
    (λ y.
    let was = all_has (NotOut k p) x.regions (subst (λ (o : Option Process). All (NotOut k p) (regions_of o)) e (still p)) r has (eqb-true r.number k y) in
    none j (f r) (state r was) ∙ sym (none j r was))
    (λ _. refl)))) h
  where
    none : (j : ℕ) (r : Region) → is_out r.state ≡ false → is_out_region j r ≡ false
    none j r live = false_from_ne_true (is_out_region j r) (λ y. true≢false (sym (and_parts (is_region j r) (is_out r.state) y).1 ∙ live))

-- the state stays
same_queue : (k : ℕ) (f : Region → Region) → ((j : ℕ) (r : Region) → is_out_region j (f r) ≡ is_out_region j r) → (ps : List (Option Process)) → Queues ps → Queues (map (change_process (changed_in k f)) ps)
same_queue k f same ps h = queues_map (changed_in k f) ps (λ p x e a j. a j ∙ sym (count_map (is_out_region j) (is_out_region j) (changed k f) x.regions (λ r has. cond_both (r.number == k) (f r) r (λ q. is_out_region j q ≡ is_out_region j r) (λ _. same j r) (λ _. refl)))) h

put_queue : (s : State) (k x : ℕ) (new : List ℕ) → Queues s.processes → Queues (put s k x new).processes
put_queue s k x new h = same_queue k (with_bytes x new) (λ j r. refl) s.processes h

-- an Out region leaves the queue, and is In
in_queue : (k : ℕ) (ps : List (Option Process)) → Queues ps → Queues (map (change_process (moved_in_of k)) ps)
in_queue k ps h = queues_map (moved_in_of k) ps (λ p x e a j. ⊎_elim
    (λ (here : (k == j) ≡ true). let same = eqb-true k j here in
    count_gone (λ n. n == j) (λ n. not (n == k)) x.queue (λ n y. not_from_true (n == k) (subst (λ i. (n == i) ≡ true) (sym same) y))
    ∙ sym (count_map (is_out_region j) (λ _. false) (changed k (with_state In)) x.regions (λ r has. cond_both (r.number == k) (with_state In r) r (λ q. is_out_region j q ≡ false)
    (λ _. false_from_ne_true (is_out_region j (with_state In r)) (λ y. true≢false (sym (and_parts (is_region j r) false y).1)))
    (λ n. ap (λ b. b && is_out r.state) (subst (λ i. (r.number == i) ≡ false) same n))) ∙ none x.regions))
    (λ (other : (k == j) ≡ false).
    count_all (λ n. n == j) (λ n. not (n == k)) x.queue (λ n y. not_from_false (n == k) (ne_eqb n k (λ same. true≢false (sym (eq-eqb k j (sym same ∙ eqb-true n j y)) ∙ other))))
    ∙ a j ∙ sym (count_map (is_out_region j) (is_out_region j) (changed k (with_state In)) x.regions (λ r has. cond_both (r.number == k) (with_state In r) r (λ q. is_out_region j q ≡ is_out_region j r) (λ y. let no_j = ne_eqb r.number j (λ same. true≢false (sym (eq-eqb k j (sym (eqb-true r.number k y) ∙ same)) ∙ other)) in ap (λ b. b && false) no_j ∙ sym (ap (λ b. b && is_out r.state) no_j)) (λ _. refl))))
    (cases_Bool (k == j))) h
  where
    none : (rs : List Region) → count_by (λ (r : Region). false) rs ≡ 0
    none rs = count_none (λ (r : Region). false) rs (none_from (λ (r : Region). false) rs (λ r has. refl))

-- regions of one number
one_region : (k : ℕ) (rs : List Region) → Differ (numbers_in rs) → list_any (is_region k) rs ≡ true → count_by (is_region k) rs ≡ 1
one_region k [] h e = absurd (cc)
one_region k (r ∷ rs) h e = ⊎_elim
    (λ (here : (r.number == k) ≡ true).
    let rest = count_none (is_region k) rs (none_from (is_region k) rs (λ x has. ne_eqb x.number k (λ same. pairs_head (λ (a b : ℕ). a ≢ b) r.number (numbers_in rs) h x.number (has_map (λ (y : Region). y.number) x rs has) (eqb-true r.number k here ∙ sym same)))) in
    omega (arith, count-cons (is_region k) r rs, ap as_one here, rest))
    (λ (later : (r.number == k) ≡ false). omega (arith, count-cons (is_region k) r rs, ap as_one later, one_region k rs (pairs_tail (λ (a b : ℕ). a ≢ b) r.number (numbers_in rs) h) (rw later at e)))
    (cases_Bool (r.number == k))

differ_at : (ps : List (Option Process)) → Differ (numbers_in (all_of ps)) → (p : ℕ) → Differ (numbers_in (regions_of (entry ps p)))
differ_at [] h p = λ i j d l m. absurd (omega arith)
differ_at (x ∷ ps) h zero = pairs_left (λ (a b : ℕ). a ≢ b) (numbers_in (regions_of x)) (numbers_in (all_of ps)) (subst Differ (map-append (λ (y : Region). y.number) (regions_of x) (all_of ps)) h)
differ_at (x ∷ ps) h (suc p) = differ_at ps (later_differ x ps h) p

-- a region that isn't Out comes to the end of the queue, and is Out
out_queue : (k : ℕ) (ps : List (Option Process)) → Differ (numbers_in (all_of ps)) → Regs (NotOut k) ps → Queues ps → Queues (map (change_process (moved_out_of k)) ps)
out_queue k ps apart still h = queues_map (moved_out_of k) ps (λ p x e a. cond_both (has_number k (Some x)) (record { queue = x.queue ++ k ∷ []; regions = map (changed k (with_state Out)) x.regions }) x ListsOut
    (λ has j. ⊎_elim
    (λ (here : (k == j) ≡ true).
    let same = eqb-true k j here in
    let one = one_region k x.regions (subst (λ (o : Option Process). Differ (numbers_in (regions_of o))) e (differ_at ps apart p)) has in
    let not_out = subst (λ (o : Option Process). All (NotOut k p) (regions_of o)) e (still p) in
    let before = count_none (is_out_region j) x.regions (none_from (is_out_region j) x.regions (λ r there. false_from_ne_true (is_out_region j r) (λ y.
    let both = and_parts (is_region j r) (is_out r.state) y in
    true≢false (sym both.1 ∙ all_has (NotOut k p) x.regions not_out r there (eqb-true r.number j both.0 ∙ sym same))))) in
    let after = count_map (is_out_region j) (is_region k) (changed k (with_state Out)) x.regions (λ r there. cond_both (r.number == k) (with_state Out r) r (λ q. is_out_region j q ≡ (r.number == k))
    (λ y. and_from (r.number == j) true (eq-eqb r.number j (eqb-true r.number k y ∙ same)) refl ∙ sym y)
    (λ n. ap (λ b. b && is_out r.state) (subst (λ i. (r.number == i) ≡ false) same n) ∙ sym n)) in
    omega (arith, a j, before, after, one, count_end (λ n. n == j) x.queue k, ap as_one here))
    (λ (other : (k == j) ≡ false).
    count_pushed (λ n. n == j) x.queue k other ∙ a j
    ∙ sym (count_map (is_out_region j) (is_out_region j) (changed k (with_state Out)) x.regions (λ r there. cond_both (r.number == k) (with_state Out r) r (λ q. is_out_region j q ≡ is_out_region j r) (λ y. let no_j = ne_eqb r.number j (λ same. true≢false (sym (eq-eqb k j (sym (eqb-true r.number k y) ∙ same)) ∙ other)) in ap (λ b. b && true) no_j ∙ sym (ap (λ b. b && is_out r.state) no_j)) (λ _. refl))))
    (cases_Bool (k == j)))
    (λ _. a)) h

-- the region that an input fills isn't Out
awaited_not_out : (a is : RegionState) → 1 ≤ awaited a is → is_out is ≡ false
awaited_not_out a Live h = refl
awaited_not_out a Out h = absurd (omega (arith, h))
awaited_not_out a In h = refl
awaited_not_out a Held h = refl

module _ (s : State) (o : IsOrderly s) where
  apart_all : Differ (numbers_in (all_of s.processes))
  apart_all = pairs_left (λ (a b : ℕ). a ≢ b) (numbers_in (all_of s.processes)) (orphan_numbers s.orphans) (differ s o.numbers)

  filled_not_out : (n : ℕ) (u : Transfer) → pending s n ≡ Some u → (r : Region) → region_of s u ≡ Some r → (a : RegionState) → is_inward u.direction ≡ true → fills_state a u.class ≡ true → Regs (NotOut r.number) s.processes
  filled_not_out n u is r there a inward class p i d lt number =
      let x = get_or (regions_at s p) i d in
      let fill = and_from (is_inward u.direction && fills_state a u.class) (names x.number u) (and_from (is_inward u.direction) (fills_state a u.class) inward class) (subst (λ k. names k u ≡ true) (sym number) (named_region s u.region r there).1) in
      let some = any_count (fills a x.number) (fills a x.number) (λ t y. y) s.transfers (has_any (fills a x.number) u s.transfers (find_has (is_numbered n) s.transfers u is).0 fill) in
      awaited_not_out a x.state (omega (arith, some, (o.filled p i d lt).one a))

  same_not_out : (r : Region) → r.state ≡ Live → Has r (all_of s.processes) → Regs (NotOut r.number) s.processes
  same_not_out r live there p i d lt number =
      let x = get_or (regions_at s p) i d in
      let both : Some r ≡ Some x = sym (found_at s o.numbers r there r.number refl) ∙ found_at s o.numbers x (has_region s p x (has_at (regions_at s p) i d lt)) r.number number in
      let same : r ≡ x = cc in
      ap (λ (y : Region). is_out y.state) (sym same) ∙ ap is_out live

  put_not_out : (k j x : ℕ) (new : List ℕ) → Regs (NotOut k) s.processes → Regs (NotOut k) (put s j x new).processes
  put_not_out k j x new h = stored_filled (NotOut k) (λ p y b r e. e) s j x new h

module _ (s : State) (o : IsOrderly s) where
  removed_found : (x : Option Region) → Queues (remove_found s x).processes
  removed_found None = o.weak
  removed_found (Some r) = removed_queue r.number s.processes o.weak

  protected_found : (x : Option Region) (writable : Bool) → Queues (protect_found s x writable).processes
  protected_found None writable = o.weak
  protected_found (Some r) writable = same_queue r.number (with_mode writable) (λ j q. refl) s.processes o.weak

  stored_found : (x : Option Region) (a : ℕ) (bytes : List ℕ) → Queues (stored s x a bytes).processes
  stored_found None a bytes = o.weak
  stored_found (Some r) a bytes = put_queue s r.number (place_in s r a) bytes o.weak

  output_queue : (t : State) → t.processes ≡ s.processes → (class : Class) (reached : Option Region) → ((r : Region) → reached ≡ Some r → class ≡ WeakMove → (r.state ≡ Live) × Has r (all_of s.processes)) → Queues (give_up t class reached).processes
  output_queue t same class None live = rw same o.weak
  output_queue t same Copy (Some r) live = rw same o.weak
  output_queue t same Share (Some r) live = rw same o.weak
  output_queue t same Move (Some r) live = rw same (removed_queue r.number s.processes o.weak)
  output_queue t same WeakMove (Some r) live = let is = live r refl refl in rw same (out_queue r.number s.processes (apart_all s o) (same_not_out s o r is.0 is.1) o.weak)

  input_queue : (p : ℕ) (class : Class) (n : ℕ) → Queues (with_buffer s p class n).processes
  input_queue p Copy n = o.weak
  input_queue p Share n = o.weak
  input_queue p Move n = added_queue s p (zeros_at_place s Held p (pages_for s n)) refl o.weak
  input_queue p WeakMove n = weak (reusable s p (pages_for s n))
    where
      weak : (found : Option ℕ) → Queues (weak_buffer s p n found).processes
      weak None = added_queue s p (zeros_at_place s In p (pages_for s n)) refl o.weak
      weak (Some k) = in_queue k s.processes o.weak

  sent : (d n : ℕ) (x : Option Transfer) → Queues (send_next s d n x).0.processes
  sent d n None = o.weak
  sent d n (Some t) = choice (λ (u : State). Queues u.processes) (must_stage s d t) _ _ o.weak o.weak

  received : (d n : ℕ) → Queues (recv s d n).0.processes
  received d n = recv_keeps (λ (t : State). Queues t.processes) (λ t e v g. g) (λ t k f call g. g) put_queue s d n o.weak

  module _ (n : ℕ) (u : Transfer) (is : pending s n ≡ Some u) where
    abbrev rest : State
    rest = without_transfer s n

    moves : is_inward u.direction ≡ true → u.class ≡ Move → (x : Option Region) → region_of s u ≡ x → Queues (finish_move rest u x).0.processes
    moves i e None f = o.weak
    moves i e (Some r) f = changed_queue r.number (filled u.payload) (λ q. refl) (λ q _. refl) s.processes (filled_not_out s o n u is r f Held i (rw e refl)) o.weak

    weak_moves : is_inward u.direction ≡ true → u.class ≡ WeakMove → (x : Option Region) → region_of s u ≡ x → Queues (finish_weak_move rest u x).0.processes
    weak_moves i e None f = o.weak
    weak_moves i e (Some r) f =
        let still = filled_not_out s o n u is r f In i (rw e refl) in
        cond_both (is_early_at rest u.device) rest (put rest r.number u.offset u.payload) (λ (t : State). Queues (change_region t r.number (with_state Live)).processes)
        (λ _. changed_queue r.number (with_state Live) (λ q. refl) (λ q _. refl) s.processes still o.weak)
        (λ _. changed_queue r.number (with_state Live) (λ q. refl) (λ q _. refl) (put s r.number u.offset u.payload).processes (put_not_out s o r.number r.number u.offset u.payload still) (put_queue s r.number u.offset u.payload o.weak))

    copies : (x : Option Region) → Queues (finish_copy rest u x).0.processes
    copies None = o.weak
    copies (Some r) = put_queue s r.number (place_in s r (address_or_zero u.addr)) u.payload o.weak

    shares : (x : Option Region) → Queues (finish_share rest u x).0.processes
    shares None = o.weak
    shares (Some r) = cond_both (is_early_at rest u.device) rest (put rest r.number u.offset u.payload) (λ (t : State). Queues t.processes) (λ _. o.weak) (λ _. put_queue s r.number u.offset u.payload o.weak)

    inputs : (q : ℕ) → is_inward u.direction ≡ true → (class : Class) → u.class ≡ class → Queues (finish_input rest q u class).0.processes
    inputs q i Copy e = copies (write_reach_of rest q (address_or_zero u.addr) u.len)
    inputs q i Share e = shares (region_of rest u)
    inputs q i Move e = moves i e (region_of s u) refl
    inputs q i WeakMove e = weak_moves i e (region_of s u) refl

    owned : (q : ℕ) (direction : Direction) → u.direction ≡ direction → Queues (finish_owned rest q u direction).0.processes
    owned q Outward e = o.weak
    owned q Inward e = inputs q (rw e refl) u.class refl

    finish_queue : (x : Option ℕ) → Queues (finish_for rest u x).0.processes
    finish_queue None = o.weak
    finish_queue (Some q) = owned q u.direction refl

    cancel_queue : is_inward u.direction ≡ true → (class : Class) → u.class ≡ class → (x : Option Region) → region_of s u ≡ x → Queues (give_up rest class x).processes
    cancel_queue i class e None f = o.weak
    cancel_queue i Copy e (Some r) f = o.weak
    cancel_queue i Share e (Some r) f = o.weak
    cancel_queue i Move e (Some r) f = removed_queue r.number s.processes o.weak
    cancel_queue i WeakMove e (Some r) f = out_queue r.number s.processes (apart_all s o) (filled_not_out s o n u is r f In i (rw e refl)) o.weak

copies_queue : (s : State) (q : ℕ) (regions : List Region) → Queues s.processes → Queues (add_copies s q regions).processes
copies_queue s q [] h = h
copies_queue s q (r ∷ regions) h = copies_queue (add_region s q (copy_of s r)) q regions (added_queue s q (copy_of s r) refl h)

perform_queue : (s : State) (e : Event) → IsOrderly s → refuse s e ≡ None → Queues (perform s e).0.processes
perform_queue s (Spawn p) o none = queues_set s.processes p (Some (record { queue = []; regions = [] })) (λ k. refl) o.weak
perform_queue s (Fork p q) o none = copies_queue (spawned s q) q (accessible (regions_at s p)) (queues_set s.processes q (Some (record { queue = []; regions = [] })) (λ k. refl) o.weak)
perform_queue s (Exit p) o none = queues_set s.processes p None tt o.weak
perform_queue s (Map p g n) o none = added_queue s p (zeros s App Live g n) refl o.weak
perform_queue s (Alloc p n) o none = added_queue s p (zeros_at_place s Live p n) refl o.weak
perform_queue s (Unmap p g) o none = removed_found s o (region_from s p g)
perform_queue s (Protect p g writable) o none = protected_found s o (region_from s p g) writable
perform_queue s (Read p a n) o none = o.weak
perform_queue s (Write p a bytes) o none = stored_found s o (reach_of s p a (length bytes)) a bytes
perform_queue s (Output p sem d port flow a n) o none = output_queue s o (add_transfer s _) refl (class_of sem) (reach_of s p a n)
    (reached_live s p (class_of sem) a n (moves_weakly s p (class_of sem) a n (none_holds (causes s (Output p sem d port flow a n)) none 4 (true, Proc) (omega arith))))
perform_queue s (Input p sem d port flow a n) o none = input_queue s o p (class_of sem) n
perform_queue s (Send d n) o none = sent s o d n (first_queued s d)
perform_queue s (Recv d n) o none = received s o d n
perform_queue s (Finish k) o none = finished (pending s k) refl
  where
    finished : (x : Option Transfer) → pending s k ≡ x → Queues (finish_found s k x).0.processes
    finished None e = o.weak
    finished (Some u) e = finish_queue s o k u e u.owner
perform_queue s (Cancel k) o none = cancelled (pending s k) refl (allowed s (Cancel k) none)
  where
    cancelled : (x : Option Transfer) → pending s k ≡ x → may_cancel x ≡ true → Queues (cancel_found s k x).0.processes
    cancelled None e may = o.weak
    cancelled (Some u) e may = cancel_queue s o k u e (all_has (λ (t : Transfer). is_posted t.phase ≡ true → is_inward t.direction ≡ true) s.transfers o.posted u (find_has (is_numbered k) s.transfers u e).0 may) u.class refl (region_of s u) refl
perform_queue s (Pageout n) o none = o.weak

budget_queue : (s : State) (e : Event) (k : ℕ) → IsOrderly s → refuse s e ≡ None → Queues (accept s (with_budget e k)).0.processes
budget_queue s (Send d n) k o none = sent s o d k (first_queued s d)
budget_queue s (Recv d n) k o none = received s o d k
budget_queue s e k o none = perform_queue s e o none

pub queues_list_out : Stays QueuesListOut
queues_list_out s e m whole o = event_so QueuesListOut s o.weak e (λ none. perform_queue s e o none) (λ none k. budget_queue s e k o none) m
