-- A region is In or Held exactly while one input of its process fills it, after every step.
use Rattle.std.proofs.Common.{◌≡◌, ℕ, zero, suc, ◌+◌, ◌≤◌, Bool, true, false, not, ◌<◌, ◌&&◌, ◌==◌, List, [], ◌∷◌, ◌++◌, length, map, filter, count_by, get_or, All, ⊎_elim, refl, sym, ap, subst, ◌∙◌, eqb-true, eq-eqb, true≢false, arith}
use Rattle.std.specs.Prelude.{Option, Some, None, find, cond, option_and_then, slice_set, ◌≢◌, if◌then◌else◌}
use Rattle.std.specs.List.{list_any}
use Rattle.std.proofs.lemmas.Bool.{cond_both, and_parts, and_from, false_from_ne_true, cases_Bool, not-true, not-false}
use Rattle.std.proofs.lemmas.List.Elements.{All-nil, All-map, All-weaker, All-filter, All-push}
use Rattle.genie_base.specs.Posted.{Address}
use Rattle.genie_base.specs.Transfers.{class_of, is_system}
use Rattle.genie_base.specs.Regions.{is_reached}
use Rattle.genie_base.specs.declared.event.Event.{Event}
use Rattle.genie_base.specs.declared.event.Event.TheVariants.{Spawn, Fork, Exit, Map, Alloc, Unmap, Protect, Read, Write, Output, Input, Send, Recv, Finish, Cancel, Pageout}
use Rattle.genie_base.specs.declared.refusal.Refusal.TheVariants.{Proc}
use Rattle.genie_base.specs.declared.region.RegionState.{RegionState}
use Rattle.genie_base.specs.declared.region.RegionState.TheVariants.{Live, Out, In, Held}
use Rattle.genie_base.specs.declared.region.Area.TheVariants.{App}
use Rattle.genie_base.specs.declared.semantics.Class.{Class}
use Rattle.genie_base.specs.declared.semantics.Class.TheVariants.{Copy, Share, Move, WeakMove}
use Rattle.genie_base.specs.declared.semantics.Direction.{Direction}
use Rattle.genie_base.specs.declared.semantics.Direction.TheVariants.{Outward, Inward}
use Rattle.genie_model.specs.State.{State, Region, Process, Transfer}
use Rattle.genie_model.specs.Tables.{entry, change, without}
use Rattle.genie_model.specs.Regions.{extent_of, regions_of, queue_of, regions_at, is_region, region_numbered, reach_of, write_reach_of, place_in, fresh, change_process, changed, changed_in, change_region, with_bytes, with_state, with_mode, put}
use Rattle.genie_model.specs.Pending.{is_inward, is_just, is_posted, is_numbered, names, waits_for, first_queued, is_early_at, pending, add_transfer}
use Rattle.genie_model.specs.Space.{zeros, zeros_at_place, with_region, add_region, copy_of, add_copies, spawned, accessible, fork, without_region, remove_found, region_from, protect_found, stored, is_move, disowned, is_posted_by, exit}
use Rattle.genie_model.specs.Outputs.{output_of, moved_out_of, give_up}
use Rattle.genie_model.specs.Inputs.{pages_for, posted, input_of, has_pages, is_reusable, reusable, moved_in_of, moved_in, weak_buffer, with_buffer, number_or_fresh, address_or_zero}
use Rattle.genie_model.specs.Sending.{after_sending, must_stage, send_count, send_next}
use Rattle.genie_model.specs.Receiving.{recv}
use Rattle.genie_model.specs.Ending.{without_transfer, region_of, filled, finish_copy, finish_share, finish_move, finish_weak_move, finish_input, finish_owned, finish_for, finish_found, cancel_found}
use Rattle.genie_model.specs.Refusing.{causes, refuse, may_cancel, may_move, is_live, is_sys}
use Rattle.genie_model.specs.Step.{accept, perform, with_budget}
use Rattle.genie_model.specs.Lemmas.Lists.{Has, has_at, all_has, none_has, none_from, find_has, entry_set, any_has}
use Rattle.genie_model.specs.Lemmas.Causes.{none_holds}
use Rattle.genie_model.specs.Lemmas.PendingCalls.{KeepsCall, sending_call}
use Rattle.genie_model.specs.Lemmas.ReceiveSteps.{choice, recv_keeps}
use Rattle.genie_model.specs.Lemmas.Steps.{event_so}
use Rattle.genie_orderly.specs.Steps.{Stays}
use Rattle.genie_orderly.specs.Orderly.{is_in, is_held, fills_state, fills, awaited, IsFilled, BuffersAreFilled, orphan_numbers, IsOrderly, numbers}
use Rattle.genie_orderly.specs.Lemmas.AcceptedEvents.{allowed}
use Rattle.genie_orderly.specs.Lemmas.AddedRegions.{IsFree}
use Rattle.genie_orderly.specs.Lemmas.ChangedRegions.{swap_test}
use Rattle.genie_orderly.specs.Lemmas.FoundRegions.{all_of, has_region, named_region, numbers_in, differ, found_at}
use Rattle.genie_orderly.specs.Lemmas.NamedRanges.{orderly_stand}
use Rattle.genie_orderly.specs.Lemmas.NamingTransfers.{all_change, all_without, count_change, count_none, count_taken}
use Rattle.genie_orderly.specs.Lemmas.RegionNumbers.{few_numbers, few_numbers_beside, no_longer}
use Rattle.genie_orderly.proofs.Names.Calls.{free_unnamed}
use Rattle.genie_orderly.proofs.Names.SpaceEvents.{Stands, add_stands, fresh_free, spawn_stands, moved_out_regions}
use Rattle.genie_orderly.proofs.Regions.Apart.{all_added}
use Rattle.genie_orderly.proofs.Regions.Copied.{accessible_few}
use Rattle.genie_orderly.proofs.Regions.Numbers.{added_length, spawned_times}
use Rattle.genie_orderly.proofs.Transfers.Counts.{as_one, count_pushed, count_left, count_end, count_exit}
use Rattle.genie_orderly.proofs.Regions.Tables.{Regs, regs_map, regs_set, regs_weaker, all_changed, pairs_left, all_kept, place_of_region, same_place}

-- what fills names
fills_names : (state : RegionState) (k : ℕ) (t : Transfer) → fills state k t ≡ true → names k t ≡ true
fills_names state k t e = (and_parts (is_inward t.direction && fills_state state t.class) (names k t) e).1

unnamed_fills : (state : RegionState) (k : ℕ) (t : Transfer) → names k t ≡ false → fills state k t ≡ false
unnamed_fills state k t n = false_from_ne_true (fills state k t) (λ y. true≢false (sym (fills_names state k t y) ∙ n))

outward_fills : (state : RegionState) (k : ℕ) (t : Transfer) → is_inward t.direction ≡ false → fills state k t ≡ false
outward_fills state k t n = false_from_ne_true (fills state k t) (λ y. true≢false (sym (and_parts (is_inward t.direction) (fills_state state t.class) (and_parts (is_inward t.direction && fills_state state t.class) (names k t) y).0).0 ∙ n))

class_fills : (state : RegionState) (k : ℕ) (t : Transfer) → fills_state state t.class ≡ false → fills state k t ≡ false
class_fills state k t n = false_from_ne_true (fills state k t) (λ y. true≢false (sym (and_parts (is_inward t.direction) (fills_state state t.class) (and_parts (is_inward t.direction && fills_state state t.class) (names k t) y).0).1 ∙ n))

no_copy : (state : RegionState) → fills_state state Copy ≡ false
no_copy Live = refl
no_copy Out = refl
no_copy In = refl
no_copy Held = refl

no_share : (state : RegionState) → fills_state state Share ≡ false
no_share Live = refl
no_share Out = refl
no_share In = refl
no_share Held = refl

one_at_most : (state is : RegionState) → awaited state is ≤ 1
one_at_most state Live = omega arith
one_at_most state Out = omega arith
one_at_most state In = cond_both (is_in state) 1 0 (λ n. n ≤ 1) (λ _. omega arith) (λ _. omega arith)
one_at_most state Held = cond_both (is_held state) 1 0 (λ n. n ≤ 1) (λ _. omega arith) (λ _. omega arith)

-- a region that an input of this class fills as one of state a is filled as no other one
none_beside : (a o is : RegionState) (class : Class) → fills_state a class ≡ true → fills_state o class ≡ false → 1 ≤ awaited a is → awaited o is ≡ 0
none_beside Live o is class e f h = absurd (cc)
none_beside Out o is class e f h = absurd (cc)
none_beside In o is Copy e f h = absurd (cc)
none_beside In o is Share e f h = absurd (cc)
none_beside In o is Move e f h = absurd (cc)
none_beside In o Live WeakMove e f h = refl
none_beside In o Out WeakMove e f h = refl
none_beside In Live In WeakMove e f h = refl
none_beside In Out In WeakMove e f h = refl
none_beside In In In WeakMove e f h = absurd (cc)
none_beside In Held In WeakMove e f h = refl
none_beside In o Held WeakMove e f h = absurd (omega (arith, h))
none_beside Held o is Copy e f h = absurd (cc)
none_beside Held o is Share e f h = absurd (cc)
none_beside Held o is WeakMove e f h = absurd (cc)
none_beside Held o Live Move e f h = refl
none_beside Held o Out Move e f h = refl
none_beside Held o In Move e f h = absurd (omega (arith, h))
none_beside Held Live Held Move e f h = refl
none_beside Held Out Held Move e f h = refl
none_beside Held In Held Move e f h = refl
none_beside Held Held Held Move e f h = absurd (cc)

-- what becomes of it where transfers change
change_filled : (test : Transfer → Bool) (f : Transfer → Transfer) → KeepsCall f → (ts : List Transfer) (p k : ℕ) (is : RegionState) → IsFilled ts p k is → IsFilled (change test f ts) p k is
change_filled test f call ts p k is h = record {
  one = λ o. count_change (fills o k) test f (λ t. ap (fills o k) (call t)) ts ∙ h.one o;
  own = λ o. all_change (λ (t : Transfer). fills o k t ≡ true → t.owner ≡ Some p) test f (λ t old now. ap (λ (x : Transfer). x.owner) (call t) ∙ old (sym (ap (fills o k) (call t)) ∙ now)) ts (h.own o);
}

push_filled : (u : Transfer) (ts : List Transfer) (p k : ℕ) (is : RegionState) → ((o : RegionState) → fills o k u ≡ false) → IsFilled ts p k is → IsFilled (ts ++ u ∷ []) p k is
push_filled u ts p k is none h = record {
  one = λ o. count_pushed (fills o k) ts u (none o) ∙ h.one o;
  own = λ o. All-push (λ (t : Transfer). fills o k t ≡ true → t.owner ≡ Some p) ts u (h.own o) (λ y. absurd (true≢false (sym y ∙ none o)));
}

left_filled : (n : ℕ) (u : Transfer) (ts : List Transfer) (p k : ℕ) (is : RegionState) → find (is_numbered n) ts ≡ Some u → ((o : RegionState) → fills o k u ≡ false) → IsFilled ts p k is → IsFilled (without (is_numbered n) ts) p k is
left_filled n u ts p k is e none h = record {
  one = λ o. count_left (fills o k) (is_numbered n) ts u e (none o) ∙ h.one o;
  own = λ o. all_without (λ (t : Transfer). fills o k t ≡ true → t.owner ≡ Some p) (is_numbered n) ts (h.own o);
}

-- the one that fills it is taken away
taken_filled : (n : ℕ) (u : Transfer) (ts : List Transfer) (p k : ℕ) (a is : RegionState) → find (is_numbered n) ts ≡ Some u → fills a k u ≡ true → IsFilled ts p k is → (o : RegionState) → count_by (fills o k) (without (is_numbered n) ts) ≡ 0
taken_filled n u ts p k a is e here h o =
    let some = count_taken (fills a k) (is_numbered n) ts u e here in
    let one = h.one a in
    let parts = and_parts (is_inward u.direction) (fills_state a u.class) (and_parts (is_inward u.direction && fills_state a u.class) (names k u) here).0 in
    ⊎_elim
    (λ (y : fills o k u ≡ true). let taken = count_taken (fills o k) (is_numbered n) ts u e y in omega (arith, taken, h.one o, one_at_most o is))
    (λ (no_more : fills o k u ≡ false).
    let other = false_from_ne_true (fills_state o u.class) (λ y. true≢false (sym (and_from (is_inward u.direction && fills_state o u.class) (names k u) (and_from (is_inward u.direction) (fills_state o u.class) parts.0 y) (fills_names a k u here)) ∙ no_more)) in
    count_left (fills o k) (is_numbered n) ts u e no_more ∙ h.one o ∙ none_beside a o is u.class parts.1 other (omega (arith, some, one)))
    (cases_Bool (fills o k u))

-- no transfer names it, and none or a new one fills it
free_filled : (ts : List Transfer) (p k : ℕ) (is : RegionState) → list_any (names k) ts ≡ false → ((o : RegionState) → awaited o is ≡ 0) → IsFilled ts p k is
free_filled ts p k is free none = record {
  one = λ o. count_none (fills o k) ts (none_from (fills o k) ts (λ t has. unnamed_fills o k t (none_has (names k) t ts has free))) ∙ sym (none o);
  own = λ o i d lt y. absurd (true≢false (sym (fills_names o k (get_or ts i d) y) ∙ none_has (names k) (get_or ts i d) ts (has_at ts i d lt) free));
}

new_filled : (ts : List Transfer) (u : Transfer) (p k : ℕ) (is : RegionState) → list_any (names k) ts ≡ false → u.owner ≡ Some p → ((o : RegionState) → cond (fills o k u) 1 0 ≡ awaited o is) → IsFilled (ts ++ u ∷ []) p k is
new_filled ts u p k is free owner new =
    let before = free_filled ts p k Live free (λ o. refl) in
    record {
      one = λ o. omega (arith, count_end (fills o k) ts u, before.one o, new o);
      own = λ o. All-push (λ (t : Transfer). fills o k t ≡ true → t.owner ≡ Some p) ts u (before.own o) (λ _. owner);
    }

-- a process ends, and another one has the region
module _ (q p k : ℕ) (other : (p == q) ≡ false) where
  disowned_fills : (o : RegionState) (t : Transfer) → fills o k (disowned q t) ≡ true → fills o k t ≡ true
  disowned_fills o t = cond_both (is_just t.owner q) (record t { owner = None; region = if is_move t.class then None else t.region }) t (λ (u : Transfer). fills o k u ≡ true → fills o k t ≡ true)
      (λ _ y. let both = and_parts (is_inward t.direction && fills_state o t.class) (is_just (if is_move t.class then None else t.region) k) y in and_from (is_inward t.direction && fills_state o t.class) (names k t) both.0 (region (is_move t.class) both.1))
      (λ _ y. y)
    where
      region : (b : Bool) → is_just (if b then None else t.region) k ≡ true → is_just t.region k ≡ true
      region true y = absurd (cc)
      region false y = y

  not_owned : (t : Transfer) → t.owner ≡ Some p → is_just t.owner q ≡ false
  not_owned t e = rw e other

  kept_one : (o : RegionState) (t : Transfer) → (fills o k t ≡ true → t.owner ≡ Some p) → (fills o k t ≡ true → disowned q t ≡ t)
  kept_one o t own y = rw (not_owned t (own y)) refl

  exit_filled : (ts : List Transfer) (is : RegionState) → IsFilled ts p k is → IsFilled (map (disowned q) (filter (λ t. not (is_posted_by q t)) ts)) p k is
  exit_filled ts is h =
      let stays : Transfer → Bool = λ t. not (is_posted_by q t) in
      record {
        one = λ o. count_exit (fills o k) stays (disowned q) ts (All-weaker (λ (t : Transfer). fills o k t ≡ true → t.owner ≡ Some p) (λ t. (fills o k t ≡ true → stays t ≡ true) × (fills o k (disowned q t) ≡ fills o k t)) (λ t own. (λ y. rw (not_owned t (own y)) refl, same o t own)) ts (h.own o)) ∙ h.one o;
        own = λ o. All-map (λ (t : Transfer). fills o k t ≡ true → t.owner ≡ Some p) (disowned q) (filter stays ts) (All-weaker (λ (t : Transfer). fills o k t ≡ true → t.owner ≡ Some p) (λ t. fills o k (disowned q t) ≡ true → (disowned q t).owner ≡ Some p) (λ t own y. let before = disowned_fills o t y in ap (λ (x : Transfer). x.owner) (kept_one o t own before) ∙ own before) (filter stays ts) (All-filter stays (λ (t : Transfer). fills o k t ≡ true → t.owner ≡ Some p) ts (h.own o)));
      }
    where
      same : (o : RegionState) (t : Transfer) → (fills o k t ≡ true → t.owner ≡ Some p) → fills o k (disowned q t) ≡ fills o k t
      same o t own = ⊎_elim
          (λ (y : fills o k t ≡ true). ap (fills o k) (kept_one o t own y))
          (λ (n : fills o k t ≡ false). false_from_ne_true (fills o k (disowned q t)) (λ y. true≢false (sym (disowned_fills o t y) ∙ n)) ∙ sym n)
          (cases_Bool (fills o k t))

-- the regions of a table of processes are filled
abbrev Filled : List Transfer → ℕ → Region → Type 0
Filled ts p r = IsFilled ts p r.number r.state

-- but for one number, of which only the owners are known
record Beside (ts : List Transfer) (k p : ℕ) (r : Region) : Type 0 where
  other : (r.number == k) ≡ false → Filled ts p r
  own : (o : RegionState) → All (λ (t : Transfer). fills o r.number t ≡ true → t.owner ≡ Some p) ts

all_beside : (ts : List Transfer) (k : ℕ) (ps : List (Option Process)) → Regs (Filled ts) ps → Regs (Beside ts k) ps
all_beside ts k ps h = regs_weaker (Filled ts) (Beside ts k) ps (λ p r f. record { other = λ _. f; own = f.own }) h

-- what keeps number and state
pub same_filled : (F : ℕ → Region → Type 0) (k : ℕ) (f : Region → Region) → ((p : ℕ) (r : Region) → F p r → F p (f r)) → (ps : List (Option Process)) → Regs F ps → Regs F (map (change_process (changed_in k f)) ps)
same_filled F k f so ps h = regs_map F F (changed_in k f) ps (λ p x a. all_changed (F p) (F p) k f (λ r _. so p r) (λ r _ a. a) x.regions a) h

-- a region that nothing fills any more
turned_filled : (ts : List Transfer) (k : ℕ) (g : Process → Process) (f : Region → Region) → ((x : Process) → (g x).regions ≡ map (changed k f) x.regions) → ((r : Region) → (f r).number ≡ r.number) → ((r : Region) (o : RegionState) → awaited o (f r).state ≡ 0) → ((o : RegionState) → count_by (fills o k) ts ≡ 0)
    → (ps : List (Option Process)) → Regs (Beside ts k) ps → Regs (Filled ts) (map (change_process g) ps)
turned_filled ts k g f regions number state none ps h = regs_map (Beside ts k) (Filled ts) g ps (λ p x a. subst (All (Filled ts p)) (sym (regions x)) (all_changed (Beside ts k p) (Filled ts p) k f
    (λ r y b. subst (λ n. IsFilled ts p n (f r).state) (sym (number r)) (record { one = λ o. ap (λ n. count_by (fills o n) ts) (eqb-true r.number k y) ∙ none o ∙ sym (state r o); own = b.own }))
    (λ r n b. b.other n) x.regions a)) h

removed_filled : (ts : List Transfer) (k : ℕ) (ps : List (Option Process)) → Regs (Beside ts k) ps → Regs (Filled ts) (map (change_process (without_region k)) ps)
removed_filled ts k ps h = regs_map (Beside ts k) (Filled ts) (without_region k) ps (λ p x a. all_kept (Beside ts k p) (Filled ts p) (λ r. not (is_region k r)) (λ r keep b. b.other (not-true (r.number == k) keep)) x.regions a) h

-- one more region
added_filled : (ts : List Transfer) (s : State) (p : ℕ) (r : Region) → Filled ts p r → Regs (Filled ts) s.processes → Regs (Filled ts) (add_region s p r).processes
added_filled ts s p r here h = regs_set (Filled ts) s.processes p (change_process (with_region r) (entry s.processes p)) (each (entry s.processes p) (h p)) h
  where
    each : (o : Option Process) → All (Filled ts p) (regions_of o) → All (Filled ts p) (regions_of (change_process (with_region r) o))
    each None a = a
    each (Some x) a = all_added extent_of (Filled ts p) r x.regions here a

abbrev AreFilled : State → Type 0
AreFilled s = Regs (Filled s.transfers) s.processes

-- the processes are others
with_transfers : (ts us : List Transfer) (ps : List (Option Process)) → ((p k : ℕ) (is : RegionState) → IsFilled ts p k is → IsFilled us p k is) → Regs (Filled ts) ps → Regs (Filled us) ps
with_transfers ts us ps so h = regs_weaker (Filled ts) (Filled us) ps (λ p r f. so p r.number r.state f) h

pub stored_filled : (F : ℕ → Region → Type 0) → ((p : ℕ) (x : ℕ) (new : List ℕ) (r : Region) → F p r → F p (with_bytes x new r)) → (s : State) (k x : ℕ) (new : List ℕ) → Regs F s.processes → Regs F (put s k x new).processes
stored_filled F so s k x new h = same_filled F k (with_bytes x new) (λ p r. so p x new r) s.processes h

put_filled : (s : State) (k x : ℕ) (new : List ℕ) → AreFilled s → AreFilled (put s k x new)
put_filled s k x new h = stored_filled (Filled s.transfers) (λ p y b r f. f) s k x new h

-- the transfer that ends
module _ (s : State) (o : IsOrderly s) (h : AreFilled s) (n : ℕ) (u : Transfer) (is : pending s n ≡ Some u) where
  abbrev left : List Transfer
  left = without (is_numbered n) s.transfers

  -- it fills nothing
  quiet_left : ((a : RegionState) (k : ℕ) → fills a k u ≡ false) → AreFilled (without_transfer s n)
  quiet_left none = with_transfers s.transfers left s.processes (λ p k a f. left_filled n u s.transfers p k a is (λ b. none b k) f) h

  -- it fills a region that isn't there, or whose process is another one
  gone_left : ((p : ℕ) (r : Region) → Has r (regions_at s p) → (a : RegionState) → fills a r.number u ≡ false) → AreFilled (without_transfer s n)
  gone_left none p i d lt = let r = get_or (regions_at s p) i d in left_filled n u s.transfers p r.number r.state is (none p r (has_at (regions_at s p) i d lt)) (h p i d lt)

  found : (r : Region) → Has r (all_of s.processes) → (named : Option ℕ) → is_just named r.number ≡ true → option_and_then (region_numbered s) named ≡ Some r
  found r there None e = absurd (cc)
  found r there (Some k) e = found_at s o.numbers r there k (sym (eqb-true k r.number e))

  lost_left : region_of s u ≡ None → AreFilled (without_transfer s n)
  lost_left none = gone_left (λ p r has a. unnamed_fills a r.number u (false_from_ne_true (names r.number u) (λ y. let both : Some r ≡ None = sym (found r (has_region s p r has) u.region y) ∙ none in absurd (cc))))

  unowned_left : u.owner ≡ None → AreFilled (without_transfer s n)
  unowned_left none = gone_left (λ p r has a. false_from_ne_true (fills a r.number u) (λ y.
      let f = all_has (Filled s.transfers p) (regions_at s p) (h p) r has in
      let owner = all_has (λ (t : Transfer). fills a r.number t ≡ true → t.owner ≡ Some p) s.transfers (f.own a) u (find_has (is_numbered n) s.transfers u is).0 y in
      let both : None ≡ Some p = sym none ∙ owner in absurd (cc)))

  -- it fills this region, which nothing fills then
  module _ (r : Region) (there : region_of s u ≡ Some r) (a : RegionState) (inward : is_inward u.direction ≡ true) (class : fills_state a u.class ≡ true) where
    left_beside : Regs (Beside left r.number) s.processes
    left_beside p i d lt =
        let x = get_or (regions_at s p) i d in
        let f = h p i d lt in
        let named = (named_region s u.region r there).1 in
        record {
          other = λ beside. left_filled n u s.transfers p x.number x.state is (λ b. unnamed_fills b x.number u (false_from_ne_true (names x.number u) (λ y. true≢false (sym (same_named x.number r.number u.region y named) ∙ beside)))) f;
          own = λ b. all_without (λ (t : Transfer). fills b x.number t ≡ true → t.owner ≡ Some p) (is_numbered n) s.transfers (f.own b);
        }
      where
        same_named : (k j : ℕ) (named : Option ℕ) → is_just named k ≡ true → is_just named j ≡ true → (k == j) ≡ true
        same_named k j None y z = absurd (cc)
        same_named k j (Some m) y z = eq-eqb k j (sym (eqb-true m k y) ∙ eqb-true m j z)

    none_left : (b : RegionState) → count_by (fills b r.number) left ≡ 0
    none_left b =
        let named = named_region s u.region r there in
        let at = place_of_region s.processes r named.0 in
        taken_filled n u s.transfers at.0 r.number a r.state is (and_from (is_inward u.direction && fills_state a u.class) (names r.number u) (and_from (is_inward u.direction) (fills_state a u.class) inward class) named.1) (all_has (Filled s.transfers at.0) (regions_at s at.0) (h at.0) r at.1) b

    put_beside : (t : State) (k x : ℕ) (new : List ℕ) → Regs (Beside left r.number) t.processes → Regs (Beside left r.number) (put t k x new).processes
    put_beside t k x new b = stored_filled (Beside left r.number) (λ p y c q e. record { other = e.other; own = e.own }) t k x new b

  -- the end of the transfer
  finish_filled : AreFilled (finish_found s n (Some u)).0
  finish_filled = owner u.owner refl
    where
      rest : State
      rest = without_transfer s n

      copies : u.class ≡ Copy → (x : Option Region) → AreFilled (finish_copy rest u x).0
      copies e None = quiet_left (λ b k. class_fills b k u (ap (fills_state b) e ∙ no_copy b))
      copies e (Some r) = put_filled rest r.number _ u.payload (quiet_left (λ b k. class_fills b k u (ap (fills_state b) e ∙ no_copy b)))

      shares : u.class ≡ Share → (x : Option Region) → AreFilled (finish_share rest u x).0
      shares e None = quiet_left (λ b k. class_fills b k u (ap (fills_state b) e ∙ no_share b))
      shares e (Some r) = let q = quiet_left (λ b k. class_fills b k u (ap (fills_state b) e ∙ no_share b)) in cond_both (is_early_at rest u.device) rest (put rest r.number u.offset u.payload) AreFilled (λ _. q) (λ _. put_filled rest r.number u.offset u.payload q)

      moves : is_inward u.direction ≡ true → u.class ≡ Move → (x : Option Region) → region_of s u ≡ x → AreFilled (finish_move rest u x).0
      moves i e None f = lost_left f
      moves i e (Some r) f = turned_filled left r.number (changed_in r.number (filled u.payload)) (filled u.payload) (λ x. refl) (λ x. refl) (λ x b. refl) (none_left r f Held i (rw e refl)) s.processes (left_beside r f Held i (rw e refl))

      weak_moves : is_inward u.direction ≡ true → u.class ≡ WeakMove → (x : Option Region) → region_of s u ≡ x → AreFilled (finish_weak_move rest u x).0
      weak_moves i e None f = lost_left f
      weak_moves i e (Some r) f =
          let none = none_left r f In i (rw e refl) in
          let beside = left_beside r f In i (rw e refl) in
          cond_both (is_early_at rest u.device) rest (put rest r.number u.offset u.payload) (λ (t : State). AreFilled (change_region t r.number (with_state Live)))
          (λ _. turned_filled left r.number (changed_in r.number (with_state Live)) (with_state Live) (λ x. refl) (λ x. refl) (λ x b. refl) none s.processes beside)
          (λ _. turned_filled left r.number (changed_in r.number (with_state Live)) (with_state Live) (λ x. refl) (λ x. refl) (λ x b. refl) none (put rest r.number u.offset u.payload).processes (put_beside r f In i (rw e refl) rest r.number u.offset u.payload beside))

      inputs : (q : ℕ) → is_inward u.direction ≡ true → (class : Class) → u.class ≡ class → AreFilled (finish_input rest q u class).0
      inputs q i Copy e = copies e (write_reach_of rest q (address_or_zero u.addr) u.len)
      inputs q i Share e = shares e (region_of rest u)
      inputs q i Move e = moves i e (region_of s u) refl
      inputs q i WeakMove e = weak_moves i e (region_of s u) refl

      owned : (q : ℕ) (direction : Direction) → u.direction ≡ direction → AreFilled (finish_owned rest q u direction).0
      owned q Outward e = quiet_left (λ b k. outward_fills b k u (rw e refl))
      owned q Inward e = inputs q (rw e refl) u.class refl

      owner : (x : Option ℕ) → u.owner ≡ x → AreFilled (finish_for rest u x).0
      owner None e = unowned_left e
      owner (Some q) e = owned q u.direction refl

  -- it is given up
  cancel_filled : is_inward u.direction ≡ true → AreFilled (cancel_found s n (Some u)).0
  cancel_filled i = given_up u.class refl (region_of s u) refl
    where
      rest : State
      rest = without_transfer s n

      given_up : (class : Class) → u.class ≡ class → (x : Option Region) → region_of s u ≡ x → AreFilled (give_up rest class x)
      given_up Copy e None f = lost_left f
      given_up Share e None f = lost_left f
      given_up Move e None f = lost_left f
      given_up WeakMove e None f = lost_left f
      given_up Copy e (Some r) f = quiet_left (λ b k. class_fills b k u (ap (fills_state b) e ∙ no_copy b))
      given_up Share e (Some r) f = quiet_left (λ b k. class_fills b k u (ap (fills_state b) e ∙ no_share b))
      given_up Move e (Some r) f = removed_filled left r.number s.processes (left_beside r f Held i (rw e refl))
      given_up WeakMove e (Some r) f = turned_filled left r.number (moved_out_of r.number) (with_state Out) (moved_out_regions r.number) (λ x. refl) (λ x b. refl) (none_left r f In i (rw e refl)) s.processes (left_beside r f In i (rw e refl))

-- the events
live_move : (o : Option Region) → may_move o ≡ true → (r : Region) → o ≡ Some r → r.state ≡ Live
live_move None e r is = absurd (cc)
live_move (Some x) e r is = let same : x ≡ r = cc in ap (λ (y : Region). y.state) (sym same) ∙ live x.state (and_parts (is_sys x.area) (is_live x.state) e).1
  where
    live : (state : RegionState) → is_live state ≡ true → state ≡ Live
    live Live y = refl
    live Out y = absurd (cc)
    live In y = absurd (cc)
    live Held y = absurd (cc)

module _ (s : State) (o : IsOrderly s) (h : AreFilled s) where
  free_number : IsFree s (fresh s)
  free_number = fresh_free s (few_numbers s o)

  unnamed : list_any (names (fresh s)) s.transfers ≡ false
  unnamed = free_unnamed s s.transfers (fresh s) free_number (orderly_stand s o).each

  new_live : (p : ℕ) (r : Region) → r.number ≡ fresh s → r.state ≡ Live → AreFilled (add_region s p r)
  new_live p r number state = added_filled s.transfers s p r (rw (number, state) (free_filled s.transfers p (fresh s) Live unnamed (λ b. refl))) h

  removed_found : (x : Option Region) → AreFilled (remove_found s x)
  removed_found None = h
  removed_found (Some r) = removed_filled s.transfers r.number s.processes (all_beside s.transfers r.number s.processes h)

  protected_found : (x : Option Region) (writable : Bool) → AreFilled (protect_found s x writable)
  protected_found None writable = h
  protected_found (Some r) writable = same_filled (Filled s.transfers) r.number (with_mode writable) (λ p q f. f) s.processes h

  stored_found : (x : Option Region) (a : ℕ) (bytes : List ℕ) → AreFilled (stored s x a bytes)
  stored_found None a bytes = h
  stored_found (Some r) a bytes = put_filled s r.number (place_in s r a) bytes h

  exited : (q : ℕ) → AreFilled (exit s q).0
  exited q p = ⊎_elim
      (λ (y : (p == q) ≡ true). subst (λ (x : Option Process). All (Filled after p) (regions_of x)) (sym (subst (λ i. entry (slice_set s.processes q None) i ≡ None) (sym (eqb-true p q y)) (none_set s.processes q))) (All-nil (Filled after p)))
      (λ (other : (p == q) ≡ false). entry_set (λ (x : Option Process). All (Filled after p) (regions_of x)) s.processes q p None (All-weaker (Filled s.transfers p) (Filled after p) (λ r f. exit_filled q p r.number other s.transfers r.state f) (regions_at s p) (h p)) (λ same. All-nil (Filled after p)))
      (cases_Bool (p == q))
    where
      after : List Transfer
      after = map (disowned q) (filter (λ t. not (is_posted_by q t)) s.transfers)

      none_set : (ps : List (Option Process)) (i : ℕ) → entry (slice_set ps i None) i ≡ None
      none_set [] i = refl
      none_set (x ∷ ps) zero = refl
      none_set (x ∷ ps) (suc i) = none_set ps i

  pushed : (u : Transfer) → ((b : RegionState) (k : ℕ) → fills b k u ≡ false) → AreFilled (add_transfer s u)
  pushed u none = with_transfers s.transfers (s.transfers ++ u ∷ []) s.processes (λ p k is f. push_filled u s.transfers p k is (λ b. none b k) f) h

  -- an output leaves its buffer, or a move's region goes, or a weak move's is Out
  output_filled : (p : ℕ) (class : Class) (to : Address) (a n : ℕ) (reached : Option Region) → ((r : Region) → reached ≡ Some r → class ≡ WeakMove → (r.state ≡ Live) × Has r (all_of s.processes)) → AreFilled (give_up (add_transfer s (output_of s p class to a n reached)) class reached)
  output_filled p class to a n reached live = given_up class reached refl refl
    where
      u : Transfer
      u = output_of s p class to a n reached

      t : State
      t = add_transfer s u

      all : AreFilled t
      all = pushed u (λ b k. outward_fills b k u refl)

      given_up : (c : Class) (x : Option Region) → class ≡ c → reached ≡ x → AreFilled (give_up t c x)
      given_up c None e f = all
      given_up Copy (Some r) e f = all
      given_up Share (Some r) e f = all
      given_up Move (Some r) e f = removed_filled t.transfers r.number t.processes (all_beside t.transfers r.number t.processes all)
      given_up WeakMove (Some r) e f =
          let is = live r f e in
          let at = place_of_region s.processes r is.1 in
          let full = all_has (Filled t.transfers at.0) (regions_at s at.0) (all at.0) r at.1 in
          turned_filled t.transfers r.number (moved_out_of r.number) (with_state Out) (moved_out_regions r.number) (λ x. refl) (λ x b. refl) (λ b. full.one b ∙ ap (awaited b) is.0) t.processes (all_beside t.transfers r.number t.processes all)

  -- an input into a region that it makes
  made_filled : (p : ℕ) (is : RegionState) (u : Transfer) → u.region ≡ Some (fresh s) → u.owner ≡ Some p → ((b : RegionState) → cond (fills b (fresh s) u) 1 0 ≡ awaited b is) → (n : ℕ) → AreFilled (add_transfer (add_region s p (zeros_at_place s is p n)) u)
  made_filled p is u named owner new n =
      let ts : List Transfer = s.transfers ++ u ∷ [] in
      added_filled ts s p (zeros_at_place s is p n) (new_filled s.transfers u p (fresh s) is unnamed owner new)
      (λ q i d lt. let r = get_or (regions_at s q) i d in push_filled u s.transfers q r.number r.state (λ b. unnamed_fills b r.number u (ap (λ x. is_just x r.number) named ∙ other r (has_region s q r (has_at (regions_at s q) i d lt)))) (h q i d lt))
    where
      other : (r : Region) → Has r (all_of s.processes) → (fresh s == r.number) ≡ false
      other r has = swap_test r.number (fresh s) (none_has (is_region (fresh s)) r (all_of s.processes) has free_number.regions)

  -- into one of the weak queue
  reused_filled : (p k n : ℕ) (u : Transfer) → is_reusable s p n k ≡ true → u.region ≡ Some k → u.owner ≡ Some p → ((b : RegionState) → cond (fills b k u) 1 0 ≡ awaited b In) → AreFilled (add_transfer (moved_in s k) u)
  reused_filled p k n u reusable named owner new =
      let ts : List Transfer = s.transfers ++ u ∷ [] in
      let parts = and_parts (list_any (has_pages k n) (regions_at s p)) (not (list_any (names k) s.transfers)) reusable in
      let free = not-true (list_any (names k) s.transfers) parts.1 in
      let some = any_has (has_pages k n) (regions_at s p) parts.0 in
      let number = eqb-true some.0.number k (and_parts (is_region k some.0) (some.0.pages == n) some.2).0 in
      let differ_all = pairs_left (λ (a b : ℕ). a ≢ b) (numbers_in (all_of s.processes)) (orphan_numbers s.orphans) (differ s o.numbers) in
      regs_map (λ q r. Filled s.transfers q r × Has r (regions_at s q)) (Filled ts) (moved_in_of k) s.processes
      (λ q x a. all_changed (λ r. Filled s.transfers q r × Has r (regions_at s q)) (Filled ts q) k (with_state In)
      (λ r y f.
      let is = eqb-true r.number k y in
      let place = same_place s.processes differ_all p q some.0 r some.1 f.1 (number ∙ sym is) in
      subst (λ m. IsFilled ts q m In) (sym is) (subst (λ i. IsFilled ts i k In) place (new_filled s.transfers u p k In free owner new)))
      (λ r other f. push_filled u s.transfers q r.number r.state (λ b. unnamed_fills b r.number u (ap (λ x. is_just x r.number) named ∙ swap_test r.number k other)) f.0) x.regions a)
      (λ q i d lt. (h q i d lt, has_at (regions_at s q) i d lt))

  input_filled : (p : ℕ) (class : Class) (to : Address) (a : Option ℕ) (n : ℕ) → AreFilled (add_transfer (with_buffer s p class n) (posted s p class to a n))
  input_filled p Copy to a n = pushed (posted s p Copy to a n) (λ b k. class_fills b k (posted s p Copy to a n) (no_copy b))
  input_filled p Share to a n = pushed (posted s p Share to a n) (λ b k. class_fills b k (posted s p Share to a n) (no_share b))
  input_filled p Move to a n = made_filled p Held (posted s p Move to a n) refl refl new (pages_for s n)
    where
      new : (b : RegionState) → cond (fills b (fresh s) (posted s p Move to a n)) 1 0 ≡ awaited b Held
      new Live = refl
      new Out = refl
      new In = refl
      new Held = ap as_one (eq-eqb (fresh s) (fresh s) refl)
  input_filled p WeakMove to a n = weak (reusable s p (pages_for s n)) refl
    where
      u : Option ℕ → Transfer
      u found = input_of s p WeakMove to n None (number_or_fresh s found) 0

      new : (k : ℕ) (found : Option ℕ) → number_or_fresh s found ≡ Some k → (b : RegionState) → cond (fills b k (u found)) 1 0 ≡ awaited b In
      new k found e Live = refl
      new k found e Out = refl
      new k found e In = ap (λ x. cond (is_just x k) 1 0) e ∙ ap as_one (eq-eqb k k refl)
      new k found e Held = refl

      weak : (found : Option ℕ) → reusable s p (pages_for s n) ≡ found → AreFilled (add_transfer (weak_buffer s p n found) (u found))
      weak None e = made_filled p In (u None) refl refl (new (fresh s) None refl) (pages_for s n)
      weak (Some k) e = reused_filled p k (pages_for s n) (u (Some k)) (find_has (is_reusable s p (pages_for s n)) (queue_of (entry s.processes p)) k e).1 refl refl (new k (Some k) refl)

  sent : (d n : ℕ) (x : Option Transfer) → AreFilled (send_next s d n x).0
  sent d n None = h
  sent d n (Some t) = choice AreFilled (must_stage s d t) _ _
      (with_transfers s.transfers _ s.processes (λ p k is f. change_filled (waits_for d) _ (λ u. refl) s.transfers p k is f) h)
      (with_transfers s.transfers _ s.processes (λ p k is f. change_filled (waits_for d) (after_sending (send_count n t)) (sending_call _) s.transfers p k is f) h)

  received : (d n : ℕ) → AreFilled (recv s d n).0
  received d n = recv_keeps AreFilled (λ t e v g. g) (λ t k f call g. with_transfers t.transfers _ t.processes (λ p i is x. change_filled (is_numbered k) f call t.transfers p i is x) g) put_filled s d n h

-- copies
copies_filled : (s : State) (q : ℕ) (regions : List Region) → length (numbers s) + length regions ≤ 576 → Stands s → AreFilled s → AreFilled (add_copies s q regions)
copies_filled s q [] few stand h = h
copies_filled s q (r ∷ regions) few stand h =
    let c : Region = copy_of s r in
    let t : State = add_region s q c in
    let free = fresh_free s (omega (arith, few)) in
    copies_filled t q regions (omega (arith, few, added_length s q c)) (add_stands s s.transfers stand q c free)
    (added_filled s.transfers s q c (free_filled s.transfers q (fresh s) Live (free_unnamed s s.transfers (fresh s) free stand.each) (λ b. refl)) h)

fork_filled : (s : State) (p q : ℕ) → IsOrderly s → (q < 16) × (entry s.processes q ≡ None) → AreFilled s → AreFilled (fork s p q).0
fork_filled s p q o may h =
    let less = no_longer (numbers (spawned s q)) (numbers s) (spawned_times s q) in
    let room = few_numbers_beside s q o may.0 may.1 in
    copies_filled (spawned s q) q (accessible (regions_at s p)) (omega (arith, room, less, accessible_few s p o.regions)) (spawn_stands s q may.1 (orderly_stand s o))
    (regs_set (Filled s.transfers) s.processes q (Some (record { queue = []; regions = [] })) (All-nil (Filled s.transfers q)) h)

-- what an output reaches
pub reached_live : (s : State) (p : ℕ) (class : Class) (a n : ℕ) → (class ≡ WeakMove → may_move (reach_of s p a n) ≡ true) → (r : Region) → reach_of s p a n ≡ Some r → class ≡ WeakMove → (r.state ≡ Live) × Has r (all_of s.processes)
reached_live s p class a n may r e c = (live_move (reach_of s p a n) (may c) r e, has_region s p r (find_has (λ (x : Region). is_reached s.config.page a n (extent_of x)) (regions_at s p) r e).0)

pub moves_weakly : (s : State) (p : ℕ) (class : Class) (a n : ℕ) → (is_system class && not (may_move (reach_of s p a n))) ≡ false → class ≡ WeakMove → may_move (reach_of s p a n) ≡ true
moves_weakly s p class a n f e = not-false (may_move (reach_of s p a n)) (rw e at f)

perform_filled : (s : State) (e : Event) → IsOrderly s → refuse s e ≡ None → AreFilled s → AreFilled (perform s e).0
perform_filled s (Spawn p) o none h = regs_set (Filled s.transfers) s.processes p (Some (record { queue = []; regions = [] })) (All-nil (Filled s.transfers p)) h
perform_filled s (Fork p q) o none h = fork_filled s p q o (allowed s (Fork p q) none) h
perform_filled s (Exit p) o none h = exited s o h p
perform_filled s (Map p g n) o none h = new_live s o h p (zeros s App Live g n) refl refl
perform_filled s (Alloc p n) o none h = new_live s o h p (zeros_at_place s Live p n) refl refl
perform_filled s (Unmap p g) o none h = removed_found s o h (region_from s p g)
perform_filled s (Protect p g writable) o none h = protected_found s o h (region_from s p g) writable
perform_filled s (Read p a n) o none h = h
perform_filled s (Write p a bytes) o none h = stored_found s o h (reach_of s p a (length bytes)) a bytes
perform_filled s (Output p sem d port flow a n) o none h = output_filled s o h p (class_of sem) (record { device = d; port = port; flow = flow }) a n (reach_of s p a n)
    (reached_live s p (class_of sem) a n (moves_weakly s p (class_of sem) a n (none_holds (causes s (Output p sem d port flow a n)) none 4 (true, Proc) (omega arith))))
perform_filled s (Input p sem d port flow a n) o none h = input_filled s o h p (class_of sem) (record { device = d; port = port; flow = flow }) a n
perform_filled s (Send d n) o none h = sent s o h d n (first_queued s d)
perform_filled s (Recv d n) o none h = received s o h d n
perform_filled s (Finish k) o none h = finished (pending s k) refl
  where
    finished : (x : Option Transfer) → pending s k ≡ x → AreFilled (finish_found s k x).0
    finished None e = h
    finished (Some u) e = finish_filled s o h k u e
perform_filled s (Cancel k) o none h = cancelled (pending s k) refl (allowed s (Cancel k) none)
  where
    cancelled : (x : Option Transfer) → pending s k ≡ x → may_cancel x ≡ true → AreFilled (cancel_found s k x).0
    cancelled None e may = h
    cancelled (Some u) e may = cancel_filled s o h k u e (all_has (λ (t : Transfer). is_posted t.phase ≡ true → is_inward t.direction ≡ true) s.transfers o.posted u (find_has (is_numbered k) s.transfers u e).0 may)
perform_filled s (Pageout n) o none h = h

accept_filled : (s : State) (e : Event) → IsOrderly s → refuse s e ≡ None → AreFilled (accept s e).0
accept_filled s e o none = perform_filled s e o none o.filled

budget_filled : (s : State) (e : Event) (k : ℕ) → IsOrderly s → refuse s e ≡ None → AreFilled (accept s (with_budget e k)).0
budget_filled s (Send d n) k o none = sent s o o.filled d k (first_queued s d)
budget_filled s (Recv d n) k o none = received s o o.filled d k
budget_filled s e k o none = accept_filled s e o none

pub buffers_are_filled : Stays BuffersAreFilled
buffers_are_filled s e m whole o = event_so BuffersAreFilled s o.filled e (λ none. accept_filled s e o none) (λ none k. budget_filled s e k o none) m
