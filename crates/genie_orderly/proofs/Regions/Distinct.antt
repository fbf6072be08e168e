-- No two regions or orphans have the same number after a step, and none has one of 577 or more.
use Rattle.std.proofs.Common.{◌≡◌, ℕ, ◌≤◌, Bool, true, false, nat_lt, length, refl, sym, ap, subst, ⊎_elim, lt-ltb, le-ltb, arith}
use Rattle.std.specs.Prelude.{Option, Some, None}
use Rattle.std.proofs.lemmas.Bool.{cases_lt}
use Rattle.genie_base.specs.declared.reply.Mark.{Mark}
use Rattle.genie_base.specs.Transfers.{class_of}
use Rattle.genie_base.specs.declared.event.Event.{Event}
use Rattle.genie_base.specs.declared.event.Event.TheVariants.{Spawn, Fork, Map, Alloc, Input, Send, Recv}
use Rattle.genie_base.specs.declared.region.RegionState.TheVariants.{Live}
use Rattle.genie_base.specs.declared.semantics.Class.{Class}
use Rattle.genie_base.specs.declared.semantics.Class.TheVariants.{Copy, Share, Move, WeakMove}
use Rattle.genie_orderly.specs.Steps.{Stays}
use Rattle.genie_orderly.specs.Orderly.{IsOrderly, NumbersDiffer, NumbersAreBelow, numbers}
use Rattle.genie_model.specs.Refusing.{refuse}
use Rattle.genie_model.specs.State.{State}
use Rattle.genie_model.specs.Regions.{regions_at, change_region, with_mode, with_state, put}
use Rattle.genie_model.specs.Space.{exit, remove, spawned, accessible, fork, zeros, zeros_at_place}
use Rattle.genie_model.specs.Outputs.{moved_out}
use Rattle.genie_model.specs.Inputs.{moved_in, with_buffer, weak_buffer, reusable, pages_for}
use Rattle.genie_model.specs.Ending.{filled}
use Rattle.genie_model.specs.Step.{accept, perform, with_budget, step}
use Rattle.genie_orderly.specs.Lemmas.AcceptedEvents.{fork_accepted}
use Rattle.genie_orderly.specs.Lemmas.RegionNumbers.{one, times, none_above, all_below, fresh_below, once_each, differ_from_once, few_numbers, few_numbers_beside, fresh_unused, no_longer}
use Rattle.genie_orderly.proofs.Regions.Numbers.{Once, added_once, copies_once, spawned_times, change_kept, out_kept, in_kept, put_kept, tidy_once, removed_times, exited_times}
use Rattle.genie_model.specs.Lemmas.Steps.{event_so}
use Rattle.genie_orderly.proofs.Regions.Copied.{accessible_few}
use Rattle.genie_orderly.proofs.Runs.Events.{IsKept, event_kept}

same_once : (s t : State) → numbers t ≡ numbers s → Once s → Once t
same_once s t same most = subst (λ l. (k : ℕ) → times k l ≤ one (nat_lt k 577)) (sym same) most

fewer_once : (s t : State) → ((k : ℕ) → times k (numbers t) ≤ times k (numbers s)) → Once s → Once t
fewer_once s t fewer most k = omega (arith, fewer k, most k)

once_kept : IsKept Once
once_kept = record {
  exit = λ s p most. fewer_once s (exit s p).0 (exited_times s p) most;
  remove = λ s r there most. fewer_once s (remove s r) (removed_times s r there) most;
  mode = λ s k writable most. same_once s (change_region s k (with_mode writable)) (change_kept s k (with_mode writable) (λ r. refl)) most;
  bytes = λ s k x new most. same_once s (put s k x new) (put_kept s k x new) most;
  out = λ s k most. same_once s (moved_out s k) (out_kept s k) most;
  fill = λ s k new most. same_once s (change_region s k (filled new)) (change_kept s k (filled new) (λ r. refl)) most;
  live = λ s k most. same_once s (change_region s k (with_state Live)) (change_kept s k (with_state Live) (λ r. refl)) most;
  rest = λ s transfers devices next most. most;
}

weak_once : (s : State) (p n : ℕ) (o : Option ℕ) → length (numbers s) ≤ 576 → Once s → Once (weak_buffer s p n o)
weak_once s p n None few most = added_once s p (zeros_at_place s _ p (pages_for s n)) most (fresh_unused s few) (fresh_below s few)
weak_once s p n (Some k) few most = same_once s (moved_in s k) (in_kept s k) most

input_once : (s : State) (p : ℕ) (class : Class) (n : ℕ) → length (numbers s) ≤ 576 → Once s → Once (with_buffer s p class n)
input_once s p Copy n few most = most
input_once s p Share n few most = most
input_once s p Move n few most = added_once s p (zeros_at_place s _ p (pages_for s n)) most (fresh_unused s few) (fresh_below s few)
input_once s p WeakMove n few most = weak_once s p n (reusable s p (pages_for s n)) few most

fork_once : (s : State) (p q : ℕ) → IsOrderly s → refuse s (Fork p q) ≡ None → Once s → Once (fork s p q).0
fork_once s p q o accepted most =
    let new = fork_accepted s p q accepted in
    let place = new.place in
    let room = few_numbers_beside s q o (omega arith) new.free in
    let less = no_longer (numbers (spawned s q)) (numbers s) (spawned_times s q) in
    copies_once (spawned s q) q (accessible (regions_at s p)) (omega (arith, room, accessible_few s p o.regions, less)) (fewer_once s (spawned s q) (spawned_times s q) most)

perform_once : (s : State) (e : Event) → IsOrderly s → refuse s e ≡ None → Once s → Once (perform s e).0
perform_once s (Spawn p) o h most = fewer_once s (spawned s p) (spawned_times s p) most
perform_once s (Fork p q) o h most = fork_once s p q o h most
perform_once s (Map p g n) o h most = added_once s p (zeros s _ _ g n) most (fresh_unused s (few_numbers s o)) (fresh_below s (few_numbers s o))
perform_once s (Alloc p n) o h most = added_once s p (zeros_at_place s _ p n) most (fresh_unused s (few_numbers s o)) (fresh_below s (few_numbers s o))
perform_once s (Input p sem d port flow a n) o h most = input_once s p (class_of sem) n (few_numbers s o) most
perform_once s e o h most = event_kept Once once_kept s e refl most

budget_once : (s : State) (e : Event) (k : ℕ) → IsOrderly s → refuse s e ≡ None → Once s → Once (perform s (with_budget e k)).0
budget_once s (Send d n) k o h most = event_kept Once once_kept s (Send d k) refl most
budget_once s (Recv d n) k o h most = event_kept Once once_kept s (Recv d k) refl most
budget_once s e k o h most = perform_once s e o h most

accept_once : (s : State) (e : Event) → IsOrderly s → refuse s e ≡ None → Once s → Once (accept s e).0
accept_once s e o h most = tidy_once (perform s e).0 (perform_once s e o h most)

begins : (s : State) → IsOrderly s → Once s
begins s o k =
    let most = once_each (numbers s) o.numbers k in
    ⊎_elim (λ low. omega (arith, most, ap one (lt-ltb k 577 low))) (λ high. let none = none_above k (numbers s) o.below high in omega (arith, none)) (cases_lt k 577)

stepped : (s : State) (e : Event) (m : Mark) → IsOrderly s → Once (step s e m).0
stepped s e m o = event_so Once s (begins s o) e (λ none. accept_once s e o none (begins s o)) (λ none k. tidy_once (perform s (with_budget e k)).0 (budget_once s e k o none (begins s o))) m

one_most : (b : Bool) → one b ≤ 1
one_most true = omega arith
one_most false = omega arith

pub numbers_differ : Stays NumbersDiffer
numbers_differ s e m whole o = differ_from_once (numbers (step s e m).0) (λ k. let most = stepped s e m o k in omega (arith, most, one_most (nat_lt k 577)))

pub numbers_are_below : Stays NumbersAreBelow
numbers_are_below s e m whole o = all_below (numbers (step s e m).0) (λ k high. let most = stepped s e m o k in omega (arith, most, ap one (le-ltb k 577 high)))
