-- One transfer at another point of its work: what devices do for which transfer.
use Rattle.std.proofs.Common.{◌≡◌, ◌≢◌, ℕ, ◌<◌, ◌≤◌, zero, suc, Bool, true, false, not, cond, List, [], ◌∷◌, refl, sym, ap, subst, arith, rules, ◌∙◌, ⊎_elim, map, filter, get_or}
use Rattle.std.specs.Prelude.{Option, Some, None, All, AllPairs, IfSome, find, count_by, ◌&&◌, ◌==◌}
use Rattle.std.proofs.lemmas.Bool.{cases_eq}
use Rattle.genie_demux.specs.Posted as demux
use Rattle.genie_demux.specs.declared.input.Input.{Input}
use Rattle.genie_device.specs.Device.{DeviceView}
use Rattle.genie_device.specs.declared.present.Present.{Present}
use Rattle.genie_input.specs.Pools.{PoolState}
use Rattle.genie_model.specs.Pending.{is_posted, is_queued, is_moving, is_just}
use Rattle.genie_model.specs.Lemmas.Lists.{Has, has_at}
use Rattle.genie_model.specs.Tables.{entry, without}
use Rattle.genie_kernel.specs.declared.transfer.Transfer.{Transfer}
use Rattle.genie_kernel.specs.Calls.{has_number, first_waiting, receiver, waits_for, receives_from, has_arrived}
use Rattle.genie_kernel.specs.Matching.{ArePosted, AreSending, AreReceiving, HaveArrived, IsSending, IsStored, posted_as, is_posted_call, has_waiting, has_buffer, room_in}
use Rattle.genie_kernel.specs.Lemmas.Turning.{find_changed, sum_changed, some_changed}
use Rattle.genie_kernel.specs.Lemmas.Removing.{posted_left}
use Rattle.genie_kernel.specs.Lemmas.Staying.{at_least}
use Rattle.genie_changes.specs.Working.{Work, at_work, worked, OthersStay, GetsBuffer}
use Rattle.genie_changes.proofs.Lists.{all_cons, all_changed}
use Rattle.genie_changes.proofs.Matching.{IsUnstored, HasBufferIfArrived, IsInBuffer, one_if, some_one, no_buffer}

pub posted_worked : (p : Transfer → Bool) (w : Work) (t : Transfer) (ts : List Transfer) (posted : List Input) → find p ts ≡ Some t → is_posted t.phase ≡ false → is_posted w.phase ≡ false → ArePosted posted ts → ArePosted posted (worked p w ts)
posted_worked p w t ts posted found was is h = record {
  listed = h.listed ∙ sym (some_changed p (at_work w) t is_posted_call posted_as (is ∙ sym was) refl ts found);
  unstored = all_changed IsUnstored p (at_work w) (λ u. λ e. let clash : false ≡ true = sym is ∙ e in cc) ts h.unstored;
}

-- the one that is posted no more is as if it were gone
taken_listed : (n : ℕ) (w : Work) (ts : List Transfer) → is_posted w.phase ≡ false → map posted_as (filter is_posted_call (worked (has_number n) w ts)) ≡ map posted_as (filter is_posted_call (without (has_number n) ts))
taken_listed n w [] e = refl
taken_listed n w (t ∷ ts) e = elim (has_number n t) as (λ b. map posted_as (filter is_posted_call (cond b (at_work w t ∷ ts) (t ∷ worked (has_number n) w ts))) ≡ map posted_as (filter is_posted_call (cond b ts (t ∷ without (has_number n) ts)))) [
  | true ↦ ap (λ b. map posted_as (cond b (at_work w t ∷ filter is_posted_call ts) (filter is_posted_call ts))) e
  | false ↦ (elim (is_posted_call t) as (λ b. map posted_as (cond b (t ∷ filter is_posted_call (worked (has_number n) w ts)) (filter is_posted_call (worked (has_number n) w ts))) ≡ map posted_as (cond b (t ∷ filter is_posted_call (without (has_number n) ts)) (filter is_posted_call (without (has_number n) ts)))) [
    | true ↦ ap (λ l. posted_as t ∷ l) (taken_listed n w ts e)
    | false ↦ taken_listed n w ts e
  ])
]

pub posted_taken : (n : ℕ) (w : Work) (ts : List Transfer) (posted : List Input) → AllPairs (λ (x y : Transfer). x.id.0 < y.id.0) ts → is_posted w.phase ≡ false → ArePosted posted ts → ArePosted (demux.without n posted) (worked (has_number n) w ts)
posted_taken n w ts posted order is h = record {
  listed = ap (demux.without n) h.listed ∙ posted_left n ts order ∙ sym (taken_listed n w ts is);
  unstored = all_changed IsUnstored (has_number n) (at_work w) (λ u. λ e. let clash : false ≡ true = sym is ∙ e in cc) ts h.unstored;
}

-- what is so of each device, where it is so of the changed one
each_device : (P Q : ℕ → Option DeviceView → Type 0) (d : ℕ) (old new : List (Option DeviceView)) → OthersStay d old new → ((j : ℕ) → j ≢ d → P j (entry old j) → Q j (entry old j)) → Q d (entry new d) → ((j : ℕ) → P j (entry old j)) → (j : ℕ) → Q j (entry new j)
each_device P Q d old new stay others here h j = ⊎_elim
    (λ (same : j ≡ d). subst (λ i. Q i (entry new i)) (sym same) here)
    (λ (other : j ≢ d). subst (Q j) (sym (stay j other)) (others j other (h j)))
    (cases_eq j d)

pub elsewhere : (t : Transfer) (j : ℕ) (b : Bool) → j ≢ t.dev → (b && (t.dev == j)) ≡ false
elsewhere t j b ne = let other : (t.dev == j) ≡ false = grind (arith, rules, ne) in ap (λ c. b && c) other ∙ (elim b as (λ c. (c && false) ≡ false) [ true ↦ refl | false ↦ refl ])

pub sending_worked : (p : Transfer → Bool) (w : Work) (t : Transfer) (ts : List Transfer) (old new : List (Option DeviceView)) → find p ts ≡ Some t → OthersStay t.dev old new
    → IfSome (entry new t.dev) (λ (v : DeviceView). IsSending v (first_waiting (worked p w ts) t.dev)) → AreSending old ts → AreSending new (worked p w ts)
sending_worked p w t ts old new found stay here h = each_device
    (λ j o. IfSome o (λ (v : DeviceView). IsSending v (first_waiting ts j)))
    (λ j o. IfSome o (λ (v : DeviceView). IsSending v (first_waiting (worked p w ts) j))) t.dev old new stay
    (λ j ne was. subst (λ f. IfSome (entry old j) (λ (v : DeviceView). IsSending v f)) (sym (find_changed p (at_work w) t (waits_for j) (elsewhere t j (is_queued t.phase) ne) (elsewhere t j (is_queued w.phase) ne) ts found)) was)
    here h

pub receiving_worked : (p : Transfer → Bool) (w : Work) (t : Transfer) (ts : List Transfer) (old new : List (Option DeviceView)) → find p ts ≡ Some t → OthersStay t.dev old new
    → IfSome (entry new t.dev) (λ (v : DeviceView). IfSome v.present (λ (g : Present). IfSome (receiver (worked p w ts) t.dev) (IsStored g))) → AreReceiving old ts → AreReceiving new (worked p w ts)
receiving_worked p w t ts old new found stay here h = each_device
    (λ j o. IfSome o (λ (v : DeviceView). IfSome v.present (λ (g : Present). IfSome (receiver ts j) (IsStored g))))
    (λ j o. IfSome o (λ (v : DeviceView). IfSome v.present (λ (g : Present). IfSome (receiver (worked p w ts) j) (IsStored g)))) t.dev old new stay
    (λ j ne was. subst (λ f. IfSome (entry old j) (λ (v : DeviceView). IfSome v.present (λ (g : Present). IfSome f (IsStored g)))) (sym (find_changed p (at_work w) t (receives_from j) (elsewhere t j (is_moving t.phase) ne) (elsewhere t j (is_moving w.phase) ne) ts found)) was)
    here h

module _ (p : Transfer → Bool) (w : Work) (t : Transfer) (ts : List Transfer) (old new : List (Option DeviceView)) (old_pools new_pools : List (Option PoolState)) (found : find p ts ≡ Some t) (gets : GetsBuffer w t old new old_pools new_pools) (h : HaveArrived old old_pools ts) where
  counted_now : (d b : ℕ) (c : Bool) → has_buffer d b (at_work w t) ≡ c → count_by (has_buffer d b) (worked p w ts) ≡ one_if (has_waiting (entry new d) (entry new_pools d) b)
  counted_now d b true e =
      let one : one_if (has_buffer d b (at_work w t)) ≡ 1 = ap one_if e in
      let none : one_if (has_buffer d b t) ≡ 0 = ap one_if (no_buffer t d b gets.had) in
      let was : count_by (has_buffer d b) ts ≡ 0 = h.buffers d b ∙ ap one_if (gets.was d b e) in
      let is : count_by (has_buffer d b) (worked p w ts) ≡ 1 = omega (arith, sum_changed p (at_work w) t (λ (u : Transfer). one_if (has_buffer d b u)) ts found, one, none, was) in
      is ∙ sym (ap one_if (gets.waits d b e))
  counted_now d b false e =
      let none_now : one_if (has_buffer d b (at_work w t)) ≡ 0 = ap one_if e in
      let none : one_if (has_buffer d b t) ≡ 0 = ap one_if (no_buffer t d b gets.had) in
      let same : count_by (has_buffer d b) (worked p w ts) ≡ count_by (has_buffer d b) ts = omega (arith, sum_changed p (at_work w) t (λ (u : Transfer). one_if (has_buffer d b u)) ts found, none_now, none) in
      same ∙ h.buffers d b ∙ sym (ap one_if (gets.others d b e))

  -- the buffer that another one has waits as before, and has the room that it had
  stored_now : (u : Transfer) → Has u ts → (o : Option ℕ) → u.buffer ≡ o → IfSome o (λ b. u.stored ≤ room_in (entry old u.dev) (entry old_pools u.dev) b) → IfSome o (λ b. u.stored ≤ room_in (entry new u.dev) (entry new_pools u.dev) b)
  stored_now u there None e was = was
  stored_now u there (Some b) e was =
      let own : has_buffer u.dev b u ≡ true = ap (λ o. (u.dev == u.dev) && is_just o b) e ∙ grind (arith, rules) in
      let one : one_if (has_buffer u.dev b u) ≡ 1 = ap one_if own in
      let among = at_least (λ (x : Transfer). one_if (has_buffer u.dev b x)) ts u there in
      let counted = h.buffers u.dev b in
      let waits = some_one (has_waiting (entry old u.dev) (entry old_pools u.dev) b) (omega (arith, one, among, counted)) in
      subst (λ n. u.stored ≤ n) (sym (gets.room u.dev b waits)) was

  changed_here : (P : Transfer → Type 0) → P (at_work w t) → (xs : List Transfer) → find p xs ≡ Some t → All P xs → All P (worked p w xs)
  changed_here P here [] e a = a
  changed_here P here (x ∷ xs) e a = elim (p x) as (λ b. cond b (Some x) (find p xs) ≡ Some t → All P (cond b (at_work w x ∷ xs) (x ∷ worked p w xs))) [
    | true ↦ λ i. let is : x ≡ t = cc in all_cons P (at_work w x) xs (subst (λ y. P (at_work w y)) (sym is) here) (λ k d l. a (suc k) d (omega (arith, l)))
    | false ↦ λ i. all_cons P x (worked p w xs) (a zero x (omega arith)) (changed_here P here xs i (λ k d l. a (suc k) d (omega (arith, l))))
  ] e

  pub arrived_worked : HaveArrived new new_pools (worked p w ts)
  arrived_worked = record {
    buffers = λ d b. counted_now d b (has_buffer d b (at_work w t)) refl;
    inputs = changed_here (HasBufferIfArrived new) gets.arrives ts found (λ k d l. let u : Transfer = get_or ts k d in h.inputs k d l ∙ sym (ap (λ b. has_arrived u.dev u && not b) (gets.early u.dev)));
    stored = changed_here (IsInBuffer new new_pools) gets.stored ts found (λ k d l. let u : Transfer = get_or ts k d in stored_now u (has_at ts k d l) u.buffer refl (h.stored k d l));
    filling = gets.filling;
  }
