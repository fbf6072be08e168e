-- The posted inputs, and what devices do for which transfer, with one transfer less and with one more.
use Rattle.std.proofs.Common.{◌≡◌, ℕ, ◌<◌, ◌≤◌, Bool, true, false, not, cond, List, [], ◌∷◌, ◌++◌, refl, sym, ap, subst, arith, rules, ◌∙◌, map, filter, length, get_or}
use Rattle.std.specs.Prelude.{Option, Some, None, AllPairs, IfSome, is_some, find, count_by, ◌&&◌, ◌==◌, if◌then◌else◌}
use Rattle.std.proofs.lemmas.List.Elements.{filter-append}
use Rattle.std.proofs.lemmas.List.Sums.{sum_by-append, sum_by-cons}
use Rattle.genie_base.specs.Records.{header_len}
use Rattle.genie_demux.specs.Posted as demux
use Rattle.genie_demux.specs.declared.input.Input.{Input}
use Rattle.genie_device.specs.Device.{DeviceView}
use Rattle.genie_device.specs.declared.present.Present.{Present}
use Rattle.genie_input.specs.Pools.{PoolState}
use Rattle.genie_model.specs.Pending.{is_queued, is_moving, is_ready, is_posted, is_inward, is_just}
use Rattle.genie_model.specs.Lemmas.Lists.{Has, or_next, has_at, find_append}
use Rattle.genie_model.specs.Tables.{without, entry}
use Rattle.genie_kernel.specs.declared.transfer.Transfer.{Transfer}
use Rattle.genie_kernel.specs.Calls.{has_number, first_waiting, receiver, waits_for, receives_from, has_arrived}
use Rattle.genie_kernel.specs.Matching.{ArePosted, AreSending, AreReceiving, HaveArrived, IsSending, IsStored, is_posted_call, posted_as, has_buffer, has_waiting, room_in}
use Rattle.genie_kernel.specs.Planned.{is_early_device}
use Rattle.genie_kernel.specs.Lemmas.Beside.{find_beside, filter_beside, sum_beside}
use Rattle.genie_kernel.specs.Lemmas.Removing.{posted_left}
use Rattle.genie_kernel.specs.Lemmas.Staying.{at_least}
use Rattle.genie_changes.specs.Pending.{GivesUpBuffer}
use Rattle.genie_changes.proofs.Lists.{append_none, all_less, all_more, found_same, if_some_map, map_more}

abbrev pub IsUnstored : Transfer → Type 0
IsUnstored t = is_posted_call t ≡ true → t.stored ≡ 0

pub posted_less : (n : ℕ) (posted : List Input) (ts : List Transfer) → AllPairs (λ (x y : Transfer). x.id.0 < y.id.0) ts → ArePosted posted ts → ArePosted (demux.without n posted) (without (has_number n) ts)
posted_less n posted ts order h = record { listed = ap (demux.without n) h.listed ∙ posted_left n ts order; unstored = all_less IsUnstored (has_number n) ts h.unstored }

pub posted_beside_less : (p : Transfer → Bool) (t : Transfer) (posted : List Input) (ts : List Transfer) → find p ts ≡ Some t → is_posted t.phase ≡ false → ArePosted posted ts → ArePosted posted (without p ts)
posted_beside_less p t posted ts found other h = record { listed = h.listed ∙ sym (ap (map posted_as) (filter_beside p t is_posted_call ts found other)); unstored = all_less IsUnstored p ts h.unstored }

filter_more : (t : Transfer) (ts : List Transfer) (b : Bool) → is_posted_call t ≡ b → filter is_posted_call (ts ++ t ∷ []) ≡ filter is_posted_call ts ++ cond b (t ∷ []) []
filter_more t ts b e = filter-append is_posted_call ts (t ∷ []) ∙ ap (λ c. filter is_posted_call ts ++ cond c (t ∷ []) []) e

pub posted_more : (t : Transfer) (posted : List Input) (ts : List Transfer) → is_posted t.phase ≡ true → t.stored ≡ 0 → ArePosted posted ts → ArePosted (posted ++ posted_as t ∷ []) (ts ++ t ∷ [])
posted_more t posted ts is unstored h = record {
  listed = ap (λ l. l ++ posted_as t ∷ []) h.listed ∙ sym (map_more posted_as (filter is_posted_call ts) t) ∙ sym (ap (map posted_as) (filter_more t ts true is));
  unstored = all_more IsUnstored t ts h.unstored (λ e. unstored);
}

pub posted_beside_more : (t : Transfer) (posted : List Input) (ts : List Transfer) → is_posted t.phase ≡ false → ArePosted posted ts → ArePosted posted (ts ++ t ∷ [])
posted_beside_more t posted ts other h = record {
  listed = h.listed ∙ sym (ap (map posted_as) (filter_more t ts false other ∙ append_none (filter is_posted_call ts)));
  unstored = all_more IsUnstored t ts h.unstored (λ e. let clash : false ≡ true = sym other ∙ e in cc);
}

pub sending_less : (devices : List (Option DeviceView)) (p : Transfer → Bool) (t : Transfer) (ts : List Transfer) → find p ts ≡ Some t → is_queued t.phase ≡ false → AreSending devices ts → AreSending devices (without p ts)
sending_less devices p t ts found other h d = subst (λ o. IfSome (entry devices d) (λ (v : DeviceView). IsSending v o)) (sym (find_beside p t (waits_for d) ts found (ap (λ b. b && (t.dev == d)) other))) (h d)

some_header : (flow : Option ℕ) → 0 < header_len flow
some_header None = omega arith
some_header (Some flow) = omega arith

-- an idle device sends for an output that nothing waits before
sends_more : (v : DeviceView) (t : Transfer) (o : Option Transfer) (b : Bool) → IsSending v o → IsSending v (or_next o (cond b (Some t) None))
sends_more v t (Some x) b h = h
sends_more v t None false h = h
sends_more v t None true h =
    let unsent = h.unsent in
    let long = some_header t.flow in
    let none : length v.staged ≡ 0 = ap length h.unstaged in
    record { unsent = omega (arith, unsent, long); staged = omega (arith, none); memory = λ e. h.unstaged }

pub sending_more : (devices : List (Option DeviceView)) (t : Transfer) (ts : List Transfer) → AreSending devices ts → AreSending devices (ts ++ t ∷ [])
sending_more devices t ts h d = subst (λ o. IfSome (entry devices d) (λ (v : DeviceView). IsSending v o)) (sym (find_append (waits_for d) ts (t ∷ [])))
    (if_some_map (λ (v : DeviceView). IsSending v (first_waiting ts d)) (λ (v : DeviceView). IsSending v (or_next (first_waiting ts d) (cond (waits_for d t) (Some t) None))) (entry devices d) (λ v sends. sends_more v t (first_waiting ts d) (waits_for d t) sends) (h d))

-- what a device moves a datagram into is the same
receives_same : (devices : List (Option DeviceView)) (ts us : List Transfer) → ((d : ℕ) → receiver us d ≡ receiver ts d) → AreReceiving devices ts → AreReceiving devices us
receives_same devices ts us same h d = subst (λ o. IfSome (entry devices d) (λ (v : DeviceView). IfSome v.present (λ (g : Present). IfSome o (IsStored g)))) (sym (same d)) (h d)

pub receiving_less : (devices : List (Option DeviceView)) (p : Transfer → Bool) (t : Transfer) (ts : List Transfer) → find p ts ≡ Some t → is_moving t.phase ≡ false → AreReceiving devices ts → AreReceiving devices (without p ts)
receiving_less devices p t ts found other h = receives_same devices ts (without p ts) (λ d. find_beside p t (receives_from d) ts found (ap (λ b. b && (t.dev == d)) other)) h

pub receiving_more : (devices : List (Option DeviceView)) (t : Transfer) (ts : List Transfer) → is_moving t.phase ≡ false → AreReceiving devices ts → AreReceiving devices (ts ++ t ∷ [])
receiving_more devices t ts other h = receives_same devices ts (ts ++ t ∷ []) (λ d. found_same (receives_from d) t ts (ap (λ b. b && (t.dev == d)) other)) h

abbrev pub HasBufferIfArrived : List (Option DeviceView) → Transfer → Type 0
HasBufferIfArrived devices t = is_some t.buffer ≡ (has_arrived t.dev t && not (is_early_device (entry devices t.dev)))

abbrev pub IsInBuffer : List (Option DeviceView) → List (Option PoolState) → Transfer → Type 0
IsInBuffer devices pools t = IfSome t.buffer (λ b. t.stored ≤ room_in (entry devices t.dev) (entry pools t.dev) b)

abbrev pub one_if : Bool → ℕ
one_if b = if b then 1 else 0

at_most_one : (b : Bool) → one_if b ≤ 1
at_most_one true = omega arith
at_most_one false = omega arith

pub some_one : (b : Bool) → 0 < one_if b → b ≡ true
some_one true l = refl
some_one false l = absurd (omega (arith, l))

module _ (p : Transfer → Bool) (t : Transfer) (ts : List Transfer) (old new : List (Option DeviceView)) (old_pools new_pools : List (Option PoolState)) (found : find p ts ≡ Some t) (gives : GivesUpBuffer t old new old_pools new_pools) (h : HaveArrived old old_pools ts) where
  counted_left : (d b : ℕ) (c : Bool) → has_buffer d b t ≡ c → count_by (has_buffer d b) (without p ts) ≡ one_if (has_waiting (entry new d) (entry new_pools d) b)
  counted_left d b true e =
      let one : one_if (has_buffer d b t) ≡ 1 = ap one_if e in
      let all = h.buffers d b in
      let most = at_most_one (has_waiting (entry old d) (entry old_pools d) b) in
      let none : count_by (has_buffer d b) (without p ts) ≡ 0 = omega (arith, sum_beside p t (λ (u : Transfer). one_if (has_buffer d b u)) ts found, one, all, most) in
      none ∙ sym (ap one_if (gives.freed d b e))
  counted_left d b false e =
      let none : one_if (has_buffer d b t) ≡ 0 = ap one_if e in
      let same : count_by (has_buffer d b) (without p ts) ≡ count_by (has_buffer d b) ts = omega (arith, sum_beside p t (λ (u : Transfer). one_if (has_buffer d b u)) ts found, none) in
      same ∙ h.buffers d b ∙ sym (ap one_if (gives.others d b e))

  buffers_left : (d b : ℕ) → count_by (has_buffer d b) (without p ts) ≡ one_if (has_waiting (entry new d) (entry new_pools d) b)
  buffers_left d b = counted_left d b (has_buffer d b t) refl

  -- a buffer that another one has is in use, and its room as before
  stored_left : (u : Transfer) → Has u (without p ts) → (o : Option ℕ) → u.buffer ≡ o → IfSome o (λ b. u.stored ≤ room_in (entry old u.dev) (entry old_pools u.dev) b) → IfSome o (λ b. u.stored ≤ room_in (entry new u.dev) (entry new_pools u.dev) b)
  stored_left u there None e was = was
  stored_left u there (Some b) e was =
      let own : has_buffer u.dev b u ≡ true = ap (λ o. (u.dev == u.dev) && is_just o b) e ∙ grind (arith, rules) in
      let one : one_if (has_buffer u.dev b u) ≡ 1 = ap one_if own in
      let among = at_least (λ (x : Transfer). one_if (has_buffer u.dev b x)) (without p ts) u there in
      let counted = buffers_left u.dev b in
      let waits = some_one (has_waiting (entry new u.dev) (entry new_pools u.dev) b) (omega (arith, one, among, counted)) in
      subst (λ n. u.stored ≤ n) (sym (gives.room u.dev b waits)) was

  pub arrived_less : HaveArrived new new_pools (without p ts)
  arrived_less = record {
    buffers = buffers_left;
    inputs = λ k d l. let u : Transfer = get_or (without p ts) k d in all_less (HasBufferIfArrived old) p ts h.inputs k d l ∙ sym (ap (λ b. has_arrived u.dev u && not b) (gives.early u.dev));
    stored = λ k d l. let u : Transfer = get_or (without p ts) k d in stored_left u (has_at (without p ts) k d l) u.buffer refl (all_less (IsInBuffer old old_pools) p ts h.stored k d l);
    filling = gives.filling;
  }

pub no_buffer : (t : Transfer) (d b : ℕ) → t.buffer ≡ None → has_buffer d b t ≡ false
no_buffer t d b e = ap (λ o. (t.dev == d) && is_just o b) e ∙ (elim (t.dev == d) as (λ c. (c && false) ≡ false) [ true ↦ refl | false ↦ refl ])

pub arrived_beside_less : (devices : List (Option DeviceView)) (pools : List (Option PoolState)) (p : Transfer → Bool) (t : Transfer) (ts : List Transfer) → find p ts ≡ Some t → t.buffer ≡ None → HaveArrived devices pools ts → HaveArrived devices pools (without p ts)
arrived_beside_less devices pools p t ts found none h = arrived_less p t ts devices devices pools pools found (record {
  others = λ d b e. refl;
  freed = λ d b e. let clash : false ≡ true = sym (no_buffer t d b none) ∙ e in cc;
  room = λ d b e. refl;
  early = λ d. refl;
  filling = h.filling;
}) h

unarrived : (t : Transfer) (early : Bool) → is_ready t.phase ≡ false → (has_arrived t.dev t && not early) ≡ false
unarrived t early e = ap (λ r. is_inward t.dir && r && (t.dev == t.dev) && not early) e ∙ (elim (is_inward t.dir) as (λ c. (c && false && (t.dev == t.dev) && not early) ≡ false) [ true ↦ refl | false ↦ refl ])

pub arrived_more : (devices : List (Option DeviceView)) (pools : List (Option PoolState)) (t : Transfer) (ts : List Transfer) → t.buffer ≡ None → is_ready t.phase ≡ false → HaveArrived devices pools ts → HaveArrived devices pools (ts ++ t ∷ [])
arrived_more devices pools t ts none unready h = record {
  buffers = λ d b.
      let all = h.buffers d b in
      let zero : one_if (has_buffer d b t) ≡ 0 = ap one_if (no_buffer t d b none) in
      let f : Transfer → ℕ = λ (u : Transfer). one_if (has_buffer d b u) in
      omega (arith, sum_by-append f ts (t ∷ []), sum_by-cons f t [], zero, all);
  inputs = all_more (HasBufferIfArrived devices) t ts h.inputs (ap is_some none ∙ sym (unarrived t (is_early_device (entry devices t.dev)) unready));
  stored = all_more (IsInBuffer devices pools) t ts h.stored (subst (λ (o : Option ℕ). IfSome o (λ b. t.stored ≤ room_in (entry devices t.dev) (entry pools t.dev) b)) (sym none) tt);
  filling = h.filling;
}
