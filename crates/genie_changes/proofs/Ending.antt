-- The transfers of the view where a device has ended a record.
use Rattle.std.proofs.Common.{◌≡◌, ◌≢◌, ℕ, ◌+◌, ◌<◌, true, false, cond, List, [], ◌∷◌, ◌++◌, refl, sym, ap, ap₂, subst, arith, rules, ◌∙◌, ⊎_elim, length, take}
use Rattle.std.specs.Prelude.{Option, Some, None, AllPairs, find, if◌then◌else◌, ◌&&◌}
use Rattle.std.specs.Option.{option_map}
use Rattle.std.proofs.lemmas.Bool.{cases_eq}
use Rattle.genie_base.specs.Records.{header_len}
use Rattle.genie_base.specs.declared.semantics.Direction.{Direction}
use Rattle.genie_base.specs.declared.semantics.Direction.TheVariants.{Outward, Inward}
use Rattle.genie_device.specs.Device.{DeviceView}
use Rattle.genie_input.specs.Pools.{PoolState}
use Rattle.genie_model.specs.Lemmas.Lists.{Has, find_has, pairs_head, pairs_tail}
use Rattle.genie_model.specs.Pending.{is_queued, is_just, is_numbered}
use Rattle.genie_model.specs.State as flat
use Rattle.genie_model.specs.Tables.{change, entry, without}
use Rattle.genie_kernel.specs.declared.transfer.Transfer.{Transfer}
use Rattle.genie_kernel.specs.Calls.{has_number, number_of, first_waiting, is_first, is_sent, waits_for}
use Rattle.genie_kernel.specs.Transfers.{buffer_bytes, input_bytes, is_outboard_device, payload_of, sent_by, staged_by, staged_of, transfer_view, transfers_view, unstaged}
use Rattle.genie_kernel.specs.Lemmas.Turning.{views_changed, find_changed}
use Rattle.genie_changes.specs.Working.{Work, at_work, worked, EndsRecord}
use Rattle.genie_changes.proofs.Receiving.{elsewhere}

-- the others have other numbers
others_differ : (n : ℕ) (ts : List Transfer) (t : Transfer) → AllPairs (λ (x y : Transfer). x.id.0 < y.id.0) ts → find (has_number n) ts ≡ Some t → (x : Transfer) → Has x (without (has_number n) ts) → t.id.0 ≢ x.id.0
others_differ n [] t order e x h = absurd h
others_differ n (y ∷ ts) t order e x h = elim (has_number n y) as (λ b. has_number n y ≡ b → cond b (Some y) (find (has_number n) ts) ≡ Some t → Has x (cond b ts (y ∷ without (has_number n) ts)) → t.id.0 ≢ x.id.0) [
  | true ↦ λ is f i same.
      let one : y ≡ t = cc in
      let number : y.id.0 ≡ t.id.0 = ap (λ (u : Transfer). u.id.0) one in
      let less = pairs_head (λ (a b : Transfer). a.id.0 < b.id.0) y ts order x i in
      omega (arith, number, less, same)
  | false ↦ λ is f i. ⊎_elim
      (λ (here : y ≡ x) (same : t.id.0 ≡ x.id.0).
      let number : y.id.0 ≡ x.id.0 = ap (λ (u : Transfer). u.id.0) here in
      let passes : has_number n t ≡ true = (find_has (has_number n) ts t f).1 in
      let clash : has_number n y ≡ true = grind (arith, rules, passes, number, same) in
      let never : false ≡ true = sym is ∙ clash in cc)
      (λ later. others_differ n ts t (pairs_tail (λ (a b : Transfer). a.id.0 < b.id.0) y ts order) f x later) i
] refl e h

module _ (s : ℕ → List ℕ) (old new : List (Option DeviceView)) (pools : List (Option PoolState)) (n : ℕ) (w : Work) (t : Transfer) (ts : List Transfer) (found : find (has_number n) ts ≡ Some t) (first_is : first_waiting ts t.dev ≡ Some t) (ends : EndsRecord t.dev old new pools) where
  abbrev before : ℕ → Option Transfer
  before = first_waiting ts

  abbrev after : ℕ → Option Transfer
  after = first_waiting (worked (has_number n) w ts)

  module _ (x : Transfer) (differ : t.id.0 ≢ x.id.0) where
    -- what a device is asked for the transfer is the same
    at_device : {Y : Type 0} (v : ℕ → Option DeviceView → Y) → v t.dev (entry new t.dev) ≡ v t.dev (entry old t.dev) → v x.dev (entry new x.dev) ≡ v x.dev (entry old x.dev)
    at_device v same = ⊎_elim
        (λ (is : x.dev ≡ t.dev). subst (λ j. v j (entry new j) ≡ v j (entry old j)) (sym is) same)
        (λ other. ap (v x.dev) (ends.others x.dev other))
        (cases_eq x.dev t.dev)

    -- it wasn't the first one there before, and the device has done nothing of the one that now is
    touched_same : {Y : Type 0} (v : Option DeviceView → Y) (none : Y) → v (entry new t.dev) ≡ none → (if is_first after x then v (entry new x.dev) else none) ≡ (if is_first before x then v (entry old x.dev) else none)
    touched_same v none idle = ⊎_elim
        (λ (is : x.dev ≡ t.dev).
        let now : (if is_first after x then v (entry new x.dev) else none) ≡ none = ap (λ y. if is_first after x then y else none) (ap (λ j. v (entry new j)) is ∙ idle) ∙ (elim (is_first after x) as (λ b. (if b then none else none) ≡ none) [ true ↦ refl | false ↦ refl ]) in
        let later : is_just (option_map number_of (before x.dev)) x.id.0 ≡ false = ap (λ j. is_just (option_map number_of (before j)) x.id.0) is ∙ ap (λ o. is_just (option_map number_of o) x.id.0) first_is ∙ grind (arith, rules, differ) in
        let was : is_first before x ≡ false = ap (λ b. is_queued x.phase && b) later ∙ (elim (is_queued x.phase) as (λ b. (b && false) ≡ false) [ true ↦ refl | false ↦ refl ]) in
        now ∙ sym (ap (λ b. if b then v (entry old x.dev) else none) was))
        (λ (other : x.dev ≢ t.dev).
        let firsts : after x.dev ≡ before x.dev = find_changed (has_number n) (at_work w) t (waits_for x.dev) (elsewhere t x.dev (is_queued t.phase) other) (elsewhere t x.dev (is_queued w.phase) other) ts found in
        ap₂ (λ o (d : Option DeviceView). if is_queued x.phase && is_just (option_map number_of o) x.id.0 then v d else none) firsts (ends.others x.dev other))
        (cases_eq x.dev t.dev)

    staged_same : staged_of new after x ≡ staged_of old before x
    staged_same = touched_same staged_by [] ends.unstaged

    input_same : (b : Option ℕ) → input_bytes s new pools x b ≡ input_bytes s old pools x b
    input_same None = refl
    input_same (Some b) = ap (take x.stored) (at_device (λ j o. buffer_bytes s o (entry pools j) b) (ends.buffers s b))

    payload_same : (d : Direction) → payload_of s new pools after x d ≡ payload_of s old pools before x d
    payload_same Outward = ap (λ l. if is_sent x then [] else l ++ unstaged s x (length l)) staged_same
    payload_same Inward = input_same x.buffer

    other_same : transfer_view s new pools after x ≡ transfer_view s old pools before x
    other_same =
        let kinds = at_device (λ j o. is_outboard_device o) ends.outboard in
        let sent = touched_same sent_by 0 ends.unsent in
        λ i. record (transfer_view s old pools before x) {
          payload = payload_same x.dir i;
          staged = if is_sent x then (if kinds i then x.len else 0) else length (staged_same i);
          moved = if is_sent x then header_len x.flow + x.len else sent i;
        }

pub transfers_sent : (s : ℕ → List ℕ) (old new : List (Option DeviceView)) (pools : List (Option PoolState)) (n : ℕ) (w : Work) (t : Transfer) (f : flat.Transfer → flat.Transfer) (ts : List Transfer) → AllPairs (λ (x y : Transfer). x.id.0 < y.id.0) ts → find (has_number n) ts ≡ Some t → first_waiting ts t.dev ≡ Some t → EndsRecord t.dev old new pools
    → transfer_view s new pools (first_waiting (worked (has_number n) w ts)) (at_work w t) ≡ f (transfer_view s old pools (first_waiting ts) t)
    → transfers_view s new pools (worked (has_number n) w ts) ≡ change (is_numbered n) f (transfers_view s old pools ts)
transfers_sent s old new pools n w t f ts order found first_is ends here = views_changed (has_number n) (at_work w) t (is_numbered n) (transfer_view s old pools (first_waiting ts)) (transfer_view s new pools (first_waiting (worked (has_number n) w ts))) f (λ x. refl) here ts found (λ x h. other_same s old new pools n w t ts found first_is ends x (others_differ n ts t order found x h))
