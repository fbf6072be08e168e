-- The transfers of the view, where a device goes on with the record of the first output that waits for it.
use Rattle.std.proofs.Common.{◌≡◌, ℕ, ◌+◌, ◌<◌, Bool, true, false, not, List, [], ◌∷◌, ◌++◌, refl, sym, ap, arith, rules, ◌∙◌, map, set, eqb-true, cond, length, take, ⊎_elim}
use Rattle.std.specs.Prelude.{Option, Some, None, AllPairs, find, ◌==◌, ◌&&◌, ◌≢◌, if◌then◌else◌}
use Rattle.std.specs.Option.{option_map}
use Rattle.std.proofs.Math.Bool.{and-false}
use Rattle.std.proofs.lemmas.Bool.{and_parts}
use Rattle.genie_base.specs.Lemmas.Places.{same_or}
use Rattle.genie_base.specs.Records.{header_len}
use Rattle.genie_base.specs.Transfers.{class_of}
use Rattle.genie_base.specs.declared.semantics.Direction.{Direction}
use Rattle.genie_base.specs.declared.semantics.Direction.TheVariants.{Outward, Inward}
use Rattle.genie_device.specs.Device.{DeviceView}
use Rattle.genie_input.specs.Pools.{PoolState}
use Rattle.genie_model.specs.Pending as pending
use Rattle.genie_model.specs.State as flat
use Rattle.genie_model.specs.Tables.{entry, change, without}
use Rattle.genie_model.specs.declared.phase.Phase.{Phase}
use Rattle.genie_model.specs.Lemmas.Lists.{Has, find_has, pairs_head, pairs_tail}
use Rattle.genie_kernel.specs.declared.transfer.Transfer.{Transfer}
use Rattle.genie_kernel.specs.Calls.{number_of, region_number, addr_of, waits_for, first_waiting, is_first, is_sent}
use Rattle.genie_kernel.specs.Transfers.{sent_by, staged_by, sent_of, staged_of, sent_count, staged_count, is_outboard_device, buffer_bytes, unstaged, payload_of, output_bytes, input_bytes, transfer_view, transfers_view}
use Rattle.genie_kernel.specs.Lemmas.Turning.{views_changed}
use Rattle.genie_sending.proofs.Devices.{with_output, buffer_same}
use Rattle.genie_sending.proofs.Places.{same_at, elsewhere, within, unchanged}

-- of transfers in the order of their numbers, all others have another number than the one that is found
pub others_differ : (p : Transfer → Bool) (t : Transfer) (ts : List Transfer) → AllPairs (λ (x y : Transfer). x.id.0 < y.id.0) ts → find p ts ≡ Some t → (x : Transfer) → Has x (without p ts) → (t.id.0 == x.id.0) ≡ false
others_differ p t [] order e x h = absurd (cc)
others_differ p t (y ∷ ts) order e x h = elim (p y) as (λ b. cond b (Some y) (find p ts) ≡ Some t → Has x (cond b ts (y ∷ without p ts)) → (t.id.0 == x.id.0) ≡ false) [
  | true ↦ λ f has.
      let is : y ≡ t = cc in
      let above = pairs_head (λ (a b : Transfer). a.id.0 < b.id.0) y ts order x has in
      let number : y.id.0 ≡ t.id.0 = ap (λ (z : Transfer). z.id.0) is in
      grind (arith, rules, above, number)
  | false ↦ λ f has. ⊎_elim
      (λ (same : y ≡ x).
      let above = pairs_head (λ (a b : Transfer). a.id.0 < b.id.0) y ts order t (find_has p ts t f).0 in
      let number : y.id.0 ≡ x.id.0 = ap (λ (z : Transfer). z.id.0) same in
      grind (arith, rules, above, number))
      (λ rest. others_differ p t ts (pairs_tail (λ (a b : Transfer). a.id.0 < b.id.0) y ts order) f x rest)
      has
] e h

-- an output of which a device has staged and sent so much
abbrev pub sending_view : (ℕ → List ℕ) → Transfer → DeviceView → flat.Transfer
sending_view s t v = record {
  number = number_of t;
  owner = t.owner;
  direction = t.dir;
  class = class_of t.sem;
  device = t.dev;
  port = t.port;
  flow = t.flow;
  addr = addr_of t;
  region = region_number t;
  offset = t.offset;
  len = t.len;
  phase = t.phase;
  payload = v.staged ++ unstaged s t (length v.staged);
  staged = length v.staged;
  moved = v.sent;
  stored = t.stored;
  note = t.note;
}

-- the first output that waits for device d
pub record IsFirstOutput (ts : List Transfer) (d : ℕ) (t : Transfer) : Type 0 where
  pub waits : first_waiting ts d ≡ Some t
  pub outward : t.dir ≡ Outward

pub queued : (ts : List Transfer) (d : ℕ) (t : Transfer) → IsFirstOutput ts d t → pending.is_queued t.phase ≡ true
queued ts d t h = (and_parts (pending.is_queued t.phase) (t.dev == d) (find_has (waits_for d) ts t h.waits).1).0

pub its_device : (ts : List Transfer) (d : ℕ) (t : Transfer) → IsFirstOutput ts d t → t.dev ≡ d
its_device ts d t h = eqb-true t.dev d (and_parts (pending.is_queued t.phase) (t.dev == d) (find_has (waits_for d) ts t h.waits).1).1

queued_unready : (p : Phase) → pending.is_queued p ≡ true → pending.is_ready p ≡ false
queued_unready p e = grind (arith, rules, e)

pub queued_unmoved : (p : Phase) → pending.is_queued p ≡ true → pending.is_moving p ≡ false
queued_unmoved p e = grind (arith, rules, e)

module _ (ts : List Transfer) (d : ℕ) (t : Transfer) (is : IsFirstOutput ts d t) where
  abbrev first : ℕ → Option Transfer
  first = first_waiting ts

  first_here : is_first first t ≡ true
  first_here = ap (λ o. pending.is_queued t.phase && pending.is_just (option_map number_of o) t.id.0) (ap first (its_device ts d t is) ∙ is.waits) ∙ (let q = queued ts d t is in grind (arith, rules, q))

  unsent_here : is_sent t ≡ false
  unsent_here = ap (λ b. not (pending.is_inward t.dir) && b) (queued_unready t.phase (queued ts d t is)) ∙ and-false (not (pending.is_inward t.dir))

  -- as it is seen where a device is at work on it
  pub first_view : (s : ℕ → List ℕ) (vs : List (Option DeviceView)) (pools : List (Option PoolState)) (v : DeviceView) → entry vs d ≡ Some v → transfer_view s vs pools first t ≡ sending_view s t v
  first_view s vs pools v there =
      let at : entry vs t.dev ≡ Some v = ap (entry vs) (its_device ts d t is) ∙ there in
      let staged : staged_of vs first t ≡ v.staged = (λ i. if first_here i then staged_by (at i) else []) in
      let sent : sent_of vs first t ≡ v.sent = (λ i. if first_here i then sent_by (at i) else 0) in
      let payload : output_bytes s vs first t ≡ v.staged ++ unstaged s t (length v.staged) = (λ j. if unsent_here j then [] else staged j ++ unstaged s t (length (staged j))) in
      let all : payload_of s vs pools first t t.dir ≡ v.staged ++ unstaged s t (length v.staged) = ap (payload_of s vs pools first t) is.outward ∙ payload in
      let count : staged_count vs first t ≡ length v.staged = (λ j. if unsent_here j then (if is_outboard_device (entry vs t.dev) then t.len else 0) else length (staged j)) in
      let moved : sent_count vs first t ≡ v.sent = (λ j. if unsent_here j then header_len t.flow + t.len else sent j) in
      λ i. record (sending_view s t v) { payload = all i; staged = count i; moved = moved i }

  module _ (s : ℕ → List ℕ) (vs : List (Option DeviceView)) (pools : List (Option PoolState)) (v : DeviceView) (there : entry vs d ≡ Some v) (staged : List ℕ) (sent : ℕ) where
    abbrev w : DeviceView
    w = with_output staged sent v

    abbrev us : List (Option DeviceView)
    us = set vs d (Some w)

    module _ (x : Transfer) (differ : (t.id.0 == x.id.0) ≡ false) where
      touched_same : {Y : Type 0} (f : Option DeviceView → Y) (none : Y) → (if is_first first x then f (entry us x.dev) else none) ≡ (if is_first first x then f (entry vs x.dev) else none)
      touched_same f none = ⊎_elim
          (λ (here : x.dev ≡ d).
          let later : is_first first x ≡ false = ap (λ o. pending.is_queued x.phase && pending.is_just (option_map number_of o) x.id.0) (ap first here ∙ is.waits) ∙ ap (λ b. pending.is_queued x.phase && b) differ ∙ and-false (pending.is_queued x.phase) in
          ap (λ b. if b then f (entry us x.dev) else none) later ∙ sym (ap (λ b. if b then f (entry vs x.dev) else none) later))
          (λ (other : x.dev ≢ d). ap (λ o. if is_first first x then f o else none) (elsewhere vs d x.dev (Some w) other))
          (same_or x.dev d)

      staged_same : staged_of us first x ≡ staged_of vs first x
      staged_same = touched_same staged_by []

      input_same : (b : Option ℕ) → input_bytes s us pools x b ≡ input_bytes s vs pools x b
      input_same None = refl
      input_same (Some b) = ap (take x.stored) (same_at (λ o. buffer_bytes s o (entry pools x.dev) b) vs d x.dev v w there (buffer_same s staged sent v (entry pools x.dev) b))

      payload_same : (dir : Direction) → payload_of s us pools first x dir ≡ payload_of s vs pools first x dir
      payload_same Outward = ap (λ l. if is_sent x then [] else l ++ unstaged s x (length l)) staged_same
      payload_same Inward = input_same x.buffer

      other_same : transfer_view s us pools first x ≡ transfer_view s vs pools first x
      other_same =
          let kinds = same_at is_outboard_device vs d x.dev v w there refl in
          let sent_so = touched_same sent_by 0 in
          λ i. record (transfer_view s vs pools first x) {
            payload = payload_same x.dir i;
            staged = if is_sent x then (if kinds i then x.len else 0) else length (staged_same i);
            moved = if is_sent x then header_len x.flow + x.len else sent_so i;
          }

    -- the device goes on, and this one alone is seen otherwise
    pub going_on : (f : flat.Transfer → flat.Transfer) → AllPairs (λ (x y : Transfer). x.id.0 < y.id.0) ts → sending_view s t w ≡ f (sending_view s t v) → transfers_view s us pools ts ≡ change (pending.waits_for d) f (transfers_view s vs pools ts)
    going_on f order here =
        let now : transfer_view s us pools first t ≡ f (transfer_view s vs pools first t) = first_view s us pools w (within vs d v (Some w) there) ∙ here ∙ ap f (sym (first_view s vs pools v there)) in
        ap (map (transfer_view s us pools first)) (sym (unchanged (waits_for d) ts))
        ∙ views_changed (waits_for d) (λ x. x) t (pending.waits_for d) (transfer_view s vs pools first) (transfer_view s us pools first) f (λ x. refl) now ts is.waits (λ x has. other_same x (others_differ (waits_for d) t ts order is.waits x has))
