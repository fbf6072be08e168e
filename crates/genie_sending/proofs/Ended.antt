-- The transfers of the view, where the record of the first output is sent whole.
use Rattle.std.proofs.Common.{◌≡◌, ℕ, ◌+◌, ◌<◌, true, false, not, List, [], ◌∷◌, ◌++◌, refl, sym, ap, arith, rules, ◌∙◌, map, set, cond, length, inl, inr}
use Rattle.std.specs.Prelude.{Option, Some, AllPairs, find, ◌==◌, ◌&&◌, if◌then◌else◌}
use Rattle.genie_base.specs.Records.{header_len}
use Rattle.genie_device.specs.Device.{DeviceView}
use Rattle.genie_input.specs.Pools.{PoolState}
use Rattle.genie_model.specs.Pending as pending
use Rattle.genie_model.specs.State as flat
use Rattle.genie_model.specs.Tables.{entry, change}
use Rattle.genie_model.specs.declared.phase.Phase.TheVariants.{Ready}
use Rattle.genie_model.specs.Lemmas.Lists.{Has, find_has, pairs_head, pairs_tail}
use Rattle.genie_kernel.specs.declared.transfer.Transfer.{Transfer}
use Rattle.genie_kernel.specs.Calls.{has_number, waits_for, first_waiting, is_sent}
use Rattle.genie_kernel.specs.Transfers.{is_outboard_device, buffer_bytes, output_bytes, payload_of, staged_of, sent_of, staged_count, sent_count, unstaged, sent_by, staged_by, transfer_view, transfers_view}
use Rattle.genie_changes.specs.Working.{EndsRecord, TransfersSent, at_work, worked}
use Rattle.genie_sending.specs.Sending.{sent_whole}
use Rattle.genie_sending.proofs.Devices.{with_output, buffer_same}
use Rattle.genie_sending.proofs.Outputs.{IsFirstOutput, its_device, sending_view, first_view}
use Rattle.genie_sending.proofs.Places.{same_at, elsewhere, within}

-- a transfer is found by its number
pub found_by_number : (t : Transfer) (ts : List Transfer) → AllPairs (λ (x y : Transfer). x.id.0 < y.id.0) ts → Has t ts → find (has_number t.id.0) ts ≡ Some t
found_by_number t [] order h = absurd h
found_by_number t (x ∷ ts) order (inl e) =
    let number : x.id.0 ≡ t.id.0 = ap (λ (z : Transfer). z.id.0) e in
    let same : (x.id.0 == t.id.0) ≡ true = grind (arith, rules, number) in
    ap (λ b. cond b (Some x) (find (has_number t.id.0) ts)) same ∙ ap Some e
found_by_number t (x ∷ ts) order (inr h) =
    let less = pairs_head (λ (a b : Transfer). a.id.0 < b.id.0) x ts order t h in
    let other : (x.id.0 == t.id.0) ≡ false = grind (arith, rules, less) in
    ap (λ b. cond b (Some x) (find (has_number t.id.0) ts)) other ∙ found_by_number t ts (pairs_tail (λ (a b : Transfer). a.id.0 < b.id.0) x ts order) h

-- the first one that waits is the one with its number
pub first_numbered : (d : ℕ) (f : flat.Transfer → flat.Transfer) (see : Transfer → flat.Transfer) (t : Transfer) (ts : List Transfer) → ((x : Transfer) → (see x).number ≡ x.id.0) → ((x : Transfer) → pending.waits_for d (see x) ≡ waits_for d x)
    → AllPairs (λ (x y : Transfer). x.id.0 < y.id.0) ts → find (waits_for d) ts ≡ Some t → change (pending.is_numbered t.id.0) f (map see ts) ≡ change (pending.waits_for d) f (map see ts)
first_numbered d f see t [] number waits order e = refl
first_numbered d f see t (x ∷ ts) number waits order e = elim (waits_for d x) as (λ b. waits_for d x ≡ b → cond b (Some x) (find (waits_for d) ts) ≡ Some t → change (pending.is_numbered t.id.0) f (map see (x ∷ ts)) ≡ change (pending.waits_for d) f (map see (x ∷ ts))) [
  | true ↦ λ yes h.
      let is : x ≡ t = cc in
      let id : x.id.0 ≡ t.id.0 = ap (λ (z : Transfer). z.id.0) is in
      let see_id = number x in
      let numbered : ((see x).number == t.id.0) ≡ true = grind (arith, rules, id, see_id) in
      let first : pending.waits_for d (see x) ≡ true = waits x ∙ yes in
      ap (λ b. cond b (f (see x) ∷ map see ts) (see x ∷ change (pending.is_numbered t.id.0) f (map see ts))) numbered ∙ sym (ap (λ b. cond b (f (see x) ∷ map see ts) (see x ∷ change (pending.waits_for d) f (map see ts))) first)
  | false ↦ λ no h.
      let less = pairs_head (λ (a b : Transfer). a.id.0 < b.id.0) x ts order t (find_has (waits_for d) ts t h).0 in
      let see_id = number x in
      let numbered : ((see x).number == t.id.0) ≡ false = grind (arith, rules, less, see_id) in
      let first : pending.waits_for d (see x) ≡ false = waits x ∙ no in
      ap (λ b. cond b (f (see x) ∷ map see ts) (see x ∷ change (pending.is_numbered t.id.0) f (map see ts))) numbered
      ∙ ap (λ l. see x ∷ l) (first_numbered d f see t ts number waits (pairs_tail (λ (a b : Transfer). a.id.0 < b.id.0) x ts order) h)
      ∙ sym (ap (λ b. cond b (f (see x) ∷ map see ts) (see x ∷ change (pending.waits_for d) f (map see ts))) first)
] refl e

module _ (ts : List Transfer) (d : ℕ) (t : Transfer) (is : IsFirstOutput ts d t) (s : ℕ → List ℕ) (vs : List (Option DeviceView)) (pools : List (Option PoolState)) (v : DeviceView) (there : entry vs d ≡ Some v) where
  abbrev w : DeviceView
  w = with_output [] 0 v

  abbrev us : List (Option DeviceView)
  us = set vs d (Some w)

  abbrev later : List Transfer
  later = worked (has_number t.id.0) (sent_whole t) ts

  abbrev sent : Transfer
  sent = at_work (sent_whole t) t

  here : entry us t.dev ≡ Some w
  here = ap (entry us) (its_device ts d t is) ∙ within vs d v (Some w) there

  ends : EndsRecord t.dev vs us pools
  ends = record {
    others = λ j ne. elsewhere vs d j (Some w) (λ e. ne (e ∙ sym (its_device ts d t is)));
    unstaged = ap staged_by here;
    unsent = ap sent_by here;
    outboard = same_at is_outboard_device vs d t.dev v w there refl;
    buffers = λ z b. same_at (λ o. buffer_bytes z o (entry pools t.dev) b) vs d t.dev v w there (buffer_same z [] 0 v (entry pools t.dev) b);
  }

  sent_here : is_sent sent ≡ true
  sent_here = (λ i. not (pending.is_inward (is.outward i)) && true)

  ready_view : (m : ℕ) → (if pending.is_outboard v.config.kind then t.len else 0) ≡ length v.staged → header_len t.flow + t.len ≡ v.sent + m
      → transfer_view s us pools (first_waiting later) sent ≡ record (sending_view s t v) { moved = v.sent + m; phase = Ready; payload = [] }
  ready_view m staged moved =
      let none : output_bytes s us (first_waiting later) sent ≡ [] = ap (λ b. if b then [] else staged_of us (first_waiting later) sent ++ unstaged s sent (length (staged_of us (first_waiting later) sent))) sent_here in
      let payload : payload_of s us pools (first_waiting later) sent sent.dir ≡ [] = ap (payload_of s us pools (first_waiting later) sent) is.outward ∙ none in
      let count : staged_count us (first_waiting later) sent ≡ length v.staged = ap (λ b. if b then (if is_outboard_device (entry us t.dev) then t.len else 0) else length (staged_of us (first_waiting later) sent)) sent_here ∙ ap (λ o. if is_outboard_device o then t.len else 0) here ∙ staged in
      let all : sent_count us (first_waiting later) sent ≡ v.sent + m = ap (λ b. if b then header_len t.flow + t.len else sent_of us (first_waiting later) sent) sent_here ∙ moved in
      λ i. record (sending_view s t v) { phase = Ready; payload = payload i; staged = count i; moved = all i }

  pub whole_view : TransfersSent → AllPairs (λ (x y : Transfer). x.id.0 < y.id.0) ts → (f : flat.Transfer → flat.Transfer) (m : ℕ) → (if pending.is_outboard v.config.kind then t.len else 0) ≡ length v.staged → header_len t.flow + t.len ≡ v.sent + m
      → f (sending_view s t v) ≡ record (sending_view s t v) { moved = v.sent + m; phase = Ready; payload = [] }
      → transfers_view s us pools later ≡ change (pending.waits_for d) f (transfers_view s vs pools ts)
  whole_view law order f m staged moved is_f =
      let found = found_by_number t ts order (find_has (waits_for d) ts t is.waits).0 in
      let first : first_waiting ts t.dev ≡ Some t = ap (first_waiting ts) (its_device ts d t is) ∙ is.waits in
      let now : transfer_view s us pools (first_waiting later) sent ≡ f (transfer_view s vs pools (first_waiting ts) t) = ready_view m staged moved ∙ sym is_f ∙ ap f (sym (first_view ts d t is s vs pools v there)) in
      law s vs us pools t.id.0 (sent_whole t) t f ts order found first ends now
      ∙ first_numbered d f (transfer_view s vs pools (first_waiting ts)) t ts (λ x. refl) (λ x. refl) order is.waits
