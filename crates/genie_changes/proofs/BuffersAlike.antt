-- The state where buffers that are still in use show the same.
use Rattle.std.proofs.Common.{◌≡◌, ℕ, ◌+◌, zero, suc, List, [], ◌∷◌, ◌++◌, refl, sym, ap, ap₂, arith, ◌∙◌, map, length, take, get_or}
use Rattle.std.specs.Prelude.{Option, Some, None, All, IfSome, if◌then◌else◌}
use Rattle.std.specs.Option.{option_map}
use Rattle.std.proofs.lemmas.List.{ext_get_or}
use Rattle.genie_base.specs.Records.{header_len}
use Rattle.genie_base.specs.declared.semantics.Direction.{Direction}
use Rattle.genie_base.specs.declared.semantics.Direction.TheVariants.{Outward, Inward}
use Rattle.genie_device.specs.Device.{DeviceView}
use Rattle.genie_device.specs.declared.present.Present.{Present}
use Rattle.genie_input.specs.Pools.{PoolState}
use Rattle.genie_model.specs.Lemmas.Lists.{entry_map}
use Rattle.genie_model.specs.Tables.{entry}
use Rattle.genie_kernel.specs.declared.kernel.Kernel.{Kernel}
use Rattle.genie_kernel.specs.declared.transfer.Transfer.{Transfer}
use Rattle.genie_kernel.specs.Calls.{first_waiting, is_first, is_sent, receiver}
use Rattle.genie_kernel.specs.Devices.{datagram_view, device_view, devices_view, fate_of}
use Rattle.genie_kernel.specs.Transfers.{buffer_bytes, input_bytes, is_outboard_device, payload_of, sent_by, sent_of, staged_by, staged_of, transfer_view, transfers_view, unstaged}
use Rattle.genie_kernel.specs.View.{Bytes, state_of}
use Rattle.genie_kernel.specs.Lemmas.DeviceViews.{entry_view}
use Rattle.genie_changes.specs.Ending.{bare_device}
use Rattle.genie_changes.specs.Released.{ShowsBuffers, gathered_by, gathered_of}

-- what a device has staged and sent, and its kind, are no matter of its buffers
staged_bare : (v : Option DeviceView) → staged_by (bare_device v) ≡ staged_by v
staged_bare None = refl
staged_bare (Some v) = refl

sent_bare : (v : Option DeviceView) → sent_by (bare_device v) ≡ sent_by v
sent_bare None = refl
sent_bare (Some v) = refl

outboard_bare : (v : Option DeviceView) → is_outboard_device (bare_device v) ≡ is_outboard_device v
outboard_bare None = refl
outboard_bare (Some v) = refl

map_each : {X Y : Type 0} (f g : X → Y) (xs : List X) → All (λ x. f x ≡ g x) xs → map f xs ≡ map g xs
map_each f g [] a = refl
map_each f g (x ∷ xs) a = ap₂ ◌∷◌ (a zero x (omega arith)) (map_each f g xs (λ k d l. a (suc k) d (omega (arith, l))))

-- one device
module _ (s : ℕ → List ℕ) (rest sent : List ℕ) (old_pool new_pool : Option PoolState) (r : Option Transfer) where
  datagram_same : (v w : DeviceView) (o : Option Present) → v.config ≡ w.config → gathered_of s v new_pool o ≡ gathered_of s w old_pool o → option_map (datagram_view s v new_pool r) o ≡ option_map (datagram_view s w old_pool r) o
  datagram_same v w None c h = refl
  datagram_same v w (Some g) c h = λ i. Some (record { port = g.header.port; flow = g.header.flow; len = g.header.len; moved = g.moved; fate = fate_of (c i).kind r; bytes = h i })

  device_same : (v w : Option DeviceView) → bare_device v ≡ bare_device w → gathered_by s v new_pool ≡ gathered_by s w old_pool → option_map (device_view s rest sent new_pool r) v ≡ option_map (device_view s rest sent old_pool r) w
  device_same None None e h = refl
  device_same None (Some w) e h = absurd (cc)
  device_same (Some v) None e h = absurd (cc)
  device_same (Some v) (Some w) e h =
      let bare : record v { buffers = [] } ≡ record w { buffers = [] } = cc in
      let config : v.config ≡ w.config = ap (λ (x : DeviceView). x.config) bare in
      let header : v.gathered ≡ w.gathered = ap (λ (x : DeviceView). x.gathered) bare in
      let bad : v.is_bad ≡ w.is_bad = ap (λ (x : DeviceView). x.is_bad) bare in
      let present : v.present ≡ w.present = ap (λ (x : DeviceView). x.present) bare in
      let same : option_map (datagram_view s v new_pool r) v.present ≡ option_map (datagram_view s w old_pool r) w.present = ap (option_map (datagram_view s v new_pool r)) present ∙ datagram_same v w w.present config (ap (gathered_of s v new_pool) (sym present) ∙ h) in
      λ i. Some (record { kind = (config i).kind; depth = (config i).depth; rest = rest; header = header i; present = same i; is_bad = bad i; sent = sent })

views_length : (s : ℕ → List ℕ) (d : ℕ) (rests sents : ℕ → List ℕ) (pools : List (Option PoolState)) (rs : ℕ → Option Transfer) (vs : List (Option DeviceView)) → length (devices_view s d rests sents pools rs vs) ≡ length vs
views_length s d rests sents pools rs [] = refl
views_length s d rests sents pools rs (v ∷ vs) = ap (λ n. suc n) (views_length s (d + 1) rests sents pools rs vs)

map_length : {X Y : Type 0} (f : X → Y) (xs : List X) → length (map f xs) ≡ length xs
map_length f [] = refl
map_length f (x ∷ xs) = ap (λ n. suc n) (map_length f xs)

module _ (s : ℕ → List ℕ) (ts : List Transfer) (old new : List (Option DeviceView)) (old_pools new_pools : List (Option PoolState)) (shows : ShowsBuffers s ts old new old_pools new_pools) where
  bare_same : (d : ℕ) → bare_device (entry new d) ≡ bare_device (entry old d)
  bare_same d = sym (entry_map bare_device refl new d) ∙ ap (λ l. entry l d) shows.same_devices ∙ entry_map bare_device refl old d

  pub devices_alike : (rests sents : ℕ → List ℕ) (rs : ℕ → Option Transfer) → devices_view s 0 rests sents new_pools rs new ≡ devices_view s 0 rests sents old_pools rs old
  devices_alike rests sents rs = ext_get_or None (devices_view s 0 rests sents new_pools rs new) (devices_view s 0 rests sents old_pools rs old)
      (views_length s 0 rests sents new_pools rs new ∙ sym (map_length bare_device new) ∙ ap (λ l. length l) shows.same_devices ∙ map_length bare_device old ∙ sym (views_length s 0 rests sents old_pools rs old))
      (λ d l. entry_view s rests sents new_pools rs new d ∙ device_same s (rests d) (sents d) (entry old_pools d) (entry new_pools d) (rs d) (entry new d) (entry old d) (bare_same d) (shows.gathered d) ∙ sym (entry_view s rests sents old_pools rs old d))

  module _ (first : ℕ → Option Transfer) (u : Transfer) where
    staged_same : staged_of new first u ≡ staged_of old first u
    staged_same = ap (λ l. if is_first first u then l else []) (sym (staged_bare (entry new u.dev)) ∙ ap staged_by (bare_same u.dev) ∙ staged_bare (entry old u.dev))

    sent_same : sent_of new first u ≡ sent_of old first u
    sent_same = ap (λ l. if is_first first u then l else 0) (sym (sent_bare (entry new u.dev)) ∙ ap sent_by (bare_same u.dev) ∙ sent_bare (entry old u.dev))

    outboard_same : is_outboard_device (entry new u.dev) ≡ is_outboard_device (entry old u.dev)
    outboard_same = sym (outboard_bare (entry new u.dev)) ∙ ap is_outboard_device (bare_same u.dev) ∙ outboard_bare (entry old u.dev)

    input_same : (o : Option ℕ) → IfSome o (λ b. buffer_bytes s (entry new u.dev) (entry new_pools u.dev) b ≡ buffer_bytes s (entry old u.dev) (entry old_pools u.dev) b) → input_bytes s new new_pools u o ≡ input_bytes s old old_pools u o
    input_same None h = refl
    input_same (Some b) h = ap (take u.stored) h

    payload_same : (d : Direction) → IfSome u.buffer (λ b. buffer_bytes s (entry new u.dev) (entry new_pools u.dev) b ≡ buffer_bytes s (entry old u.dev) (entry old_pools u.dev) b) → payload_of s new new_pools first u d ≡ payload_of s old old_pools first u d
    payload_same Outward h = ap (λ l. if is_sent u then [] else l ++ unstaged s u (length l)) staged_same
    payload_same Inward h = input_same u.buffer h

    one_same : IfSome u.buffer (λ b. buffer_bytes s (entry new u.dev) (entry new_pools u.dev) b ≡ buffer_bytes s (entry old u.dev) (entry old_pools u.dev) b) → transfer_view s new new_pools first u ≡ transfer_view s old old_pools first u
    one_same h = λ i. record (transfer_view s old old_pools first u) {
      payload = payload_same u.dir h i;
      staged = if is_sent u then (if outboard_same i then u.len else 0) else length (staged_same i);
      moved = if is_sent u then header_len u.flow + u.len else sent_same i;
    }

  pub transfers_alike : transfers_view s new new_pools ts ≡ transfers_view s old old_pools ts
  transfers_alike = map_each (transfer_view s new new_pools (first_waiting ts)) (transfer_view s old old_pools (first_waiting ts)) ts (λ j d l. one_same (first_waiting ts) (get_or ts j d) (shows.inputs j d l))

pub buffers_show : (k : Kernel) (devices : List (Option DeviceView)) (pools : List (Option PoolState)) (b : Bytes) → ShowsBuffers b.seen.kept_bytes k.transfers k.devices devices k.pools pools → state_of (record k { devices = devices; pools = pools }) b ≡ state_of k b
buffers_show k devices pools b shows = λ i. record (state_of k b) {
  transfers = transfers_alike b.seen.kept_bytes k.transfers k.devices devices k.pools pools shows i;
  devices = devices_alike b.seen.kept_bytes k.transfers k.devices devices k.pools pools shows b.rests b.sents (receiver k.transfers) i;
}
