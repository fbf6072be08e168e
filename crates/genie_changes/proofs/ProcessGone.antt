-- A settled kernel without a process.
use Rattle.std.proofs.Common.{◌≡◌, ◌≢◌, ℕ, ◌+◌, ◌<◌, ◌≤◌, zero, suc, Bool, true, false, List, [], ◌∷◌, ◌++◌, refl, sym, ap, ap₂, subst, arith, ◌∙◌, ⊎_elim, map, length, get_or-set_same, get_or-set_other, set}
use Rattle.std.specs.Prelude.{Option, Some, None, All, AllPairs, is_some, count_by, if◌then◌else◌, ◌&&◌, ◌==◌}
use Rattle.std.specs.List.{list_any}
use Rattle.std.specs.Option.{option_map}
use Rattle.std.proofs.lemmas.Bool.{cases_eq}
use Rattle.genie_base.specs.Records.{header_len}
use Rattle.genie_base.specs.Transfers.{class_of}
use Rattle.genie_base.specs.declared.config.Kind.{Kind}
use Rattle.genie_base.specs.declared.config.Kind.TheVariants.{Early, Pooled, Outboard}
use Rattle.genie_base.specs.declared.numbers.RegionId.{RegionId}
use Rattle.genie_base.specs.declared.semantics.Direction.{Direction}
use Rattle.genie_base.specs.declared.semantics.Direction.TheVariants as direction
use Rattle.genie_device.specs.Device.{DeviceView}
use Rattle.genie_device.specs.declared.present.Present.{Present}
use Rattle.genie_hiding.specs.Hidden.{is_of}
use Rattle.genie_input.specs.Pools.{PoolState}
use Rattle.genie_region.specs.declared.region.Region.{Region}
use Rattle.genie_model.specs.Pending.{is_just, is_queued}
use Rattle.genie_model.specs.Space.{disowned as flat_disowned, is_move}
use Rattle.genie_model.specs.State as flat
use Rattle.genie_model.specs.Tables.{entry}
use Rattle.genie_model.specs.declared.fate.Fate.{Fate}
use Rattle.genie_model.specs.declared.fate.Fate.TheVariants as fate
use Rattle.genie_kernel.specs.declared.kernel.Kernel.{Kernel}
use Rattle.genie_kernel.specs.declared.transfer.Transfer.{Transfer}
use Rattle.genie_kernel.specs.Backed.{AreBacked, AreGuarded, hidden_region}
use Rattle.genie_kernel.specs.Calls.{first_waiting, is_first, is_sent, number_of, receiver}
use Rattle.genie_kernel.specs.Devices.{datagram_view, device_view, devices_view, fate_of}
use Rattle.genie_kernel.specs.Held.{AreHeldPages}
use Rattle.genie_kernel.specs.Orphans.{orphans_view}
use Rattle.genie_kernel.specs.Regions.{has_id, owned_regions, regions_of}
use Rattle.genie_kernel.specs.Transfers.{is_outboard_device, payload_of, sent_by, sent_of, staged_by, staged_of, transfer_view, transfers_view, unstaged}
use Rattle.genie_kernel.specs.View.{Bytes, state_of}
use Rattle.genie_kernel.specs.Lemmas.Processes.{processes_set}
use Rattle.genie_changes.specs.Gone.{disowned, left_named, without_process}
use Rattle.genie_changes.specs.Removing.{FitsTables}
use Rattle.genie_changes.specs.Settled.{AreListed, AreNumbered, IsSettled, LieInRegions}
use Rattle.genie_changes.proofs.Disowned.{arrived_disowned, counted_disowned, first_disowned, fitting_disowned, held_disowned, orphans_disowned, owned_disowned, planned_disowned, posted_disowned, ranges_disowned, receiver_disowned, receiving_disowned, rising_disowned, same_on, sending_disowned}
use Rattle.genie_changes.proofs.RegionGone.{some_below}
use Rattle.genie_changes.proofs.Spaces.{spaced_stay}

owned_gone : (ps : List (Option (List Region))) (p : ℕ) → entry ps p ≡ Some [] → owned_regions (set ps p None) ≡ owned_regions ps
owned_gone [] p e = refl
owned_gone (y ∷ ps) zero e = ap (λ (z : Option (List Region)). regions_of z ++ owned_regions ps) (sym e)
owned_gone (y ∷ ps) (suc p) e = ap (λ l. regions_of y ++ l) (owned_gone ps p e)

-- what a device is asked for a transfer hangs on the numbers of the first ones alone
module _ (s : ℕ → List ℕ) (devices : List (Option DeviceView)) (pools : List (Option PoolState)) (f h : ℕ → Option Transfer) (t : Transfer) (e : is_first h t ≡ is_first f t) where
  staged_same : staged_of devices h t ≡ staged_of devices f t
  staged_same = ap (λ b. if b then staged_by (entry devices t.dev) else []) e

  payload_same : (d : Direction) → payload_of s devices pools h t d ≡ payload_of s devices pools f t d
  payload_same direction.Outward = ap (λ l. if is_sent t then [] else l ++ unstaged s t (length l)) staged_same
  payload_same direction.Inward = refl

  first_same : transfer_view s devices pools h t ≡ transfer_view s devices pools f t
  first_same =
      let sent : sent_of devices h t ≡ sent_of devices f t = ap (λ b. if b then sent_by (entry devices t.dev) else 0) e in
      λ i. record (transfer_view s devices pools f t) {
        payload = payload_same t.dir i;
        staged = if is_sent t then (if is_outboard_device (entry devices t.dev) then t.len else 0) else length (staged_same i);
        moved = if is_sent t then header_len t.flow + t.len else sent i;
      }

module _ (s : ℕ → List ℕ) (devices : List (Option DeviceView)) (pools : List (Option PoolState)) (p : ℕ) where
  payload_freed : (first : ℕ → Option Transfer) (o : Option RegionId) (t : Transfer) (d : Direction) (b : Option ℕ) → t.buffer ≡ b → payload_of s devices pools first (record t { owner = None; region = o }) d ≡ payload_of s devices pools first t d
  payload_freed first o t direction.Outward b e = refl
  payload_freed first o t direction.Inward None e = refl
  payload_freed first o t direction.Inward (Some b) e = refl

  region_freed : (b : Bool) (o : Option RegionId) → option_map (λ (k : RegionId). k.0) (if b then None else o) ≡ (if b then None else option_map (λ (k : RegionId). k.0) o)
  region_freed true o = refl
  region_freed false o = refl

  view_disowned : (first : ℕ → Option Transfer) (t : Transfer) → transfer_view s devices pools first (disowned p t) ≡ flat_disowned p (transfer_view s devices pools first t)
  view_disowned first t = elim (is_just t.owner p) as (λ b. transfer_view s devices pools first (if b then record t { owner = None; region = left_named t } else t) ≡ (if b then record (transfer_view s devices pools first t) { owner = None; region = if is_move (class_of t.sem) then None else (transfer_view s devices pools first t).region } else transfer_view s devices pools first t)) [
    | true ↦ λ i. record (transfer_view s devices pools first t) { owner = None; region = region_freed (is_move (class_of t.sem)) t.region i; payload = payload_freed first (left_named t) t t.dir t.buffer refl i }
    | false ↦ refl
  ]

  number_found : (o : Option Transfer) → option_map number_of (option_map (disowned p) o) ≡ option_map number_of o
  number_found None = refl
  number_found (Some t) = ap (λ (n : ℕ). Some n) (same_on p number_of (λ o u. refl) t)

  firsts_same : (ts : List Transfer) (t : Transfer) → is_first (first_waiting (map (disowned p) ts)) t ≡ is_first (first_waiting ts) t
  firsts_same ts t = ap (λ (o : Option ℕ). is_queued t.phase && is_just o t.id.0) (ap (option_map number_of) (first_disowned p ts t.dev) ∙ number_found (first_waiting ts t.dev))

  views_disowned : (first later : ℕ → Option Transfer) → ((t : Transfer) → is_first later t ≡ is_first first t) → (us : List Transfer) → map (transfer_view s devices pools later) (map (disowned p) us) ≡ map (flat_disowned p) (map (transfer_view s devices pools first) us)
  views_disowned first later same [] = refl
  views_disowned first later same (t ∷ us) = ap₂ ◌∷◌ (first_same s devices pools first later (disowned p t) (same (disowned p t)) ∙ view_disowned first t) (views_disowned first later same us)

  pub transfers_disowned : (ts : List Transfer) → transfers_view s devices pools (map (disowned p) ts) ≡ map (flat_disowned p) (transfers_view s devices pools ts)
  transfers_disowned ts = views_disowned (first_waiting ts) (first_waiting (map (disowned p) ts)) (firsts_same ts) ts

  -- a device is seen as before, since the number of the input is the same into which it moves a datagram
  fate_found : (kind : Kind) (o : Option Transfer) → fate_of kind (option_map (disowned p) o) ≡ fate_of kind o
  fate_found Early None = refl
  fate_found Early (Some t) = ap flat_matched (same_on p number_of (λ o u. refl) t) where
    flat_matched : ℕ → Fate
    flat_matched n = fate.Matched n
  fate_found Pooled o = refl
  fate_found Outboard o = refl

  present_found : (v : DeviceView) (pool : Option PoolState) (o : Option Transfer) (n : Option Present) → option_map (datagram_view s v pool (option_map (disowned p) o)) n ≡ option_map (datagram_view s v pool o) n
  present_found v pool o None = refl
  present_found v pool o (Some n) = ap (λ (x : Fate). Some (record (datagram_view s v pool o n) { fate = x })) (fate_found v.config.kind o)

  device_found : (rest sent : List ℕ) (pool : Option PoolState) (o : Option Transfer) (v : Option DeviceView) → option_map (device_view s rest sent pool (option_map (disowned p) o)) v ≡ option_map (device_view s rest sent pool o) v
  device_found rest sent pool o None = refl
  device_found rest sent pool o (Some v) = ap (λ (x : Option flat.Datagram). Some (record (device_view s rest sent pool o v) { present = x })) (present_found v pool o v.present)

  devices_found : (d : ℕ) (rests sents : ℕ → List ℕ) (rs : ℕ → Option Transfer) (vs : List (Option DeviceView)) → devices_view s d rests sents pools (λ j. option_map (disowned p) (rs j)) vs ≡ devices_view s d rests sents pools rs vs
  devices_found d rests sents rs [] = refl
  devices_found d rests sents rs (v ∷ vs) = ap₂ ◌∷◌ (device_found (rests d) (sents d) (entry pools d) (rs d) v) (devices_found (d + 1) rests sents rs vs)

  pub devices_disowned : (rests sents : ℕ → List ℕ) (ts : List Transfer) → devices_view s 0 rests sents pools (receiver (map (disowned p) ts)) devices ≡ devices_view s 0 rests sents pools (receiver ts) devices
  devices_disowned rests sents ts = (λ i. devices_view s 0 rests sents pools (λ j. receiver_disowned p ts j i) devices) ∙ devices_found 0 rests sents (receiver ts) devices

module _ (k : Kernel) (p : ℕ) (there : entry k.spaces.processes p ≡ Some []) (g : IsSettled k) where
  abbrev ps : List (Option (List Region))
  ps = k.spaces.processes

  abbrev left_ps : List (Option (List Region))
  left_ps = set ps p None

  abbrev left_queues : List (List ℕ)
  left_queues = set k.queues p []

  same_owned : owned_regions left_ps ≡ owned_regions ps
  same_owned = owned_gone ps p there

  same_regions : (i : ℕ) → regions_of (entry left_ps i) ≡ regions_of (entry ps i)
  same_regions i = ⊎_elim
      (λ (same : i ≡ p). ap (λ j. regions_of (entry left_ps j)) same ∙ ap regions_of (get_or-set_same ps p None None (some_below ps p [] there)) ∙ sym (ap (λ j. regions_of (entry ps j)) same ∙ ap regions_of there))
      (λ (other : i ≢ p). ap regions_of (get_or-set_other ps p i None None other))
      (cases_eq i p)

  left_numbered : AreNumbered left_ps
  left_numbered = record {
    only = λ i n here j ne. ap (list_any (has_id n)) (same_regions j) ∙ g.numbered.only i n (ap (list_any (has_id n)) (sym (same_regions i)) ∙ here) j ne;
    each = λ i. subst (AllPairs (λ (a b : Region). a.id.0 ≢ b.id.0)) (sym (same_regions i)) (g.numbered.each i);
    fit = subst (All FitsTables) (sym same_owned) g.numbered.fit;
  }

  left_listed : AreListed left_ps left_queues
  left_listed i n live none = ⊎_elim
      (λ (same : i ≡ p).
      let dead : entry left_ps i ≡ None = ap (entry left_ps) same ∙ get_or-set_same ps p None None (some_below ps p [] there) in
      let bad : true ≡ false = sym live ∙ ap is_some dead in
      absurd (cc))
      (λ (other : i ≢ p). ap (list_any (λ m. m == n)) (get_or-set_other k.queues p i [] [] other) ∙ g.listed i n (ap is_some (sym (get_or-set_other ps p i None None other)) ∙ live) (ap (list_any (has_id n)) (sym (same_regions i)) ∙ none))
      (cases_eq i p)

  pub process_goes : IsSettled (without_process k p)
  process_goes = record {
    fits = g.fits;
    has_bytes = g.has_bytes;
    sized = g.sized;
    spaced = spaced_stay k.config k.spaces k.queues p p None [] g.spaced;
    equipped = g.equipped;
    numbered = left_numbered;
    listed = left_listed;
    ranges = subst (λ rs. LieInRegions k.config.page rs (map (disowned p) k.transfers)) (sym same_owned) (ranges_disowned p k.config.page (owned_regions ps) k.transfers g.ranges);
    rising = rising_disowned p k.transfers g.rising;
    sound = g.sound;
    cached = g.cached;
    few = record { process = g.few.process; few = λ i. subst (λ (l : List Region). length l + count_by (is_of i) k.hidden ≤ 32) (sym (same_regions i)) (g.few.few i) };
    backed = subst (λ rs. AreBacked k.memory.objects (rs ++ map hidden_region k.hidden)) (sym same_owned) g.backed;
    guarded = subst (AreGuarded k.memory.objects) (sym same_owned) g.guarded;
    counted = counted_disowned p k.transfers k.memory.frames.counts k.pools g.counted;
    owners = owned_disowned p k.transfers k.memory.frames.owners k.pools g.owners;
    held = subst (λ rs. AreHeldPages k.config.page k.memory rs (map (disowned p) k.transfers)) (sym same_owned) (held_disowned p k.transfers k.config.page k.memory (owned_regions ps) g.held);
    planned = planned_disowned p k.transfers k.config.page k.memory.frames.owners k.devices g.planned;
    fitting = fitting_disowned p k.transfers k.devices g.fitting;
    posted = posted_disowned p k.transfers k.posted g.posted;
    sending = sending_disowned p k.transfers k.devices g.sending;
    receiving = receiving_disowned p k.transfers k.devices g.receiving;
    arrived = arrived_disowned p k.transfers k.devices k.pools g.arrived;
  }

  pub gone_state : (b : Bytes) → state_of (without_process k p) b ≡ record (state_of k b) { processes = set (state_of k b).processes p None; transfers = map (flat_disowned p) (state_of k b).transfers }
  gone_state b =
      let kept = b.seen.kept_bytes in
      let below : p < length k.queues = omega (arith, some_below ps p [] there, g.spaced.processes, g.spaced.queue_places) in
      let orphans = ap (λ rs. orphans_view k.config.page kept rs (map (disowned p) k.transfers)) same_owned ∙ orphans_disowned p k.config.page kept (owned_regions ps) k.transfers in
      λ i. record (state_of k b) {
        processes = processes_set b.seen.entry_bytes ps k.queues p None [] below i;
        orphans = orphans i;
        transfers = transfers_disowned kept k.devices k.pools p k.transfers i;
        devices = devices_disowned kept k.devices k.pools p b.rests b.sents k.transfers i;
      }
