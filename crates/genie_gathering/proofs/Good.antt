-- A kernel stays good when a device that isn't early has received: part by part.
use Rattle.std.proofs.Common.{◌≡◌, ◌≢◌, ℕ, ◌+◌, ◌<◌, ◌≤◌, Bool, true, false, not, List, [], ◌∷◌, inl, inr, refl, sym, ap, subst, arith, rules, ◌∙◌, ⊎_elim, length, set, get_or, eqb-true, eq-eqb}
use Rattle.std.specs.Prelude.{Option, Some, None, IfSome, All, find, is_some, min, count_by, ◌==◌, ◌&&◌, if◌then◌else◌}
use Rattle.std.specs.Option.{option_map}
use Rattle.std.proofs.lemmas.List.{length-set, get_or-set_other}
use Rattle.std.proofs.lemmas.Grind.{common_steps}
use Rattle.genie_base.specs.Configs.{most}
use Rattle.genie_base.specs.Lemmas.Places.{same_or}
use Rattle.genie_base.specs.Records.{header_len}
use Rattle.genie_base.specs.declared.config.DeviceConfig.{DeviceConfig}
use Rattle.genie_base.specs.declared.config.Kind.{Kind}
use Rattle.genie_base.specs.declared.config.Kind.TheVariants.{Outboard}
use Rattle.genie_base.specs.declared.semantics.Direction.TheVariants.{Inward}
use Rattle.genie_demux.specs.declared.input.Input.{Input}
use Rattle.genie_device.specs.Device.{DeviceView}
use Rattle.genie_device.specs.Buffers.{Arrived, state_at, is_arrived, bytes_in}
use Rattle.genie_device.specs.declared.present.Present.{Present}
use Rattle.genie_input.specs.Pools.{PoolState}
use Rattle.genie_orderly.specs.Orderly.{IsOrderly, receives_for, matched_to}
use Rattle.genie_model.specs.Pending.{is_early, is_queued, is_moving, is_outboard, is_just}
use Rattle.genie_model.specs.State as flat
use Rattle.genie_model.specs.Tables.{entry}
use Rattle.genie_model.specs.Lemmas.Lists.{Has, has_at, find_has, all_has, has_map, entry_same}
use Rattle.genie_kernel.specs.declared.kernel.Kernel.{Kernel}
use Rattle.genie_kernel.specs.declared.transfer.Transfer.{Transfer}
use Rattle.genie_kernel.specs.Calls.{has_number, first_waiting, receiver, receives_from, has_arrived}
use Rattle.genie_kernel.specs.Devices.{device_view, datagram_view, fate_of}
use Rattle.genie_kernel.specs.Good.{IsGood}
use Rattle.genie_kernel.specs.Matching.{ArePosted, IsSending, IsStored, has_buffer, has_waiting, has_filling, is_filling_pool, room_in}
use Rattle.genie_kernel.specs.Planned.{Lends, FitsDevice, is_early_device}
use Rattle.genie_kernel.specs.Regions.{owned_regions}
use Rattle.genie_kernel.specs.Sizes.{IsEquipped, is_pooled}
use Rattle.genie_kernel.specs.Transfers.{transfer_view}
use Rattle.genie_kernel.specs.View.{outline, no_bytes}
use Rattle.genie_kernel.specs.Lemmas.DeviceViews.{entry_view}
use Rattle.genie_changes.specs.Working.{Work, at_work, worked, GetsBuffer, OthersStay}
use Rattle.genie_gathering.specs.Delivering.{ready_with}
use Rattle.genie_gathering.specs.Devices.{with_device}
use Rattle.genie_gathering.specs.Laws.{GatheringLaws}
use Rattle.genie_gathering.proofs.Buffers.{KeepsWaiting, Touches, keeps_waiting}
use Rattle.genie_gathering.proofs.Views.{AreWaiting, same_at, so_at}

equipped_of : (page : ℕ) (c : Option DeviceConfig) (v w : DeviceView) (p : Option PoolState) → KeepsWaiting v w → IsEquipped page c (Some v) p → IsEquipped page c (Some w) p
equipped_of page None v w p k h = absurd h
equipped_of page (Some c) v w p k h = (record { config = k.config ∙ h.0.config; limit = k.limit ∙ h.0.limit }, h.1)

unpooled_kind : (kind : Kind) → kind ≡ Outboard → is_pooled kind ≡ true → ⊥
unpooled_kind kind e p = let clash : false ≡ true = sym (ap is_pooled e) ∙ p in absurd (cc)

no_pool : (page : ℕ) (c : Option DeviceConfig) (v : DeviceView) (p : Option PoolState) → v.config.kind ≡ Outboard → IsEquipped page c (Some v) p → p ≡ None
no_pool page None v p e h = absurd h
no_pool page (Some c) v None e h = refl
no_pool page (Some c) v (Some p) e h = absurd (unpooled_kind c.kind (sym (ap (λ (x : DeviceConfig). x.kind) h.0.config) ∙ e) h.1.pooled)

equipped_at : (k : Kernel) (d : ℕ) (v : DeviceView) → IsGood k → entry k.devices d ≡ Some v → IsEquipped k.config.page (entry k.config.devices d) (Some v) (entry k.pools d)
equipped_at k d v g there = subst (λ o. IsEquipped k.config.page (entry k.config.devices d) o (entry k.pools d)) there (g.equipped.each d)

-- an outboard device has no pool
pub outboard_unpooled : (k : Kernel) (d : ℕ) (v : DeviceView) → IsGood k → entry k.devices d ≡ Some v → v.config.kind ≡ Outboard → entry k.pools d ≡ None
outboard_unpooled k d v g there kind = no_pool k.config.page (entry k.config.devices d) v (entry k.pools d) kind (equipped_at k d v g there)

limit_in : (page : ℕ) (c : Option DeviceConfig) (v : DeviceView) (p : Option PoolState) → IsEquipped page c (Some v) p → (c ≡ Some v.config) × (v.limit ≡ most v.config.kind page)
limit_in page None v p h = absurd h
limit_in page (Some c) v p h = (ap Some (sym h.0.config), h.0.limit ∙ sym (ap (λ (x : DeviceConfig). most x.kind page) h.0.config))

-- a device is that of its configuration
pub configured : (k : Kernel) (d : ℕ) (v : DeviceView) → IsGood k → entry k.devices d ≡ Some v → (entry k.config.devices d ≡ Some v.config) × (v.limit ≡ most v.config.kind k.config.page)
configured k d v g there = limit_in k.config.page (entry k.config.devices d) v (entry k.pools d) (equipped_at k d v g there)

-- a device that gathers moves no datagram into an input
gathers_none : (s : ℕ → List ℕ) (v : DeviceView) (p : Option PoolState) (r : Option Transfer) (rest sent : List ℕ) (g : Option Present) (n : ℕ) → v.config.kind ≡ Outboard → receives_for (Some (record (device_view s rest sent p r v) { present = option_map (datagram_view s v p r) g })) ≡ Some n → ⊥
gathers_none s v p r rest sent None n kind e = absurd (cc)
gathers_none s v p r rest sent (Some g) n kind e = let clash : None ≡ Some n = sym (ap (λ c. matched_to (fate_of c r)) kind) ∙ e in absurd (cc)

pub none_received : (k : Kernel) (d : ℕ) (v : DeviceView) → IsGood k → entry k.devices d ≡ Some v → v.config.kind ≡ Outboard → receiver k.transfers d ≡ None
none_received k d v g there kind = by (receiver k.transfers d) refl
  where
    by : (o : Option Transfer) → receiver k.transfers d ≡ o → o ≡ None
    by None e = refl
    by (Some u) e =
        let has = find_has (receives_from d) k.transfers u e in
        let both : (is_moving u.phase && (u.dev == d)) ≡ true = has.1 in
        let moving : is_moving u.phase ≡ true = grind (arith, rules, both) in
        let at : u.dev ≡ d = eqb-true u.dev d (grind (arith, rules, both)) in
        let tv : Transfer → flat.Transfer = transfer_view (no_bytes k.config.page).seen.kept_bytes k.devices k.pools (first_waiting k.transfers) in
        let receives : receives_for (entry (outline k).devices u.dev) ≡ Some u.id.0 = all_has (λ (t : flat.Transfer). is_moving t.phase ≡ true → receives_for (entry (outline k).devices t.device) ≡ Some t.number) (outline k).transfers g.orderly.moving (tv u) (has_map tv u k.transfers has.0) moving in
        let is : entry (outline k).devices d ≡ Some (device_view (no_bytes k.config.page).seen.kept_bytes [] [] (entry k.pools d) (receiver k.transfers d) v) = entry_view (no_bytes k.config.page).seen.kept_bytes (λ j. []) (λ j. []) k.pools (receiver k.transfers) k.devices d ∙ ap (option_map (device_view (no_bytes k.config.page).seen.kept_bytes [] [] (entry k.pools d) (receiver k.transfers d))) there in
        absurd (gathers_none (no_bytes k.config.page).seen.kept_bytes v (entry k.pools d) (receiver k.transfers d) [] [] v.present u.id.0 kind (sym (ap receives_for (ap (entry (outline k).devices) at ∙ is)) ∙ receives))

one_of : Bool → ℕ
one_of b = if b then 1 else 0

counted_one : (p : Transfer → Bool) (ts : List Transfer) (t : Transfer) → Has t ts → p t ≡ true → 1 ≤ count_by p ts
counted_one p [] t i e = absurd i
counted_one p (x ∷ ts) t (inl h) e = let yes : p x ≡ true = ap p h ∙ e in grind (arith, common_steps, yes)
counted_one p (x ∷ ts) t (inr i) e = let later = counted_one p ts t i e in grind (arith, common_steps, later)

waiting_where : (c : Bool) → 1 ≤ (if c then 1 else 0) → c ≡ true
waiting_where true h = refl
waiting_where false h = absurd (omega (arith, h))

-- the datagrams of a device's transfers wait in its buffers
pub are_waiting : (k : Kernel) (d : ℕ) (v : DeviceView) → IsGood k → entry k.devices d ≡ Some v → entry k.pools d ≡ None → AreWaiting d v k.transfers
are_waiting k d v g there unpooled t i at b e =
    let has : has_buffer d b t ≡ true = (λ j. (eq-eqb t.dev d at j) && is_just t.buffer b) ∙ ap (λ o. is_just o b) e ∙ eq-eqb b b refl in
    let one = counted_one (has_buffer d b) k.transfers t i has in
    let waits : has_waiting (entry k.devices d) (entry k.pools d) b ≡ true = waiting_where (has_waiting (entry k.devices d) (entry k.pools d) b) (subst (λ n. 1 ≤ n) (g.arrived.buffers d b) one) in
    sym (λ j. has_waiting (there j) (unpooled j) b) ∙ waits

sending_on : (v w : DeviceView) (t : Option Transfer) → KeepsWaiting v w → IsSending v t → IsSending w t
sending_on v w None k h = record { unstaged = k.staged ∙ h.unstaged; unsent = k.sent ∙ h.unsent }
sending_on v w (Some t) k h = record {
  unsent = subst (λ n. n < header_len t.flow + t.len) (sym k.sent) h.unsent;
  staged = subst (λ (l : List ℕ). length l ≤ t.len) (sym k.staged) h.staged;
  memory = λ e. k.staged ∙ h.memory (sym (ap (λ (c : DeviceConfig). is_outboard c.kind) k.config) ∙ e);
}

-- what is true of the devices of transfers, where one device has received
module _ (vs : List (Option DeviceView)) (pools : List (Option PoolState)) (d : ℕ) (v w : DeviceView) (there : entry vs d ≡ Some v) (unpooled : entry pools d ≡ None) (kept : KeepsWaiting v w) where
  pub early_same : (j : ℕ) → is_early_device (entry (set vs d (Some w)) j) ≡ is_early_device (entry vs j)
  early_same j = same_at is_early_device vs d j v w there (ap (λ (c : DeviceConfig). is_early c.kind) kept.config)

  pub fits_same : (j len : ℕ) → FitsDevice len (entry vs j) → FitsDevice len (entry (set vs d (Some w)) j)
  fits_same j len h = ⊎_elim
      (λ (e : j ≡ d). subst (λ i. FitsDevice len (entry (set vs d (Some w)) i)) (sym e) (subst (FitsDevice len) (sym (entry_same vs d v (Some w) there)) (subst (λ m. len ≤ m) (sym kept.limit) (subst (FitsDevice len) there (subst (λ i. FitsDevice len (entry vs i)) e h)))))
      (λ (n : j ≢ d). subst (FitsDevice len) (sym (get_or-set_other vs d j (Some w) None n)) h)
      (same_or j d)

  waiting_same : (p : Option PoolState) (b : ℕ) → p ≡ None → is_arrived (state_at w.buffers b) ≡ is_arrived (state_at v.buffers b) → has_waiting (Some w) p b ≡ has_waiting (Some v) p b
  waiting_same p b e same = ap (λ x. has_waiting (Some w) x b) e ∙ same ∙ sym (ap (λ x. has_waiting (Some v) x b) e)

  -- a buffer in which a datagram waits as before
  pub waits_same : (j b : ℕ) → (j ≡ d → is_arrived (state_at w.buffers b) ≡ is_arrived (state_at v.buffers b)) → has_waiting (entry (set vs d (Some w)) j) (entry pools j) b ≡ has_waiting (entry vs j) (entry pools j) b
  waits_same j b same = ⊎_elim
      (λ (e : j ≡ d). ap (λ i. has_waiting (entry (set vs d (Some w)) i) (entry pools i) b) e ∙ ap (λ o. has_waiting o (entry pools d) b) (entry_same vs d v (Some w) there)
      ∙ waiting_same (entry pools d) b unpooled (same e) ∙ sym (ap (λ o. has_waiting o (entry pools d) b) there) ∙ sym (ap (λ i. has_waiting (entry vs i) (entry pools i) b) e))
      (λ (n : j ≢ d). ap (λ o. has_waiting o (entry pools j) b) (get_or-set_other vs d j (Some w) None n))
      (same_or j d)

  -- and has the room that it had
  pub rooms_same : (j b : ℕ) → (j ≡ d → is_arrived (state_at v.buffers b) ≡ true) → room_in (entry (set vs d (Some w)) j) (entry pools j) b ≡ room_in (entry vs j) (entry pools j) b
  rooms_same j b waits = ⊎_elim
      (λ (e : j ≡ d).
      let same : state_at w.buffers b ≡ state_at v.buffers b = kept.waiting b (waits e) in
      ap (λ i. room_in (entry (set vs d (Some w)) i) (entry pools i) b) e
      ∙ (λ i. room_in (entry_same vs d v (Some w) there i) (unpooled i) b)
      ∙ ap (λ s. length (bytes_in s)) same
      ∙ sym (ap (λ i. room_in (entry vs i) (entry pools i) b) e ∙ (λ i. room_in (there i) (unpooled i) b)))
      (λ (n : j ≢ d). ap (λ o. room_in o (entry pools j) b) (get_or-set_other vs d j (Some w) None n))
      (same_or j d)

  pub filling_same : ((j : ℕ) → has_filling (entry pools j) ≡ is_filling_pool (entry vs j) (entry pools j)) → (j : ℕ) → has_filling (entry pools j) ≡ is_filling_pool (entry (set vs d (Some w)) j) (entry pools j)
  filling_same h = so_at (λ j o. has_filling (entry pools j) ≡ is_filling_pool o (entry pools j)) vs d v w there (λ x. no_filling (entry pools d) (is_some w.present) unpooled) h
    where
      no_filling : (o : Option PoolState) (c : Bool) → o ≡ None → has_filling o ≡ (c && is_some o)
      no_filling o true e = ap has_filling e ∙ sym (ap is_some e)
      no_filling o false e = ap has_filling e

stored_in : (o : Option ℕ) (n : ℕ) (f g : ℕ → ℕ) → ((b : ℕ) → o ≡ Some b → g b ≡ f b) → IfSome o (λ b. n ≤ f b) → IfSome o (λ b. n ≤ g b)
stored_in None n f g same h = h
stored_in (Some b) n f g same h = subst (λ m. n ≤ m) (sym (same b refl)) h

no_receiver : (o : Option Present) (q : Option Transfer) → q ≡ None → IfSome o (λ (p : Present). IfSome q (IsStored p))
no_receiver None q e = tt
no_receiver (Some p) q e = subst (λ (y : Option Transfer). IfSome y (IsStored p)) (sym e) tt

-- a step that changes no transfer
pub device_good : (k : Kernel) (d : ℕ) (v w : DeviceView) → IsGood k → entry k.devices d ≡ Some v → v.config.kind ≡ Outboard → KeepsWaiting v w → ((b : ℕ) → is_arrived (state_at w.buffers b) ≡ is_arrived (state_at v.buffers b)) → IsOrderly (outline (with_device k d w)) → IsGood (with_device k d w)
device_good k d v w g there kind kept alike orderly =
    let unpooled : entry k.pools d ≡ None = outboard_unpooled k d v g there kind in
    let waits = are_waiting k d v g there unpooled in
    let none : receiver k.transfers d ≡ None = none_received k d v g there kind in
    record {
      fits = g.fits;
      sized = g.sized;
      spaced = g.spaced;
      equipped = record {
        device_places = length-set k.devices d (Some w) ∙ g.equipped.device_places;
        pool_places = g.equipped.pool_places;
        each = so_at (λ j o. IsEquipped k.config.page (entry k.config.devices j) o (entry k.pools j)) k.devices d v w there (equipped_of k.config.page (entry k.config.devices d) v w (entry k.pools d) kept) g.equipped.each;
      };
      orderly = orderly;
      sound = g.sound;
      cached = g.cached;
      few = g.few;
      backed = g.backed;
      guarded = g.guarded;
      counted = g.counted;
      owners = g.owners;
      held = g.held;
      planned = subst (λ (f : ℕ → Bool). All (λ (t : Transfer). Lends k.config.page k.memory.frames.owners (f t.dev) t t.dir) k.transfers) (λ i j. sym (early_same k.devices k.pools d v w there unpooled kept j) i) g.planned;
      fitting = λ i u l. fits_same k.devices k.pools d v w there unpooled kept (get_or k.transfers i u).dev (get_or k.transfers i u).len (g.fitting i u l);
      posted = g.posted;
      sending = so_at (λ j o. IfSome o (λ (x : DeviceView). IsSending x (first_waiting k.transfers j))) k.devices d v w there (sending_on v w (first_waiting k.transfers d) kept) g.sending;
      receiving = so_at (λ j o. IfSome o (λ (x : DeviceView). IfSome x.present (λ (p : Present). IfSome (receiver k.transfers j) (IsStored p)))) k.devices d v w there (λ h. no_receiver w.present (receiver k.transfers d) none) g.receiving;
      arrived = record {
        buffers = λ j b. g.arrived.buffers j b ∙ sym (ap (λ c. if c then 1 else 0) (waits_same k.devices k.pools d v w there unpooled kept j b (λ e. alike b)));
        inputs = subst (λ (f : ℕ → Bool). All (λ (t : Transfer). is_some t.buffer ≡ (has_arrived t.dev t && not (f t.dev))) k.transfers) (λ i j. sym (early_same k.devices k.pools d v w there unpooled kept j) i) g.arrived.inputs;
        stored = λ i u l.
            let t : Transfer = get_or k.transfers i u in
            stored_in t.buffer t.stored (room_in (entry k.devices t.dev) (entry k.pools t.dev)) (room_in (entry (set k.devices d (Some w)) t.dev) (entry k.pools t.dev))
            (λ b e. rooms_same k.devices k.pools d v w there unpooled kept t.dev b (λ at. waits t (has_at k.transfers i u l) at b e)) (g.arrived.stored i u l);
        filling = filling_same k.devices k.pools d v w there unpooled kept g.arrived.filling;
      };
    }

both : (j : ℕ) (t : Transfer) (buffer b : ℕ) → ((t.dev == j) && (buffer == b)) ≡ true → (t.dev ≡ j) × (buffer ≡ b)
both j t buffer b e = (eqb-true t.dev j (grind (arith, rules, e)), eqb-true buffer b (grind (arith, rules, e)))

-- a posted input that is ready now, with the buffer in which the device's datagram waits
pub delivered_good : GatheringLaws → (k : Kernel) (d n buffer so_far len : ℕ) (truncated : Bool) (v w : DeviceView) (t : Transfer) (all : List ℕ) (posted : List Input) → IsGood k → entry k.devices d ≡ Some v → v.config.kind ≡ Outboard → Touches buffer v w → state_at w.buffers buffer ≡ Arrived all → length all ≡ so_far → w.present ≡ None
    → find (has_number n) k.transfers ≡ Some t → t.dev ≡ d → t.dir ≡ Inward → is_queued t.phase ≡ false → is_moving t.phase ≡ false → t.buffer ≡ None
    → ArePosted posted (worked (has_number n) (ready_with buffer so_far truncated len t) k.transfers)
    → IsOrderly (outline (record k { devices = set k.devices d (Some w); transfers = worked (has_number n) (ready_with buffer so_far truncated len t) k.transfers; posted = posted }))
    → IsGood (record k { devices = set k.devices d (Some w); transfers = worked (has_number n) (ready_with buffer so_far truncated len t) k.transfers; posted = posted })
delivered_good laws k d n buffer so_far len truncated v w t all posted g there kind touches state size absent found dev inward was unmoved had listed orderly =
    let p : Transfer → Bool = has_number n in
    let work : Work = ready_with buffer so_far truncated len t in
    let kept : KeepsWaiting v w = keeps_waiting buffer v w touches in
    let devices : List (Option DeviceView) = set k.devices d (Some w) in
    let ts : List Transfer = worked (has_number n) work k.transfers in
    let here : entry devices t.dev ≡ Some w = ap (entry devices) dev ∙ entry_same k.devices d v (Some w) there in
    let others : OthersStay t.dev k.devices devices = λ j apart. get_or-set_other k.devices d j (Some w) None (λ e. apart (e ∙ sym dev)) in
    let unpooled : entry k.pools d ≡ None = outboard_unpooled k d v g there kind in
    let first : first_waiting ts t.dev ≡ first_waiting k.transfers d = laws.first p work t k.transfers t.dev found was refl ∙ ap (first_waiting k.transfers) dev in
    let sends : IsSending v (first_waiting k.transfers d) = subst (λ o. IfSome o (λ (x : DeviceView). IsSending x (first_waiting k.transfers d))) there (g.sending d) in
    let planned = laws.planned p work k.transfers k.config.page k.memory.frames.owners k.devices g.planned in
    let fitting = laws.fitting p work k.transfers k.devices g.fitting in
    let late : is_early_device (entry devices t.dev) ≡ false = ap is_early_device here ∙ ap (λ (c : DeviceConfig). is_early c.kind) kept.config ∙ ap is_early kind in
    let arrives : (has_arrived t.dev (at_work work t) && not (is_early_device (entry devices t.dev))) ≡ true = (λ i. has_arrived t.dev (at_work work (record t { dir = inward i })) && not (late i)) ∙ ap (λ b. b && true) (eq-eqb t.dev t.dev refl) in
    let room : room_in (entry devices t.dev) (entry k.pools t.dev) buffer ≡ so_far = (λ i. room_in (here i) ((ap (entry k.pools) dev ∙ unpooled) i) buffer) ∙ ap (λ s. length (bytes_in s)) state ∙ size in
    let waits_now : has_waiting (Some w) None buffer ≡ true = ap is_arrived state in
    let gets : GetsBuffer work t k.devices devices k.pools k.pools = record {
      had = had;
      arrives = sym arrives;
      stored = subst (λ m. min so_far t.len ≤ m) (sym room) (omega arith);
      others = λ j b unhad. waits_same k.devices k.pools d v w there unpooled kept j b (λ e. ⊎_elim
          (λ (same : b ≡ buffer). let yes : ((t.dev == j) && (buffer == b)) ≡ true = (λ i. (eq-eqb t.dev j (dev ∙ sym e) i) && (eq-eqb buffer b (sym same) i)) in let clash : true ≡ false = sym yes ∙ unhad in absurd (cc))
          (λ (apart : b ≢ buffer). ap is_arrived (touches.others b apart))
          (same_or b buffer));
      was = λ j b yes. let at = both j t buffer b yes in
          ap (λ i. has_waiting (entry k.devices i) (entry k.pools i) b) (sym at.0 ∙ dev) ∙ (λ i. has_waiting (there i) (unpooled i) b) ∙ ap (λ c. is_arrived (state_at v.buffers c)) (sym at.1) ∙ touches.unwaiting;
      waits = λ j b yes. let at = both j t buffer b yes in
          ap (λ i. has_waiting (entry devices i) (entry k.pools i) b) (sym at.0 ∙ dev) ∙ (λ i. has_waiting (entry_same k.devices d v (Some w) there i) (unpooled i) b) ∙ ap (λ c. has_waiting (Some w) None c) (sym at.1) ∙ waits_now;
      room = λ j b yes. rooms_same k.devices k.pools d v w there unpooled kept j b (λ e. sym (λ i. has_waiting (there i) (unpooled i) b) ∙ subst (λ c. has_waiting (entry k.devices c) (entry k.pools c) b ≡ true) e yes);
      early = early_same k.devices k.pools d v w there unpooled kept;
      filling = filling_same k.devices k.pools d v w there unpooled kept g.arrived.filling;
    } in
    record {
      fits = g.fits;
      sized = g.sized;
      spaced = g.spaced;
      equipped = record {
        device_places = length-set k.devices d (Some w) ∙ g.equipped.device_places;
        pool_places = g.equipped.pool_places;
        each = so_at (λ j o. IsEquipped k.config.page (entry k.config.devices j) o (entry k.pools j)) k.devices d v w there (equipped_of k.config.page (entry k.config.devices d) v w (entry k.pools d) kept) g.equipped.each;
      };
      orderly = orderly;
      sound = g.sound;
      cached = g.cached;
      few = g.few;
      backed = g.backed;
      guarded = g.guarded;
      counted = laws.counted p work k.transfers k.memory.frames.counts k.pools g.counted;
      owners = laws.owned p work k.transfers k.memory.frames.owners k.pools g.owners;
      held = laws.held p work k.transfers k.config.page k.memory (owned_regions k.spaces.processes) g.held;
      planned = subst (λ (f : ℕ → Bool). All (λ (u : Transfer). Lends k.config.page k.memory.frames.owners (f u.dev) u u.dir) ts) (λ i j. sym (early_same k.devices k.pools d v w there unpooled kept j) i) planned;
      fitting = λ i u l. fits_same k.devices k.pools d v w there unpooled kept (get_or ts i u).dev (get_or ts i u).len (fitting i u l);
      posted = listed;
      sending = laws.sending p work t k.transfers k.devices devices found others
          (subst (λ o. IfSome o (λ (x : DeviceView). IsSending x (first_waiting ts t.dev))) (sym here) (subst (IsSending w) (sym first) (sending_on v w (first_waiting k.transfers d) kept sends))) g.sending;
      receiving = laws.receiving p work t k.transfers k.devices devices found others
          (subst (λ o. IfSome o (λ (x : DeviceView). IfSome x.present (λ (q : Present). IfSome (receiver ts t.dev) (IsStored q)))) (sym here) (subst (λ o. IfSome o (λ (q : Present). IfSome (receiver ts t.dev) (IsStored q))) (sym absent) tt)) g.receiving;
      arrived = laws.arrived p work t k.transfers k.devices devices k.pools k.pools found gets g.arrived;
    }
