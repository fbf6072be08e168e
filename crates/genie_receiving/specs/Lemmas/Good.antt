-- A kernel stays good when a device has received: part by part.
use Rattle.std.proofs.Common.{◌≡◌, ◌≢◌, ℕ, ◌+◌, ◌<◌, ◌≤◌, Bool, true, false, not, List, [], refl, sym, ap, subst, arith, rules, ◌∙◌, ⊎_elim, length, set, get_or, eqb-true}
use Rattle.std.specs.Prelude.{Option, Some, None, IfSome, All, find, is_some, ◌==◌, ◌&&◌, if◌then◌else◌}
use Rattle.std.specs.Option.{option_map}
use Rattle.std.proofs.lemmas.List.{length-set, get_or-set_other}
use Rattle.genie_base.specs.Configs.{most}
use Rattle.genie_base.specs.Lemmas.Places.{same_or}
use Rattle.genie_base.specs.Records.{header_len}
use Rattle.genie_base.specs.declared.config.DeviceConfig.{DeviceConfig}
use Rattle.genie_base.specs.declared.config.Kind.{Kind}
use Rattle.genie_base.specs.declared.config.Kind.TheVariants.{Early, Pooled, Outboard}
use Rattle.genie_demux.specs.declared.input.Input.{Input}
use Rattle.genie_device.specs.Device.{DeviceView}
use Rattle.genie_device.specs.Buffers.{BufferView, state_at, is_arrived, bytes_in}
use Rattle.genie_device.specs.declared.present.Present.{Present}
use Rattle.genie_hiding.specs.Hidden.{objects_of}
use Rattle.genie_input.specs.Pools.{PoolState}
use Rattle.genie_object.specs.declared.memory.Memory.{Memory}
use Rattle.genie_object.specs.Sound.{IsSound, FitsHidden}
use Rattle.genie_orderly.specs.Orderly.{IsOrderly, receives_for}
use Rattle.genie_region.specs.declared.region.Region.{Region}
use Rattle.genie_model.specs.Pending.{is_early, is_queued, is_moving, is_outboard, is_just}
use Rattle.genie_model.specs.State as flat
use Rattle.genie_model.specs.Tables.{entry}
use Rattle.genie_model.specs.Lemmas.Lists.{find_has, all_has, has_map, entry_same}
use Rattle.genie_kernel.specs.declared.kernel.Kernel.{Kernel}
use Rattle.genie_kernel.specs.declared.transfer.Transfer.{Transfer}
use Rattle.genie_kernel.specs.Calls.{has_number, first_waiting, receiver, receives_from, has_arrived}
use Rattle.genie_kernel.specs.Devices.{device_view, datagram_view}
use Rattle.genie_kernel.specs.Good.{IsGood}
use Rattle.genie_kernel.specs.Held.{AreHeldPages, IsInFrame}
use Rattle.genie_kernel.specs.Matching.{ArePosted, IsSending, IsStored, has_waiting, has_filling, is_filling_pool, room_in}
use Rattle.genie_kernel.specs.Planned.{Lends, FitsDevice, is_early_device}
use Rattle.genie_kernel.specs.Regions.{owned_regions}
use Rattle.genie_kernel.specs.Sizes.{IsEquipped, is_pooled}
use Rattle.genie_kernel.specs.Transfers.{transfer_view}
use Rattle.genie_kernel.specs.View.{outline, no_bytes}
use Rattle.genie_kernel.specs.Lemmas.DeviceViews.{entry_view}
use Rattle.genie_changes.specs.Working.{Work, at_work, worked, GetsBuffer, OthersStay}
use Rattle.genie_receiving.specs.Devices.{with_device, KeepsPayload}
use Rattle.genie_receiving.specs.Laws.{ReceiveLaws}
use Rattle.genie_receiving.specs.Receiving.{with_landed}
use Rattle.genie_receiving.specs.Lemmas.Views.{same_at, so_at}

equipped_of : (page : ℕ) (c : Option DeviceConfig) (v w : DeviceView) (p : Option PoolState) → KeepsPayload v w → IsEquipped page c (Some v) p → IsEquipped page c (Some w) p
equipped_of page None v w p k h = absurd h
equipped_of page (Some c) v w p k h = (record { config = k.config ∙ h.0.config; limit = k.limit ∙ h.0.limit }, h.1)

unpooled_kind : (kind : Kind) → is_early kind ≡ true → is_pooled kind ≡ true → ⊥
unpooled_kind Early e p = absurd (cc)
unpooled_kind Pooled e p = absurd (cc)
unpooled_kind Outboard e p = absurd (cc)

no_pool : (page : ℕ) (c : Option DeviceConfig) (v : DeviceView) (p : Option PoolState) → is_early v.config.kind ≡ true → IsEquipped page c (Some v) p → p ≡ None
no_pool page None v p e h = absurd h
no_pool page (Some c) v None e h = refl
no_pool page (Some c) v (Some p) e h = absurd (unpooled_kind c.kind (sym (ap (λ (x : DeviceConfig). is_early x.kind) h.0.config) ∙ e) h.1.pooled)

equipped_at : (k : Kernel) (d : ℕ) (v : DeviceView) → IsGood k → entry k.devices d ≡ Some v → IsEquipped k.config.page (entry k.config.devices d) (Some v) (entry k.pools d)
equipped_at k d v g there = subst (λ o. IsEquipped k.config.page (entry k.config.devices d) o (entry k.pools d)) there (g.equipped.each d)

-- an early device has no pool
pub early_unpooled : (k : Kernel) (d : ℕ) (v : DeviceView) → IsGood k → entry k.devices d ≡ Some v → is_early v.config.kind ≡ true → entry k.pools d ≡ None
early_unpooled k d v g there early = no_pool k.config.page (entry k.config.devices d) v (entry k.pools d) early (equipped_at k d v g there)

limit_in : (page : ℕ) (c : Option DeviceConfig) (v : DeviceView) (p : Option PoolState) → IsEquipped page c (Some v) p → (c ≡ Some v.config) × (v.limit ≡ most v.config.kind page)
limit_in page None v p h = absurd h
limit_in page (Some c) v p h = (ap Some (sym h.0.config), h.0.limit ∙ sym (ap (λ (x : DeviceConfig). most x.kind page) h.0.config))

-- a device is that of its configuration
pub configured : (k : Kernel) (d : ℕ) (v : DeviceView) → IsGood k → entry k.devices d ≡ Some v → (entry k.config.devices d ≡ Some v.config) × (v.limit ≡ most v.config.kind k.config.page)
configured k d v g there = limit_in k.config.page (entry k.config.devices d) v (entry k.pools d) (equipped_at k d v g there)

no_input : (s : ℕ → List ℕ) (rest sent : List ℕ) (p : Option PoolState) (r : Option Transfer) (v : DeviceView) (n : ℕ) → v.present ≡ None → receives_for (Some (device_view s rest sent p r v)) ≡ Some n → ⊥
no_input s rest sent p r v n absent e =
    let none : receives_for (Some (device_view s rest sent p r v)) ≡ None = ap (λ g. receives_for (Some (record (device_view s rest sent p r v) { present = option_map (datagram_view s v p r) g }))) absent in
    let clash : None ≡ Some n = sym none ∙ e in
    absurd (cc)

-- a device without a datagram moves none into an input
pub none_received : (k : Kernel) (d : ℕ) (v : DeviceView) → IsGood k → entry k.devices d ≡ Some v → v.present ≡ None → receiver k.transfers d ≡ None
none_received k d v g there absent = by (receiver k.transfers d) refl
  where
    s : ℕ → List ℕ
    s = (no_bytes k.config.page).seen.kept_bytes

    by : (o : Option Transfer) → receiver k.transfers d ≡ o → o ≡ None
    by None e = refl
    by (Some u) e =
        let has = find_has (receives_from d) k.transfers u e in
        let both : (is_moving u.phase && (u.dev == d)) ≡ true = has.1 in
        let moving : is_moving u.phase ≡ true = grind (arith, rules, both) in
        let at : u.dev ≡ d = eqb-true u.dev d (grind (arith, rules, both)) in
        let tv : Transfer → flat.Transfer = transfer_view (no_bytes k.config.page).seen.kept_bytes k.devices k.pools (first_waiting k.transfers) in
        let receives : receives_for (entry (outline k).devices u.dev) ≡ Some u.id.0 = all_has (λ (t : flat.Transfer). is_moving t.phase ≡ true → receives_for (entry (outline k).devices t.device) ≡ Some t.number) (outline k).transfers g.orderly.moving (tv u) (has_map tv u k.transfers has.0) moving in
        let is : entry (outline k).devices d ≡ Some (device_view (no_bytes k.config.page).seen.kept_bytes [] [] (entry k.pools d) (receiver k.transfers d) v) = entry_view (no_bytes k.config.page).seen.kept_bytes (λ j. []) (λ j. []) k.pools (receiver k.transfers) k.devices d ∙ ap (option_map (device_view (no_bytes k.config.page).seen.kept_bytes [] [] (entry k.pools d) (receiver k.transfers d))) there in
        absurd (no_input (no_bytes k.config.page).seen.kept_bytes [] [] (entry k.pools d) (receiver k.transfers d) v u.id.0 absent (sym (ap receives_for (ap (entry (outline k).devices) at ∙ is)) ∙ receives))

pub sending_on : (v w : DeviceView) (t : Option Transfer) → KeepsPayload v w → IsSending v t → IsSending w t
sending_on v w None k h = record { unstaged = k.staged ∙ h.unstaged; unsent = k.sent ∙ h.unsent }
sending_on v w (Some t) k h = record {
  unsent = subst (λ n. n < header_len t.flow + t.len) (sym k.sent) h.unsent;
  staged = subst (λ (l : List ℕ). length l ≤ t.len) (sym k.staged) h.staged;
  memory = λ e. k.staged ∙ h.memory (sym (ap (λ (c : DeviceConfig). is_outboard c.kind) k.config) ∙ e);
}

waiting_same : (v w : DeviceView) (p : Option PoolState) (b : ℕ) → KeepsPayload v w → has_waiting (Some w) p b ≡ has_waiting (Some v) p b
waiting_same v w None b k = ap (λ (bs : List BufferView). is_arrived (state_at bs b)) k.buffers
waiting_same v w (Some p) b k = refl

room_same : (v w : DeviceView) (p : Option PoolState) (b : ℕ) → KeepsPayload v w → room_in (Some w) p b ≡ room_in (Some v) p b
room_same v w None b k = ap (λ (bs : List BufferView). length (bytes_in (state_at bs b))) k.buffers
room_same v w (Some p) b k = k.limit

-- what is true of the devices of transfers, where one device has received
module _ (vs : List (Option DeviceView)) (pools : List (Option PoolState)) (d : ℕ) (v w : DeviceView) (there : entry vs d ≡ Some v) (kept : KeepsPayload v w) where
  pub early_same : (j : ℕ) → is_early_device (entry (set vs d (Some w)) j) ≡ is_early_device (entry vs j)
  early_same j = same_at is_early_device vs d j v w there (ap (λ (c : DeviceConfig). is_early c.kind) kept.config)

  pub fits_same : (j len : ℕ) → FitsDevice len (entry vs j) → FitsDevice len (entry (set vs d (Some w)) j)
  fits_same j len h = ⊎_elim
      (λ (e : j ≡ d). subst (λ i. FitsDevice len (entry (set vs d (Some w)) i)) (sym e) (subst (FitsDevice len) (sym (entry_same vs d v (Some w) there)) (subst (λ m. len ≤ m) (sym kept.limit) (subst (FitsDevice len) there (subst (λ i. FitsDevice len (entry vs i)) e h)))))
      (λ (n : j ≢ d). subst (FitsDevice len) (sym (get_or-set_other vs d j (Some w) None n)) h)
      (same_or j d)

  pub waits_same : (j b : ℕ) → has_waiting (entry (set vs d (Some w)) j) (entry pools j) b ≡ has_waiting (entry vs j) (entry pools j) b
  waits_same j b = same_at (λ o. has_waiting o (entry pools j) b) vs d j v w there (waiting_same v w (entry pools j) b kept)

  pub rooms_same : (j b : ℕ) → room_in (entry (set vs d (Some w)) j) (entry pools j) b ≡ room_in (entry vs j) (entry pools j) b
  rooms_same j b = same_at (λ o. room_in o (entry pools j) b) vs d j v w there (room_same v w (entry pools j) b kept)

no_filling : (o : Option PoolState) (c : Bool) → o ≡ None → has_filling o ≡ (c && is_some o)
no_filling o true e = ap has_filling e ∙ sym (ap is_some e)
no_filling o false e = ap has_filling e

-- a step that changes no transfer
pub device_good : (k : Kernel) (d : ℕ) (v w : DeviceView) → IsGood k → entry k.devices d ≡ Some v → KeepsPayload v w → is_filling_pool (Some w) (entry k.pools d) ≡ is_filling_pool (Some v) (entry k.pools d) → IfSome w.present (λ (g : Present). IfSome (receiver k.transfers d) (IsStored g)) → IsOrderly (outline (with_device k d w)) → IsGood (with_device k d w)
device_good k d v w g there kept filling stored orderly = record {
  fits = g.fits;
  sized = g.sized;
  spaced = g.spaced;
  equipped = record {
    device_places = length-set k.devices d (Some w) ∙ g.equipped.device_places;
    pool_places = g.equipped.pool_places;
    each = so_at (λ j o. IsEquipped k.config.page (entry k.config.devices j) o (entry k.pools j)) k.devices d v w there (equipped_of k.config.page (entry k.config.devices d) v w (entry k.pools d) kept) g.equipped.each;
  };
  orderly = orderly;
  sound = g.sound;
  cached = g.cached;
  few = g.few;
  backed = g.backed;
  guarded = g.guarded;
  counted = g.counted;
  owners = g.owners;
  held = g.held;
  planned = subst (λ (f : ℕ → Bool). All (λ (t : Transfer). Lends k.config.page k.memory.frames.owners (f t.dev) t t.dir) k.transfers) (λ i j. sym (early_same k.devices k.pools d v w there kept j) i) g.planned;
  fitting = λ i u l. fits_same k.devices k.pools d v w there kept (get_or k.transfers i u).dev (get_or k.transfers i u).len (g.fitting i u l);
  posted = g.posted;
  sending = so_at (λ j o. IfSome o (λ (x : DeviceView). IsSending x (first_waiting k.transfers j))) k.devices d v w there (sending_on v w (first_waiting k.transfers d) kept) g.sending;
  receiving = so_at (λ j o. IfSome o (λ (x : DeviceView). IfSome x.present (λ (p : Present). IfSome (receiver k.transfers j) (IsStored p)))) k.devices d v w there (λ h. stored) g.receiving;
  arrived = record {
    buffers = λ j b. g.arrived.buffers j b ∙ sym (ap (λ c. if c then 1 else 0) (waits_same k.devices k.pools d v w there kept j b));
    inputs = subst (λ (f : ℕ → Bool). All (λ (t : Transfer). is_some t.buffer ≡ (has_arrived t.dev t && not (f t.dev))) k.transfers) (λ i j. sym (early_same k.devices k.pools d v w there kept j) i) g.arrived.inputs;
    stored = subst (λ (f : ℕ → ℕ → ℕ). All (λ (t : Transfer). IfSome t.buffer (λ b. t.stored ≤ f t.dev b)) k.transfers) (λ i j b. sym (rooms_same k.devices k.pools d v w there kept j b) i) g.arrived.stored;
    filling = so_at (λ j o. has_filling (entry k.pools j) ≡ is_filling_pool o (entry k.pools j)) k.devices d v w there (λ h. h ∙ sym filling) g.arrived.filling;
  };
}

and_not_true : (c b : Bool) → b ≡ true → (c && not b) ≡ false
and_not_true true b e = ap not e
and_not_true false b e = refl

no_buffer_here : (c : Bool) (b : ℕ) (o : Option ℕ) → o ≡ None → (c && is_just o b) ≡ false
no_buffer_here c b o e = ap (λ x. c && is_just x b) e ∙ (elim c as (λ x. (x && false) ≡ false) [ true ↦ refl | false ↦ refl ])

-- a step of an early device that takes one of its inputs further
pub input_good : ReceiveLaws → (k : Kernel) (d n : ℕ) (v w : DeviceView) (t : Transfer) (work : Work) (posted : List Input) → IsGood k → entry k.devices d ≡ Some v → is_early v.config.kind ≡ true → KeepsPayload v w → find (has_number n) k.transfers ≡ Some t → t.dev ≡ d
    → is_queued t.phase ≡ false → is_queued work.phase ≡ false → t.buffer ≡ None → work.buffer ≡ None
    → ArePosted posted (worked (has_number n) work k.transfers) → IfSome w.present (λ (g : Present). IfSome (receiver (worked (has_number n) work k.transfers) d) (IsStored g))
    → IsOrderly (outline (record k { devices = set k.devices d (Some w); transfers = worked (has_number n) work k.transfers; posted = posted }))
    → IsGood (record k { devices = set k.devices d (Some w); transfers = worked (has_number n) work k.transfers; posted = posted })
input_good laws k d n v w t work posted g there early kept found dev was is had has listed stored orderly =
    let p : Transfer → Bool = has_number n in
    let devices : List (Option DeviceView) = set k.devices d (Some w) in
    let ts : List Transfer = worked (has_number n) work k.transfers in
    let here : entry devices t.dev ≡ Some w = ap (entry devices) dev ∙ entry_same k.devices d v (Some w) there in
    let others : OthersStay t.dev k.devices devices = λ j apart. get_or-set_other k.devices d j (Some w) None (λ e. apart (e ∙ sym dev)) in
    let unpooled : entry k.pools d ≡ None = early_unpooled k d v g there early in
    let first : first_waiting ts t.dev ≡ first_waiting k.transfers d = laws.first p work t k.transfers t.dev found was is ∙ ap (first_waiting k.transfers) dev in
    let sends : IsSending v (first_waiting k.transfers d) = subst (λ o. IfSome o (λ (x : DeviceView). IsSending x (first_waiting k.transfers d))) there (g.sending d) in
    let planned = laws.planned p work k.transfers k.config.page k.memory.frames.owners k.devices g.planned in
    let fitting = laws.fitting p work k.transfers k.devices g.fitting in
    let gets : GetsBuffer work t k.devices devices k.pools k.pools = record {
      had = had;
      arrives = ap is_some has ∙ sym (and_not_true (has_arrived t.dev (at_work work t)) (is_early_device (entry devices t.dev)) (ap is_early_device here ∙ ap (λ (c : DeviceConfig). is_early c.kind) kept.config ∙ early));
      stored = subst (λ o. IfSome o (λ b. work.stored ≤ room_in (entry devices t.dev) (entry k.pools t.dev) b)) (sym has) tt;
      others = λ j b no. waits_same k.devices k.pools d v w there kept j b;
      was = λ j b yes. let no = no_buffer_here (t.dev == j) b work.buffer has in let clash : true ≡ false = sym yes ∙ no in absurd (cc);
      waits = λ j b yes. let no = no_buffer_here (t.dev == j) b work.buffer has in let clash : true ≡ false = sym yes ∙ no in absurd (cc);
      room = λ j b yes. rooms_same k.devices k.pools d v w there kept j b;
      early = early_same k.devices k.pools d v w there kept;
      filling = so_at (λ j o. has_filling (entry k.pools j) ≡ is_filling_pool o (entry k.pools j)) k.devices d v w there (λ h. no_filling (entry k.pools d) (is_some w.present) unpooled) g.arrived.filling;
    } in
    record {
      fits = g.fits;
      sized = g.sized;
      spaced = g.spaced;
      equipped = record {
        device_places = length-set k.devices d (Some w) ∙ g.equipped.device_places;
        pool_places = g.equipped.pool_places;
        each = so_at (λ j o. IsEquipped k.config.page (entry k.config.devices j) o (entry k.pools j)) k.devices d v w there (equipped_of k.config.page (entry k.config.devices d) v w (entry k.pools d) kept) g.equipped.each;
      };
      orderly = orderly;
      sound = g.sound;
      cached = g.cached;
      few = g.few;
      backed = g.backed;
      guarded = g.guarded;
      counted = laws.counted p work k.transfers k.memory.frames.counts k.pools g.counted;
      owners = laws.owned p work k.transfers k.memory.frames.owners k.pools g.owners;
      held = laws.held p work k.transfers k.config.page k.memory (owned_regions k.spaces.processes) g.held;
      planned = subst (λ (f : ℕ → Bool). All (λ (u : Transfer). Lends k.config.page k.memory.frames.owners (f u.dev) u u.dir) ts) (λ i j. sym (early_same k.devices k.pools d v w there kept j) i) planned;
      fitting = λ i u l. fits_same k.devices k.pools d v w there kept (get_or ts i u).dev (get_or ts i u).len (fitting i u l);
      posted = listed;
      sending = laws.sending p work t k.transfers k.devices devices found others
          (subst (λ o. IfSome o (λ (x : DeviceView). IsSending x (first_waiting ts t.dev))) (sym here) (subst (IsSending w) (sym first) (sending_on v w (first_waiting k.transfers d) kept sends))) g.sending;
      receiving = laws.receiving p work t k.transfers k.devices devices found others
          (subst (λ o. IfSome o (λ (x : DeviceView). IfSome x.present (λ (q : Present). IfSome (receiver ts t.dev) (IsStored q)))) (sym here) (subst (λ j. IfSome w.present (λ (q : Present). IfSome (receiver ts j) (IsStored q))) (sym dev) stored)) g.receiving;
      arrived = laws.arrived p work t k.transfers k.devices devices k.pools k.pools found gets g.arrived;
    }

still_in : (m : Memory) (bytes : List (List ℕ)) (landed : ℕ) (r : Option Region) (i f : ℕ) → IsInFrame m r i f → IsInFrame (with_landed m bytes landed) r i f
still_in m bytes landed None i f h = h
still_in m bytes landed (Some r) i f h = h

still_held : (page : ℕ) (m : Memory) (bytes : List (List ℕ)) (landed : ℕ) (regions : List Region) (transfers : List Transfer) → AreHeldPages page m regions transfers → AreHeldPages page (with_landed m bytes landed) regions transfers
still_held page m bytes landed regions transfers h = record {
  page_in = h.page_in;
  frame_of = h.frame_of;
  each = λ n d l. let x = h.each n d l in record { pages = x.pages; frames = x.frames; held = λ j within. still_in m bytes landed _ _ _ (x.held j within) };
}

still_fits : (m : Memory) (bytes : List (List ℕ)) (landed : ℕ) (objects : List ℕ) → FitsHidden m objects → FitsHidden (with_landed m bytes landed) objects
still_fits m bytes landed objects h = record {
  cached = λ n l. let x = h.cached n l in record { there = x.there; own = x.own; frame = x.frame; in_frame = x.in_frame; unheld = x.unheld };
  apart = h.apart;
}

-- a kernel whose frames have other bytes is good
pub landed_good : (k : Kernel) (bytes : List (List ℕ)) (landed : ℕ) → IsGood k → IsSound (with_landed k.memory bytes landed) → IsGood (record k { memory = with_landed k.memory bytes landed })
landed_good k bytes landed g sound = record {
  fits = g.fits;
  sized = record { page = g.sized.page; frames = g.sized.frames; slots = g.sized.slots; pages = g.sized.pages };
  spaced = g.spaced;
  equipped = g.equipped;
  orderly = g.orderly;
  sound = sound;
  cached = still_fits k.memory bytes landed (objects_of k.hidden) g.cached;
  few = g.few;
  backed = g.backed;
  guarded = g.guarded;
  counted = g.counted;
  owners = g.owners;
  held = still_held k.config.page k.memory bytes landed (owned_regions k.spaces.processes) k.transfers g.held;
  planned = g.planned;
  fitting = g.fitting;
  posted = g.posted;
  sending = g.sending;
  receiving = g.receiving;
  arrived = g.arrived;
}
