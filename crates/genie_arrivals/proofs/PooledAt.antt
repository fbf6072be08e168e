-- What is known of a pooled device and of the buffer in which the datagram of an input waits.
use Rattle.std.proofs.Common.{◌≡◌, ℕ, ◌*◌, ◌<◌, ◌≤◌, zero, suc, true, false, List, [], ◌∷◌, refl, sym, ap, subst, arith, ◌∙◌, length, take, drop, map, get_or}
use Rattle.std.specs.Prelude.{Option, Some, None, IfSome, find, is_some, flat_map, if◌then◌else◌}
use Rattle.std.specs.Option.{option_map}
use Rattle.genie_base.specs.Bytes.{part}
use Rattle.genie_base.specs.Configs as config
use Rattle.genie_base.specs.declared.config.DeviceConfig.{DeviceConfig}
use Rattle.genie_base.specs.declared.config.Kind.{Kind}
use Rattle.genie_base.specs.declared.config.Kind.TheVariants.{Early, Pooled, Outboard}
use Rattle.genie_base.specs.declared.semantics.Direction.TheVariants.{Inward}
use Rattle.genie_device.specs.Device.{DeviceView}
use Rattle.genie_finish.specs.Copies.{AreOfSystem}
use Rattle.genie_frame.specs.declared.frame.InLoan.{InLoan}
use Rattle.genie_frame.specs.declared.frame.Owner.{Owner}
use Rattle.genie_frame.specs.declared.frame.Owner.TheVariants as owner
use Rattle.genie_frame.specs.FrameTable.{bytes_at, counts_at, is_system, owner_at}
use Rattle.genie_input.specs.Pools.{IsPool, PoolState, is_held}
use Rattle.genie_input.specs.declared.pool.BufferState.{BufferState}
use Rattle.genie_input.specs.declared.pool.BufferState.TheVariants.{Free}
use Rattle.genie_object.specs.Memory.{is_kept, seen}
use Rattle.genie_plan.specs.Plans.{input_frames, range_bytes, times}
use Rattle.genie_plan.specs.Lemmas.Ranges.{times-cons, times_at}
use Rattle.genie_model.specs.Lemmas.Lists.{all_has, at_entry, find_has}
use Rattle.genie_model.specs.Pending.{is_ready}
use Rattle.genie_model.specs.Tables.{entry}
use Rattle.genie_kernel.specs.declared.kernel.Kernel.{Kernel}
use Rattle.genie_kernel.specs.declared.transfer.Transfer.{Transfer}
use Rattle.genie_kernel.specs.Calls.{first_waiting, has_number}
use Rattle.genie_kernel.specs.Counted.{pool_on}
use Rattle.genie_kernel.specs.Good.{IsGood}
use Rattle.genie_kernel.specs.Matching.{has_waiting, room_in}
use Rattle.genie_kernel.specs.Planned.{is_early_device}
use Rattle.genie_kernel.specs.Sizes.{IsEquipped, is_pooled}
use Rattle.genie_kernel.specs.Transfers.{buffer_bytes, input_bytes, payload_of, pool_frames}
use Rattle.genie_kernel.specs.View.{Bytes}
use Rattle.genie_arrivals.specs.Pooled.{IsBufferIn, frames_in, is_pooled_device, offset_of}
use Rattle.genie_arrivals.specs.Waiting.{IsWaiting}
use Rattle.genie_arrivals.proofs.Buffered.{has_some, waits_in}
use Rattle.genie_arrivals.proofs.Finishing.{shown_joined}
use Rattle.genie_arrivals.proofs.Found.{seen_as}

-- a pooled device, and its pool
pub record IsPoolAt (k : Kernel) (d : ℕ) : Type 0 where
  pub view : DeviceView
  pub there : entry k.devices d ≡ Some view
  pub pool : PoolState
  pub pooled : entry k.pools d ≡ Some pool
  pub sized : IsPool pool.buffers pool.loans
  pub config : DeviceConfig
  pub configured : entry k.config.devices d ≡ Some config
  pub same : view.config ≡ config
  pub kind : config.kind ≡ Pooled
  pub limit : view.limit ≡ 16 * k.config.page

kind_is : (kind : Kind) → is_pooled kind ≡ true → kind ≡ Pooled
kind_is Early e = absurd (cc)
kind_is Pooled e = refl
kind_is Outboard e = absurd (cc)

not_pooled : (a b : Kind) → a ≡ b → is_pooled a ≡ true → is_pooled b ≡ false → ⊥
not_pooled a b same e n = let clash : true ≡ false = sym e ∙ ap is_pooled same ∙ n in absurd (cc)

pool_in : (k : Kernel) (d : ℕ) (c : Option DeviceConfig) (v : Option DeviceView) (p : Option PoolState) → entry k.config.devices d ≡ c → entry k.devices d ≡ v → entry k.pools d ≡ p → is_pooled_device v → IsEquipped k.config.page c v p → IsPoolAt k d
pool_in k d c None p ec ev ep on h = absurd on
pool_in k d None (Some v) p ec ev ep on h = absurd h
pool_in k d (Some c) (Some v) None ec ev ep on h = absurd (not_pooled v.config.kind c.kind (ap (λ (x : DeviceConfig). x.kind) h.0.config) on h.1)
pool_in k d (Some c) (Some v) (Some p) ec ev ep on h =
    let kind : c.kind ≡ Pooled = kind_is c.kind h.1.pooled in
    record { view = v; there = ev; pool = p; pooled = ep; sized = h.1.pool; config = c; configured = ec; same = h.0.config; kind = kind; limit = h.0.limit ∙ ap (λ z. config.most z k.config.page) kind }

pub pool_at : (k : Kernel) (d : ℕ) → IsGood k → is_pooled_device (entry k.devices d) → IsPoolAt k d
pool_at k d g on = pool_in k d (entry k.config.devices d) (entry k.devices d) (entry k.pools d) refl refl refl on (g.equipped.each d)

late_kind : (v : Option DeviceView) → is_pooled_device v → is_early_device v ≡ false
late_kind None e = absurd e
late_kind (Some v) e = late v.config.kind e where
  late : (kind : Kind) → is_pooled kind ≡ true → is_early_device (Some (record v { config = record (v.config) { kind = kind } })) ≡ false
  late Early e = absurd (cc)
  late Pooled e = refl
  late Outboard e = refl

pub pooled_waits : (devices : List (Option DeviceView)) (t : Transfer) → t.dir ≡ Inward → is_pooled_device (entry devices t.dev) → IsWaiting devices t
pooled_waits devices t inward on = record { inward = inward; late = late_kind (entry devices t.dev) on }

-- its datagrams begin inside the first page of a buffer
fits_below : (page : ℕ) (d : DeviceConfig) → d.kind ≡ Pooled → config.FitsDevice page (config.device_config d) → d.offset < page
fits_below page d e h = subst (λ z. d.offset < config.offset_end z page) e h.offset

entry_mapped : {X Y : Type 0} (f : X → Y) (xs : List (Option X)) (d : ℕ) → entry (map (option_map f) xs) d ≡ option_map f (entry xs d)
entry_mapped f [] d = refl
entry_mapped f (x ∷ xs) zero = refl
entry_mapped f (x ∷ xs) (suc d) = entry_mapped f xs d

pub low_offset : (k : Kernel) (d : ℕ) (g : IsGood k) (at : IsPoolAt k d) → at.config.offset < k.config.page
low_offset k d g at =
    let each = at_entry (config.FitsPlace k.config.page) (config.config_of k.config).devices d tt g.fits.devices in
    let here : entry (config.config_of k.config).devices d ≡ Some (config.device_config at.config) = entry_mapped config.device_config k.config.devices d ∙ ap (option_map config.device_config) at.configured in
    fits_below k.config.page at.config at.kind (subst (config.FitsPlace k.config.page) here each)

times_taken : (n : ℕ) (xs : List InLoan) (f : ℕ) → times (input_frames (take n xs)) f ≤ times (input_frames xs) f
times_taken zero xs f = omega arith
times_taken (suc n) [] f = omega arith
times_taken (suc n) (x ∷ xs) f = omega (arith, times_taken n xs f, times-cons x.frame.0 f (input_frames (take n xs)), times-cons x.frame.0 f (input_frames xs))

times_dropped : (n : ℕ) (xs : List InLoan) (f : ℕ) → times (input_frames (drop n xs)) f ≤ times (input_frames xs) f
times_dropped zero xs f = omega arith
times_dropped (suc n) [] f = omega arith
times_dropped (suc n) (x ∷ xs) f = omega (arith, times_dropped n xs f, times-cons x.frame.0 f (input_frames xs))

held_there : (bs : List BufferState) (b : ℕ) → is_held (get_or bs b Free) ≡ true → b < length bs
held_there [] b e = absurd (cc)
held_there (x ∷ bs) zero e = omega arith
held_there (x ∷ bs) (suc b) e = let l = held_there bs b e in omega (arith, l)

-- the buffer of an input whose datagram waits
pub record HasPooled (k : Kernel) (t : Transfer) (at : IsPoolAt k t.dev) : Type 0 where
  pub buffer : ℕ
  pub mine : t.buffer ≡ Some buffer
  pub below : buffer < length at.pool.buffers
  pub fits : t.stored ≤ at.view.limit

some_number : (o : Option ℕ) → is_some o ≡ true → (b : ℕ) × (o ≡ Some b)
some_number None e = absurd (cc)
some_number (Some b) e = (b, refl)

pub has_pooled : (k : Kernel) (n : ℕ) (t : Transfer) → (g : IsGood k) → find (has_number n) k.transfers ≡ Some t → is_ready t.phase ≡ true → t.dir ≡ Inward → (on : is_pooled_device (entry k.devices t.dev)) → HasPooled k t (pool_at k t.dev g on)
has_pooled k n t g found ready inward on =
    let at = pool_at k t.dev g on in
    let b = some_number t.buffer (has_some k n t g found ready (pooled_waits k.devices t inward on)) in
    let waits = waits_in k n t g found b.0 b.1 in
    let here : is_held (get_or at.pool.buffers b.0 Free) ≡ true = subst (λ o. has_waiting o (Some at.pool) b.0 ≡ true) at.there (subst (λ o. has_waiting (entry k.devices t.dev) o b.0 ≡ true) at.pooled waits) in
    let stored : IfSome t.buffer (λ b. t.stored ≤ room_in (entry k.devices t.dev) (entry k.pools t.dev) b) = all_has (λ (u : Transfer). IfSome u.buffer (λ b. u.stored ≤ room_in (entry k.devices u.dev) (entry k.pools u.dev) b)) k.transfers g.arrived.stored t (find_has (has_number n) k.transfers t found).0 in
    let room : t.stored ≤ room_in (entry k.devices t.dev) (entry k.pools t.dev) b.0 = subst (λ o. IfSome o (λ b. t.stored ≤ room_in (entry k.devices t.dev) (entry k.pools t.dev) b)) b.1 stored in
    record {
      buffer = b.0;
      mine = b.1;
      below = held_there at.pool.buffers b.0 here;
      fits = subst (λ o. t.stored ≤ room_in o (Some at.pool) b.0) at.there (subst (λ o. t.stored ≤ room_in (entry k.devices t.dev) o b.0) at.pooled room);
    }

module _ (k : Kernel) (t : Transfer) (g : IsGood k) (at : IsPoolAt k t.dev) (x : HasPooled k t at) where
  abbrev pub frames : List ℕ
  frames = frames_in (entry k.pools t.dev) t.buffer

  abbrev pub first : ℕ
  first = offset_of (entry k.config.devices t.dev)

  pub first_is : first ≡ at.config.offset
  first_is = ap offset_of at.configured

  pub frames_are : frames ≡ pool_frames at.pool x.buffer
  frames_are = (λ i. frames_in (at.pooled i) (x.mine i))

  pub buffer_there : IsBufferIn (entry k.pools t.dev) t.buffer
  buffer_there = subst (λ o. IsBufferIn o t.buffer) (sym at.pooled) (subst (IsBufferIn (Some at.pool)) (sym x.mine) x.below)

  -- each of its frames is its device's
  owner_of : (j : ℕ) → j < length frames → owner_at k.memory.frames (get_or frames j 0) ≡ owner.Pool t.dev
  owner_of j l =
      let f : ℕ = get_or frames j 0 in
      let here : 0 < times (pool_frames at.pool x.buffer) f = subst (λ (fs : List ℕ). 0 < times fs f) frames_are (times_at frames j l) in
      let a = times_taken 17 (drop (17 * x.buffer) at.pool.loans) f in
      let b = times_dropped (17 * x.buffer) at.pool.loans f in
      g.owners.pool_frames f t.dev (subst (λ o. 0 < pool_on f o) (sym at.pooled) (omega (arith, here, a, b)))

  pub of_system : AreOfSystem k.memory.frames frames
  of_system j l = ap is_system (owner_of j l)

  shown : (slots : ℕ → List ℕ) (j : ℕ) → j < length frames → (seen k.memory slots).kept_bytes (get_or frames j 0) ≡ bytes_at k.memory.frames (get_or frames j 0)
  shown slots j l =
      let f : ℕ = get_or frames j 0 in
      ap (λ (z : Owner). if is_kept z (counts_at k.memory.frames f) then bytes_at k.memory.frames f else []) (owner_of j l)

  -- what the flat machine has of the input: the bytes that wait
  abbrev pub waiting : (ℕ → List ℕ) → List ℕ
  waiting s = take t.stored (drop first (flat_map s frames))

  pub payload_is : (b : Bytes) → t.dir ≡ Inward → (seen_as k b t).payload ≡ waiting b.seen.kept_bytes
  payload_is b inward =
      ap (payload_of b.seen.kept_bytes k.devices k.pools (first_waiting k.transfers) t) inward
      ∙ ap (input_bytes b.seen.kept_bytes k.devices k.pools t) x.mine
      ∙ (λ i. take t.stored (buffer_bytes b.seen.kept_bytes (at.there i) (at.pooled i) x.buffer))
      ∙ (λ i. take t.stored (drop (at.same i).offset (flat_map b.seen.kept_bytes (sym frames_are i))))
      ∙ (λ i. take t.stored (drop (sym first_is i) (flat_map b.seen.kept_bytes frames)))

  pub waiting_bytes : (slots : ℕ → List ℕ) → range_bytes k.memory.frames frames first t.stored ≡ waiting (seen k.memory slots).kept_bytes
  waiting_bytes slots = ap (part first t.stored) (sym (shown_joined (seen k.memory slots).kept_bytes k.memory.frames frames (shown slots)))
