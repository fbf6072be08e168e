-- A booted kernel is good, and stands for the flat machine's boot.
use Rattle.std.proofs.Common.{◌≡◌, ℕ, ◌+◌, ◌<◌, ◌≤◌, zero, suc, Bool, false, List, [], ◌∷◌, refl, sym, ap, ap₂, subst, arith, ◌∙◌, ⊎_elim, inl, inr, map, length, take_all, replicate, get_or}
use Rattle.std.specs.Prelude.{Option, Some, None, IfSome, filter, sum_by, if◌then◌else◌}
use Rattle.std.specs.Option.{option_map}
use Rattle.std.specs.List.{list_any}
use Rattle.std.proofs.lemmas.List.{length-replicate, length-map}
use Rattle.std.proofs.lemmas.Bool.{cases_lt}
use Rattle.genie_base.specs.Configs.{config_of, device_config, device_pool, pool_of, Fits, most}
use Rattle.genie_base.specs.declared.config.Config.{Config}
use Rattle.genie_base.specs.declared.config.DeviceConfig.{DeviceConfig}
use Rattle.genie_base.specs.Lemmas.Places.{past_end}
use Rattle.genie_device.specs.Device.{DeviceView, idle_device, buffer_count}
use Rattle.genie_device.specs.declared.present.Present.{Present}
use Rattle.genie_device.specs.Buffers.{state_at, is_arrived, free_buffer}
use Rattle.genie_frame.specs.declared.frame.Owner.{Owner}
use Rattle.genie_frame.specs.declared.frame.Owner.TheVariants.{Free, System, Pool}
use Rattle.genie_input.specs.Pools.{PoolState, is_held, is_filling}
use Rattle.genie_input.specs.declared.pool.BufferState.{BufferState}
use Rattle.genie_input.specs.declared.pool.BufferState.TheVariants as buffer
use Rattle.genie_object.specs.declared.memory.Memory.{Memory}
use Rattle.genie_object.specs.declared.objects.Entry.{Entry}
use Rattle.genie_object.specs.Objects.{is_absent}
use Rattle.genie_region.specs.declared.region.Region.{Region}
use Rattle.genie_orderly.specs.Orderly.{IsOrderly}
use Rattle.genie_orderly.specs.Steps.{BootIsOrderly}
use Rattle.genie_model.specs.State as flat
use Rattle.genie_model.specs.Tables.{entry}
use Rattle.genie_space.specs.Spaces.{no_process}
use Rattle.genie_kernel.specs.declared.kernel.Kernel.{Kernel}
use Rattle.genie_kernel.specs.declared.transfer.Transfer.{Transfer}
use Rattle.genie_kernel.specs.Booting.{IsBooted, BootsAs, HasPools, HasIdlePool, IsPooledOrFree, pooled_frames}
use Rattle.genie_kernel.specs.Calls.{receiver}
use Rattle.genie_kernel.specs.Devices.{devices_view}
use Rattle.genie_kernel.specs.Good.{IsGood}
use Rattle.genie_kernel.specs.Matching.{IsSending, IsStored, has_waiting, has_filling, is_filling_pool}
use Rattle.genie_kernel.specs.Orphans.{is_orphan, orphans_view, orphan_view, all_numbers}
use Rattle.genie_kernel.specs.Regions.{processes_view, owned_regions, regions_of}
use Rattle.genie_kernel.specs.Sizes.{IsEquipped}
use Rattle.genie_kernel.specs.Transfers.{transfers_view}
use Rattle.genie_kernel.specs.View.{no_bytes}
use Rattle.genie_kernel.proofs.Pools.{get_replicate}

no_orphans : (regions : List Region) (ks : List ℕ) → filter (is_orphan regions []) ks ≡ []
no_orphans regions [] = refl
no_orphans regions (k ∷ ks) = no_orphans regions ks

none_left : (page : ℕ) (s : ℕ → List ℕ) (regions : List Region) (transfers : List Transfer) → transfers ≡ [] → orphans_view page s regions transfers ≡ []
none_left page s regions transfers none = ap (orphans_view page s regions) none ∙ ap (map (orphan_view page s [])) (no_orphans regions all_numbers)

idle_views : (s : ℕ → List ℕ) (page n : ℕ) (rests sents : ℕ → List ℕ) (pools : List (Option PoolState)) → ((d : ℕ) → sents d ≡ []) → (cs : List (Option DeviceConfig)) → devices_view s n rests sents pools (receiver []) (map (option_map (λ d. idle_device d page)) cs) ≡ flat.boot_devices rests n (map (option_map device_config) cs)
idle_views s page n rests sents pools unsent [] = refl
idle_views s page n rests sents pools unsent (None ∷ cs) = ap (λ vs. None ∷ vs) (idle_views s page (n + 1) rests sents pools unsent cs)
idle_views s page n rests sents pools unsent (Some c ∷ cs) = ap₂ (λ (bytes : List ℕ) vs. Some (record { kind = c.kind; depth = c.depth; rest = rests n; header = []; present = None; is_bad = false; sent = bytes }) ∷ vs) (unsent n) (idle_views s page (n + 1) rests sents pools unsent cs)

pub boots_as : (c : Config) (k : Kernel) → IsBooted c k → BootsAs c k
boots_as c k x b none =
    let devices : devices_view b.seen.kept_bytes 0 b.rests b.sents k.pools (receiver k.transfers) k.devices ≡ flat.boot_devices b.rests 0 (map (option_map device_config) c.devices) = rw (x.transfers, x.devices) (idle_views b.seen.kept_bytes c.page 0 b.rests b.sents k.pools none c.devices) in
    let orphans : orphans_view k.config.page b.seen.kept_bytes (owned_regions k.spaces.processes) k.transfers ≡ [] = none_left k.config.page b.seen.kept_bytes (owned_regions k.spaces.processes) k.transfers x.transfers in
    λ i. record {
      config = config_of (x.config i);
      processes = processes_view b.seen.entry_bytes (x.spaces i).processes (x.queues i);
      orphans = orphans i;
      transfers = transfers_view b.seen.kept_bytes k.devices k.pools (x.transfers i);
      devices = devices i;
      next = x.next i;
    }

abbrev idle : ℕ → Option DeviceConfig → Option DeviceView
idle page c = option_map (λ (d : DeviceConfig). idle_device d page) c

idle_entry : (page d : ℕ) (cs : List (Option DeviceConfig)) → entry (map (idle page) cs) d ≡ idle page (entry cs d)
idle_entry page d [] = refl
idle_entry page zero (c ∷ cs) = refl
idle_entry page (suc d) (c ∷ cs) = idle_entry page d cs

-- each device is idle, and its pool
idle_at : (c : Config) (m : Memory) (pools : List (Option PoolState)) → Fits (config_of c) → HasPools c 8 m pools → (d : ℕ) → HasIdlePool (entry c.devices d) (entry pools d)
idle_at c m pools fits h d = ⊎_elim
    (λ (low : d < 8). h.each d low)
    (λ high.
    let long : length c.devices ≡ 8 = sym (length-map c.devices (option_map device_config)) ∙ fits.table in
    subst (λ o. HasIdlePool o (entry pools d)) (sym (past_end c.devices d None (omega (arith, high, long)))) (h.later d (omega (arith, high))))
    (cases_lt d 8)

at_each : (P : Option DeviceView → Option PoolState → Type 0) (c : Config) (m : Memory) (pools : List (Option PoolState)) → Fits (config_of c) → HasPools c 8 m pools → ((o : Option DeviceConfig) (pool : Option PoolState) → HasIdlePool o pool → P (idle c.page o) pool) → (d : ℕ) → P (entry (map (idle c.page) c.devices) d) (entry pools d)
at_each P c m pools fits h each d = subst (λ v. P v (entry pools d)) (sym (idle_entry c.page d c.devices)) (each (entry c.devices d) (entry pools d) (idle_at c m pools fits h d))

equipped_one : (page : ℕ) (o : Option DeviceConfig) (pool : Option PoolState) → HasIdlePool o pool → IsEquipped page o (idle page o) pool
equipped_one page None None h = tt
equipped_one page None (Some p) h = absurd (cc)
equipped_one page (Some c) pool h = (record { config = refl; limit = refl }, h.0)

equipped_at : (c : Config) (m : Memory) (pools : List (Option PoolState)) → Fits (config_of c) → HasPools c 8 m pools → (d : ℕ) → IsEquipped c.page (entry c.devices d) (entry (map (idle c.page) c.devices) d) (entry pools d)
equipped_at c m pools fits h d = subst (λ v. IsEquipped c.page (entry c.devices d) v (entry pools d)) (sym (idle_entry c.page d c.devices)) (equipped_one c.page (entry c.devices d) (entry pools d) (idle_at c m pools fits h d))

sending_one : (page : ℕ) (o : Option DeviceConfig) (pool : Option PoolState) → HasIdlePool o pool → IfSome (idle page o) (λ v. IsSending v None)
sending_one page None pool h = tt
sending_one page (Some c) pool h = record { unstaged = refl; unsent = refl }

none_arrived : (n room b : ℕ) → is_arrived (state_at (replicate n (free_buffer room)) b) ≡ false
none_arrived zero room b = refl
none_arrived (suc n) room zero = refl
none_arrived (suc n) room (suc b) = none_arrived n room b

none_held : (n b : ℕ) → is_held (get_or (replicate n buffer.Free) b buffer.Free) ≡ false
none_held n b = ap is_held (get_replicate n b buffer.Free)

none_filling : (n : ℕ) → list_any is_filling (replicate n buffer.Free) ≡ false
none_filling zero = refl
none_filling (suc n) = none_filling n

waiting_one : (page b : ℕ) (o : Option DeviceConfig) (pool : Option PoolState) → HasIdlePool o pool → has_waiting (idle page o) pool b ≡ false
waiting_one page b None pool h = refl
waiting_one page b (Some c) None h = none_arrived (buffer_count c.kind c.depth) (most c.kind page) b
waiting_one page b (Some c) (Some p) h = ap (λ (bs : List BufferState). is_held (get_or bs b buffer.Free)) h.1 ∙ none_held c.depth b

filling_one : (page : ℕ) (o : Option DeviceConfig) (pool : Option PoolState) → HasIdlePool o pool → has_filling pool ≡ is_filling_pool (idle page o) pool
filling_one page None None h = refl
filling_one page None (Some p) h = absurd (cc)
filling_one page (Some c) None h = refl
filling_one page (Some c) (Some p) h = ap (list_any is_filling) h.1 ∙ none_filling c.depth

receiving_one : (page : ℕ) (o : Option DeviceConfig) (pool : Option PoolState) → HasIdlePool o pool → IfSome (idle page o) (λ v. IfSome v.present (λ (g : Present). IfSome (receiver [] 0) (IsStored g)))
receiving_one page None pool h = tt
receiving_one page (Some c) pool h = tt

few_none : (pid : ℕ) → length (regions_of (get_or no_process pid None)) + 0 ≤ 32
few_none pid = let z : length (regions_of (get_or no_process pid None)) ≡ 0 = ap (λ p. length (regions_of p)) (get_replicate 16 pid None) in omega (arith, z)

unsystem : (owner : Owner) (k : ℕ) → IsPooledOrFree owner → owner ≡ System k → ⊥
unsystem owner k (inl free) e = let h : Free ≡ System k = sym free ∙ e in cc
unsystem owner k (inr pooled) e = let h : Pool pooled.0 ≡ System k = sym pooled.1 ∙ e in cc

-- a kernel as it is booted
abbrev booted : Config → Memory → ℕ → List (Option PoolState) → Kernel
booted c m clock pools = record { memory = m; spaces = record { page = c.page; processes = no_process }; hidden = []; clock = clock; queues = replicate 16 []; transfers = []; devices = map (idle c.page) c.devices; pools = pools; posted = []; next = 1; config = c }

booted_good : BootIsOrderly → (c : Config) (m : Memory) (clock : ℕ) (pools : List (Option PoolState)) → Fits (config_of c) → HasPools c 8 m pools → IsGood (booted c m clock pools)
booted_good boot_is_orderly c m clock pools fits h =
    let k : Kernel = booted c m clock pools in
    let x : IsBooted c k = record { memory = h; spaces = refl; hidden = refl; queues = refl; transfers = refl; devices = refl; posted = refl; next = refl; config = refl } in
    record {
      fits = fits;
      sized = record { page = h.page; frames = h.size; slots = ap length h.untaken ∙ length-replicate c.slots false; pages = h.most };
      spaced = record { page = refl; processes = refl; queue_places = refl };
      equipped = record {
        device_places = length-map c.devices (idle c.page) ∙ sym (length-map c.devices (option_map device_config)) ∙ fits.table;
        pool_places = h.places;
        each = λ d. equipped_at c m pools fits h d;
      };
      orderly = subst IsOrderly (sym (boots_as c k x (no_bytes c.page) (λ d. refl))) (boot_is_orderly (config_of c) (λ d. []) fits);
      sound = h.sound;
      cached = record { cached = λ j l. absurd (omega arith); apart = λ i j l. absurd (omega arith) };
      few = record { process = λ j d l. absurd (omega arith); few = few_none };
      backed = record { each = λ j d l. absurd (omega arith); some = λ j d l. absurd (omega arith); one = λ o. sym (ap (λ os. if is_absent (get_or os o []) then 0 else 1) h.absent ∙ ap (λ (es : List Entry). if is_absent es then 0 else 1) (get_replicate 512 o [])) };
      guarded = λ j d l. absurd (omega arith);
      counted = h.counted;
      owners = record { system = λ f j e. absurd (unsystem _ j (h.owned f) e); pooled = h.once; spare = λ f d e. refl; pool_frames = h.pool_frames };
      held = record { page_in = λ f. record { region = None; index = 0 }; frame_of = λ p. 0; each = λ j d l. absurd (omega arith) };
      planned = λ j d l. absurd (omega arith);
      fitting = λ j d l. absurd (omega arith);
      posted = record { listed = refl; unstored = λ j d l. absurd (omega arith) };
      sending = λ d. at_each (λ v pool. IfSome v (λ w. IsSending w None)) c m pools fits h (sending_one c.page) d;
      receiving = λ d. at_each (λ v pool. IfSome v (λ w. IfSome w.present (λ (g : Present). IfSome (receiver [] 0) (IsStored g)))) c m pools fits h (receiving_one c.page) d;
      arrived = record {
        buffers = λ d b. sym (ap (λ (t : Bool). if t then 1 else 0) (at_each (λ v pool. has_waiting v pool b ≡ false) c m pools fits h (waiting_one c.page b) d));
        inputs = λ j d l. absurd (omega arith);
        stored = λ j d l. absurd (omega arith);
        filling = λ d. at_each (λ v pool. has_filling pool ≡ is_filling_pool v pool) c m pools fits h (filling_one c.page) d;
      };
    }

pub boots_good : BootIsOrderly → (c : Config) (k : Kernel) → Fits (config_of c) → IsBooted c k → IsGood k
boots_good boot_is_orderly c k fits x = subst IsGood (sym (λ i. record {
  memory = k.memory;
  spaces = x.spaces i;
  hidden = x.hidden i;
  clock = k.clock;
  queues = x.queues i;
  transfers = x.transfers i;
  devices = x.devices i;
  pools = k.pools;
  posted = x.posted i;
  next = x.next i;
  config = x.config i;
})) (booted_good boot_is_orderly c k.memory k.clock k.pools fits x.memory)

-- the frames of all pools are taken
pub all_taken : (c : Config) → Fits (config_of c) → pooled_frames c.devices 8 ≡ pool_of (config_of c).devices
all_taken c fits = ap (sum_by device_pool) (take_all 8 (map (option_map device_config) c.devices) (let long = fits.table in omega (arith, long)))
