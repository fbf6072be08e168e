-- A buffer in which a datagram waited is free again.
use Rattle.std.proofs.Common.{◌≡◌, ◌≢◌, ℕ, ◌*◌, ◌<◌, ◌≤◌, zero, suc, Bool, true, false, cond, List, [], ◌∷◌, refl, sym, ap, ap₂, subst, arith, rules, ◌∙◌, ⊎_elim, map, length, length-set, take, get_or, set, find, get_or-set_other}
use Rattle.std.specs.Prelude.{Option, Some, None, IfSome, count_by, sum_by, position, nat_lt, if◌then◌else◌, ◌==◌, ◌&&◌, ◌||◌}
use Rattle.std.specs.List.{list_any}
use Rattle.std.proofs.lemmas.Bool.{cases_Bool, cases_eq}
use Rattle.std.proofs.Math.Seq.{map-set_same}
use Rattle.std.proofs.lemmas.List.Folds.{position_or_len-set}
use Rattle.std.proofs.lemmas.List.Sums.{sum_by-cons}
use Rattle.genie_base.specs.Lemmas.Places.{num}
use Rattle.genie_base.specs.declared.config.DeviceConfig.{DeviceConfig}
use Rattle.genie_device.specs.Buffers.{BufferView, bytes_in, is_arrived, no_buffer, state_at, with_state}
use Rattle.genie_device.specs.Buffers as buffer
use Rattle.genie_device.specs.Device.{DeviceView, buffer_of}
use Rattle.genie_device.specs.Kept.{AreBuffers}
use Rattle.genie_device.specs.declared.present.Present.{Present}
use Rattle.genie_input.specs.Pools.{PoolState, is_filling, is_held, set_buffer}
use Rattle.genie_input.specs.declared.pool.BufferState.{BufferState}
use Rattle.genie_input.specs.declared.pool.BufferState.TheVariants as pooled
use Rattle.genie_model.specs.Lemmas.Lists.{Has, find_has, has_at}
use Rattle.genie_model.specs.Pending.{is_just}
use Rattle.genie_model.specs.Tables.{without, entry}
use Rattle.genie_kernel.specs.declared.kernel.Kernel.{Kernel}
use Rattle.genie_kernel.specs.declared.transfer.Transfer.{Transfer}
use Rattle.genie_kernel.specs.Calls.{has_number}
use Rattle.genie_kernel.specs.Devices.{gathered_in}
use Rattle.genie_kernel.specs.Matching.{has_buffer, has_filling, has_waiting, is_filling_pool, room_in}
use Rattle.genie_kernel.specs.Planned.{is_early_device}
use Rattle.genie_kernel.specs.Sizes.{IsEquipped}
use Rattle.genie_kernel.specs.Transfers.{buffer_bytes}
use Rattle.genie_kernel.specs.Lemmas.Beside.{sum_beside}
use Rattle.genie_kernel.specs.Lemmas.Staying.{at_least}
use Rattle.genie_changes.specs.Ending.{EndsBuffer, bare_device, bare_pool}
use Rattle.genie_changes.specs.Pending.{GivesUpBuffer}
use Rattle.genie_changes.specs.Released.{FillsOne, ShowsBuffers, devices_freed, free_at, free_in, gathered_by, gathered_of, pools_freed}
use Rattle.genie_changes.specs.Settled.{IsSettled}

-- one element of a list replaced by one that a test doesn't tell from it
any_set : {X : Type 0} (p : X → Bool) (xs : List X) (i : ℕ) (y d : X) → p y ≡ p (get_or xs i d) → list_any p (set xs i y) ≡ list_any p xs
any_set p [] i y d e = refl
any_set p (x ∷ xs) zero y d e = ap (λ b. b || list_any p xs) e
any_set p (x ∷ xs) (suc i) y d e = ap (λ b. p x || b) (any_set p xs i y d e)

count_set : {X : Type 0} (p : X → Bool) (xs : List X) (i : ℕ) (y d : X) → p y ≡ p (get_or xs i d) → count_by p (set xs i y) ≡ count_by p xs
count_set p [] i y d e = refl
count_set p (x ∷ xs) zero y d e = let same = ap num e in omega (arith, sum_by-cons (λ z. num (p z)) y xs, sum_by-cons (λ z. num (p z)) x xs, same)
count_set p (x ∷ xs) (suc i) y d e = omega (arith, sum_by-cons (λ z. num (p z)) x (set xs i y), sum_by-cons (λ z. num (p z)) x xs, count_set p xs i y d e)

position_set : {X : Type 0} (p : X → Bool) (xs : List X) (i : ℕ) (y d : X) → p y ≡ p (get_or xs i d) → position p (set xs i y) ≡ position p xs
position_set p xs i y d e = ap₂ (λ n m. cond (nat_lt n m) (Some n) None) (position_or_len-set p xs i y d e) (length-set xs i y)

-- a place of a table replaced by what is made of it
changed_here : {X : Type 0} (f : Option X → Option X) → f None ≡ None → (xs : List (Option X)) (d : ℕ) → entry (set xs d (f (entry xs d))) d ≡ f (entry xs d)
changed_here f e [] d = sym e
changed_here f e (x ∷ xs) zero = refl
changed_here f e (x ∷ xs) (suc d) = changed_here f e xs d

free_none : (pool : Option PoolState) (b : ℕ) → free_at pool b None ≡ None
free_none None b = refl
free_none (Some p) b = refl

-- the buffer that is set free waits for nothing, and every other one waits as before
freed_state : (xs : List BufferState) (b : ℕ) → get_or (set xs b pooled.Free) b pooled.Free ≡ pooled.Free
freed_state [] b = refl
freed_state (x ∷ xs) zero = refl
freed_state (x ∷ xs) (suc b) = freed_state xs b

freed_at : (xs : List BufferView) (b : ℕ) (y : BufferView) → y.state ≡ buffer.Free → state_at (set xs b y) b ≡ buffer.Free
freed_at [] b y e = refl
freed_at (x ∷ xs) zero y e = e
freed_at (x ∷ xs) (suc b) y e = freed_at xs b y e

module _ (b : ℕ) where
  freed_waits : (v : Option DeviceView) (pool : Option PoolState) → has_waiting (free_at pool b v) (free_in b pool) b ≡ false
  freed_waits None None = refl
  freed_waits None (Some p) = refl
  freed_waits (Some v) None = ap is_arrived (freed_at v.buffers b (record (get_or v.buffers b no_buffer) { state = buffer.Free }) refl)
  freed_waits (Some v) (Some p) = ap is_held (freed_state p.buffers b)

  other_waits : (v : Option DeviceView) (pool : Option PoolState) (j : ℕ) → j ≢ b → has_waiting (free_at pool b v) (free_in b pool) j ≡ has_waiting v pool j
  other_waits None None j ne = refl
  other_waits None (Some p) j ne = refl
  other_waits (Some v) None j ne = ap (λ (x : BufferView). is_arrived x.state) (get_or-set_other v.buffers b j (record (get_or v.buffers b no_buffer) { state = buffer.Free }) no_buffer ne)
  other_waits (Some v) (Some p) j ne = ap is_held (get_or-set_other p.buffers b j pooled.Free pooled.Free ne)

  other_room : (v : Option DeviceView) (pool : Option PoolState) (j : ℕ) → j ≢ b → room_in (free_at pool b v) (free_in b pool) j ≡ room_in v pool j
  other_room None None j ne = refl
  other_room None (Some p) j ne = refl
  other_room (Some v) None j ne = ap (λ (x : BufferView). length (bytes_in x.state)) (get_or-set_other v.buffers b j (record (get_or v.buffers b no_buffer) { state = buffer.Free }) no_buffer ne)
  other_room (Some v) (Some p) j ne = refl

  other_bytes : (s : ℕ → List ℕ) (v : Option DeviceView) (pool : Option PoolState) (j : ℕ) → j ≢ b → buffer_bytes s (free_at pool b v) (free_in b pool) j ≡ buffer_bytes s v pool j
  other_bytes s None None j ne = refl
  other_bytes s None (Some p) j ne = refl
  other_bytes s (Some v) None j ne = ap (λ (x : BufferView). bytes_in x.state) (get_or-set_other v.buffers b j (record (get_or v.buffers b no_buffer) { state = buffer.Free }) no_buffer ne)
  other_bytes s (Some v) (Some p) j ne = refl

  still_early : (v : Option DeviceView) (pool : Option PoolState) → is_early_device (free_at pool b v) ≡ is_early_device v
  still_early None None = refl
  still_early None (Some p) = refl
  still_early (Some v) None = refl
  still_early (Some v) (Some p) = refl

  unfilling : (x : BufferState) → is_held x ≡ true → is_filling pooled.Free ≡ is_filling x
  unfilling pooled.Free e = absurd (cc)
  unfilling pooled.Filling e = absurd (cc)
  unfilling pooled.Held e = refl

  still_filling : (v : Option DeviceView) (pool : Option PoolState) → has_waiting v pool b ≡ true → has_filling pool ≡ is_filling_pool v pool → has_filling (free_in b pool) ≡ is_filling_pool (free_at pool b v) (free_in b pool)
  still_filling None pool waits e = absurd (cc)
  still_filling (Some v) None waits e = e
  still_filling (Some v) (Some p) waits e = any_set is_filling p.buffers b pooled.Free pooled.Free (unfilling (get_or p.buffers b pooled.Free) waits) ∙ e

  gathered_alike : (s : ℕ → List ℕ) (v : DeviceView) (p : PoolState) (moved : ℕ) (o : Option ℕ) → gathered_in s v (Some (set_buffer p b pooled.Free)) moved o ≡ gathered_in s v (Some p) moved o
  gathered_alike s v p moved None = refl
  gathered_alike s v p moved (Some j) = refl

  arrived_or_filling : (x : buffer.BufferState) → is_arrived x ≡ true → buffer.is_filling x ≡ true → ⊥
  arrived_or_filling buffer.Free e f = absurd (cc)
  arrived_or_filling (buffer.Filling bytes) e f = absurd (cc)
  arrived_or_filling (buffer.Arrived bytes) e f = absurd (cc)

  gathered_apart : (s : ℕ → List ℕ) (v : DeviceView) (moved : ℕ) (o : Option ℕ) → is_arrived (state_at v.buffers b) ≡ true → ((j : ℕ) → o ≡ Some j → buffer.is_filling (state_at v.buffers j) ≡ true) → gathered_in s (record v { buffers = with_state buffer.Free b v.buffers }) None moved o ≡ gathered_in s v None moved o
  gathered_apart s v moved None arrived fills = refl
  gathered_apart s v moved (Some j) arrived fills = ap (take moved) (other_bytes s (Some v) None j (λ same. arrived_or_filling (state_at v.buffers b) arrived (ap (λ i. buffer.is_filling (state_at v.buffers i)) (sym same) ∙ fills j refl)))

  -- the datagram that a device gathers isn't in the buffer that is set free
  still_gathered : (s : ℕ → List ℕ) (v : Option DeviceView) (pool : Option PoolState) → has_waiting v pool b ≡ true → (pool ≡ None → FillsOne v) → gathered_by s (free_at pool b v) (free_in b pool) ≡ gathered_by s v pool
  still_gathered s None pool waits fills = absurd (cc)
  still_gathered s (Some v) (Some p) waits fills = by_present v.present where
    by_present : (o : Option Present) → gathered_of s v (Some (set_buffer p b pooled.Free)) o ≡ gathered_of s v (Some p) o
    by_present None = refl
    by_present (Some g) = ap (gathered_in s v (Some (set_buffer p b pooled.Free)) g.moved) (position_set is_filling p.buffers b pooled.Free pooled.Free (unfilling (get_or p.buffers b pooled.Free) waits)) ∙ gathered_alike s v p g.moved (position is_filling p.buffers)
  still_gathered s (Some v) None waits fills = by_present v.present refl where
    by_present : (o : Option Present) → v.present ≡ o → gathered_of s (record v { buffers = with_state buffer.Free b v.buffers }) None o ≡ gathered_of s v None o
    by_present None e = refl
    by_present (Some g) e = gathered_apart s v g.moved g.buffer waits (λ j is. let all : AreBuffers v.limit v.present v.buffers = fills refl in (all.filled j (ap buffer_of e ∙ is)).filling)

  -- the device and its pool are those of the configuration
  still_equipped : (page : ℕ) (c : Option DeviceConfig) (v : Option DeviceView) (pool : Option PoolState) → has_waiting v pool b ≡ true → IsEquipped page c v pool → IsEquipped page c (free_at pool b v) (free_in b pool)
  still_equipped page c None pool waits h = absurd (cc)
  still_equipped page None (Some v) pool waits h = absurd h
  still_equipped page (Some c) (Some v) None waits h = (record { config = h.0.config; limit = h.0.limit }, h.1)
  still_equipped page (Some c) (Some v) (Some p) waits h =
      let long = length-set p.buffers b pooled.Free in
      let depth = h.1.depth in
      let size = h.1.pool.size in
      let most = h.1.pool.most in
      let one = h.1.pool.one in
      let same = count_set is_filling p.buffers b pooled.Free pooled.Free (unfilling (get_or p.buffers b pooled.Free) waits) in
      (h.0, record { pooled = h.1.pooled; depth = long ∙ depth; pool = record { most = omega (arith, long, most); size = size ∙ ap (λ m. 17 * m) (sym long); one = omega (arith, same, one) } })

  bare_freed : (pool : Option PoolState) (v : Option DeviceView) → bare_device (free_at pool b v) ≡ bare_device v
  bare_freed None None = refl
  bare_freed None (Some v) = refl
  bare_freed (Some p) v = refl

  bare_pool_freed : (pool : Option PoolState) → bare_pool (free_in b pool) ≡ bare_pool pool
  bare_pool_freed None = refl
  bare_pool_freed (Some p) = refl

one_most : (c : Bool) → 0 < (if c then 1 else 0) → c ≡ true
one_most true l = refl
one_most false l = absurd (omega (arith, l))

at_most_one : (c : Bool) → (if c then 1 else 0) ≤ 1
at_most_one true = omega arith
at_most_one false = omega arith

module _ (k : Kernel) (n : ℕ) (t : Transfer) (b : ℕ) (s : IsSettled k) (found : find (has_number n) k.transfers ≡ Some t) (mine : t.buffer ≡ Some b) where
  abbrev devices : List (Option DeviceView)
  devices = devices_freed k.devices k.pools t.dev b

  abbrev pools : List (Option PoolState)
  pools = pools_freed k.pools t.dev b

  abbrev us : List Transfer
  us = without (has_number n) k.transfers

  its : has_buffer t.dev b t ≡ true
  its = ap (λ o. (t.dev == t.dev) && is_just o b) mine ∙ grind (arith, rules)

  its_parts : (d j : ℕ) → has_buffer d j t ≡ true → (d ≡ t.dev) × (j ≡ b)
  its_parts d j e =
      let both : ((t.dev == d) && (b == j)) ≡ true = ap (λ o. (t.dev == d) && is_just o j) (sym mine) ∙ e in
      (grind (arith, rules, both), grind (arith, rules, both))

  not_it : (d j : ℕ) → d ≡ t.dev → has_buffer d j t ≡ false → j ≢ b
  not_it d j e off same =
      let on : has_buffer d j t ≡ true = ap₂ (λ x y. has_buffer x y t) e same ∙ its in
      let never : true ≡ false = sym on ∙ off in
      absurd (cc)

  waits : has_waiting (entry k.devices t.dev) (entry k.pools t.dev) b ≡ true
  waits =
      let counted = s.arrived.buffers t.dev b in
      let one : num (has_buffer t.dev b t) ≡ 1 = ap num its in
      let least = at_least (λ (u : Transfer). num (has_buffer t.dev b u)) k.transfers t (find_has (has_number n) k.transfers t found).0 in
      one_most (has_waiting (entry k.devices t.dev) (entry k.pools t.dev) b) (omega (arith, counted, one, least))

  -- no other transfer has the buffer
  others_off : (u : Transfer) → Has u us → has_buffer t.dev b u ≡ false
  others_off u there =
      let counted = s.arrived.buffers t.dev b in
      let one : num (has_buffer t.dev b t) ≡ 1 = ap num its in
      let most = at_most_one (has_waiting (entry k.devices t.dev) (entry k.pools t.dev) b) in
      let none : sum_by (λ (x : Transfer). num (has_buffer t.dev b x)) us ≡ 0 = omega (arith, counted, one, most, sum_beside (has_number n) t (λ (x : Transfer). num (has_buffer t.dev b x)) k.transfers found) in
      ⊎_elim
      (λ (on : has_buffer t.dev b u ≡ true).
      let here : num (has_buffer t.dev b u) ≡ 1 = ap num on in
      absurd (omega (arith, none, here, at_least (λ (x : Transfer). num (has_buffer t.dev b x)) us u there)))
      (λ off. off)
      (cases_Bool (has_buffer t.dev b u))

  -- what is so of the device, and of every other one, is so of each
  on_each : (P : Option DeviceView → Option PoolState → Type 0) (d : ℕ) → (d ≡ t.dev → P (free_at (entry k.pools t.dev) b (entry k.devices t.dev)) (free_in b (entry k.pools t.dev))) → (d ≢ t.dev → P (entry k.devices d) (entry k.pools d)) → P (entry devices d) (entry pools d)
  on_each P d here there = ⊎_elim
      (λ (same : d ≡ t.dev).
      let device : entry devices t.dev ≡ free_at (entry k.pools t.dev) b (entry k.devices t.dev) = changed_here (free_at (entry k.pools t.dev) b) (free_none (entry k.pools t.dev) b) k.devices t.dev in
      let pool : entry pools t.dev ≡ free_in b (entry k.pools t.dev) = changed_here (free_in b) refl k.pools t.dev in
      subst (λ j. P (entry devices j) (entry pools j)) (sym same) (subst (λ o. P o (entry pools t.dev)) (sym device) (subst (λ o. P (free_at (entry k.pools t.dev) b (entry k.devices t.dev)) o) (sym pool) (here same))))
      (λ (other : d ≢ t.dev).
      let device : entry devices d ≡ entry k.devices d = get_or-set_other k.devices t.dev d (free_at (entry k.pools t.dev) b (entry k.devices t.dev)) None other in
      let pool : entry pools d ≡ entry k.pools d = get_or-set_other k.pools t.dev d (free_in b (entry k.pools t.dev)) None other in
      subst (λ o. P o (entry pools d)) (sym device) (subst (λ o. P (entry k.devices d) o) (sym pool) (there other)))
      (cases_eq d t.dev)

  same_devices : map bare_device devices ≡ map bare_device k.devices
  same_devices = map-set_same bare_device k.devices t.dev (free_at (entry k.pools t.dev) b (entry k.devices t.dev)) None (bare_freed b (entry k.pools t.dev) (entry k.devices t.dev))

  gives_up : GivesUpBuffer t k.devices devices k.pools pools
  gives_up = record {
    others = λ d j off. on_each (λ v p. has_waiting v p j ≡ has_waiting (entry k.devices d) (entry k.pools d) j) d
        (λ same. other_waits b (entry k.devices t.dev) (entry k.pools t.dev) j (not_it d j same off) ∙ ap (λ i. has_waiting (entry k.devices i) (entry k.pools i) j) (sym same))
        (λ other. refl);
    freed = λ d j on.
        let parts = its_parts d j on in
        on_each (λ v p. has_waiting v p j ≡ false) d
        (λ same. ap (λ i. has_waiting (free_at (entry k.pools t.dev) b (entry k.devices t.dev)) (free_in b (entry k.pools t.dev)) i) parts.1 ∙ freed_waits b (entry k.devices t.dev) (entry k.pools t.dev))
        (λ other. absurd (other parts.0));
    room = λ d j. on_each (λ v p. has_waiting v p j ≡ true → room_in v p j ≡ room_in (entry k.devices d) (entry k.pools d) j) d
        (λ same on. ⊎_elim
        (λ (is : j ≡ b).
        let off : has_waiting (free_at (entry k.pools t.dev) b (entry k.devices t.dev)) (free_in b (entry k.pools t.dev)) j ≡ false = ap (λ i. has_waiting (free_at (entry k.pools t.dev) b (entry k.devices t.dev)) (free_in b (entry k.pools t.dev)) i) is ∙ freed_waits b (entry k.devices t.dev) (entry k.pools t.dev) in
        let never : true ≡ false = sym on ∙ off in
        absurd (cc))
        (λ (ne : j ≢ b). other_room b (entry k.devices t.dev) (entry k.pools t.dev) j ne ∙ ap (λ i. room_in (entry k.devices i) (entry k.pools i) j) (sym same))
        (cases_eq j b))
        (λ other on. refl);
    early = λ d. on_each (λ v p. is_early_device v ≡ is_early_device (entry k.devices d)) d
        (λ same. still_early b (entry k.devices t.dev) (entry k.pools t.dev) ∙ ap (λ i. is_early_device (entry k.devices i)) (sym same))
        (λ other. refl);
    filling = λ d. on_each (λ v p. has_filling p ≡ is_filling_pool v p) d
        (λ same. still_filling b (entry k.devices t.dev) (entry k.pools t.dev) waits (s.arrived.filling t.dev))
        (λ other. s.arrived.filling d);
  }

  pub released_ends : EndsBuffer k t devices pools
  released_ends = record {
    equipped = record {
      device_places = length-set k.devices t.dev (free_at (entry k.pools t.dev) b (entry k.devices t.dev)) ∙ s.equipped.device_places;
      pool_places = length-set k.pools t.dev (free_in b (entry k.pools t.dev)) ∙ s.equipped.pool_places;
      each = λ d. on_each (IsEquipped k.config.page (entry k.config.devices d)) d
          (λ same. ap_equipped d same (still_equipped b k.config.page (entry k.config.devices t.dev) (entry k.devices t.dev) (entry k.pools t.dev) waits (s.equipped.each t.dev)))
          (λ other. s.equipped.each d);
    };
    same_devices = same_devices;
    same_pools = map-set_same bare_pool k.pools t.dev (free_in b (entry k.pools t.dev)) None (bare_pool_freed b (entry k.pools t.dev));
    buffer = gives_up;
  } where
    ap_equipped : (d : ℕ) → d ≡ t.dev → IsEquipped k.config.page (entry k.config.devices t.dev) (free_at (entry k.pools t.dev) b (entry k.devices t.dev)) (free_in b (entry k.pools t.dev)) → IsEquipped k.config.page (entry k.config.devices d) (free_at (entry k.pools t.dev) b (entry k.devices t.dev)) (free_in b (entry k.pools t.dev))
    ap_equipped d same h = subst (λ j. IsEquipped k.config.page (entry k.config.devices j) (free_at (entry k.pools t.dev) b (entry k.devices t.dev)) (free_in b (entry k.pools t.dev))) (sym same) h

  module _ (f : ℕ → List ℕ) (fills : entry k.pools t.dev ≡ None → FillsOne (entry k.devices t.dev)) where
    input_shows : (u : Transfer) → Has u us → (o : Option ℕ) → u.buffer ≡ o → IfSome o (λ j. buffer_bytes f (entry devices u.dev) (entry pools u.dev) j ≡ buffer_bytes f (entry k.devices u.dev) (entry k.pools u.dev) j)
    input_shows u there None e = tt
    input_shows u there (Some j) e = on_each (λ v p. buffer_bytes f v p j ≡ buffer_bytes f (entry k.devices u.dev) (entry k.pools u.dev) j) u.dev
        (λ same. other_bytes b f (entry k.devices t.dev) (entry k.pools t.dev) j (λ is.
        let on : has_buffer t.dev b u ≡ true = ap (λ o. (u.dev == t.dev) && is_just o b) e ∙ both_same u.dev t.dev j b same is in
        let never : true ≡ false = sym on ∙ others_off u there in
        absurd (cc)) ∙ ap (λ i. buffer_bytes f (entry k.devices i) (entry k.pools i) j) (sym same))
        (λ other. refl)
      where
        both_same : (x y i j : ℕ) → x ≡ y → i ≡ j → ((x == y) && (i == j)) ≡ true
        both_same x y i j p q = grind (arith, rules, p, q)

    pub released_shows : ShowsBuffers f us k.devices devices k.pools pools
    released_shows = record {
      same_devices = same_devices;
      inputs = λ i d l. let u : Transfer = get_or us i d in input_shows u (has_at us i d l) u.buffer refl;
      gathered = λ d. on_each (λ v p. gathered_by f v p ≡ gathered_by f (entry k.devices d) (entry k.pools d)) d
          (λ same. still_gathered b f (entry k.devices t.dev) (entry k.pools t.dev) waits fills ∙ ap (λ i. gathered_by f (entry k.devices i) (entry k.pools i)) (sym same))
          (λ other. refl);
    }
