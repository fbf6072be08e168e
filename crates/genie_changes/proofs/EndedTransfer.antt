-- A kernel without a transfer that no device works on.
use Rattle.std.proofs.Common.{◌≡◌, ◌≢◌, ℕ, ◌+◌, ◌*◌, ◌<◌, ◌≤◌, true, false, cond, List, [], ◌∷◌, refl, sym, ap, subst, arith, rules, ◌∙◌, map, length, get_or}
use Rattle.std.specs.Prelude.{Option, Some, None, All, AllPairs, IfSome, find, sum_by}
use Rattle.std.proofs.lemmas.List.{length-replicate}
use Rattle.std.proofs.lemmas.List.Sums.{sum_by-cons}
use Rattle.std.proofs.lemmas.List.Kept.{AllPairs-cons}
use Rattle.genie_demux.specs.declared.input.Input.{Input}
use Rattle.genie_device.specs.Device.{DeviceView}
use Rattle.genie_device.specs.declared.present.Present.{Present}
use Rattle.genie_frame.specs.declared.frame.Owner.{Owner}
use Rattle.genie_frame.specs.FrameTable.{FrameTable, owner_at}
use Rattle.genie_input.specs.Pools.{PoolState}
use Rattle.genie_object.specs.declared.memory.Memory.{Memory}
use Rattle.genie_object.specs.Memory.{seen}
use Rattle.genie_hiding.specs.Hidden.{objects_of}
use Rattle.genie_plan.specs.Loans as kind
use Rattle.genie_plan.specs.Plans.{input_frames}
use Rattle.genie_region.specs.declared.region.Region.{Region}
use Rattle.genie_model.specs.Ending.{without_transfer}
use Rattle.genie_model.specs.Lemmas.Lists.{all_has, has_at, find_has, entry_map, pairs_head, pairs_tail}
use Rattle.genie_model.specs.Pending.{is_queued, is_moving}
use Rattle.genie_model.specs.Space.{tidy}
use Rattle.genie_model.specs.Tables.{without, entry}
use Rattle.genie_kernel.specs.declared.kernel.Kernel.{Kernel}
use Rattle.genie_kernel.specs.declared.transfer.Transfer.{Transfer}
use Rattle.genie_kernel.specs.Calls.{has_number, first_waiting, names_weakly, receiver}
use Rattle.genie_kernel.specs.Counted.{AreCounted, lent_of, loans_on, pool_on}
use Rattle.genie_kernel.specs.Good.{IsGood}
use Rattle.genie_kernel.specs.Held.{weak_transfers}
use Rattle.genie_kernel.specs.Holding.{AreHeldFrames}
use Rattle.genie_kernel.specs.Kept.{Kept, KeepsOwner}
use Rattle.genie_kernel.specs.Loans.{frames_of, has_frame}
use Rattle.genie_kernel.specs.Matching.{ArePosted, IsSending, IsStored}
use Rattle.genie_kernel.specs.Owners.{AreOwned}
use Rattle.genie_kernel.specs.Planned.{ArePlanned, FitsDevice, Lends, is_early_device}
use Rattle.genie_kernel.specs.Regions.{has_id, owned_regions}
use Rattle.genie_kernel.specs.Same.{ShowSame}
use Rattle.genie_kernel.specs.Steps.{bytes_over}
use Rattle.genie_kernel.specs.View.{Bytes, state_of, no_bytes}
use Rattle.genie_kernel.specs.Lemmas.Alike.{lent_suffice}
use Rattle.genie_kernel.specs.Lemmas.Beside.{find_beside}
use Rattle.genie_kernel.specs.Lemmas.HeldLess.{held_less}
use Rattle.genie_kernel.specs.Lemmas.Lending.{counts_shrink}
use Rattle.genie_kernel.specs.Lemmas.Owning.{owned_less}
use Rattle.genie_kernel.specs.Lemmas.Staying.{weak_there}
use Rattle.genie_changes.specs.Ending.{EndsBuffer, EndsLoans, IsGivenBack, LeavesOthers, LendsSoundly, ShowsOthers, bare_device, bare_pool, without_call}
use Rattle.genie_changes.specs.Premises.{ShowsPages}
use Rattle.genie_changes.specs.Released.{EndsOver}
use Rattle.genie_changes.specs.Settled.{IsSettled}
use Rattle.genie_changes.proofs.GivenBack.{differs, has_less, held_by_weak, in_frames}
use Rattle.genie_changes.proofs.Lists.{all_less}
use Rattle.genie_changes.proofs.Matching.{sending_less, receiving_less, arrived_less, no_buffer}
use Rattle.genie_changes.proofs.Ended.{left_state}
use Rattle.genie_changes.proofs.Fitting.{page_has_bytes}
use Rattle.genie_changes.proofs.Premises.{nobodys_show, orphans_lie, others_lie}
use Rattle.genie_changes.proofs.Planning.{planned_stay, planned_less, fitting_less}

pairs_less : (n : ℕ) (ts : List Transfer) → AllPairs (λ (x y : Transfer). x.id.0 < y.id.0) ts → AllPairs (λ (x y : Transfer). x.id.0 < y.id.0) (without (has_number n) ts)
pairs_less n [] a = a
pairs_less n (x ∷ ts) a =
    let rest = pairs_tail (λ (y z : Transfer). y.id.0 < z.id.0) x ts a in
    elim (has_number n x) as (λ b. AllPairs (λ (y z : Transfer). y.id.0 < z.id.0) (cond b ts (x ∷ without (has_number n) ts))) [
      | true ↦ rest
      | false ↦ AllPairs-cons (λ (y z : Transfer). y.id.0 < z.id.0) x (without (has_number n) ts)
          (λ i d l. pairs_head (λ (y z : Transfer). y.id.0 < z.id.0) x ts a (get_or (without (has_number n) ts) i d) (has_less (has_number n) (get_or (without (has_number n) ts) i d) ts (has_at (without (has_number n) ts) i d l)))
          (pairs_less n ts rest)
    ]

all_to : {X : Type 0} (P Q : X → Type 0) (xs : List X) → ((x : X) → P x → Q x) → All P xs → All Q xs
all_to P Q xs f a = λ k d l. f (get_or xs k d) (a k d l)

-- what a pool has lent hangs on nothing but its loans
pool_bare : (f : ℕ) (p : Option PoolState) → pool_on f (bare_pool p) ≡ pool_on f p
pool_bare f None = refl
pool_bare f (Some p) = refl

sum_bare : (f : ℕ) (ps : List (Option PoolState)) → sum_by (pool_on f) (map bare_pool ps) ≡ sum_by (pool_on f) ps
sum_bare f [] = refl
sum_bare f (p ∷ ps) = omega (arith, sum_by-cons (pool_on f) (bare_pool p) (map bare_pool ps), sum_by-cons (pool_on f) p ps, pool_bare f p, sum_bare f ps)

sending_bare : (v w : Option DeviceView) (first : Option Transfer) → bare_device v ≡ bare_device w → IfSome w (λ (x : DeviceView). IsSending x first) → IfSome v (λ (x : DeviceView). IsSending x first)
sending_bare None w first e h = tt
sending_bare (Some v) None first e h = absurd (cc)
sending_bare (Some v) (Some w) first e h =
    let same : bare v ≡ bare w = cc in unbared v first (subst (λ (x : DeviceView). IsSending x first) (sym same) (bared w first h)) where
      bare : DeviceView → DeviceView
      bare v = record v { buffers = [] }

      bared : (v : DeviceView) (first : Option Transfer) → IsSending v first → IsSending (bare v) first
      bared v None h = record { unstaged = h.unstaged; unsent = h.unsent }
      bared v (Some t) h = record { unsent = h.unsent; staged = h.staged; memory = h.memory }

      unbared : (v : DeviceView) (first : Option Transfer) → IsSending (bare v) first → IsSending v first
      unbared v None h = record { unstaged = h.unstaged; unsent = h.unsent }
      unbared v (Some t) h = record { unsent = h.unsent; staged = h.staged; memory = h.memory }

abbrev Receives : Option Transfer → Option DeviceView → Type 0
Receives o v = IfSome v (λ (x : DeviceView). IfSome x.present (λ (g : Present). IfSome o (IsStored g)))

receiving_bare : (v w : Option DeviceView) (o : Option Transfer) → bare_device v ≡ bare_device w → Receives o w → Receives o v
receiving_bare v w o e h = unbared v (subst (Receives o) (sym e) (bared w h)) where
  bared : (v : Option DeviceView) → Receives o v → Receives o (bare_device v)
  bared None h = tt
  bared (Some v) h = h

  unbared : (v : Option DeviceView) → Receives o (bare_device v) → Receives o v
  unbared None h = tt
  unbared (Some v) h = h

fits_bare : (v w : Option DeviceView) (len : ℕ) → bare_device v ≡ bare_device w → FitsDevice len w → FitsDevice len v
fits_bare v w len e h = unbared v (subst (FitsDevice len) (sym e) (bared w h)) where
  bared : (v : Option DeviceView) → FitsDevice len v → FitsDevice len (bare_device v)
  bared None h = h
  bared (Some v) h = h

  unbared : (v : Option DeviceView) → FitsDevice len (bare_device v) → FitsDevice len v
  unbared None h = h
  unbared (Some v) h = h

module _ (k : Kernel) (m : Memory) (n : ℕ) (t : Transfer) (posted : List Input) (devices : List (Option DeviceView)) (pools : List (Option PoolState)) (s : IsSettled k) (found : find (has_number n) k.transfers ≡ Some t) (unqueued : is_queued t.phase ≡ false) (unmoved : is_moving t.phase ≡ false) (ends : EndsOver k n t m devices pools) (listed : ArePosted posted (without (has_number n) k.transfers)) where
  abbrev us : List Transfer
  us = without (has_number n) k.transfers

  device_same : (d : ℕ) → bare_device (entry devices d) ≡ bare_device (entry k.devices d)
  device_same d = sym (entry_map bare_device refl devices d) ∙ ap (λ l. entry l d) ends.same_devices ∙ entry_map bare_device refl k.devices d

  planned_before : ArePlanned k.config.page m.frames.owners k.devices us
  planned_before = planned_stay k.config.page k.memory.frames.owners m.frames.owners k.devices us ends.own (planned_less k.config.page k.memory.frames.owners k.devices (has_number n) k.transfers s.planned)

  held_frames : AreHeldFrames m (weak_transfers us)
  held_frames i d l j lj =
      let u : Transfer = get_or (weak_transfers us) i d in
      let there = weak_there us u (has_at (weak_transfers us) i d l) in
      held_by_weak k.config.page m.frames.owners m.frames.counts k.devices us pools ends.counted planned_before u (get_or (frames_of u.loans) j 0) there.0 (let w = there.1 in grind (arith, rules, w)) (in_frames (frames_of u.loans) j 0 lj)

  pub transfer_ends_over : IsSettled (record k { memory = m; transfers = without (has_number n) k.transfers; posted = posted; devices = devices; pools = pools })
  transfer_ends_over = record {
    fits = s.fits;
    has_bytes = s.has_bytes;
    sized = ends.sized;
    spaced = s.spaced;
    equipped = ends.equipped;
    numbered = s.numbered;
    listed = s.listed;
    ranges = all_less (λ (u : Transfer). (r : Region) → find (has_id r.id.0) (owned_regions k.spaces.processes) ≡ Some r → names_weakly r.id.0 u ≡ true → u.offset + u.len ≤ r.pages * k.config.page) (has_number n) k.transfers s.ranges;
    rising = pairs_less n k.transfers s.rising;
    sound = ends.sound;
    cached = ends.cached;
    few = s.few;
    backed = ends.backed;
    guarded = ends.guarded;
    counted = ends.counted;
    owners = ends.owners;
    held = held_less k.config.page k.memory m (owned_regions k.spaces.processes) (has_number n) k.transfers ends.pages held_frames s.held;
    planned = all_to (λ (u : Transfer). Lends k.config.page m.frames.owners (is_early_device (entry k.devices u.dev)) u u.dir) (λ (u : Transfer). Lends k.config.page m.frames.owners (is_early_device (entry devices u.dev)) u u.dir) us (λ u h. subst (λ b. Lends k.config.page m.frames.owners b u u.dir) (sym (ends.buffer.early u.dev)) h) planned_before;
    fitting = all_to (λ (u : Transfer). FitsDevice u.len (entry k.devices u.dev)) (λ (u : Transfer). FitsDevice u.len (entry devices u.dev)) us (λ u h. fits_bare (entry devices u.dev) (entry k.devices u.dev) u.len (device_same u.dev) h) (fitting_less k.devices (has_number n) k.transfers s.fitting);
    posted = listed;
    sending = λ d. sending_bare (entry devices d) (entry k.devices d) (first_waiting us d) (device_same d) (sending_less k.devices (has_number n) t k.transfers found unqueued s.sending d);
    receiving = λ d. receiving_bare (entry devices d) (entry k.devices d) (receiver us d) (device_same d) (receiving_less k.devices (has_number n) t k.transfers found unmoved s.receiving d);
    arrived = arrived_less (has_number n) t k.transfers k.devices devices k.pools pools found ends.buffer s.arrived;
  }

-- where the pools keep their loans, those of the transfer are all that is given back
module _ (k : Kernel) (m : Memory) (n : ℕ) (t : Transfer) (devices : List (Option DeviceView)) (pools : List (Option PoolState)) (s : IsSettled k) (found : find (has_number n) k.transfers ≡ Some t) (ends : EndsLoans k n t m) (frees : EndsBuffer k t devices pools) where
  abbrev others : List Transfer
  others = without (has_number n) k.transfers

  pool_same : (f d : ℕ) → pool_on f (entry pools d) ≡ pool_on f (entry k.pools d)
  pool_same f d = sym (pool_bare f (entry pools d)) ∙ ap (pool_on f) (sym (entry_map bare_pool refl pools d) ∙ ap (λ l. entry l d) frees.same_pools ∙ entry_map bare_pool refl k.pools d) ∙ pool_bare f (entry k.pools d)

  counted : AreCounted m.frames.counts others pools
  counted f =
      let same : sum_by (pool_on f) k.pools ≡ sum_by (pool_on f) pools = sym (sum_bare f k.pools) ∙ ap (sum_by (pool_on f)) (sym frees.same_pools) ∙ sum_bare f pools in
      counts_shrink (has_number n) t k.transfers k.pools k.memory.frames.counts m.frames.counts found ends.counts s.counted f ∙ (λ i. record (lent_of others k.pools f) { input = sum_by (loans_on kind.Input f) others + same i })

  pub ends_over : EndsOver k n t m devices pools
  ends_over =
      let owned : AreOwned m.frames.owners others k.pools = owned_less n t k.transfers k.pools k.memory.frames.owners m.frames.owners found ends.owners s.owners in
      record {
        sized = ends.sized;
        sound = ends.sound;
        cached = ends.cached;
        backed = ends.backed;
        guarded = ends.guarded;
        counted = counted;
        owners = record {
          system = owned.system;
          pooled = λ f d is. pool_same f d ∙ owned.pooled f d is;
          spare = owned.spare;
          pool_frames = λ f d l. owned.pool_frames f d (subst (λ j. 0 < j) (pool_same f d) l);
        };
        own = ends.own;
        pages = ends.pages;
        equipped = frees.equipped;
        same_devices = frees.same_devices;
        buffer = frees.buffer;
      }

pub transfer_ends : (k : Kernel) (m : Memory) (n : ℕ) (t : Transfer) (posted : List Input) (devices : List (Option DeviceView)) (pools : List (Option PoolState)) → IsSettled k → find (has_number n) k.transfers ≡ Some t → is_queued t.phase ≡ false → is_moving t.phase ≡ false → EndsLoans k n t m → EndsBuffer k t devices pools → ArePosted posted (without (has_number n) k.transfers)
    → IsSettled (record k { memory = m; transfers = without (has_number n) k.transfers; posted = posted; devices = devices; pools = pools })
transfer_ends k m n t posted devices pools s found unqueued unmoved ends frees listed = transfer_ends_over k m n t posted devices pools s found unqueued unmoved (ends_over k m n t devices pools s found ends frees) listed

pub no_buffer_ends : (k : Kernel) (t : Transfer) → IsSettled k → t.buffer ≡ None → EndsBuffer k t k.devices k.pools
no_buffer_ends k t s none = record {
  equipped = s.equipped;
  same_devices = refl;
  same_pools = refl;
  buffer = record {
    others = λ d b off. refl;
    freed = λ d b on. let off = no_buffer t d b none in let never : true ≡ false = sym on ∙ off in absurd (cc);
    room = λ d b on. refl;
    early = λ d. refl;
    filling = s.arrived.filling;
  };
}

pub settled_lends : (k : Kernel) (n : ℕ) → IsSettled k → LendsSoundly k.config.page k.memory k.devices n k.transfers k.pools
settled_lends k n s = record { sound = s.sound; counted = s.counted; owners = s.owners; rise = s.rising; others = planned_less k.config.page k.memory.frames.owners k.devices (has_number n) k.transfers s.planned }

pub ends_loans : (k : Kernel) (n : ℕ) (t : Transfer) (new : FrameTable) → IsSettled k → IsGivenBack t k.memory.frames new → LeavesOthers n t k.transfers k.pools k.memory (record (k.memory) { frames = new }) → EndsLoans k n t (record (k.memory) { frames = new })
ends_loans k n t new s back leaves = record {
  sized = record {
    page = back.loans.page ∙ back.wires.only.page ∙ s.sized.page;
    frames = back.loans.size ∙ ap (λ (l : List Owner). length l) back.wires.only.owners ∙ s.sized.frames;
    slots = s.sized.slots;
    pages = s.sized.pages;
  };
  sound = leaves.sound;
  cached = leaves.hidden (objects_of k.hidden) s.cached;
  backed = s.backed;
  guarded = s.guarded;
  counts = leaves.counts;
  owners = leaves.owners;
  own = leaves.own;
  pages = leaves.pages;
}

module _ (k : Kernel) (m : Memory) (n : ℕ) (t : Transfer) where
  number_differs : (j : ℕ) (u : Transfer) → u.id.0 ≢ n → has_number j u ≡ true → j ≢ n
  number_differs j u ne passes same = let is : u.id.0 ≡ j = grind (arith, rules, passes) in ne (is ∙ same)

  other_number : (j : ℕ) → t.id.0 ≡ n → j ≢ n → has_number j t ≡ false
  other_number j is ne = grind (arith, rules, is, ne)

  pub given_back_keeps : (posted : List Input) → IsSettled k → find (has_number n) k.transfers ≡ Some t → LeavesOthers n t k.transfers k.pools k.memory m → Kept k (without_call k m n posted)
  given_back_keeps posted s found leaves =
      let us : List Transfer = without (has_number n) k.transfers in
      let passes : has_number n t ≡ true = (find_has (has_number n) k.transfers t found).1 in
      let number : t.id.0 ≡ n = grind (arith, rules, passes) in
      record {
        lent = λ j f x u is on still. all_has (λ (y : Transfer). (g : ℕ) → has_frame g y ≡ true → KeepsOwner (owner_at k.memory.frames g) (owner_at m.frames g)) us leaves.lent u (find_has (has_number j) us u is.is).0 f still;
        pooled = λ d f on still. leaves.pooled d f on;
        fresh = λ j f x u is unready on.
            let there = find_has (has_number j) us u is.is in
            let other = number_differs j u (differs n k.transfers t s.rising found u there.0) there.1 in
            let same : Some u ≡ Some x = sym is.is ∙ find_beside (has_number n) t (has_number j) k.transfers found (other_number j number other) ∙ is.was in
            let one : u ≡ x = cc in
            subst (λ (y : Transfer). has_frame f y ≡ true) one on;
      }

pub given_back_shows : (k : Kernel) (m : Memory) (n : ℕ) (t : Transfer) (slots rests sents : ℕ → List ℕ) → IsSettled k → LeavesOthers n t k.transfers k.pools k.memory m → ShowsOthers k n (bytes_over k.memory slots rests sents) (bytes_over m slots rests sents)
given_back_shows k m n t slots rests sents s leaves = record {
  rests = refl;
  sents = refl;
  entries = leaves.entries slots;
  frames = lent_suffice (owned_regions k.spaces.processes) (without (has_number n) k.transfers) k.pools (seen k.memory slots).kept_bytes (seen m slots).kept_bytes (leaves.frames slots);
  pages = subst (λ p. ShowsPages p k.memory (seen k.memory slots).kept_bytes) s.sized.page (nobodys_show k.memory slots s.sound.shaped);
}

pub outlines_show : (k : Kernel) (n : ℕ) → ShowsOthers k n (no_bytes k.config.page) (no_bytes k.config.page)
outlines_show k n =
    let z : ℕ → List ℕ = (no_bytes k.config.page).seen.kept_bytes in
    record {
      rests = refl;
      sents = refl;
      entries = refl;
      frames = lent_suffice (owned_regions k.spaces.processes) (without (has_number n) k.transfers) k.pools z z (record { lent = λ i d l j x lj. refl; pooled = λ d. pools_same z (entry k.pools d) });
      pages = λ f nobody. length-replicate k.config.page 0;
    } where
      pools_same : (z : ℕ → List ℕ) (o : Option PoolState) → IfSome o (λ (p : PoolState). ShowSame z z (input_frames p.loans))
      pools_same z None = tt
      pools_same z (Some p) = λ j x l. refl

pub transfer_leaves : (k : Kernel) (m : Memory) (n : ℕ) (t : Transfer) (posted : List Input) (old new : Bytes) → IsGood k → find (has_number n) k.transfers ≡ Some t → is_queued t.phase ≡ false → is_moving t.phase ≡ false → ShowsOthers k n old new
    → state_of (without_call k m n posted) new ≡ tidy (without_transfer (state_of k old) n)
transfer_leaves k m n t posted old new g found unqueued unmoved shows = left_state k m n t posted old new g.held.frame_of (page_has_bytes k g) found unqueued unmoved shows.entries shows.rests shows.sents shows.frames (orphans_lie k old.seen.kept_bytes g shows.pages) (others_lie k old.seen.kept_bytes (has_number n) g shows.pages)
