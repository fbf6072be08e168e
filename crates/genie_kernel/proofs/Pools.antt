-- The pools of the devices, made one after the other.
use Rattle.std.proofs.Common.{◌≡◌, ◌≢◌, ◌⊎◌, ℕ, ◌+◌, ◌*◌, ◌<◌, ◌≤◌, zero, suc, Bool, true, cond, List, [], ◌∷◌, refl, sym, ap, subst, arith, ◌∙◌, ⊎_elim, inl, inr, map, length, take, replicate, get_or, set}
use Rattle.std.specs.Prelude.{Option, Some, None, All, count_by, sum_by}
use Rattle.std.specs.Option.{option_map}
use Rattle.std.proofs.lemmas.List.{length-replicate, length-map, length-set, get_or-map, get_or-set_same, get_or-set_other}
use Rattle.std.proofs.lemmas.List.Sums.{sum_by-cons}
use Rattle.std.proofs.lemmas.List.Folds.{sum_by-replicate}
use Rattle.genie_base.specs.Configs.{config_of, device_config, device_pool, pool_of, Fits, FitsPlace}
use Rattle.genie_base.specs.declared.config.Config.{Config}
use Rattle.genie_base.specs.declared.config.DeviceConfig.{DeviceConfig}
use Rattle.genie_base.specs.Configs as configs
use Rattle.genie_base.specs.Lemmas.Places.{sum_by-set}
use Rattle.genie_frame.specs.declared.frame.Counts.{Counts}
use Rattle.genie_frame.specs.declared.frame.Meters.{Meters}
use Rattle.genie_frame.specs.declared.frame.Owner.TheVariants.{Free, Pool}
use Rattle.genie_frame.specs.FrameTable.{FrameTable, owner_at, counts_at, is_free, no_counts}
use Rattle.genie_input.specs.Pools.{PoolState}
use Rattle.genie_object.specs.declared.memory.Memory.{Memory}
use Rattle.genie_object.specs.Sound.{IsSound, IsUnused}
use Rattle.genie_object.specs.Pages.{PageTable, no_page, is_there}
use Rattle.genie_plan.specs.Plans.{times}
use Rattle.genie_model.specs.Tables.{entry}
use Rattle.genie_kernel.specs.Booting.{HasPools, PoolAdds, HasIdlePool, IsPooledOrFree, frames_of_pool, pooled_frames, only_taken}
use Rattle.genie_kernel.specs.Counted.{pool_on}

-- a list of equal elements has that element at each place, and past its end
pub get_replicate : {X : Type 0} (n k : ℕ) (x : X) → get_or (replicate n x) k x ≡ x
get_replicate zero k x = refl
get_replicate (suc n) zero x = refl
get_replicate (suc n) (suc k) x = get_replicate n k x

all_counted : {X : Type 0} (p : X → Bool) (n : ℕ) (x : X) → p x ≡ true → count_by p (replicate n x) ≡ n
all_counted p n x e = let one : cond (p x) 1 0 ≡ 1 = ap (λ b. cond b 1 0) e in sum_by-replicate (λ y. cond (p y) 1 0) n x ∙ ap (λ m. n * m) one ∙ omega arith

-- no pool so far
pub no_pools : (c : Config) (m : Memory) → IsUnused m c.frames c.page c.slots → IsSound m → HasPools c 0 m (replicate 8 None)
no_pools c m u sound =
    let owner : (f : ℕ) → owner_at m.frames f ≡ Free = λ f. ap (λ (t : FrameTable). owner_at t f) u.free ∙ get_replicate c.frames f Free in
    let pool : (d : ℕ) → entry {X = PoolState} (replicate 8 None) d ≡ None = λ d. get_replicate 8 d None in
    let none : (f : ℕ) → sum_by (pool_on f) (replicate 8 None) ≡ 0 = λ f. sum_by-replicate (pool_on f) 8 None in
    record {
      places = refl;
      later = λ d l. pool d;
      each = λ d l. absurd (omega arith);
      sound = sound;
      pages = u.pages;
      none = u.none;
      most = u.most;
      absent = u.absent;
      untaken = u.untaken;
      page = ap (λ (t : FrameTable). t.page) u.free;
      size = ap (λ (t : FrameTable). length t.owners) u.free ∙ length-replicate c.frames Free;
      owned = λ f. inl (owner f);
      once = λ f d e. let h = sym (owner f) ∙ e in cc;
      pool_frames = λ f d l. let z : 0 < 0 = subst (λ p. 0 < pool_on f p) (pool d) l in absurd (omega arith);
      counted = λ f. ap (λ (t : FrameTable). counts_at t f) u.free ∙ get_replicate c.frames f no_counts ∙ ap (λ n. record { strong = 0; weak = 0; input = n; wires = 0 }) (sym (none f));
      free = let all : count_by is_free m.frames.owners ≡ c.frames = ap (λ (t : FrameTable). count_by is_free t.owners) u.free ∙ all_counted is_free c.frames Free refl in omega (arith, all);
      meters = ap (λ (t : FrameTable). t.meters) u.free;
      landed = ap (λ (t : FrameTable). t.landed) u.free;
    }

none_pooled : (n : ℕ) → pooled_frames [] n ≡ 0
none_pooled zero = refl
none_pooled (suc n) = refl

next_sum : (n : ℕ) (cs : List (Option DeviceConfig)) → pooled_frames cs (n + 1) ≡ pooled_frames cs n + device_pool (option_map device_config (entry cs n))
next_sum zero [] = refl
next_sum (suc n) [] = none_pooled (suc n + 1) ∙ sym (omega (arith, none_pooled (suc n)))
next_sum zero (x ∷ cs) = sum_by-cons device_pool (option_map device_config x) [] ∙ omega arith
next_sum (suc n) (x ∷ cs) =
    let later = next_sum n cs in
    let longer : suc n + 1 ≡ suc (n + 1) = omega arith in
    ap (pooled_frames (x ∷ cs)) longer ∙ omega (arith, later, sum_by-cons device_pool (option_map device_config x) (take n (map (option_map device_config) cs)), sum_by-cons device_pool (option_map device_config x) (take (n + 1) (map (option_map device_config) cs)))

taken_less : (n : ℕ) (cs : List (Option configs.DeviceConfig)) → sum_by device_pool (take n cs) ≤ pool_of cs
taken_less zero cs = omega arith
taken_less (suc n) [] = omega arith
taken_less (suc n) (x ∷ cs) = omega (arith, taken_less n cs, sum_by-cons device_pool x (take n cs), sum_by-cons device_pool x cs)

-- each device keeps its limits
pub device_fits : (c : Config) (n : ℕ) (m : Memory) (pools : List (Option PoolState)) → n < 8 → Fits (config_of c) → HasPools c n m pools → FitsPlace m.frames.page (option_map device_config (entry c.devices n))
device_fits c n m pools few fits h =
    let long = fits.table in
    let at : get_or (map (option_map device_config) c.devices) n None ≡ option_map device_config (entry c.devices n) = get_or-map (option_map device_config) c.devices n None None (omega (arith, few, long, length-map c.devices (option_map device_config))) in
    subst (λ p. FitsPlace p (option_map device_config (entry c.devices n))) (sym h.page) (subst (FitsPlace c.page) at (fits.devices n None (omega (arith, few, long))))

-- there are frames for each pool
pub pool_fits : (c : Config) (n : ℕ) (m : Memory) (pools : List (Option PoolState)) → Fits (config_of c) → HasPools c n m pools → device_pool (option_map device_config (entry c.devices n)) ≤ count_by is_free m.frames.owners
pool_fits c n m pools fits h =
    let enough = fits.pool in
    let left = h.free in
    omega (arith, enough, left, next_sum n c.devices, taken_less (n + 1) (map (option_map device_config) c.devices))

pub few_taken : (c : Config) (n : ℕ) (m : Memory) (pools : List (Option PoolState)) → Fits (config_of c) → HasPools c n m pools → m.frames.meters.taken ≤ 4096
few_taken c n m pools fits h =
    let most = fits.frames_high in
    let enough = fits.pool in
    let is : m.frames.meters.taken ≡ pooled_frames c.devices n = ap (λ m. m.taken) h.meters in
    omega (arith, most, enough, is, taken_less n (map (option_map device_config) c.devices))

is_zero : (n : ℕ) → (n ≡ 0) ⊎ (0 < n)
is_zero zero = inl refl
is_zero (suc n) = inr (omega arith)

same_place : (a b : ℕ) → (a ≡ b) ⊎ (a ≢ b)
same_place zero zero = inl refl
same_place zero (suc b) = inr (λ e. absurd (omega (arith, e)))
same_place (suc a) zero = inr (λ e. absurd (omega (arith, e)))
same_place (suc a) (suc b) = ⊎_elim (λ e. inl (ap suc e)) (λ ne. inr (λ e. ne (omega (arith, e)))) (same_place a b)

times_of : (f : ℕ) (pool : Option PoolState) → pool_on f pool ≡ times (frames_of_pool pool) f
times_of f None = refl
times_of f (Some p) = refl

module _ (c : Config) (n : ℕ) (old new : Memory) (pools : List (Option PoolState)) (pool : Option PoolState) (h : HasPools c n old pools) (few : n < 8) (a : PoolAdds (entry c.devices n) n old new pool) where
  abbrev now : List (Option PoolState)
  now = set pools n pool

  here : entry now n ≡ pool
  here = let places = h.places in get_or-set_same pools n pool None (omega (arith, places))

  other : (d : ℕ) → d ≢ n → entry now d ≡ entry pools d
  other d ne = get_or-set_other pools n d pool None ne

  was_none : entry pools n ≡ None
  was_none = h.later n (omega arith)

  owned_now : (f : ℕ) → (times (frames_of_pool pool) f ≡ 0) ⊎ (0 < times (frames_of_pool pool) f) → IsPooledOrFree (owner_at new.frames f)
  owned_now f (inl none) = subst IsPooledOrFree (sym (a.fresh.others f none)) (h.owned f)
  owned_now f (inr some) = inr (n, a.fresh.owned f some)

  once_here : (f d : ℕ) → owner_at new.frames f ≡ Pool d → 0 < times (frames_of_pool pool) f → pool_on f (entry now d) ≡ 1
  once_here f d e some =
      let is : d ≡ n = let p : Pool d ≡ Pool n = sym e ∙ a.fresh.owned f some in cc in
      let most = a.fresh.apart f in
      let one : pool_on f pool ≡ 1 = omega (arith, some, most, times_of f pool) in
      ap (λ j. pool_on f (entry now j)) is ∙ ap (pool_on f) here ∙ one

  once_other : (f d : ℕ) → owner_at new.frames f ≡ Pool d → times (frames_of_pool pool) f ≡ 0 → pool_on f (entry now d) ≡ 1
  once_other f d e none =
      let one : pool_on f (entry pools d) ≡ 1 = h.once f d (sym (a.fresh.others f none) ∙ e) in
      let apart : d ≢ n = λ is. let z : 0 ≡ 1 = sym (ap (pool_on f) (ap (entry pools) is ∙ was_none)) ∙ one in absurd (omega (arith, z)) in
      ap (pool_on f) (other d apart) ∙ one

  frames_here : (f d : ℕ) → d ≡ n → 0 < pool_on f (entry now d) → owner_at new.frames f ≡ Pool d
  frames_here f d is some =
      let mine : pool_on f (entry now d) ≡ times (frames_of_pool pool) f = ap (λ j. pool_on f (entry now j)) is ∙ ap (pool_on f) here ∙ times_of f pool in
      a.fresh.owned f (omega (arith, some, mine)) ∙ ap Pool (sym is)

  frames_other : (f d : ℕ) → d ≢ n → 0 < pool_on f (entry now d) → owner_at new.frames f ≡ Pool d
  frames_other f d ne some =
      let was : owner_at old.frames f ≡ Pool d = h.pool_frames f d (subst (λ p. 0 < pool_on f p) (other d ne) some) in
      ⊎_elim
      (λ none. a.fresh.others f none ∙ was)
      (λ taken. let clash : Free ≡ Pool d = sym (a.fresh.were_free f taken) ∙ was in absurd (cc))
      (is_zero (times (frames_of_pool pool) f))

  more_pooled : (f : ℕ) → sum_by (pool_on f) now ≡ sum_by (pool_on f) pools + times (frames_of_pool pool) f
  more_pooled f =
      let places = h.places in
      let nothing : pool_on f (entry pools n) ≡ 0 = ap (pool_on f) was_none in
      omega (arith, sum_by-set (pool_on f) pools n pool None (omega (arith, places)), nothing, times_of f pool)

  next_idle : (d : ℕ) → d < n + 1 → (d ≡ n) ⊎ (d ≢ n) → HasIdlePool (entry c.devices d) (entry now d)
  next_idle d l (inl is) = subst (HasIdlePool (entry c.devices d)) (sym (ap (entry now) is ∙ here)) (subst (λ j. HasIdlePool (entry c.devices j) pool) (sym is) a.idle)
  next_idle d l (inr ne) = subst (HasIdlePool (entry c.devices d)) (sym (other d ne)) (h.each d (omega (arith, ne)))

  -- one pool more
  pub more_pools : HasPools c (n + 1) new now
  more_pools = record {
    places = length-set pools n pool ∙ h.places;
    later = λ d l. other d (λ e. absurd (omega arith)) ∙ h.later d (omega arith);
    each = λ d l. next_idle d l (same_place d n);
    sound = a.sound;
    pages = subst (λ (t : PageTable). All (λ q. q ≡ no_page) t.pages) (sym a.pages) h.pages;
    none = ap (λ (t : PageTable). count_by is_there t.pages) a.pages ∙ h.none;
    most = ap (λ (t : PageTable). t.most) a.pages ∙ h.most;
    absent = a.objects ∙ h.absent;
    untaken = a.slots ∙ h.untaken;
    page = a.fresh.page ∙ h.page;
    size = a.fresh.size ∙ h.size;
    owned = λ f. owned_now f (is_zero (times (frames_of_pool pool) f));
    once = λ f d e. ⊎_elim (once_other f d e) (once_here f d e) (is_zero (times (frames_of_pool pool) f));
    pool_frames = λ f d some. ⊎_elim (λ is. frames_here f d is some) (λ ne. frames_other f d ne some) (same_place d n);
    counted = λ f. a.fresh.counts f ∙ ap (λ (k : Counts). record k { input = k.input + times (frames_of_pool pool) f }) (h.counted f) ∙ ap (λ i. record { strong = 0; weak = 0; input = i; wires = 0 }) (let more = more_pooled f in omega (arith, more));
    free = let was = h.free in let less = a.fresh.free in let number = a.number in omega (arith, was, less, number, next_sum n c.devices);
    meters = a.fresh.meters ∙ ap (λ (m : Meters). record m { taken = m.taken + length (frames_of_pool pool) }) h.meters ∙ ap only_taken (let number = a.number in omega (arith, number, next_sum n c.devices));
    landed = a.fresh.landed ∙ h.landed;
  }
