-- The pending transfers have at most as many loans as they may need frames, and pools as many frames as they were given.
use Rattle.std.proofs.Common.{◌≡◌, ℕ, ◌≤◌, ◌*◌, Bool, true, false, List, refl, arith, ap, length, map, get_or, ◌∙◌}
use Rattle.std.specs.Prelude.{sum_by, All, Option, None, Some}
use Rattle.std.specs.Option.{option_map}
use Rattle.std.proofs.lemmas.List.{length-map}
use Rattle.genie_base.specs.Lemmas.Mapped.{sum_by-map}
use Rattle.genie_base.specs.Configs.{device_config, device_pool, pool_frames}
use Rattle.genie_base.specs.Counts.{span, cost}
use Rattle.genie_base.specs.Transfers.{class_of}
use Rattle.genie_base.specs.declared.config.DeviceConfig.{DeviceConfig as DeviceHandles}
use Rattle.genie_base.specs.declared.config.Kind.{Kind}
use Rattle.genie_base.specs.declared.config.Kind.TheVariants.{Early, Pooled, Outboard}
use Rattle.genie_base.specs.declared.semantics.Class.{Class}
use Rattle.genie_base.specs.declared.semantics.Class.TheVariants.{Copy, Share, Move, WeakMove}
use Rattle.genie_base.specs.declared.semantics.Direction.{Direction}
use Rattle.genie_base.specs.declared.semantics.Direction.TheVariants as direction
use Rattle.genie_device.specs.Device.{DeviceView}
use Rattle.genie_frame.specs.declared.frame.Owner.{Owner}
use Rattle.genie_input.specs.Pools.{PoolState}
use Rattle.genie_model.specs.Tables.{entry}
use Rattle.genie_kernel.specs.declared.kernel.Kernel.{Kernel}
use Rattle.genie_kernel.specs.declared.transfer.Transfer.{Transfer}
use Rattle.genie_kernel.specs.declared.transfer.Loans.{Loans}
use Rattle.genie_kernel.specs.declared.transfer.Loans.TheVariants.{Nothing, Outward, Inward}
use Rattle.genie_kernel.specs.Asked.{cost_of}
use Rattle.genie_kernel.specs.Calls.{begins_at, is_strong_call, is_copy_input}
use Rattle.genie_kernel.specs.Loans.{frames_of}
use Rattle.genie_kernel.specs.Planned.{is_early_device, Lends, LendsInput, LendsStrongly, LendsIn, LendsOut}
use Rattle.genie_kernel.specs.Sizes.{is_pooled, IsEquipped, IsPoolOf}
use Rattle.genie_kernel.specs.View.{no_bytes}
use Rattle.genie_kernel.specs.Lemmas.Asking.{ask_wired}
use Rattle.genie_kernel.specs.Good.{IsGood}
use Rattle.genie_room.specs.Frames.{loan_count, pooled, LoansAreWired}
use Rattle.genie_room.specs.Lemmas.Totals.{sum_all, sum_beneath}

out_long : (page : ℕ) (t : Transfer) (loans : Loans) → LendsOut page t loans → length (frames_of loans) ≤ span page (begins_at t) t.len
out_long page t Nothing h = absurd h
out_long page t (Outward p) h = omega (arith, h.1.pages)
out_long page t (Inward p) h = absurd h

in_long : (page : ℕ) (t : Transfer) (loans : Loans) → LendsIn page t loans → length (frames_of loans) ≤ span page (begins_at t) t.len
in_long page t Nothing h = absurd h
in_long page t (Outward p) h = absurd h
in_long page t (Inward p) h = omega (arith, h.pages)

strong_long : (page : ℕ) (owners : List Owner) (early : Bool) (t : Transfer) (loans : Loans) → LendsStrongly page owners early t loans → length (frames_of loans) ≤ span page (begins_at t) t.len
strong_long page owners false t loans h = let none = ap (λ l. length (frames_of l)) h in omega (arith, none)
strong_long page owners true t loans h = in_long page t loans h.0

input_long : (page : ℕ) (owners : List Owner) (early strong : Bool) (t : Transfer) → LendsInput page owners early t strong → loan_count t ≤ span page (begins_at t) t.len
input_long page owners early true t h = strong_long page owners early t t.loans h
input_long page owners early false t h = in_long page t t.loans h

-- a transfer has at most a loan for each page of its range
pub long : (page : ℕ) (owners : List Owner) (early : Bool) (t : Transfer) (d : Direction) → Lends page owners early t d → loan_count t ≤ span page (begins_at t) t.len
long page owners early t direction.Outward h = out_long page t t.loans h
long page owners early t direction.Inward h = input_long page owners early (is_strong_call t) t h

cost_more : (c : Class) (d : Direction) (pages : ℕ) → pages ≤ cost c d pages
cost_more Copy direction.Outward pages = omega arith
cost_more Copy direction.Inward pages = omega arith
cost_more Share d pages = omega arith
cost_more Move d pages = omega arith
cost_more WeakMove d pages = omega arith

-- a copy input may need two frames for each page of its range
pub copy_need : (page : ℕ) (t : Transfer) → class_of t.sem ≡ Copy → t.dir ≡ direction.Inward → (cost_of page t ≡ 2 * span page t.addr t.len) × (span page (begins_at t) t.len ≡ span page t.addr t.len)
copy_need page t c d =
    let input : is_copy_input (class_of t.sem) t.dir ≡ true = ap (λ x. is_copy_input x t.dir) c ∙ ap (is_copy_input Copy) d in
    let at : begins_at t ≡ t.addr = rw input refl in
    let pages = ap (λ a. span page a t.len) at in
    (rw (c, d) refl, pages)

module _ (k : Kernel) (good : IsGood k) where
  pub lent_long : All (λ t. loan_count t ≤ span k.config.page (begins_at t) t.len) k.transfers
  lent_long i d l = let t = get_or k.transfers i d in long k.config.page k.memory.frames.owners (is_early_device (entry k.devices t.dev)) t t.dir (good.planned i d l)

  pub lent_need : All (λ t. loan_count t ≤ cost_of k.config.page t) k.transfers
  lent_need i d l = let t = get_or k.transfers i d in omega (arith, lent_long i d l, cost_more (class_of t.sem) t.dir (span k.config.page (begins_at t) t.len))

-- how many frames a pool has
abbrev pub pool_size : Option PoolState → ℕ
pool_size None = 0
pool_size (Some p) = length p.loans

given : (kind : Kind) (depth : ℕ) → is_pooled kind ≡ true → pool_frames kind depth ≡ depth * 17
given Pooled depth e = refl
given Early depth e = absurd (cc)
given Outboard depth e = absurd (cc)

pool_small : (page : ℕ) (c : Option DeviceHandles) (v : Option DeviceView) (p : Option PoolState) → IsEquipped page c v p → pool_size p ≤ device_pool (option_map device_config c)
pool_small page c v None h = omega arith
pool_small page None None (Some p) h = absurd h
pool_small page None (Some v) (Some p) h = absurd h
pool_small page (Some c) None (Some p) h = absurd h
pool_small page (Some c) (Some v) (Some p) h =
    let is : IsPoolOf c p = h.1 in
    omega (arith, is.pool.size, is.depth, given c.kind c.depth is.pooled)

module _ (k : Kernel) (good : IsGood k) where
  pub pools_small : sum_by pool_size k.pools ≤ pooled k
  pools_small =
      let places : length (map (option_map device_config) k.config.devices) ≡ 8 = good.fits.table in
      let below = sum_beneath pool_size (λ c. device_pool (option_map device_config c)) None None k.pools k.config.devices (omega (arith, good.equipped.pool_places, places, length-map k.config.devices (option_map device_config))) (λ d. pool_small k.config.page (entry k.config.devices d) (entry k.devices d) (entry k.pools d) (good.equipped.each d)) in
      omega (arith, below, sum_by-map device_pool (option_map device_config) k.config.devices)

pub loans_wired : LoansAreWired
loans_wired k good = omega (arith, ask_wired k (no_bytes k.config.page), sum_all loan_count (cost_of k.config.page) k.transfers (lent_need k good))
