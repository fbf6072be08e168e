-- How many frames can be had.
use Rattle.std.proofs.Common.{◌≡◌, ℕ, ◌≤◌, ◌+◌, ◌-◌, true, false, List, refl, arith, length, get_or}
use Rattle.std.specs.Prelude.{◌==◌, nat_lt, sum_by, Option, None, Some}
use Rattle.std.proofs.lemmas.Bool.{ltb-false}
use Rattle.genie_base.specs.Counts.{span, cost}
use Rattle.genie_base.specs.Transfers.{class_of}
use Rattle.genie_base.specs.declared.event.Event.TheVariants as event
use Rattle.genie_base.specs.declared.refusal.Refusal.TheVariants as cause
use Rattle.genie_base.specs.declared.semantics.Direction.TheVariants.{Inward, Outward}
use Rattle.genie_base.specs.Lemmas.Places.{num}
use Rattle.genie_frame.specs.declared.frame.Owner.{Owner}
use Rattle.genie_frame.specs.declared.frame.Owner.TheVariants.{Free, Page, System, Pool, Nobody}
use Rattle.genie_input.specs.Pools.{PoolState}
use Rattle.genie_plan.specs.Plans.{times, input_frames}
use Rattle.genie_plan.specs.Lemmas.Ranges.{frames_count}
use Rattle.genie_hiding.specs.Rooms.{is_available}
use Rattle.genie_model.specs.Inputs.{address_or_zero}
use Rattle.genie_model.specs.Pending.{wired}
use Rattle.genie_model.specs.Refusing.{frames_to_wire, causes, call_causes, target_causes}
use Rattle.genie_model.specs.State.{State}
use Rattle.genie_model.specs.Tables.{entry}
use Rattle.genie_model.specs.Lemmas.Causes.{none_holds, both_none}
use Rattle.genie_kernel.specs.declared.transfer.Transfer.{Transfer}
use Rattle.genie_kernel.specs.Counted.{pool_on}
use Rattle.genie_kernel.specs.Loans.{frames_of}
use Rattle.genie_kernel.specs.Asked.{cost_of}
use Rattle.genie_kernel.specs.View.{outline, no_bytes}
use Rattle.genie_kernel.specs.Lemmas.Asking.{ask_wired}
use Rattle.genie_room.specs.Frames.{loan_count, loans_in, is_pool, pooled, FramesAreLent, PoolsAreFew, CostsAreAvailable, FourAreAvailable, PendingAreAvailable, CopiesAreAvailable, OutputsAreAvailable, InputsAreAvailable}
use Rattle.genie_room.specs.Lemmas.Totals.{total, total_more, total_plus, total_none, total_sums, total_counts, total_same, sum_places, sum_all, sum_above_any, sum_beside_one}
use Rattle.genie_room.proofs.Lent.{lent_to, lendings, unavailable, both_total}
use Rattle.genie_room.proofs.Wired.{loans_wired, lent_long, lent_need, copy_need, pools_small, pool_size}

-- each loan is of one frame
frames_total : (n : ℕ) (frames : List ℕ) → total (λ f. times frames f) n ≤ length frames
frames_total n frames = total_counts (λ f g. g == f) n frames (λ g. total_same g n)

transfers_total : (n : ℕ) (ts : List Transfer) → total (λ f. sum_by (lent_to f) ts) n ≤ loans_in ts
transfers_total n ts = omega (arith, total_sums lent_to n ts, sum_all (λ t. total (λ f. lent_to f t) n) loan_count ts (λ k d l. frames_total n (frames_of (get_or ts k d).loans)))

pool_total : (n : ℕ) (p : Option PoolState) → total (λ f. pool_on f p) n ≤ pool_size p
pool_total n None = omega (arith, total_none n)
pool_total n (Some p) = omega (arith, frames_total n (input_frames p.loans), frames_count p.loans)

pools_total : (n : ℕ) (pools : List (Option PoolState)) → total (λ f. sum_by (pool_on f) pools) n ≤ sum_by pool_size pools
pools_total n pools = omega (arith, total_sums pool_on n pools, sum_all (λ p. total (λ f. pool_on f p) n) pool_size pools (λ k d l. pool_total n (get_or pools k d)))

pub frames_lent : FramesAreLent
frames_lent k g =
    let n = length k.memory.frames.owners in
    let split = both_total is_available k.memory.frames.owners k.memory.frames.counts (lendings k.transfers k.pools) g.sound.shaped.counted (unavailable k.memory.frames.owners k.memory.frames.counts k.transfers k.pools g.counted g.owners g.sound.lent) in
    let parts = total_plus (λ f. sum_by (lent_to f) k.transfers) (λ f. sum_by (pool_on f) k.pools) n in
    omega (arith, split, parts, transfers_total n k.transfers, pools_total n k.pools, pools_small k g, g.sized.frames)

pool_lent : (f : ℕ) (pools : List (Option PoolState)) (o : Owner) → ((d : ℕ) → o ≡ Pool d → pool_on f (entry pools d) ≡ 1) → num (is_pool o) ≤ sum_by (pool_on f) pools
pool_lent f pools Free h = omega arith
pool_lent f pools (Page p) h = omega arith
pool_lent f pools (System t) h = omega arith
pool_lent f pools (Pool d) h = omega (arith, h d refl, sum_above_any (pool_on f) None pools d refl)
pool_lent f pools Nobody h = omega arith

pub pools_few : PoolsAreFew
pools_few k g =
    let owners = k.memory.frames.owners in
    let each = total_more (λ f. num (is_pool (get_or owners f Free))) (λ f. sum_by (pool_on f) k.pools) (length owners) (λ f l. pool_lent f k.pools (get_or owners f Free) (g.owners.pooled f)) in
    omega (arith, sum_places (λ o. num (is_pool o)) Free owners, each, pools_total (length owners) k.pools, pools_small k g)

pub costs_available : CostsAreAvailable
costs_available k frames g l =
    let room : pooled k + 8 ≤ k.config.frames = g.fits.pool in
    let fits : wired (outline k) + frames ≤ k.config.frames - pooled k - 4 = l in
    omega (arith, room, fits, frames_lent k g, loans_wired k g)

pub four_available : FourAreAvailable
four_available k g =
    let bound : wired (outline k) ≤ frames_to_wire (outline k) = g.orderly.wired in
    costs_available k 0 g (omega (arith, bound))

pub pending_available : PendingAreAvailable
pending_available k g i d l =
    let beside = sum_beside_one loan_count (cost_of k.config.page) d k.transfers i (lent_need k g) l in
    let room : pooled k + 8 ≤ k.config.frames = g.fits.pool in
    let bound : wired (outline k) ≤ k.config.frames - pooled k - 4 = g.orderly.wired in
    omega (arith, beside, room, bound, frames_lent k g, ask_wired k (no_bytes k.config.page))

pub copies_available : CopiesAreAvailable
copies_available k g i d l c inward =
    let twice = copy_need k.config.page (get_or k.transfers i d) c inward in
    omega (arith, pending_available k g i d l, lent_long k g i d l, twice.0, twice.1)

frames_fit : (s : State) (frames : ℕ) → nat_lt (frames_to_wire s) (wired s + frames) ≡ false → wired s + frames ≤ frames_to_wire s
frames_fit s frames e = ltb-false (frames_to_wire s) (wired s + frames) e

pub outputs_available : OutputsAreAvailable
outputs_available k p sem d port flow a n g e =
    let frames = cost (class_of sem) Outward (span k.config.page a n) in
    costs_available k frames g (frames_fit (outline k) frames (none_holds (causes (outline k) (event.Output p sem d port flow a n)) e 6 (true, cause.Frames) (omega arith)))

pub inputs_available : InputsAreAvailable
inputs_available k p sem d port flow addr n g e =
    let frames = cost (class_of sem) Inward (span k.config.page (address_or_zero addr) n) in
    let last = both_none (target_causes (outline k) p (class_of sem) d (address_or_zero addr) n) (call_causes (outline k) frames) e in
    costs_available k frames g (frames_fit (outline k) frames (none_holds (call_causes (outline k) frames) last.1 1 (true, cause.Frames) (omega arith)))
