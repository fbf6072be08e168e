-- How long plans are, how high counts of loans, and what calls can have.
use Rattle.std.proofs.Common.{◌≡◌, ℕ, ◌<◌, ◌≤◌, ◌+◌, ◌-◌, ◌*◌, Bool, true, false, List, refl, arith, ap, get_or}
use Rattle.std.specs.Prelude.{◌==◌, ◌&&◌, nat_le, sum_by, Option, None, Some, if◌then◌else◌, is_some, unwrap_or}
use Rattle.std.proofs.lemmas.Bool.{and_parts, not-false, leb-true}
use Rattle.std.proofs.lemmas.List.Sums.{count_by-le-length}
use Rattle.genie_base.specs.Configs.{device_config}
use Rattle.genie_base.specs.Counts.{span, cost}
use Rattle.genie_base.specs.Posted.{Address}
use Rattle.genie_base.specs.Transfers.{class_of}
use Rattle.genie_base.specs.declared.config.DeviceConfig.{DeviceConfig as DeviceHandles}
use Rattle.genie_base.specs.declared.event.Event.{Event}
use Rattle.genie_base.specs.declared.event.Event.TheVariants.{Output, Input}
use Rattle.genie_base.specs.declared.refusal.Refusal.TheVariants as cause
use Rattle.genie_base.specs.declared.semantics.Class.{Class}
use Rattle.genie_base.specs.declared.semantics.Class.TheVariants.{Copy, Share, Move, WeakMove}
use Rattle.genie_base.specs.declared.semantics.Direction.TheVariants.{Inward}
use Rattle.genie_device.specs.Device.{DeviceView}
use Rattle.genie_input.specs.Pools.{PoolState}
use Rattle.genie_plan.specs.Plans.{input_frames}
use Rattle.genie_plan.specs.Lemmas.Ranges.{frames_count}
use Rattle.genie_hiding.specs.Rooms.{available}
use Rattle.genie_model.specs.Inputs.{posted, address_or_zero}
use Rattle.genie_model.specs.Pending.{wired, cost_of}
use Rattle.genie_model.specs.Refusing.{refuse, causes, most_of}
use Rattle.genie_model.specs.Regions.{reach_of}
use Rattle.genie_model.specs.State as flat
use Rattle.genie_model.specs.Tables.{entry}
use Rattle.genie_model.specs.Lemmas.Causes.{none_holds, most_end, accepted_input}
use Rattle.genie_orderly.specs.Lemmas.AcceptedCalls.{IsAccepted, OnCall, accepted}
use Rattle.genie_orderly.specs.Lemmas.AcceptedEvents.{page_some}
use Rattle.genie_orderly.specs.Lemmas.KeptCalls.{call_of}
use Rattle.genie_kernel.specs.declared.kernel.Kernel.{Kernel}
use Rattle.genie_kernel.specs.declared.transfer.Transfer.{Transfer}
use Rattle.genie_kernel.specs.Calls.{begins_at}
use Rattle.genie_kernel.specs.Counted.{is_wiring, wires_on, pool_on}
use Rattle.genie_kernel.specs.Loans.{frames_of}
use Rattle.genie_kernel.specs.Planned.{FitsDevice}
use Rattle.genie_kernel.specs.Sizes.{IsEquipped, IsDeviceOf}
use Rattle.genie_kernel.specs.View.{outline}
use Rattle.genie_kernel.specs.Good.{IsGood}
use Rattle.genie_room.specs.Bounds.{PlansAreShort, CountsAreLow}
use Rattle.genie_room.specs.Frames.{loan_count, loans_in, pooled, CanBegin, CallsCanBegin}
use Rattle.genie_room.specs.Lemmas.Spans.{span_most}
use Rattle.genie_room.specs.Lemmas.Totals.{sum_all}
use Rattle.genie_room.proofs.Available.{costs_available}
use Rattle.genie_room.proofs.Lent.{lent_to, kinds_lent}
use Rattle.genie_room.proofs.Wired.{lent_long, loans_wired, pools_small, pool_size}

short_by : (page len : ℕ) (c : Option DeviceHandles) (v : Option DeviceView) (p : Option PoolState) → IsEquipped page c v p → FitsDevice len v → len ≤ 64 * page
short_by page len c None p is fits = absurd fits
short_by page len None (Some v) p is fits = absurd is
short_by page len (Some c) (Some v) p is fits =
    let device : IsDeviceOf page c v = is.0 in
    omega (arith, fits, device.limit, most_end page (Some (device_config c)))

some_page : (k : Kernel) → IsGood k → 0 < k.config.page
some_page k g = omega (arith, page_some k.config.page g.fits.page)

pub plans_short : PlansAreShort
plans_short k g i d l =
    let t = get_or k.transfers i d in
    let short = short_by k.config.page t.len (entry k.config.devices t.dev) (entry k.devices t.dev) (entry k.pools t.dev) (g.equipped.each t.dev) (g.fitting i d l) in
    record { len = short; pages = omega (arith, span_most k.config.page 64 (begins_at t) t.len (some_page k g) short); loans = lent_long k g i d l }

wires_few : (b : Bool) (n : ℕ) → (if b then n else 0) ≤ n
wires_few true n = omega arith
wires_few false n = omega arith

lent_few : (f : ℕ) (ts : List Transfer) → sum_by (lent_to f) ts ≤ loans_in ts
lent_few f ts = sum_all (lent_to f) loan_count ts (λ k d l. count_by-le-length (λ g. g == f) (frames_of (get_or ts k d).loans))

pool_few : (f : ℕ) (p : Option PoolState) → pool_on f p ≤ pool_size p
pool_few f None = omega arith
pool_few f (Some p) = omega (arith, count_by-le-length (λ g. g == f) (input_frames p.loans), frames_count p.loans)

pub counts_low : CountsAreLow
counts_low k f g =
    let ts = k.transfers in
    let pooled_most = sum_all (pool_on f) pool_size k.pools (λ i d l. pool_few f (get_or k.pools i d)) in
    let wires_most = sum_all (wires_on f) (lent_to f) ts (λ i d l. wires_few (is_wiring (get_or ts i d)) (lent_to f (get_or ts i d))) in
    let room : pooled k + 8 ≤ k.config.frames = g.fits.pool in
    let most : k.config.frames ≤ 4096 = g.fits.frames_high in
    let bound : wired (outline k) ≤ k.config.frames - pooled k - 4 = g.orderly.wired in
    let strong = ap (λ c. c.strong) (g.counted f) in
    let weak = ap (λ c. c.weak) (g.counted f) in
    let input = ap (λ c. c.input) (g.counted f) in
    let wires = ap (λ c. c.wires) (g.counted f) in
    let sum : sum_by (lent_to f) ts + sum_by (pool_on f) k.pools ≤ 4096 = omega (arith, lent_few f ts, pooled_most, room, most, bound, loans_wired k g, pools_small k g) in
    record { loans = omega (arith, strong, weak, input, kinds_lent f ts, sum); wires = omega (arith, wires, wires_most, sum) }

posted_len : (s : flat.State) (p : ℕ) (c : Class) (to : Address) (a : Option ℕ) (n : ℕ) → (posted s p c to a n).len ≡ n
posted_len s p Copy to a n = refl
posted_len s p Share to a n = refl
posted_len s p Move to a n = refl
posted_len s p WeakMove to a n = refl

call_short : (s : flat.State) (e : Event) → refuse s e ≡ None → OnCall (λ t. t.len ≤ 64 * s.config.page) (call_of s e)
call_short s (Output p sem d port flow a n) none =
    let most = most_of s.config.page (entry s.config.devices d) in
    let row = none_holds (causes s (Output p sem d port flow a n)) none 2 (true, cause.Frames) (omega arith) in
    let fits = not-false (nat_le n most && is_some (reach_of s p a n)) row in
    omega (arith, leb-true n most (and_parts (nat_le n most) (is_some (reach_of s p a n)) fits).0, most_end s.config.page (entry s.config.devices d))
call_short s (Input p sem d port flow a n) none =
    let class = class_of sem in
    let short = accepted_input s p class d (address_or_zero a) n (cost class Inward (span s.config.page (address_or_zero a) n)) none in
    omega (arith, posted_len s p class (record { device = d; port = port; flow = flow }) a n, short.short)
call_short s e none = tt

begins : (k : Kernel) → IsGood k → (c : Option flat.Transfer) → OnCall (IsAccepted (outline k)) c → OnCall (λ t. t.len ≤ 64 * k.config.page) c → OnCall (CanBegin k.config.page (available k.memory.frames)) c
begins k g None is short = tt
begins k g (Some t) is short = record {
  len = short;
  pages = omega (arith, span_most k.config.page 64 (unwrap_or t.addr t.offset) t.len (some_page k g) short);
  cost = costs_available k (cost_of k.config.page t) g is.wired;
}

pub calls_begin : CallsCanBegin
calls_begin k e g whole none = begins k g (call_of (outline k) e) (accepted (outline k) e g.fits whole none) (call_short (outline k) e none)
