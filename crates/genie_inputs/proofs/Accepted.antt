-- What is known of an input that isn't refused.
use Rattle.std.proofs.Common.{◌≡◌, ℕ, ◌+◌, ◌*◌, ◌<◌, ◌≤◌, ◌^◌, rules, inl, inr, ⊎_elim, zero, suc, Bool, true, false, List, [], ◌∷◌, refl, sym, ap, subst, arith, ◌∙◌, map, length, filter, get_or}
use Rattle.std.specs.Prelude.{Option, Some, None, All, IsTrue, is_some, nat_le}
use Rattle.std.specs.Option.{option_map}
use Rattle.std.proofs.lemmas.Bool.{and_parts, cond_both, not-false, leb-true}
use Rattle.std.proofs.lemmas.Bool.Decides.{nat_tests}
use Rattle.std.proofs.lemmas.Nat.{mul-le}
use Rattle.genie_base.specs.Counts.{is_page_size}
use Rattle.genie_base.specs.Events.{is_whole, has_one}
use Rattle.genie_base.specs.Regions.{is_reached}
use Rattle.genie_base.specs.declared.region.Area.{Area}
use Rattle.genie_base.specs.declared.region.Area.TheVariants.{App, Sys}
use Rattle.genie_demux.specs.declared.input.Input as demux
use Rattle.genie_hiding.specs.Rooms.{available}
use Rattle.genie_base.specs.Configs.{device_config}
use Rattle.genie_base.specs.Transfers.{class_of, is_system}
use Rattle.genie_base.specs.declared.config.DeviceConfig.{DeviceConfig}
use Rattle.genie_base.specs.declared.event.Event.TheVariants.{Input}
use Rattle.genie_base.specs.declared.refusal.Refusal.TheVariants.{Proc}
use Rattle.genie_base.specs.declared.semantics.Class.{Class}
use Rattle.genie_base.specs.declared.semantics.Class.TheVariants.{Copy, Share, Move, WeakMove}
use Rattle.genie_device.specs.Device.{DeviceView}
use Rattle.genie_input.specs.Pools.{PoolState}
use Rattle.genie_model.specs.Inputs.{address_or_zero, posted}
use Rattle.genie_model.specs.Lemmas.Causes.{accepted_input, both_none, few_calls, none_holds}
use Rattle.genie_model.specs.Refusing.{refuse, first_cause, target_causes, most_of, has_input}
use Rattle.genie_model.specs.Lemmas.Lists.{Has, all_has, find_has, has_at}
use Rattle.genie_model.specs.Regions as model
use Rattle.genie_model.specs.State as flat
use Rattle.genie_model.specs.Tables.{entry}
use Rattle.genie_orderly.specs.Orderly.{IsIn}
use Rattle.genie_orderly.specs.Lemmas.AcceptedEvents.{allowed}
use Rattle.genie_orderly.specs.Lemmas.BufferRegions.{region_is}
use Rattle.genie_kernel.specs.declared.kernel.Kernel.{Kernel}
use Rattle.genie_kernel.specs.declared.transfer.Transfer.{Transfer}
use Rattle.genie_kernel.specs.Good.{IsGood}
use Rattle.genie_kernel.specs.Matching.{posted_as, is_posted_call}
use Rattle.genie_kernel.specs.Planned.{FitsDevice}
use Rattle.genie_kernel.specs.Sizes.{IsEquipped}
use Rattle.genie_kernel.specs.View.{outline, no_bytes}
use Rattle.genie_kernel.specs.Lemmas.Asking.{ask_alive, ask_pending}
use Rattle.genie_changes.specs.Removing.{GoodTransfersRise}
use Rattle.genie_room.specs.Frames.{CanBegin, CallsCanBegin}
use Rattle.genie_inputs.specs.declared.call.Call.{Call}
use Rattle.genie_inputs.specs.Calls.{input_event}
use Rattle.genie_inputs.specs.Posting.{CanPost}

-- no longer than the datagrams of its device
most_bytes : (s : flat.State) (p : ℕ) (class : Class) (d a n : ℕ) → first_cause (target_causes s p class d a n) ≡ None → n ≤ most_of s.config.page (entry s.config.devices d)
most_bytes s p Copy d a n e = leb-true n _ (and_parts (nat_le n (most_of s.config.page (entry s.config.devices d))) _ (not-false _ (none_holds (target_causes s p Copy d a n) e 2 (true, Proc) (omega arith)))).0
most_bytes s p Share d a n e = leb-true n _ (and_parts (nat_le n (most_of s.config.page (entry s.config.devices d))) _ (not-false _ (none_holds (target_causes s p Share d a n) e 2 (true, Proc) (omega arith)))).0
most_bytes s p Move d a n e = leb-true n _ (and_parts (nat_le 1 n) (nat_le n (most_of s.config.page (entry s.config.devices d))) (not-false _ (none_holds (target_causes s p Move d a n) e 2 (true, Proc) (omega arith)))).1
most_bytes s p WeakMove d a n e = leb-true n _ (and_parts (nat_le 1 n) (nat_le n (most_of s.config.page (entry s.config.devices d))) (not-false _ (none_holds (target_causes s p WeakMove d a n) e 2 (true, Proc) (omega arith)))).1

device_fits : (page n : ℕ) (c : Option DeviceConfig) (v : Option DeviceView) (pool : Option PoolState) → IsEquipped page c v pool → has_input (option_map device_config c) ≡ true → n ≤ most_of page (option_map device_config c) → FitsDevice n v
device_fits page n None v pool h has l = absurd (cc)
device_fits page n (Some c) None pool h has l = absurd h
device_fits page n (Some c) (Some v) pool h has l = let limit = h.0.limit in omega (arith, limit, l)

place_of : (ds : List (Option DeviceConfig)) (d : ℕ) → entry (map (option_map device_config) ds) d ≡ option_map device_config (entry ds d)
place_of [] d = refl
place_of (x ∷ ds) zero = refl
place_of (x ∷ ds) (suc d) = place_of ds d

-- the process is alive, there is room for one transfer more, and the device takes so many bytes
pub record MayInput (k : Kernel) (c : Call) : Type 0 where
  pub alive : is_some (entry k.spaces.processes c.pid) ≡ true
  pub few : length k.transfers < 64
  pub short : c.len ≤ 64 * k.config.page
  pub device : FitsDevice c.len (entry k.devices c.dev)

pub may_input : (k : Kernel) (c : Call) (addr : Option ℕ) → IsGood k → refuse (outline k) (input_event c addr) ≡ None → MayInput k c
may_input k c addr good accepted =
    let s = outline k in
    let a : ℕ = address_or_zero addr in
    let both = both_none (target_causes s c.pid (class_of c.sem) c.dev a c.len) _ accepted in
    let has : has_input (entry s.config.devices c.dev) ≡ true = not-false _ (none_holds (target_causes s c.pid (class_of c.sem) c.dev a c.len) both.0 1 (true, Proc) (omega arith)) in
    let high : c.len ≤ most_of k.config.page (entry s.config.devices c.dev) = most_bytes s c.pid (class_of c.sem) c.dev a c.len both.0 in
    let few = few_calls s _ both.1 in
    record {
      alive = sym (ask_alive k (no_bytes k.config.page) c.pid) ∙ (allowed s (Input c.pid c.sem c.dev c.port c.flow addr c.len) accepted).0;
      few = omega (arith, few, ask_pending k (no_bytes k.config.page));
      short = (accepted_input s c.pid (class_of c.sem) c.dev a c.len _ accepted).short;
      device = device_fits k.config.page c.len (entry k.config.devices c.dev) (entry k.devices c.dev) (entry k.pools c.dev) (good.equipped.each c.dev)
          (sym (ap has_input (place_of k.config.devices c.dev)) ∙ has) (subst (λ x. c.len ≤ most_of k.config.page x) (place_of k.config.devices c.dev) high);
    }

-- the flat machine's transfer of the call, and the room that there is for it
abbrev pub call_in : flat.State → Call → Class → Option ℕ → flat.Transfer
call_in s c class addr = posted s c.pid class (record { device = c.dev; port = c.port; flow = c.flow }) addr c.len

pub has_room : CallsCanBegin → (k : Kernel) (c : Call) (addr : Option ℕ) (class : Class) → IsGood k → class_of c.sem ≡ class → has_one (is_system class) (is_some addr) ≡ true → refuse (outline k) (input_event c addr) ≡ None → CanBegin k.config.page (available k.memory.frames) (call_in (outline k) c class addr)
has_room law k c addr class good is whole accepted =
    let whole_call : IsTrue (is_whole (input_event c addr)) = subst (λ (x : Class). IsTrue (has_one (is_system x) (is_some addr))) (sym is) whole in
    subst (λ (x : Class). CanBegin k.config.page (available k.memory.frames) (call_in (outline k) c x addr)) is (law k (input_event c addr) good whole_call accepted)

-- the address of a byte of a region
pub page_high : (page : ℕ) → IsTrue (is_page_size page) → page ≤ 4096
page_high page e = grind (arith, nat_tests)

pub page_some : (k : Kernel) → IsGood k → 0 < k.config.page
page_some k good = some_page k.config.page good.fits.page
  where
    some_page : (page : ℕ) → IsTrue (is_page_size page) → 0 < page
    some_page page e = grind (arith, nat_tests)

area_end : (kind : Area) (start pages : ℕ) → IsIn kind start pages → start + pages ≤ 1024
area_end App start pages h = omega (arith, h)
area_end Sys start pages h = h.1

reached_end : (k : Kernel) (p a n : ℕ) (o : Option flat.Region) → IsGood k → model.reach_of (outline k) p a n ≡ o → is_some o ≡ true → a + n < 2 ^ 32
reached_end k p a n None good is some = absurd (cc)
reached_end k p a n (Some r) good is some =
    let s = outline k in
    let page : ℕ = k.config.page in
    let has = find_has (λ (q : flat.Region). is_reached page a n (model.extent_of q)) (model.regions_at s p) r is in
    let fits = region_is page s.processes good.orderly.regions p r has.0 in
    let ends : a + n ≤ (r.start + r.pages) * page = grind (arith, rules, has.1) in
    let most = mul-le (r.start + r.pages) page 1024 4096 (area_end r.area r.start r.pages fits.area) (page_high page good.fits.page) in
    omega (arith, ends, most)

-- the buffer of the application's is reached
pub app_reached : (k : Kernel) (c : Call) (a : ℕ) (class : Class) → class_of c.sem ≡ class → is_system class ≡ false → refuse (outline k) (input_event c (Some a)) ≡ None → is_some (model.reach_of (outline k) c.pid a c.len) ≡ true
app_reached k c a class is app accepted = (allowed (outline k) (Input c.pid c.sem c.dev c.port c.flow (Some a) c.len) accepted).1 (ap is_system is ∙ app)

pub app_fits : (k : Kernel) (c : Call) (a : ℕ) (class : Class) → IsGood k → class_of c.sem ≡ class → is_system class ≡ false → refuse (outline k) (input_event c (Some a)) ≡ None → a + c.len < 2 ^ 32
app_fits k c a class good is app accepted = reached_end k c.pid a c.len _ good refl (app_reached k c a class is app accepted)

-- a transfer more may be posted
posted_few : (q : Transfer → Bool) (ts : List Transfer) → length (map posted_as (filter q ts)) ≤ length ts
posted_few q [] = omega arith
posted_few q (t ∷ ts) = let later = posted_few q ts in cond_both (q t) (t ∷ filter q ts) (filter q ts) (λ l. length (map posted_as l) ≤ length (t ∷ ts)) (λ e. omega (arith, later)) (λ e. omega (arith, later))

posted_low : (n : ℕ) (q : Transfer → Bool) (ts : List Transfer) → ((t : Transfer) → Has t ts → t.id.0 < n) → (p : demux.Input) → Has p (map posted_as (filter q ts)) → p.id < n
posted_low n q [] h p is = absurd is
posted_low n q (t ∷ ts) h p is = cond_both (q t) (t ∷ filter q ts) (filter q ts) (λ l. Has p (map posted_as l) → p.id < n)
    (λ e x. ⊎_elim (λ (s : posted_as t ≡ p). subst (λ (y : demux.Input). y.id < n) s (h t (inl refl))) (λ later. posted_low n q ts (λ u i. h u (inr i)) p later) x)
    (λ e x. posted_low n q ts (λ u i. h u (inr i)) p x) is

pub can_post : GoodTransfersRise → (k : Kernel) → IsGood k → length k.transfers < 64 → CanPost k k.next
can_post law k good few =
    let rise = law k good in
    record {
      few = few;
      room = let short = posted_few is_posted_call k.transfers in omega (arith, few, short, ap length good.posted.listed);
      last = subst (λ (l : List demux.Input). All (λ (p : demux.Input). p.id < k.next) l) (sym good.posted.listed)
          (λ i d l. posted_low k.next is_posted_call k.transfers (all_has (λ (t : Transfer). t.id.0 < k.next) k.transfers rise.below) (get_or (map posted_as (filter is_posted_call k.transfers)) i d) (has_at (map posted_as (filter is_posted_call k.transfers)) i d l));
    }
