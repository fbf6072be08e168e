-- An output that isn't refused.
use Rattle.std.proofs.Common.{◌≡◌, ℕ, ◌+◌, ◌-◌, ◌*◌, ◌/◌, ◌<◌, ◌≤◌, ◌^◌, zero, suc, Bool, true, false, List, [], ◌∷◌, refl, sym, ap, subst, arith, rules, ◌∙◌, length, map}
use Rattle.std.specs.Prelude.{Option, Some, None, find, is_some, nat_le, count_by}
use Rattle.std.specs.Option.{option_map}
use Rattle.std.proofs.lemmas.Bool.{and_parts, not-false, leb-true, leb-false}
use Rattle.std.proofs.lemmas.List.{length-map}
use Rattle.genie_base.specs.Configs.{config_of, device_config}
use Rattle.genie_base.specs.Counts.{span, cost}
use Rattle.genie_base.specs.Regions.{is_reached, reach}
use Rattle.genie_base.specs.Transfers.{class_of}
use Rattle.genie_base.specs.declared.config.DeviceConfig.{DeviceConfig}
use Rattle.genie_base.specs.declared.refusal.Refusal.TheVariants as cause
use Rattle.genie_base.specs.declared.semantics.Class.{Class}
use Rattle.genie_base.specs.declared.semantics.Class.TheVariants.{Copy, Share, Move, WeakMove}
use Rattle.genie_base.specs.declared.semantics.Direction.TheVariants.{Outward}
use Rattle.genie_device.specs.Device.{DeviceView}
use Rattle.genie_frame.specs.FrameTable.{is_free}
use Rattle.genie_hiding.specs.Hidden.{objects_of, is_among}
use Rattle.genie_hiding.specs.Rooms.{available}
use Rattle.genie_input.specs.Pools.{PoolState}
use Rattle.genie_store.specs.StoreView.{StoreView}
use Rattle.genie_object.specs.declared.objects.Range.{Range}
use Rattle.genie_object.specs.Objects.{object_at}
use Rattle.genie_object.specs.Pages.{is_there}
use Rattle.genie_object.specs.Lemmas.Works.{below_more, page_most}
use Rattle.genie_region.specs.declared.region.Region.{Region}
use Rattle.genie_region.specs.Layouts.{extent}
use Rattle.genie_space.specs.Translations.{IsBacked}
use Rattle.genie_model.specs.Outputs.{output_of}
use Rattle.genie_model.specs.Refusing.{causes, has_output, most_of, refuse}
use Rattle.genie_model.specs.Regions as model
use Rattle.genie_model.specs.State as flat
use Rattle.genie_model.specs.Tables.{entry}
use Rattle.genie_model.specs.Lemmas.Causes.{none_holds}
use Rattle.genie_model.specs.Lemmas.Lists.{Has, find_has, has_left, has_right, all_has}
use Rattle.genie_kernel.specs.declared.kernel.Kernel.{Kernel}
use Rattle.genie_kernel.specs.Backed.{all_regions}
use Rattle.genie_kernel.specs.Calls.{first_waiting}
use Rattle.genie_kernel.specs.Good.{IsGood}
use Rattle.genie_kernel.specs.Planned.{FitsDevice}
use Rattle.genie_kernel.specs.Regions.{regions_of, owned_regions, region_view}
use Rattle.genie_kernel.specs.Sizes.{IsEquipped}
use Rattle.genie_kernel.specs.Transfers.{transfer_view}
use Rattle.genie_kernel.specs.View.{Bytes, state_of, outline, no_bytes}
use Rattle.genie_kernel.specs.Lemmas.Asking.{ask_regions, ask_alive}
use Rattle.genie_kernel.specs.Lemmas.Processes.{find_map, is_some_map}
use Rattle.genie_changes.specs.Lemmas.Outside.{unhidden}
use Rattle.genie_changes.specs.Removing.{FitsTables}
use Rattle.genie_room.specs.Frames.{CanBegin}
use Rattle.genie_tcow.specs.Ranges.{CanPrepare}
use Rattle.genie_outputs.specs.declared.call.Call.{Call}
use Rattle.genie_outputs.specs.Answering.{IsReady}
use Rattle.genie_outputs.specs.Calls.{Reaches, event_of, place_in, range_of}
use Rattle.genie_outputs.specs.OutputLaws.{OutputLaws}
use Rattle.genie_outputs.proofs.Pages.{span_within}

-- what the flat machine reaches
pub reach_view : (k : Kernel) (b : Bytes) (p a n : ℕ) → model.reach_of (state_of k b) p a n ≡ option_map (region_view b.seen.entry_bytes) (reach extent k.config.page a n (regions_of (entry k.spaces.processes p)))
reach_view k b p a n =
    let q : flat.Region → Bool = λ r. is_reached k.config.page a n (model.extent_of r) in
    ap (find q) (ask_regions k b p) ∙ find_map q (region_view b.seen.entry_bytes) (regions_of (entry k.spaces.processes p))

pub record MayOutput (k : Kernel) (c : Call) : Type 0 where
  pub alive : is_some (entry k.spaces.processes c.pid) ≡ true
  pub output : has_output (entry (config_of k.config).devices c.dev) ≡ true
  pub short : c.len ≤ most_of k.config.page (entry (config_of k.config).devices c.dev)
  pub reached : is_some (reach extent k.config.page c.addr c.len (regions_of (entry k.spaces.processes c.pid))) ≡ true
  pub few : length k.transfers < 64

-- what is known where it isn't refused
pub may_output : (k : Kernel) (c : Call) → refuse (outline k) (event_of c) ≡ None → MayOutput k c
may_output k c h =
    let s = outline k in
    let b = no_bytes k.config.page in
    let none = none_holds (causes s (event_of c)) h in
    let both = and_parts (nat_le c.len (most_of k.config.page (entry (config_of k.config).devices c.dev))) (is_some (model.reach_of s c.pid c.addr c.len)) (not-false _ (none 2 (true, cause.Proc) (omega arith))) in
    let few = leb-false 64 (length s.transfers) (none 5 (true, cause.Proc) (omega arith)) in
    let long = length-map k.transfers (transfer_view b.seen.kept_bytes k.devices k.pools (first_waiting k.transfers)) in
    record {
      alive = sym (ask_alive k b c.pid) ∙ not-false (model.is_alive s c.pid) (none 0 (true, cause.Proc) (omega arith));
      output = not-false _ (none 1 (true, cause.Proc) (omega arith));
      short = leb-true c.len _ both.0;
      reached = sym (ap is_some (reach_view k b c.pid c.addr c.len) ∙ is_some_map (region_view b.seen.entry_bytes) (reach extent k.config.page c.addr c.len (regions_of (entry k.spaces.processes c.pid)))) ∙ both.1;
      few = omega (arith, few, long);
    }

entry_mapped : {X Y : Type 0} (f : X → Y) (xs : List (Option X)) (d : ℕ) → entry (map (option_map f) xs) d ≡ option_map f (entry xs d)
entry_mapped f [] d = refl
entry_mapped f (x ∷ xs) zero = refl
entry_mapped f (x ∷ xs) (suc d) = entry_mapped f xs d

-- its device is there, and takes its length
pub fits_device : (k : Kernel) (c : Call) → IsGood k → MayOutput k c → FitsDevice c.len (entry k.devices c.dev)
fits_device k c g may = by (entry k.config.devices c.dev) (entry k.devices c.dev) (entry k.pools c.dev) (g.equipped.each c.dev) (ap has_output (sym (entry_mapped device_config k.config.devices c.dev)) ∙ may.output) (subst (λ d. c.len ≤ most_of k.config.page d) (entry_mapped device_config k.config.devices c.dev) may.short)
  where
    by : (x : Option DeviceConfig) (v : Option DeviceView) (p : Option PoolState) → IsEquipped k.config.page x v p → has_output (option_map device_config x) ≡ true → c.len ≤ most_of k.config.page (option_map device_config x) → FitsDevice c.len v
    by None v p e out short = absurd (cc)
    by (Some x) None p e out short = absurd e
    by (Some x) (Some v) p e out short = let limit = e.0.limit in omega (arith, short, limit)

pub record IsInside (page : ℕ) (c : Call) (r : Region) : Type 0 where
  pub low : r.start * page ≤ c.addr
  pub first : place_in page c r < page * r.pages
  pub last : place_in page c r + c.len ≤ page * r.pages

inside_reached : (page : ℕ) (c : Call) (r : Region) → is_reached page c.addr c.len (extent r) ≡ true → IsInside page c r
inside_reached page c r e =
    let low : r.start * page ≤ c.addr = grind (arith, rules, e) in
    let first : c.addr < (r.start + r.pages) * page = grind (arith, rules, e) in
    let last : c.addr + c.len ≤ (r.start + r.pages) * page = grind (arith, rules, e) in
    let whole : (r.start + r.pages) * page ≡ r.start * page + page * r.pages = grind arith in
    record { low = low; first = omega (arith, low, first, whole); last = omega (arith, low, last, whole) }

pub range_inside : (k : Kernel) (c : Call) (r : Region) → Reaches k c r → IsInside k.config.page c r
range_inside k c r e = inside_reached k.config.page c r (find_has (λ (x : Region). is_reached k.config.page c.addr c.len (extent x)) (regions_of (entry k.spaces.processes c.pid)) r e).1

has_owned : (r : Region) (ps : List (Option (List Region))) (p : ℕ) → Has r (regions_of (entry ps p)) → Has r (owned_regions ps)
has_owned r [] p h = absurd h
has_owned r (x ∷ ps) zero h = has_left r (regions_of x) (owned_regions ps) h
has_owned r (x ∷ ps) (suc p) h = has_right r (regions_of x) (owned_regions ps) (has_owned r ps p h)

pub reached_owned : (k : Kernel) (c : Call) (r : Region) → Reaches k c r → Has r (owned_regions k.spaces.processes)
reached_owned k c r e = has_owned r k.spaces.processes c.pid (find_has (λ (x : Region). is_reached k.config.page c.addr c.len (extent x)) (regions_of (entry k.spaces.processes c.pid)) r e).0

-- its object has an entry for each page, and is none of a hidden region
pub reached_backed : (k : Kernel) (c : Call) (r : Region) → IsGood k → Reaches k c r → length (object_at k.memory.objects r.object.0) ≡ r.pages
reached_backed k c r g e = all_has (IsBacked k.memory.objects) (all_regions k.spaces.processes k.hidden) g.backed.each r (has_left r (owned_regions k.spaces.processes) _ (reached_owned k c r e))

pub reached_unhidden : (k : Kernel) (c : Call) (r : Region) → IsGood k → Reaches k c r → is_among r.object.0 (objects_of k.hidden) ≡ false
reached_unhidden k c r g e = unhidden k g r (reached_owned k c r e)

-- a page has bytes, and no more than 4,096
pub some_page : (k : Kernel) → IsGood k → 0 < k.config.page
some_page k g = let size = g.sound.shaped.size in let page : k.memory.frames.page ≡ k.config.page = g.sized.page in let some : 0 < k.memory.frames.page = grind (arith, rules, size) in omega (arith, some, page)

pub most_page : (k : Kernel) → IsGood k → k.config.page ≤ 4096
most_page k g = let most = page_most k.memory.frames.page g.sound.shaped.size in let page : k.memory.frames.page ≡ k.config.page = g.sized.page in omega (arith, most, page)

cost_out : (c : Class) (n : ℕ) → cost c Outward n ≡ n
cost_out Copy n = refl
cost_out Share n = refl
cost_out Move n = refl
cost_out WeakMove n = refl

module _ (laws : OutputLaws) (k : Kernel) (c : Call) (r : Region) (g : IsGood k) (accepted : refuse (outline k) (event_of c) ≡ None) (e : Reaches k c r) where
  abbrev touched : ℕ
  touched = span k.config.page (place_in k.config.page c r) c.len

  abbrev begun : Option flat.Region → flat.Transfer
  begun o = output_of (outline k) c.pid (class_of c.sem) (record { device = c.dev; port = c.port; flow = c.flow }) c.addr c.len o

  reached_as : model.reach_of (outline k) c.pid c.addr c.len ≡ Some (region_view (no_bytes k.config.page).seen.entry_bytes r)
  reached_as = reach_view k (no_bytes k.config.page) c.pid c.addr c.len ∙ ap (option_map (region_view (no_bytes k.config.page).seen.entry_bytes)) e

  begins : CanBegin k.config.page (available k.memory.frames) (begun (Some (region_view (no_bytes k.config.page).seen.entry_bytes r)))
  begins = subst (λ o. CanBegin k.config.page (available k.memory.frames) (begun o)) reached_as (laws.begin k (event_of c) g refl accepted)

  -- it touches at most 65 pages, and as many frames can be had
  pub call_pages : touched ≤ 65
  call_pages = begins.pages

  pub call_frames : touched ≤ available k.memory.frames
  call_frames = let cost : cost (class_of c.sem) Outward touched + 4 ≤ available k.memory.frames = begins.cost in let same = cost_out (class_of c.sem) touched in omega (arith, cost, same)

-- the range can be prepared
pub can_prepare : OutputLaws → (k : Kernel) (c : Call) (r : Region) (range : Range) (v : StoreView) → IsReady k c r range v → CanPrepare k.memory range
can_prepare laws k c r range v x =
    let g = x.good in
    let page : k.memory.frames.page ≡ k.config.page = g.sized.page in
    let inside = range_inside k c r x.reached in
    let most = most_page k g in
    let few = (all_has FitsTables (owned_regions k.spaces.processes) (laws.fits k g) r (reached_owned k c r x.reached)).most in
    let long : k.config.page * r.pages ≤ 4096 * 64 = grind (arith, most, few) in
    let pages = call_pages laws k c r g x.accepted x.reached in
    let places = laws.places k g in
    let free = x.free in
    let low = λ (f : ℕ). (laws.low k f g).loans in
    let within = span_within k.config.page (place_in k.config.page c r) c.len r.pages (some_page k g) inside.first inside.last in
    subst (CanPrepare k.memory) (sym x.range_is) (record {
      fits = omega (arith, inside.last, long);
      within = subst (λ z. place_in k.config.page c r / z + span z (place_in k.config.page c r) c.len ≤ length (object_at k.memory.objects r.object.0)) (sym page) (subst (λ z. place_in k.config.page c r / k.config.page + span k.config.page (place_in k.config.page c r) c.len ≤ z) (sym (reached_backed k c r g x.reached)) within);
      most = subst (λ z. span z (place_in k.config.page c r) c.len ≤ 65) (sym page) pages;
      free = subst (λ z. span z (place_in k.config.page c r) c.len ≤ count_by is_free k.memory.frames.owners) (sym page) free;
      room = subst (λ z. count_by is_there k.memory.pages.pages + span z (place_in k.config.page c r) c.len ≤ k.memory.pages.most) (sym page) (omega (arith, free, places.free));
      meters = below_more (2 ^ 63 + 2 ^ 20) (2 ^ 64 - 2 ^ 21) k.memory.frames.meters (omega arith) x.meters;
      strong = λ f. let l = low f in omega (arith, l);
      weak = λ f. let l = low f in omega (arith, l);
    })

module _ (laws : OutputLaws) (k : Kernel) (c : Call) (r : Region) (range : Range) (page : ℕ) (g : IsGood k) (e : Reaches k c r) (size : page ≡ k.config.page) (is : range ≡ range_of page c r) where
  range_same : range ≡ range_of k.config.page c r
  range_same = is ∙ ap (λ z. range_of z c r) size

  pub range_low : r.start * page ≤ c.addr
  range_low = subst (λ z. r.start * z ≤ c.addr) (sym size) (range_inside k c r e).low

  pub range_fits : range.off + range.len < 2 ^ 32
  range_fits =
      let inside = range_inside k c r e in
      let most = most_page k g in
      let few = (all_has FitsTables (owned_regions k.spaces.processes) (laws.fits k g) r (reached_owned k c r e)).most in
      let long : k.config.page * r.pages ≤ 4096 * 64 = grind (arith, most, few) in
      let fits : place_in k.config.page c r + c.len < 2 ^ 32 = omega (arith, inside.last, long) in
      subst (λ (x : Range). x.off + x.len < 2 ^ 32) (sym range_same) fits

  pub range_frames : (n : ℕ) → refuse (outline k) (event_of c) ≡ None → n ≡ span page range.off range.len → n ≤ available k.memory.frames
  range_frames n accepted count =
      let most = call_frames laws k c r g accepted e in
      let same : n ≡ span k.config.page (place_in k.config.page c r) c.len = count ∙ (λ i. span (size i) (range_same i).off (range_same i).len) in
      omega (arith, most, same)
