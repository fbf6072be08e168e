-- The end of a move input on a pooled device, as one step.
use Rattle.std.proofs.Common.{◌≡◌, ℕ, ◌+◌, ◌*◌, ◌/◌, ◌<◌, ◌≤◌, ◌^◌, true, refl, sym, ap, subst, arith, ◌∙◌, length}
use Rattle.std.specs.Prelude.{Some, None, IfSome, IsSome, find}
use Rattle.genie_base.specs.Counts.{span}
use Rattle.genie_base.specs.Transfers.{is_strong}
use Rattle.genie_base.specs.declared.event.Event.TheVariants.{Finish}
use Rattle.genie_base.specs.declared.reply.Reply.TheVariants as reply
use Rattle.genie_base.specs.declared.semantics.Class.TheVariants.{Move}
use Rattle.genie_object.specs.declared.memory.Memory.{Memory}
use Rattle.genie_object.specs.declared.objects.Range.{Range}
use Rattle.genie_object.specs.Costs.{AreBelow}
use Rattle.genie_object.specs.Objects.{object_at}
use Rattle.genie_region.specs.declared.region.Region.{Region}
use Rattle.genie_store.specs.StoreView.{StoreView}
use Rattle.genie_model.specs.Refusing.{refuse}
use Rattle.genie_model.specs.Tables.{entry}
use Rattle.genie_kernel.specs.declared.kernel.Kernel.{Kernel}
use Rattle.genie_kernel.specs.declared.transfer.Loans.TheVariants.{Nothing}
use Rattle.genie_kernel.specs.declared.transfer.Transfer.{Transfer}
use Rattle.genie_kernel.specs.Calls.{has_number}
use Rattle.genie_kernel.specs.Good.{IsGood}
use Rattle.genie_kernel.specs.Regions.{owned_regions}
use Rattle.genie_kernel.specs.View.{outline}
use Rattle.genie_changes.specs.Making.{IsMoved}
use Rattle.genie_changes.specs.Released.{BuffersShow, ReleasedEnds, ReleasedShows}
use Rattle.genie_arrivals.specs.declared.owned.OwnedRegion.{OwnedRegion}
use Rattle.genie_arrivals.specs.Blanks.{BlanksObject}
use Rattle.genie_arrivals.specs.CopyLaws.{CopyLaws}
use Rattle.genie_arrivals.specs.EndLaws.{EndLaws}
use Rattle.genie_arrivals.specs.Live.{ChangeLaws, lively}
use Rattle.genie_arrivals.specs.Paging.{EndsPaged}
use Rattle.genie_arrivals.specs.Pooled.{CanCopyPending, CopiesPending, GoesTo, GoesToRegion, IsOwned, IsPooledInput, IsPooledOf, is_pooled_device}
use Rattle.genie_arrivals.specs.Replies.{is_there}
use Rattle.genie_arrivals.specs.Waiting.{EndsWaiting, IsWaiting}
use Rattle.genie_arrivals.proofs.Buffered.{device_number}
use Rattle.genie_arrivals.proofs.Closing.{refused_alike}
use Rattle.genie_arrivals.proofs.EndLanded.{same_call}
use Rattle.genie_arrivals.proofs.Found.{found_case, is_over}
use Rattle.genie_arrivals.proofs.LateAim.{waiting_unlent}
use Rattle.genie_arrivals.proofs.MoveAim.{RegionAim, aim_fits, aim_had, aim_same, aim_start, aim_within, region_backed, region_owned}
use Rattle.genie_arrivals.proofs.Moving.{IsHad}
use Rattle.genie_arrivals.proofs.Owning.{named_there}
use Rattle.genie_arrivals.proofs.PooledAim.{own_range}
use Rattle.genie_arrivals.proofs.PooledAt.{HasPooled, IsPoolAt, buffer_there, first_is, has_pooled, low_offset, of_system, pool_at, pooled_waits}
use Rattle.genie_arrivals.proofs.PooledEnd.{Copied, mid_good}
use Rattle.genie_arrivals.proofs.PooledMove.{blank_ends, blank_good}
use Rattle.genie_arrivals.proofs.PooledShare.{copies_of, some_owner}
use Rattle.genie_arrivals.proofs.Reaching.{most_page, some_page}

-- the move input that ends, and where its bytes go
pub record PoolAim (k : Kernel) (n : ℕ) (range : Range) : Type 0 where
  pub region : RegionAim k n range
  pub pooled : is_pooled_device (entry k.devices region.t.dev)

pub pool_aim : (k : Kernel) (n : ℕ) (range : Range) → refuse (outline k) (Finish n) ≡ None → IsPooledInput Move k n → GoesTo k n range → PoolAim k n range
pool_aim k n range accepted case place =
    let o = is_over k n accepted in
    let is = found_case (IsPooledOf Move k.devices) k n o.t case o.found in
    record { region = record { t = o.t; found = o.found; ready = o.ready; inward = is.inward; class_is = is.class_is; to = found_case (λ u. GoesToRegion k u range) k n o.t place o.found }; pooled = is.pooled }

-- it is the same once pages have moved
pub pool_moved : (k new : Kernel) (n : ℕ) (range : Range) (v w : StoreView) → IsMoved k new v w → PoolAim k n range → PoolAim new n range
pool_moved k new n range v w moved a =
    let r = a.region in
    subst (λ (z : Kernel). PoolAim z n range) (sym moved.only) (record {
      region = record {
        t = r.t;
        found = r.found;
        ready = r.ready;
        inward = r.inward;
        class_is = r.class_is;
        to = record { owned = r.to.owned; named = r.to.named; object_is = r.to.object_is; place = r.to.place; size = r.to.size };
      };
      pooled = a.pooled;
    })

-- what is known of the end once pages were made free
pub record AfterRoom (k : Kernel) (n : ℕ) (range : Range) : Type 0 where
  pub aim : PoolAim k n range
  pub refused : refuse (outline k) (Finish n) ≡ None
  pub owner : IsOwned k n

pub after_room : (k mid : Kernel) (n : ℕ) (range : Range) (v w : StoreView) → refuse (outline k) (Finish n) ≡ None → IsPooledInput Move k n → IsOwned k n → GoesTo k n range → IsMoved k mid v w → AfterRoom mid n range
after_room k mid n range v w accepted case owner place moved = record {
  aim = pool_moved k mid n range v w moved (pool_aim k n range accepted case place);
  refused = refused_alike k mid v w n moved accepted;
  owner = subst (λ (j : Kernel). IfSome (find (has_number n) j.transfers) (λ (u : Transfer). IsSome u.owner)) (sym moved.only) owner;
}

none_before : (a page : ℕ) → 0 < page → a ≡ 0 → 0 ≡ a / page
none_before a page some none = grind (arith, some, none)

module _ (k : Kernel) (n : ℕ) (range : Range) (a : PoolAim k n range) where
  abbrev t : Transfer
  t = a.region.t

  is : IsPooledOf Move k.devices t
  is = record { inward = a.region.inward; class_is = a.region.class_is; pooled = a.pooled }

  pub pool_waits : IsWaiting k.devices t
  pool_waits = pooled_waits k.devices t a.region.inward a.pooled

  -- nothing is lent for it
  pub pool_unlent : IsGood k → t.loans ≡ Nothing
  pool_unlent g = waiting_unlent k n t g a.region.found pool_waits (ap is_strong a.region.class_is)

  module _ (laws : EndLaws) (change : ChangeLaws) (room : CopyLaws) (show : BuffersShow) (end : ReleasedEnds) (release : ReleasedShows) (g : IsGood k) (accepted : refuse (outline k) (Finish n) ≡ None) (owner : IsOwned k n) (m1 : Memory) (count : ℕ) (blanks : BlanksObject k.memory m1 range.object.0 count) where
    abbrev r : Region
    r = a.region.to.owned.region

    abbrev blank : Kernel
    blank = record k { memory = m1 }

    process : (p : ℕ) × (t.owner ≡ Some p)
    process = some_owner t.owner (found_case (λ (u : Transfer). IsSome u.owner) k n t owner a.region.found)

    object : range.object.0 ≡ r.object.0
    object = (λ i. (a.region.to.object_is i).0)

    had : IsHad k t a.region.to.owned
    had = aim_had k n range g a.region

    its : BlanksObject k.memory m1 r.object.0 count
    its = subst (λ z. BlanksObject k.memory m1 z count) object blanks

    good : IsGood blank
    good = blank_good laws change show end release k n process.0 t a.region.to.owned range m1 count g accepted a.region.found is process.1 had its

    abbrev at : IsPoolAt blank t.dev
    at = pool_at blank t.dev good a.pooled

    abbrev has : HasPooled blank t at
    has = has_pooled blank n t good a.region.found a.region.ready a.region.inward a.pooled

    within : (p : ℕ) → p ≡ k.config.page → range.off / p + span p range.off range.len ≤ r.pages
    within p same = subst (λ z. z / p + span p z range.len ≤ r.pages) (sym (aim_start k n range g a.region)) (aim_within k n range g a.region laws change room p range.len same a.region.to.size)

    -- what waits of it may be copied to the pages of zeros
    pub blank_can : count ≡ span k.config.page range.off range.len → AreBelow (2 ^ 63 + 2 ^ 22) m1.frames.meters → CanCopyPending n range blank
    blank_can number below =
        let first = first_is blank t good at has in
        let low = low_offset blank t.dev good at in
        let fits = has.fits in
        let limit = at.limit in
        let high = most_page k g in
        let same : m1.frames.page ≡ k.config.page = blanks.keeps.page ∙ g.sized.page in
        let size = a.region.to.size in
        let meter = below.copied in
        let long : length (object_at m1.objects range.object.0) ≡ r.pages = blanks.keeps.entries range.object.0 ∙ ap (λ z. length (object_at k.memory.objects z)) object ∙ region_backed k n range g a.region in
        record {
          transfer = t;
          found = a.region.found;
          number = device_number k n t g a.region.found;
          buffer = buffer_there blank t good at has;
          can = record {
            sound = blanks.sound;
            fits = aim_fits k n range g a.region laws change room;
            source = omega (arith, first, low, fits, limit, high, size);
            inside = (let page_17 : m1.frames.page * 17 ≡ 17 * k.config.page = omega (arith, same) in omega (arith, first, low, fits, limit, page_17, size));
            within = subst (λ z. range.off / m1.frames.page + span m1.frames.page range.off range.len ≤ z) (sym long) (within m1.frames.page same);
            own = own_range m1 range.object.0 range.off range.len k.config.page count 0 (sym same) number (none_before range.off k.config.page (some_page k g) (aim_start k n range g a.region)) blanks.own;
            of_system = of_system blank t good at has;
            meter = omega (arith, meter, fits, limit, high, size);
          };
        }

    module _ (middle : Kernel) (c : CopiesPending n range blank middle) where
      copied : Copied blank n t r range middle.memory
      copied = record {
        good = good;
        accepted = accepted;
        found = a.region.found;
        ready = a.region.ready;
        inward = a.region.inward;
        pooled = a.pooled;
        owned = region_owned k n range g a.region;
        object_is = a.region.to.object_is;
        size = a.region.to.size;
        within = within k.config.page refl;
        copies = copies_of blank middle n range t c a.region.found;
      }

      pub blank_middle : IsGood middle
      blank_middle = subst IsGood (sym c.only) (mid_good blank n t r range middle.memory copied)

      ends : (new : Kernel) (o : OwnedRegion) (h : IsHad k t o) → EndsWaiting n (record k { memory = middle.memory }) new t → EndsPaged k n (lively new o.pid o.region.id.0 h.regions) (reply.Input (Some (o.region.start * k.config.page)) t.stored t.note)
      ends new o h z =
          let region = aim_same k n range g a.region laws change room o h in
          let blanked : BlanksObject k.memory m1 o.region.object.0 count = subst (λ (q : Region). BlanksObject k.memory m1 q.object.0 count) region its in
          let over : Copied blank n t o.region range middle.memory = subst (λ (q : Region). Copied blank n t q range middle.memory) region copied in
          blank_ends laws change show end release k n process.0 t o range m1 count g accepted a.region.found is process.1 h blanked middle.memory new over (aim_start k n range g a.region) z

      -- the input that was taken out is the one that was aimed at
      pub pool_ends : (new : Kernel) (u : Transfer) (o : OwnedRegion) (h : IsHad k u o) → EndsWaiting n middle new u → EndsPaged k n (lively new o.pid o.region.id.0 h.regions) (reply.Input (Some (o.region.start * k.config.page)) u.stored u.note)
      pool_ends new u o h z =
          let one : EndsWaiting n (record k { memory = middle.memory }) new u = subst (λ (j : Kernel). EndsWaiting n j new u) c.only z in
          subst (λ (w : Transfer). (y : IsHad k w o) → EndsWaiting n (record k { memory = middle.memory }) new w → EndsPaged k n (lively new o.pid o.region.id.0 y.regions) (reply.Input (Some (o.region.start * k.config.page)) w.stored w.note)) (sym (same_call k n t u a.region.found one.found)) (ends new o) h one

-- the address spaces are as they were
pub pool_spaces : (k : Kernel) (m1 : Memory) (middle new : Kernel) (n : ℕ) (range : Range) (u : Transfer) → CopiesPending n range (record k { memory = m1 }) middle → EndsWaiting n middle new u → new.spaces ≡ k.spaces
pool_spaces k m1 middle new n range u c z = ap (λ (j : Kernel). j.spaces) z.only ∙ ap (λ (j : Kernel). j.spaces) c.only

-- and a process has the region
pub pool_named : (k : Kernel) (m1 : Memory) (middle new : Kernel) (n : ℕ) (range : Range) (u : Transfer) → PoolAim k n range → CopiesPending n range (record k { memory = m1 }) middle → EndsWaiting n middle new u → is_there (owned_regions k.spaces.processes) u ≡ true
pool_named k m1 middle new n range u a c z =
    let found : find (has_number n) k.transfers ≡ Some u = sym (ap (λ (j : Kernel). find (has_number n) j.transfers) c.only) ∙ z.found in
    let t : Transfer = a.region.t in
    subst (λ (w : Transfer). is_there (owned_regions k.spaces.processes) w ≡ true) (sym (same_call k n t u a.region.found found)) (named_there k.spaces t a.region.to.owned a.region.to.named)
