-- The end of a copy input on a pooled device, as one step.
use Rattle.std.proofs.Common.{◌≡◌, ℕ, ◌+◌, ◌-◌, ◌*◌, ◌/◌, ◌<◌, ◌≤◌, ◌^◌, Bool, true, List, refl, sym, ap, subst, arith, ◌∙◌, length, get_or}
use Rattle.std.specs.Prelude.{Option, Some, None, IfSome, IsSome, find, is_some, if◌then◌else◌}
use Rattle.std.specs.Option.{option_map}
use Rattle.genie_base.specs.Counts.{span}
use Rattle.genie_base.specs.Transfers.{class_of}
use Rattle.genie_base.specs.declared.event.Event.TheVariants.{Finish}
use Rattle.genie_base.specs.declared.reply.Mark.{Mark}
use Rattle.genie_base.specs.declared.reply.Reply.{Reply}
use Rattle.genie_base.specs.declared.reply.Reply.TheVariants as reply
use Rattle.genie_base.specs.declared.semantics.Class.{Class}
use Rattle.genie_base.specs.declared.semantics.Class.TheVariants.{Copy}
use Rattle.genie_finish.specs.Copies.{AreOwn}
use Rattle.genie_frame.specs.FrameTable.{no_counts}
use Rattle.genie_hiding.specs.Hidden.{objects_of}
use Rattle.genie_object.specs.declared.memory.Memory.{Memory}
use Rattle.genie_object.specs.declared.objects.Range.{Range}
use Rattle.genie_object.specs.Costs.{AreBelow}
use Rattle.genie_object.specs.Objects.{entry_at, object_at}
use Rattle.genie_object.specs.Sound.{IsPrivate}
use Rattle.genie_object.specs.Touching.{is_in_range}
use Rattle.genie_region.specs.declared.region.Region.{Region}
use Rattle.genie_store.specs.StoreView.{StoreView}
use Rattle.genie_model.specs.Ending.{finish, finish_copy, without_transfer}
use Rattle.genie_model.specs.Inputs.{address_or_zero}
use Rattle.genie_model.specs.Lemmas.Lists.{all_has, has_at}
use Rattle.genie_model.specs.Pending.{is_ready}
use Rattle.genie_model.specs.Refusing.{refuse}
use Rattle.genie_model.specs.Regions as model
use Rattle.genie_model.specs.State as flat
use Rattle.genie_kernel.specs.declared.kernel.Kernel.{Kernel}
use Rattle.genie_kernel.specs.declared.transfer.Transfer.{Transfer}
use Rattle.genie_kernel.specs.Calls.{addr_of, has_number, is_copy_input}
use Rattle.genie_kernel.specs.Good.{IsGood}
use Rattle.genie_kernel.specs.Regions.{owned_regions, region_view}
use Rattle.genie_kernel.specs.Steps.{StepsTold, StoreCause}
use Rattle.genie_kernel.specs.View.{Bytes, outline, state_of, view}
use Rattle.genie_kernel.specs.Lemmas.Keeping.{guards_kept, hidden_kept}
use Rattle.genie_kernel.specs.Rising.{MetersRise}
use Rattle.genie_kernel.specs.Lemmas.Rising.{rises_most, rises_on}
use Rattle.genie_changes.specs.Making.{IsMoved, ShowsAndLends}
use Rattle.genie_changes.specs.Paged.{IsPaged, PagedIsTold}
use Rattle.genie_changes.specs.Removing.{FitsTables}
use Rattle.genie_changes.specs.Released.{BuffersShow, ReleasedEnds, ReleasedShows}
use Rattle.genie_arrivals.specs.CopyLaws.{CopyLaws}
use Rattle.genie_arrivals.specs.EndLaws.{EndLaws}
use Rattle.genie_arrivals.specs.Failing.{Serves}
use Rattle.genie_arrivals.specs.Paging.{EndsPaged}
use Rattle.genie_arrivals.specs.Pooled.{CanCopyPending, CopiesPending, IsOwned, IsPooledInput, IsPooledOf}
use Rattle.genie_arrivals.specs.PooledRoom.{ArePrivate, MakesOwn}
use Rattle.genie_arrivals.specs.Targets.{HasNoTarget, HasNoTargetOf, IsPending, IsTarget, IsTargetOf}
use Rattle.genie_arrivals.specs.Waiting.{EndsWaiting, IsLateLost, IsLostWaiting, LosesBytes}
use Rattle.genie_arrivals.proofs.Buffered.{device_number}
use Rattle.genie_arrivals.proofs.Closing.{refused_alike}
use Rattle.genie_arrivals.proofs.Found.{found_over, seen_as}
use Rattle.genie_arrivals.proofs.PooledAt.{HasPooled, IsPoolAt, buffer_there, first_is, has_pooled, low_offset, of_system, payload_is, pool_at, pooled_waits}
use Rattle.genie_arrivals.proofs.PooledEnd.{Copied, at, copied_ends, mid_good, payload, x}
use Rattle.genie_arrivals.proofs.PooledShare.{copies_of, some_owner}
use Rattle.genie_arrivals.proofs.Reaching.{most_page, write_view}
use Rattle.genie_arrivals.proofs.Readying.{IsRoomy, is_roomy, other_object, range_silent, range_unhidden, target_backed, target_owned, unspoken}
use Rattle.genie_arrivals.proofs.Replying.{input_finish, outcome}

-- the copy input that ends, and where its bytes go
pub record PooledAim (k : Kernel) (n : ℕ) (range : Range) : Type 0 where
  pub t : Transfer
  pub found : find (has_number n) k.transfers ≡ Some t
  pub is : IsPooledOf Copy k.devices t
  pub target : IsTarget k t range

aimed : (k : Kernel) (n : ℕ) (range : Range) (o : Option Transfer) → find (has_number n) k.transfers ≡ o → is_some o ≡ true → IfSome o (IsPooledOf Copy k.devices) → IfSome o (λ t. IsTarget k t range) → PooledAim k n range
aimed k n range None e some is x = absurd (cc)
aimed k n range (Some t) e some is x = record { t = t; found = e; is = is; target = x }

pub pooled_aim : (k : Kernel) (n : ℕ) (range : Range) → IsPending k n → IsPooledInput Copy k n → IsTargetOf k n range → PooledAim k n range
pooled_aim k n range some is x = aimed k n range (find (has_number n) k.transfers) refl some is x

-- it is the same once pages have moved
pub pooled_moved : (k new : Kernel) (n : ℕ) (range : Range) (v w : StoreView) → IsMoved k new v w → PooledAim k n range → PooledAim new n range
pooled_moved k new n range v w moved a = subst (λ (z : Kernel). PooledAim z n range) (sym moved.only) (record {
  t = a.t;
  found = a.found;
  is = record { inward = a.is.inward; class_is = a.is.class_is; pooled = a.is.pooled };
  target = record { pid = a.target.pid; owner = a.target.owner; region = a.target.region; reached = a.target.reached; object_is = a.target.object_is; place = a.target.place; size = a.target.size };
})

pub pooled_roomy : (laws : CopyLaws) (k : Kernel) (n : ℕ) (range : Range) → IsGood k → PooledAim k n range → IsRoomy k range
pooled_roomy laws k n range g a = is_roomy laws k n a.t range g a.found a.is.class_is a.is.inward a.target

-- its object is small
pub few_pages : (laws : CopyLaws) (k : Kernel) (n : ℕ) (range : Range) → IsGood k → PooledAim k n range → length (object_at k.memory.objects range.object.0) ≤ 64
few_pages laws k n range g a =
    let object : range.object.0 ≡ a.target.region.object.0 = (λ i. (a.target.object_is i).0) in
    let long : length (object_at k.memory.objects range.object.0) ≡ a.target.region.pages = ap (λ o. length (object_at k.memory.objects o)) object ∙ target_backed laws k n a.t range g a.found a.is.class_is a.is.inward a.target in
    let few = (all_has FitsTables (owned_regions k.spaces.processes) (laws.fit k g) a.target.region (target_owned laws k n a.t range g a.found a.is.class_is a.is.inward a.target)).most in
    omega (arith, long, few)

-- pages of the range that move leave the kernel as it is
pub own_shows : (laws : CopyLaws) (k : Kernel) (n : ℕ) (range : Range) (m : Memory) (v w : StoreView) (i count : ℕ) → IsGood k → PooledAim k n range → MakesOwn k.memory m v w range.object.0 i count → ShowsAndLends k m v w
own_shows laws k n range m v w i count g a owns =
    let spoken = is_in_range range.object.0 i count in
    let moves = owns.moves in
    record {
      sound = moves.sound;
      sized = moves.sized;
      cached = hidden_kept spoken k.memory m (objects_of k.hidden) g.sound moves.keeps moves.touches (λ o j among. unspoken range.object.0 i count o j (other_object range.object.0 o (objects_of k.hidden) (range_unhidden laws k n a.t range g a.found a.is.class_is a.is.inward a.target) among)) g.cached;
      guarded = guards_kept spoken k.memory m (owned_regions k.spaces.processes) moves.touches (λ j d l shut e. unspoken range.object.0 i count (get_or (owned_regions k.spaces.processes) j d).object.0 e (range_silent laws k n a.t range g a.found a.is.class_is a.is.inward a.target (get_or (owned_regions k.spaces.processes) j d) (has_at (owned_regions k.spaces.processes) j d l) shut)) g.guarded;
      shows = moves.seen;
      keeps = moves.keeps;
      counts = λ f. ap (λ cs. get_or cs f no_counts) moves.counts;
    }

-- the whole range is its object's own
pub own_range : (m : Memory) (o off len page count first : ℕ) → page ≡ m.frames.page → count ≡ span page off len → first ≡ off / page → ArePrivate m o first count → AreOwn m o off len
own_range m o off len page count first is number begins own =
    subst (λ z. (j : ℕ) → j < span z off len → IsPrivate m.frames.counts m.pages.pages (entry_at m.objects o (off / z + j)).page) is
    (λ j l. subst (λ z. IsPrivate m.frames.counts m.pages.pages (entry_at m.objects o (z + j)).page) begins (own j (omega (arith, l, number))))

-- what waits of it may be copied there
pub can_copy_in : (laws : CopyLaws) (k : Kernel) (n : ℕ) (range : Range) → (g : IsGood k) → (a : PooledAim k n range) → is_ready a.t.phase ≡ true → AreOwn k.memory range.object.0 range.off range.len → AreBelow (2 ^ 63 + 2 ^ 22) k.memory.frames.meters → CanCopyPending n range k
can_copy_in laws k n range g a ready own below =
    let t = a.t in
    let at : IsPoolAt k t.dev = pool_at k t.dev g a.is.pooled in
    let has : HasPooled k t at = has_pooled k n t g a.found ready a.is.inward a.is.pooled in
    let roomy = pooled_roomy laws k n range g a in
    let first = first_is k t g at has in
    let low = low_offset k t.dev g at in
    let fits = has.fits in
    let limit = at.limit in
    let high = most_page k g in
    let same : k.memory.frames.page ≡ k.config.page = g.sized.page in
    let size = a.target.size in
    let meter = below.copied in
    record {
      transfer = t;
      found = a.found;
      number = device_number k n t g a.found;
      buffer = buffer_there k t g at has;
      can = record {
        sound = g.sound;
        fits = roomy.fits;
        source = omega (arith, first, low, fits, limit, high, size);
        inside = (let page_17 : k.memory.frames.page * 17 ≡ 17 * k.config.page = omega (arith, same) in omega (arith, first, low, fits, limit, page_17, size));
        within = subst (λ z. range.off / z + span z range.off range.len ≤ length (object_at k.memory.objects range.object.0)) (sym same) roomy.within;
        own = own;
        of_system = of_system k t g at has;
        meter = omega (arith, meter, fits, limit, high, size);
      };
    }

stored_copy : (s : flat.State) (v : flat.Transfer) (r : flat.Region) (a : ℕ) (bytes : List ℕ) → address_or_zero v.addr ≡ a → v.payload ≡ bytes → finish_copy s v (Some r) ≡ outcome (model.put s r.number (a - r.start * s.config.page) bytes) (reply.Input None v.stored v.note)
stored_copy s v r a bytes at is = λ i. outcome (model.put s r.number (at i - r.start * s.config.page) (is i)) (reply.Input None v.stored v.note)

module _ (room : CopyLaws) (k middle : Kernel) (n : ℕ) (t : Transfer) (range : Range) (g : IsGood k) (accepted : refuse (outline k) (Finish n) ≡ None) (found : find (has_number n) k.transfers ≡ Some t) (is : IsPooledOf Copy k.devices t) (target : IsTarget k t range) (c : CopiesPending n range k middle) where
  abbrev r : Region
  r = target.region

  abbrev answer : Reply
  answer = reply.Input None t.stored t.note

  pub copied : Copied k n t r range middle.memory
  copied =
      let roomy = is_roomy room k n t range g found is.class_is is.inward target in
      let object : range.object.0 ≡ r.object.0 = (λ i. (target.object_is i).0) in
      let long : length (object_at k.memory.objects range.object.0) ≡ r.pages = ap (λ o. length (object_at k.memory.objects o)) object ∙ target_backed room k n t range g found is.class_is is.inward target in
      record {
        good = g;
        accepted = accepted;
        found = found;
        ready = found_over k n t accepted found;
        inward = is.inward;
        pooled = is.pooled;
        owned = target_owned room k n t range g found is.class_is is.inward target;
        object_is = target.object_is;
        size = target.size;
        within = subst (λ z. range.off / k.config.page + span k.config.page range.off range.len ≤ z) long roomy.within;
        copies = copies_of k middle n range t c found;
      }

  fin : (b : Bytes) → finish (state_of k b) n ≡ outcome (model.put (without_transfer (state_of k b) n) r.id.0 range.off (payload k n t r range middle.memory copied b.seen.kept_bytes)) answer
  fin b =
      let s : flat.State = without_transfer (state_of k b) n in
      let v : flat.Transfer = seen_as k b t in
      let addr : address_or_zero (addr_of t) ≡ t.addr = ap (λ (b : Bool). address_or_zero (if b then Some t.addr else None)) (λ i. is_copy_input (is.class_is i) (is.inward i)) in
      let reached : model.write_reach_of (state_of k b) target.pid (address_or_zero (addr_of t)) t.len ≡ Some (region_view b.seen.entry_bytes r) = ap (λ a. model.write_reach_of (state_of k b) target.pid a t.len) addr ∙ write_view k b target.pid t.addr t.len ∙ ap (option_map (region_view b.seen.entry_bytes)) target.reached in
      input_finish k b n target.pid t Copy found target.owner is.inward is.class_is
      ∙ ap (finish_copy s v) reached
      ∙ stored_copy s v (region_view b.seen.entry_bytes r) t.addr (payload k n t r range middle.memory copied b.seen.kept_bytes) addr (payload_is k t g (at k n t r range middle.memory copied) (x k n t r range middle.memory copied) b is.inward)
      ∙ ap (λ z. outcome (model.put s r.id.0 z (payload k n t r range middle.memory copied b.seen.kept_bytes)) answer) (sym target.place)

  pub copy_ends : (laws : EndLaws) (show : BuffersShow) (end : ReleasedEnds) (release : ReleasedShows) (new : Kernel) → EndsWaiting n (record k { memory = middle.memory }) new t → EndsPaged k n new answer
  copy_ends laws show end release new e = copied_ends k n t r range middle.memory copied laws show end release new e answer refl fin

-- an end after pages have moved
pub moved_serves : (room : CopyLaws) (told : PagedIsTold) (k mid new : Kernel) (v w : StoreView) (n : ℕ) (a : Reply) → refuse (outline k) (Finish n) ≡ None → IsMoved k mid v w → MetersRise (2 ^ 22) k.memory.frames mid.memory.frames → w.faults ≡ v.faults → IsPaged w → EndsPaged mid n new a → Serves k (Finish n) new v w a
moved_serves room told k mid new v w n a accepted moved rises faults paged e = record {
  good = e.good;
  sized = e.sized w moved.sized;
  kept = room.kept k mid new v w moved e.kept;
  config = e.config ∙ ap (λ (z : Kernel). z.config) moved.only;
  numbers = e.numbers ∙ ap (λ (z : Kernel). z.next) moved.only;
  step = λ host. subst (λ s. StepsTold s (Finish n) (view new host w) a) (moved.told host) (told mid new (Finish n) a host w (refused_alike k mid v w n moved accepted) e.config moved.sized paged e.step);
  cause = subst (λ (m : Mark). StoreCause m v.faults w.faults) (sym e.unfailed) faults;
  rises = rises_most (2 ^ 22 + 2 ^ 35) (2 ^ 36) k.memory.frames new.memory.frames (omega arith) (rises_on (2 ^ 22) (2 ^ 35) k.memory.frames mid.memory.frames new.memory.frames rises e.rises);
}

-- what is known of the end of such an input once its pages are its region's own
pub record AfterOwn (k : Kernel) (n : ℕ) (range : Range) : Type 0 where
  pub aim : PooledAim k n range
  pub refused : refuse (outline k) (Finish n) ≡ None
  pub ready : is_ready aim.t.phase ≡ true

pub after_own : (k mid : Kernel) (n : ℕ) (range : Range) (v w : StoreView) → refuse (outline k) (Finish n) ≡ None → IsPending k n → IsPooledInput Copy k n → IsTargetOf k n range → IsMoved k mid v w → AfterOwn mid n range
after_own k mid n range v w accepted some case target moved =
    let a = pooled_moved k mid n range v w moved (pooled_aim k n range some case target) in
    let refused = refused_alike k mid v w n moved accepted in
    record { aim = a; refused = refused; ready = found_over mid n a.t refused a.found }

pub middle_good : (room : CopyLaws) (k middle : Kernel) (n : ℕ) (range : Range) → IsGood k → AfterOwn k n range → CopiesPending n range k middle → IsGood middle
middle_good room k middle n range g y c = subst IsGood (sym c.only) (mid_good k n y.aim.t y.aim.target.region range middle.memory (copied room k middle n y.aim.t range g y.refused y.aim.found y.aim.is y.aim.target c))

-- the input that was taken out is the one that was aimed at
pub copy_returns : (laws : EndLaws) (room : CopyLaws) (show : BuffersShow) (end : ReleasedEnds) (release : ReleasedShows) (k middle new : Kernel) (n : ℕ) (t : Transfer) (range : Range) → IsGood k → AfterOwn k n range → CopiesPending n range k middle → EndsWaiting n middle new t → EndsPaged k n new (reply.Input None t.stored t.note)
copy_returns laws room show end release k middle new n t range g y c e =
    let last : EndsWaiting n (record k { memory = middle.memory }) new t = subst (λ (z : Kernel). EndsWaiting n z new t) c.only e in
    let both : Some y.aim.t ≡ Some t = sym y.aim.found ∙ last.found in
    let same : y.aim.t ≡ t = cc in
    let is : IsPooledOf Copy k.devices t = subst (IsPooledOf Copy k.devices) same y.aim.is in
    let target : IsTarget k t range = subst (λ (u : Transfer). IsTarget k u range) same y.aim.target in
    copy_ends room k middle n t range g y.refused last.found is target c laws show end release new last

no_target : (k : Kernel) (t : Transfer) (class : Class) → class ≡ Copy → HasNoTarget k t → LosesBytes k t class
no_target k t class is none = subst (LosesBytes k t) (sym is) none

pub pooled_dropped : (k : Kernel) (n : ℕ) → IsPooledInput Copy k n → IsOwned k n → HasNoTargetOf k n → IsLateLost k n
pooled_dropped k n case owner none = dropped (find (has_number n) k.transfers) case owner none
  where
    dropped : (o : Option Transfer) → IfSome o (IsPooledOf Copy k.devices) → IfSome o (λ (t : Transfer). IsSome t.owner) → IfSome o (HasNoTarget k) → IfSome o (IsLostWaiting k)
    dropped None case owner none = tt
    dropped (Some t) is owner none =
        let p = some_owner t.owner owner in
        record { waiting = pooled_waits k.devices t is.inward is.pooled; pid = p.0; owner = p.1; loses = no_target k t (class_of t.sem) is.class_is none }
