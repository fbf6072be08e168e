-- The range of a copy input on an outboard device may be made ready, and as many frames be left.
use Rattle.std.proofs.Common.{◌≡◌, ℕ, ◌+◌, ◌*◌, ◌/◌, ◌^◌, ◌<◌, ◌≤◌, Bool, true, [], refl, sym, ap, subst, arith, length, ◌∙◌}
use Rattle.std.specs.Prelude.{Option, Some, None, IfSome, count_by, find, is_some, take, unwrap_or, if◌then◌else◌}
use Rattle.genie_base.specs.Counts.{cost, span}
use Rattle.genie_base.specs.Transfers.{class_of, is_strong}
use Rattle.genie_base.specs.declared.semantics.Class.{Class}
use Rattle.genie_base.specs.declared.semantics.Class.TheVariants.{Copy}
use Rattle.genie_base.specs.declared.semantics.Direction.TheVariants.{Inward}
use Rattle.genie_finish.specs.Ready.{MakesReady}
use Rattle.genie_finish.specs.Ranges.{CanStoreRange}
use Rattle.genie_frame.specs.FrameTable.{is_free}
use Rattle.genie_hiding.specs.Rooms.{available}
use Rattle.genie_object.specs.declared.memory.Memory.{Memory}
use Rattle.genie_object.specs.declared.objects.Range.{Range}
use Rattle.genie_object.specs.Costs.{AreBelow}
use Rattle.genie_object.specs.Objects.{object_at}
use Rattle.genie_object.specs.Pages.{is_there}
use Rattle.genie_store.specs.StoreView.{StoreView}
use Rattle.genie_model.specs.Lemmas.Lists.{all_has, find_has}
use Rattle.genie_model.specs.Tables.{entry}
use Rattle.genie_kernel.specs.declared.kernel.Kernel.{Kernel}
use Rattle.genie_kernel.specs.declared.transfer.Loans.{Loans}
use Rattle.genie_kernel.specs.declared.transfer.Loans.TheVariants.{Nothing}
use Rattle.genie_kernel.specs.declared.transfer.Transfer.{Transfer}
use Rattle.genie_kernel.specs.Asked.{cost_of}
use Rattle.genie_kernel.specs.Calls.{begins_at, has_number, is_copy_input, is_strong_call}
use Rattle.genie_kernel.specs.Good.{IsGood}
use Rattle.genie_kernel.specs.Loans.{frames_of}
use Rattle.genie_kernel.specs.Planned.{Lends, LendsInput, LendsStrongly, is_early_device}
use Rattle.genie_changes.specs.Making.{IsMoved, ShowsAndLends}
use Rattle.genie_room.specs.Frames.{PendingAreAvailable, loan_count}
use Rattle.genie_arrivals.specs.CopyLaws.{CopyLaws}
use Rattle.genie_arrivals.specs.FreshStored.{CanStoreBytes, OwnerIs}
use Rattle.std.proofs.lemmas.List.{length-take}
use Rattle.genie_device.specs.Device.{DeviceView}
use Rattle.genie_kernel.specs.Matching.{has_waiting, room_in}
use Rattle.genie_model.specs.Pending.{is_ready}
use Rattle.genie_arrivals.specs.Outboard.{CanFetch, IsLateOutboard, IsOutboardInput, fetched}
use Rattle.genie_arrivals.proofs.Buffered.{has_some, waits_in}
use Rattle.genie_arrivals.specs.Waiting.{IsLateGone, IsLateLost, IsWaiting, LosesBytes}
use Rattle.genie_arrivals.specs.Targets.{HasNoTarget, HasNoTargetOf, IsPending, IsTarget, IsTargetOf}
use Rattle.genie_arrivals.proofs.Lent.{lends_at}
use Rattle.genie_arrivals.proofs.Readying.{IsRoomy, is_roomy, ready_shows, span_known}
use Rattle.genie_arrivals.proofs.WeakPlan.{is_waiting, outboard_at}

begins_there : (t : Transfer) → class_of t.sem ≡ Copy → t.dir ≡ Inward → begins_at t ≡ t.addr
begins_there t class inward = ap (λ (b : Bool). unwrap_or (if b then Some t.addr else None) t.offset) (λ i. is_copy_input (class i) (inward i))

-- the copy input that ends, and where its bytes go
pub record LateAim (k : Kernel) (n : ℕ) (range : Range) : Type 0 where
  pub t : Transfer
  pub found : find (has_number n) k.transfers ≡ Some t
  pub is : IsOutboardInput Copy k.devices t
  pub target : IsTarget k t range

aimed : (k : Kernel) (n : ℕ) (range : Range) (o : Option Transfer) → find (has_number n) k.transfers ≡ o → is_some o ≡ true → IfSome o (IsOutboardInput Copy k.devices) → IfSome o (λ t. IsTarget k t range) → LateAim k n range
aimed k n range None e some is x = absurd (cc)
aimed k n range (Some t) e some is x = record { t = t; found = e; is = is; target = x }

pub late_aim : (k : Kernel) (n : ℕ) (range : Range) → IsPending k n → IsLateOutboard Copy k n → IsTargetOf k n range → LateAim k n range
late_aim k n range some is x = aimed k n range (find (has_number n) k.transfers) refl some is x

-- it is the same once pages have moved
pub late_moved : (k new : Kernel) (n : ℕ) (range : Range) (v w : StoreView) → IsMoved k new v w → LateAim k n range → LateAim new n range
late_moved k new n range v w moved a = subst (λ (z : Kernel). LateAim z n range) (sym moved.only) (record {
  t = a.t;
  found = a.found;
  is = record { inward = a.is.inward; class_is = a.is.class_is; outboard = a.is.outboard };
  target = record { pid = a.target.pid; owner = a.target.owner; region = a.target.region; reached = a.target.reached; object_is = a.target.object_is; place = a.target.place; size = a.target.size };
})

-- nothing is lent for a strong input on a device that isn't early
pub waiting_unlent : (k : Kernel) (n : ℕ) (t : Transfer) → IsGood k → find (has_number n) k.transfers ≡ Some t → IsWaiting k.devices t → is_strong_call t ≡ true → t.loans ≡ Nothing
waiting_unlent k n t g found waits strong =
    let lends = lends_at k t g (find_has (has_number n) k.transfers t found).0 in
    let one : LendsInput k.config.page k.memory.frames.owners (is_early_device (entry k.devices t.dev)) t (is_strong_call t) = subst (Lends k.config.page k.memory.frames.owners (is_early_device (entry k.devices t.dev)) t) waits.inward lends in
    let two : LendsStrongly k.config.page k.memory.frames.owners (is_early_device (entry k.devices t.dev)) t t.loans = subst (LendsInput k.config.page k.memory.frames.owners (is_early_device (entry k.devices t.dev)) t) strong one in
    subst (λ b. LendsStrongly k.config.page k.memory.frames.owners b t t.loans) waits.late two

pub strong_unlent : {class : Class} (k : Kernel) (n : ℕ) (t : Transfer) → IsGood k → find (has_number n) k.transfers ≡ Some t → IsOutboardInput class k.devices t → is_strong class ≡ true → t.loans ≡ Nothing
strong_unlent k n t g found is strong = waiting_unlent k n t g found (is_waiting k t is.inward is.outboard) (ap is_strong is.class_is ∙ strong)

module _ (laws : CopyLaws) (k : Kernel) (n : ℕ) (range : Range) (g : IsGood k) (a : LateAim k n range) where
  pub late_roomy : IsRoomy k range
  late_roomy = is_roomy laws k n a.t range g a.found a.is.class_is a.is.inward a.target

  -- each page can have a frame, and another one for the bytes that land
  pub late_frames : PendingAreAvailable → 2 * span k.config.page range.off range.len ≤ available k.memory.frames
  late_frames pending =
      let has = (find_has (has_number n) k.transfers a.t a.found).0 in
      let free = all_has (λ (t : Transfer). cost_of k.config.page t + 4 ≤ available k.memory.frames + loan_count t) k.transfers (pending k g) a.t has in
      let none : loan_count a.t ≡ 0 = ap (λ (l : Loans). length (frames_of l)) (strong_unlent k n a.t g a.found a.is refl) in
      let costs : cost_of k.config.page a.t ≡ 2 * span k.config.page a.t.addr a.t.len = (λ i. cost (a.is.class_is i) (a.is.inward i) (span k.config.page (begins_there a.t a.is.class_is a.is.inward i) a.t.len)) in
      let known = span_known laws k n a.t range g a.found a.is.class_is a.is.inward a.target in
      let same : span k.config.page range.off range.len ≤ span k.config.page a.t.addr a.t.len = subst (λ z. z ≤ span k.config.page a.t.addr a.t.len) (λ i. span k.config.page (sym a.target.place i) (sym a.target.size i)) known in
      omega (arith, free, none, costs, same)

  pub late_shows : (m : Memory) (v w : StoreView) (i count work : ℕ) → MakesReady k.memory m v w range.object.0 i count work → ShowsAndLends k m v w
  late_shows m v w i count work ready = ready_shows laws k n a.t range m v w i count work g a.found a.is.class_is a.is.inward a.target ready

  -- the range in the memory's own page size
  pub late_within : range.off / k.memory.frames.page + span k.memory.frames.page range.off range.len ≤ length (object_at k.memory.objects range.object.0)
  late_within = subst (λ z. range.off / z + span z range.off range.len ≤ length (object_at k.memory.objects range.object.0)) (sym g.sized.page) late_roomy.within

  pub late_most : span k.memory.frames.page range.off range.len ≤ 65
  late_most = subst (λ z. span z range.off range.len ≤ 65) (sym g.sized.page) late_roomy.most

  -- there is room for that many pages more as frames are free
  pub late_places : count_by is_there k.memory.pages.pages + count_by is_free k.memory.frames.owners ≤ k.memory.pages.most
  late_places =
      let h = laws.buffers k.memory _ [] (laws.places k g) (λ j l. absurd (omega (arith, l))) (λ f. omega arith) in
      omega (arith, h)

-- once they were made ready its bytes may be stored
pub late_can : (m : Memory) (v w : StoreView) (range : Range) (few work : ℕ) → span m.frames.page range.off range.len ≤ 65 → range.off + range.len < 2 ^ 32 → range.off / m.frames.page + span m.frames.page range.off range.len ≤ length (object_at m.objects range.object.0) → 2 * span m.frames.page range.off range.len ≤ count_by is_free m.frames.owners → count_by is_there m.pages.pages + count_by is_free m.frames.owners ≤ m.pages.most → AreBelow (2 ^ 63 + 2 ^ 20) m.frames.meters
    → (new : Memory) → MakesReady m new v w range.object.0 (range.off / m.frames.page) (span m.frames.page range.off range.len) work → AreBelow (2 ^ 63 + 2 ^ 22) new.frames.meters → CanStoreRange new range.object.0 range.off range.len few → CanStoreBytes new range.object.0 range.off range.len few
late_can m v w range few work most fits within free room meters new ready after can =
    let page : m.frames.page ≡ new.frames.page = sym ready.moves.keeps.page in
    let pages = subst (λ z. span z range.off range.len ≡ span m.frames.page range.off range.len) page refl in
    record {
      sound = ready.moves.sound;
      fits = fits;
      within = subst (λ z. range.off / z + span z range.off range.len ≤ length (object_at new.objects range.object.0)) page (subst (λ l. range.off / m.frames.page + span m.frames.page range.off range.len ≤ l) (sym (ready.moves.keeps.entries range.object.0)) within);
      most = omega (arith, pages, most);
      free = omega (arith, pages, free, ready.takes.free);
      can = can;
      room = omega (arith, pages, free, room, ready.takes.added, ready.moves.keeps.most);
      meters = after;
      taken = omega (arith, meters.taken, ready.spends.most_taken, most);
    }

-- what is stored of it can be fetched
can_fetch : {class : Class} (k : Kernel) (n : ℕ) (t : Transfer) → IsGood k → find (has_number n) k.transfers ≡ Some t → IsOutboardInput class k.devices t → (b : Option ℕ) → t.buffer ≡ b → is_some b ≡ true → CanFetch t.stored (entry k.devices t.dev) b
can_fetch k n t g found x None is some = absurd (cc)
can_fetch k n t g found x (Some b) is some =
    let at = outboard_at k t.dev g x.outboard in
    let waits = waits_in k n t g found b is in
    let stored : IfSome t.buffer (λ b. t.stored ≤ room_in (entry k.devices t.dev) (entry k.pools t.dev) b) = all_has (λ (u : Transfer). IfSome u.buffer (λ b. u.stored ≤ room_in (entry k.devices u.dev) (entry k.pools u.dev) b)) k.transfers g.arrived.stored t (find_has (has_number n) k.transfers t found).0 in
    let fits : t.stored ≤ room_in (entry k.devices t.dev) (entry k.pools t.dev) b = subst (λ o. IfSome o (λ b. t.stored ≤ room_in (entry k.devices t.dev) (entry k.pools t.dev) b)) is stored in
    subst (λ o. CanFetch t.stored o (Some b)) (sym at.there) (
      subst (λ o. has_waiting o None b ≡ true) at.there (subst (λ o. has_waiting (entry k.devices t.dev) o b ≡ true) at.unpooled waits),
      subst (λ o. t.stored ≤ room_in o None b) at.there (subst (λ o. t.stored ≤ room_in (entry k.devices t.dev) o b) at.unpooled fits),
    )

pub late_fetch : {class : Class} (k : Kernel) (n : ℕ) (t : Transfer) → IsGood k → find (has_number n) k.transfers ≡ Some t → IsOutboardInput class k.devices t → is_ready t.phase ≡ true → CanFetch t.stored (entry k.devices t.dev) t.buffer
late_fetch k n t g found x ready = can_fetch k n t g found x t.buffer refl (has_some k n t g found ready (is_waiting k t x.inward x.outboard))

pub fetched_all : (n : ℕ) (o : Option DeviceView) (b : Option ℕ) → CanFetch n o b → n ≡ length (take n (fetched o b))
fetched_all n None b h = absurd h
fetched_all n (Some v) None h = absurd h
fetched_all n (Some v) (Some b) h = let e = length-take n (fetched (Some v) (Some b)) in omega (arith, e, h.1)

pub both_some : {P Q R : Transfer → Type 0} → ((t : Transfer) → P t → Q t → R t) → (o : Option Transfer) → IfSome o P → IfSome o Q → IfSome o R
both_some f None p q = tt
both_some f (Some t) p q = f t p q

-- one whose process is gone, or may not write its range
pub late_gone : (k : Kernel) (n : ℕ) (o : Option ℕ) → IsLateOutboard Copy k n → IfSome (find (has_number n) k.transfers) (OwnerIs o) → o ≡ None → IsLateGone k n
late_gone k n o case owner none = both_some (λ t x e. record { waiting = is_waiting k t x.inward x.outboard; gone = sym e ∙ none }) (find (has_number n) k.transfers) case owner

pub late_lost : (k : Kernel) (n : ℕ) (o : Option ℕ) (p : ℕ) → IsLateOutboard Copy k n → IfSome (find (has_number n) k.transfers) (λ (t : Transfer). OwnerIs o t × HasNoTarget k t) → o ≡ Some p → IsLateLost k n
late_lost k n o p case owner some = both_some (λ t x e. record { waiting = is_waiting k t x.inward x.outboard; pid = p; owner = sym e.0 ∙ some; loses = subst (LosesBytes k t) (sym x.class_is) e.1 }) (find (has_number n) k.transfers) case owner

pub both_known : (k : Kernel) (n : ℕ) (o : Option ℕ) → IfSome (find (has_number n) k.transfers) (OwnerIs o) → HasNoTargetOf k n → IfSome (find (has_number n) k.transfers) (λ (t : Transfer). OwnerIs o t × HasNoTarget k t)
both_known k n o a b = both_some (λ t x y. (x, y)) (find (has_number n) k.transfers) a b
