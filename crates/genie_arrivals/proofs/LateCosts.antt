-- What the ends of inputs on pooled devices copy.
use Rattle.std.proofs.Common.{◌≡◌, ℕ, ◌+◌, Bool, true, false, refl, sym, ap, subst, arith, ◌∙◌, find}
use Rattle.std.specs.Prelude.{Option, Some, None, IfSome, IsSome, if◌then◌else◌}
use Rattle.genie_base.specs.Transfers.{class_of, is_strong}
use Rattle.genie_base.specs.declared.config.DeviceConfig.{DeviceConfig}
use Rattle.genie_base.specs.declared.config.Kind.{Kind}
use Rattle.genie_base.specs.declared.config.Kind.TheVariants.{Early, Pooled, Outboard}
use Rattle.genie_base.specs.declared.event.Event.TheVariants as event
use Rattle.genie_base.specs.declared.reply.Note.{Note}
use Rattle.genie_base.specs.declared.reply.Reply.{Reply}
use Rattle.genie_base.specs.declared.reply.Reply.TheVariants as reply
use Rattle.genie_base.specs.declared.semantics.Class.{Class}
use Rattle.genie_base.specs.declared.semantics.Semantics.{Semantics}
use Rattle.genie_base.specs.declared.semantics.Semantics.TheVariants.{Copy, EmulatedCopy, Share, EmulatedShare, Move, EmulatedMove, WeakMove, EmulatedWeakMove}
use Rattle.genie_device.specs.Device.{DeviceView}
use Rattle.genie_input.specs.Pools.{PoolState}
use Rattle.genie_object.specs.Costs.{work}
use Rattle.genie_object.specs.declared.objects.Range.{Range}
use Rattle.genie_model.specs.Tables.{entry}
use Rattle.genie_kernel.specs.declared.kernel.Kernel.{Kernel}
use Rattle.genie_kernel.specs.declared.transfer.Transfer.{Transfer}
use Rattle.genie_kernel.specs.Calls.{has_number}
use Rattle.genie_kernel.specs.Good.{IsGood}
use Rattle.genie_kernel.specs.Sizes.{IsEquipped}
use Rattle.genie_kernel.specs.Sizes as sizes
use Rattle.genie_copying.specs.Bounds.{KeepsToBound, is_pooled, is_pooled_at, stored_bound}
use Rattle.genie_arrivals.specs.Pooled.{CopiesPending, GoesTo, GoesToRegion, IsOwned, IsPooledInput, IsPooledOf, is_pooled_device}
use Rattle.genie_arrivals.specs.Waiting.{EndsWaiting}
use Rattle.genie_arrivals.proofs.EarlyCosts.{input_bound}
use Rattle.std.proofs.Common.{◌*◌, ◌/◌, ◌%◌}
use Rattle.std.specs.Prelude.{◌&&◌}
use Rattle.genie_base.specs.Counts.{span}
use Rattle.genie_base.specs.declared.semantics.Class.TheVariants as class
use Rattle.genie_hiding.specs.Hidden.{is_among, objects_of}
use Rattle.genie_object.specs.Costs.{writes_work}
use Rattle.genie_region.specs.declared.region.Region.{Region}
use Rattle.genie_kernel.specs.Regions.{regions_of}
use Rattle.genie_copying.specs.Bounds.{fixed_bytes, held_bytes, is_aligned, pages_stored}
use Rattle.genie_copying.specs.Kinds.{count_pages, is_fixed}
use Rattle.genie_copying.specs.Ranges.{Pages, pages_at, pages_in, part_pages}
use Rattle.genie_copying.specs.Spending.{CopiesAtMost, NoDearer}
use Rattle.genie_copying.specs.Lemmas.Costing.{fixed_fewer, writes_bytes}
use Rattle.genie_arrivals.specs.LateCosts.{is_exchanged, is_exchanged_by}
use Rattle.genie_arrivals.specs.Targets.{IsTarget}
use Rattle.genie_arrivals.proofs.EarlyCosts.{fault_bound}
use Rattle.genie_arrivals.proofs.Reaching.{is_written}
use Rattle.genie_object.specs.declared.memory.Memory.{Memory}

pooled_alike : (kind : Kind) → sizes.is_pooled kind ≡ true → is_pooled kind ≡ true
pooled_alike Early e = e
pooled_alike Pooled e = refl
pooled_alike Outboard e = e

pooled_with : (page : ℕ) (c : Option DeviceConfig) (v : Option DeviceView) (p : Option PoolState) → IsEquipped page c v p → is_pooled_device v → (elim c [ None ↦ false | Some device ↦ is_pooled device.kind ]) ≡ true
pooled_with page c None p x e = absurd e
pooled_with page None (Some v) p x e = absurd x
pooled_with page (Some c) (Some v) p x e = pooled_alike c.kind (ap (λ (z : DeviceConfig). sizes.is_pooled z.kind) (sym x.0.config) ∙ e)

pooled_there : (k : Kernel) (d : ℕ) → IsGood k → is_pooled_device (entry k.devices d) → is_pooled_at k.config d ≡ true
pooled_there k d g e = pooled_with k.config.page (entry k.config.devices d) (entry k.devices d) (entry k.pools d) (g.equipped.each d) e

weak_row : (k : Kernel) (p : ℕ) (t : Transfer) (sem : Semantics) → is_strong (class_of sem) ≡ false → is_pooled_at k.config t.dev ≡ true → stored_bound k p t sem ≡ t.stored
weak_row k p t Copy c a = cc
weak_row k p t EmulatedCopy c a = cc
weak_row k p t Share c a = ap (λ (b : Bool). if b then t.stored else 0) a
weak_row k p t EmulatedShare c a = ap (λ (b : Bool). if b then t.stored else 0) a
weak_row k p t Move c a = cc
weak_row k p t EmulatedMove c a = cc
weak_row k p t WeakMove c a = ap (λ (b : Bool). if b then t.stored else 0) a
weak_row k p t EmulatedWeakMove c a = ap (λ (b : Bool). if b then t.stored else 0) a

is_some_owner : (o : Option ℕ) → IsSome o → (p : ℕ) × (o ≡ Some p)
is_some_owner None h = let clash : false ≡ true = h in absurd (cc)
is_some_owner (Some p) h = (p, refl)

-- what waits of a weak input is copied to its region, and its buffer is free then
pub weak_keeps : (k mid new left : Kernel) (n : ℕ) (t : Transfer) (range : Range) (class : Class) (at : Option ℕ) (s : ℕ) (note : Note) → is_strong class ≡ false → IsGood k → IsPooledInput class k n → IsOwned k n → GoesTo k n range → CopiesPending n range k mid → EndsWaiting n mid new t → left.memory.frames.meters ≡ new.memory.frames.meters → KeepsToBound k (event.Finish n) left (reply.Input at s note)
weak_keeps k mid new left n t range class at s note weak g case owned goes copied ended same =
    let found : find (has_number n) k.transfers ≡ Some t = ap (λ (z : Kernel). find (has_number n) z.transfers) (sym copied.only) ∙ ended.found in
    let is : IsPooledOf class k.devices t = subst (λ (o : Option Transfer). IfSome o (IsPooledOf class k.devices)) found case in
    let to : GoesToRegion k t range = subst (λ (o : Option Transfer). IfSome o (λ (u : Transfer). GoesToRegion k u range)) found goes in
    let owner = is_some_owner t.owner (subst (λ (o : Option Transfer). IfSome o (λ (u : Transfer). IsSome u.owner)) found owned) in
    let row = input_bound k n owner.0 t at s note found is.inward owner.1 ∙ weak_row k owner.0 t t.sem (ap is_strong is.class_is ∙ weak) (pooled_there k t.dev g is.pooled) in
    let moved : work mid.memory.frames.meters ≡ work k.memory.frames.meters + range.len = (let m = ap work copied.copies.meters in let sum : work (record (k.memory.frames.meters) { copied = k.memory.frames.meters.copied + range.len }) ≡ work k.memory.frames.meters + range.len = omega arith in m ∙ sum) in
    let back = ap work (ended.back.loans.meters ∙ ended.back.wires.only.meters) in
    let last = ap work same in
    omega (arith, row, moved, back, last, to.size)

-- a copy on a pooled device whose pages aren't exchanged: the pages of the range are made its own, and the bytes copied
copy_row : (k : Kernel) (p : ℕ) (t : Transfer) (sem : Semantics) → class_of sem ≡ class.Copy → is_pooled_at k.config t.dev ≡ true → is_exchanged_by k.config sem t.dev t.addr ≡ false → stored_bound k p t sem ≡ t.stored + fixed_bytes k (pages_stored k p t)
copy_row k p t Copy c a e = refl
copy_row k p t EmulatedCopy c a e =
    let apart : is_aligned k.config t.dev (t.addr % k.config.page) ≡ false = ap (λ (b : Bool). b && is_aligned k.config t.dev (t.addr % k.config.page)) (sym a) ∙ e in
    ap (λ (b : Bool). if b then 2 * k.config.page * part_pages k.config.page t.addr t.stored + held_bytes k (pages_stored k p t) else t.stored + fixed_bytes k (pages_stored k p t)) apart
copy_row k p t Share c a e = cc
copy_row k p t EmulatedShare c a e = cc
copy_row k p t Move c a e = cc
copy_row k p t EmulatedMove c a e = cc
copy_row k p t WeakMove c a e = cc
copy_row k p t EmulatedWeakMove c a e = cc

-- the pages that the range lies in are those that the table speaks of
stored_there : (k : Kernel) (t : Transfer) (range : Range) (x : IsTarget k t range) → pages_stored k x.pid t ≡ Some (pages_at k.config.page range.object.0 range.off range.len)
stored_there k t range x =
    ap (λ (z : Option Region). elim z [ None ↦ None | Some r ↦ Some (pages_in k.config.page t.addr t.stored r) ]) (is_written k.config.page t.addr t.len (regions_of (entry k.spaces.processes x.pid)) x.region x.reached).reached
    ∙ (λ i. Some (pages_at k.config.page (sym x.object_is i).0 (sym x.place i) (sym x.size i)))

module _ (k : Kernel) (n : ℕ) (t : Transfer) (range : Range) (g : IsGood k) (found : find (has_number n) k.transfers ≡ Some t) (is : IsPooledOf class.Copy k.devices t) (x : IsTarget k t range) (apart : is_exchanged k.config t ≡ false) where
  row : stored_bound k x.pid t t.sem ≡ t.stored + fixed_bytes k (Some (pages_at k.config.page range.object.0 range.off range.len))
  row = copy_row k x.pid t t.sem is.class_is (pooled_there k t.dev g is.pooled) apart ∙ ap (λ (z : Option Pages). t.stored + fixed_bytes k z) (stored_there k t range x)

  pub copy_keeps : (mid full new : Kernel) (u : Transfer) (at : Option ℕ) (s : ℕ) (note : Note) → CopiesAtMost (fixed_bytes k (Some (pages_at k.config.page range.object.0 range.off range.len))) k.memory mid.memory → CopiesPending n range mid full → EndsWaiting n full new u → KeepsToBound k (event.Finish n) new (reply.Input at s note)
  copy_keeps mid full new u at s note ready copied ended =
      let all = input_bound k n x.pid t at s note found is.inward x.owner ∙ row in
      let moved : work full.memory.frames.meters ≡ work mid.memory.frames.meters + range.len = (let m = ap work copied.copies.meters in let sum : work (record (mid.memory.frames.meters) { copied = mid.memory.frames.meters.copied + range.len }) ≡ work mid.memory.frames.meters + range.len = omega arith in m ∙ sum) in
      let back = ap work (ended.back.loans.meters ∙ ended.back.wires.only.meters) in
      omega (arith, all, ready, moved, back, x.size)

  pub copy_fault : (new : Kernel) → CopiesAtMost (fixed_bytes k (Some (pages_at k.config.page range.object.0 range.off range.len))) k.memory new.memory → KeepsToBound k (event.Finish n) new reply.StoreFault
  copy_fault new ready = let all = fault_bound k n x.pid t found is.inward x.owner ∙ row in omega (arith, all, ready)

-- pages were made an object's own once room was made
pub own_copies : (k : Kernel) (mid new : Memory) (o off len first count : ℕ) → IsGood k → is_among o (objects_of k.hidden) ≡ false → NoDearer (objects_of k.hidden) k.memory mid → CopiesAtMost 0 k.memory mid → first ≡ off / k.config.page → count ≡ span k.config.page off len → CopiesAtMost (writes_work mid o first count) mid new → CopiesAtMost (fixed_bytes k (Some (pages_at k.config.page o off len))) k.memory new
own_copies k mid new o off len first count g out d none is number own =
    let its : writes_work mid o first count ≡ mid.frames.page * count_pages (is_fixed mid o) first count = writes_bytes mid o first count in
    let same : mid.frames.page * count_pages (is_fixed mid o) first count ≡ mid.frames.page * count_pages (is_fixed mid o) (off / k.config.page) (span k.config.page off len) = (λ i. mid.frames.page * count_pages (is_fixed mid o) (is i) (number i)) in
    let fewer = fixed_fewer (objects_of k.hidden) k.memory mid (pages_at k.config.page o off len) d out in
    let size : k.memory.frames.page * count_pages (is_fixed k.memory o) (off / k.config.page) (span k.config.page off len) ≡ fixed_bytes k (Some (pages_at k.config.page o off len)) = ap (λ (z : ℕ). z * count_pages (is_fixed k.memory o) (off / k.config.page) (span k.config.page off len)) g.sized.page in
    omega (arith, none, its, same, fewer, size, own)

-- an end that keeps to every bound does so whatever the transfer is
pub each_keeps : (o : Option Transfer) (k new : Kernel) (n : ℕ) (r : Reply) → KeepsToBound k (event.Finish n) new r → IfSome o (λ (t : Transfer). is_exchanged k.config t ≡ false → KeepsToBound k (event.Finish n) new r)
each_keeps None k new n r keeps = tt
each_keeps (Some t) k new n r keeps = λ apart. keeps
