-- What an input call copies at most.
use Rattle.std.proofs.Common.{◌≡◌, ℕ, ◌≤◌, ◌+◌, ◌-◌, ◌*◌, ◌/◌, true, false, refl, sym, ap, subst, arith, ◌∙◌, find}
use Rattle.std.specs.Prelude.{Bool, Option, Some, None, not, is_some, if◌then◌else◌}
use Rattle.std.specs.Option.{option_map}
use Rattle.genie_base.specs.Counts.{span}
use Rattle.genie_base.specs.Transfers.{class_of, is_strong}
use Rattle.genie_base.specs.declared.event.Event.{Event}
use Rattle.genie_base.specs.declared.reply.Reply.{Reply}
use Rattle.genie_base.specs.declared.semantics.Class.TheVariants as class
use Rattle.genie_base.specs.declared.semantics.Semantics.{Semantics}
use Rattle.genie_base.specs.declared.semantics.Semantics.TheVariants.{Copy, EmulatedCopy, Share, EmulatedShare, Move, EmulatedMove, WeakMove, EmulatedWeakMove}
use Rattle.genie_store.specs.StoreView.{StoreView}
use Rattle.genie_hiding.specs.Hidden.{objects_of}
use Rattle.genie_object.specs.declared.memory.Memory.{Memory}
use Rattle.genie_object.specs.Costs.{Spends, work, writes_work}
use Rattle.genie_region.specs.declared.region.Region.{Region}
use Rattle.genie_model.specs.Inputs.{address_or_zero, pages_for, reusable}
use Rattle.genie_model.specs.Refusing.{must_make}
use Rattle.genie_model.specs.Tables.{entry}
use Rattle.genie_model.specs.Lemmas.Lists.{Has, any_found, find_has, has_any}
use Rattle.genie_kernel.specs.declared.kernel.Kernel.{Kernel}
use Rattle.genie_kernel.specs.Good.{IsGood}
use Rattle.genie_kernel.specs.Regions.{has_id, owned_regions, regions_of}
use Rattle.genie_kernel.specs.View.{no_bytes, outline}
use Rattle.genie_changes.specs.Lemmas.Outside.{unhidden}
use Rattle.genie_copying.specs.Bounds.{KeepsToBound, bound, buffer_bound, fixed_bytes, input_bound, pages_numbered, stores_nothing, weak_move_bound}
use Rattle.genie_copying.specs.Kinds.{count_pages, is_fixed}
use Rattle.genie_copying.specs.Ranges.{count_of, pages_at, pages_in, pages_reached}
use Rattle.genie_copying.specs.Ranges as ranges
use Rattle.genie_copying.specs.Spending.{CopiesAtMost, NoDearer}
use Rattle.genie_copying.specs.Lemmas.Costing.{fixed_fewer, writes_bytes}
use Rattle.genie_copying.specs.Lemmas.Counting.{bytes_fewer, count_longer, count_most}
use Rattle.genie_inputs.specs.declared.call.Call.{Call}
use Rattle.genie_inputs.specs.Calls.{input_event}
use Rattle.genie_inputs.specs.Reusing.{IsReusable, pages_of}
use Rattle.genie_inputs.specs.Targets.{Reaches}
use Rattle.std.proofs.Common.{◌<◌, eqb-true, eq-eqb}
use Rattle.std.proofs.Math.Nat.{div-add-mod}
use Rattle.genie_base.specs.declared.config.Config.{Config}
use Rattle.genie_changes.specs.Lemmas.Once.{same_number}
use Rattle.genie_inputs.proofs.Accepted.{page_some}
use Rattle.genie_inputs.proofs.Targeting.{has_owned, pages_within}
use Rattle.genie_inputs.proofs.Refilling.{reusable_view, reused_has, reused_pages, reused_owned, whole_pages}

-- the rows, by the class of the call
strong_row : (k : Kernel) (sem : Semantics) (p : ℕ) (addr : Option ℕ) (n : ℕ) → is_strong (class_of sem) ≡ true → input_bound k sem p addr n ≡ 0
strong_row k Copy p addr n is = refl
strong_row k EmulatedCopy p addr n is = refl
strong_row k Share p addr n is = cc
strong_row k EmulatedShare p addr n is = cc
strong_row k Move p addr n is = refl
strong_row k EmulatedMove p addr n is = refl
strong_row k WeakMove p addr n is = cc
strong_row k EmulatedWeakMove p addr n is = cc

share_row : (k : Kernel) (sem : Semantics) (p : ℕ) (addr : Option ℕ) (n : ℕ) → class_of sem ≡ class.Share → input_bound k sem p addr n ≡ fixed_bytes k (pages_reached k p (address_or_zero addr) n)
share_row k Copy p addr n is = cc
share_row k EmulatedCopy p addr n is = cc
share_row k Share p addr n is = refl
share_row k EmulatedShare p addr n is = refl
share_row k Move p addr n is = cc
share_row k EmulatedMove p addr n is = cc
share_row k WeakMove p addr n is = cc
share_row k EmulatedWeakMove p addr n is = cc

weak_row : (k : Kernel) (sem : Semantics) (p : ℕ) (addr : Option ℕ) (n : ℕ) → class_of sem ≡ class.WeakMove → input_bound k sem p addr n ≡ weak_move_bound k p (pages_for (outline k) n)
weak_row k Copy p addr n is = cc
weak_row k EmulatedCopy p addr n is = cc
weak_row k Share p addr n is = cc
weak_row k EmulatedShare p addr n is = cc
weak_row k Move p addr n is = cc
weak_row k EmulatedMove p addr n is = cc
weak_row k WeakMove p addr n is = refl
weak_row k EmulatedWeakMove p addr n is = refl

-- a call that copies nothing keeps to every row
pub none_keeps : (k new : Kernel) (e : Event) (r : Reply) → CopiesAtMost 0 k.memory new.memory → KeepsToBound k e new r
none_keeps k new e r none = omega (arith, none)

-- pages of a region are lent in place, once room was made
pub lend_costs : (k mid : Kernel) (m : Memory) (r : Region) (off len n pages frames : ℕ) (v w : StoreView) → IsGood k → Has r (owned_regions k.spaces.processes) → NoDearer (objects_of k.hidden) k.memory mid.memory → CopiesAtMost 0 k.memory mid.memory → n ≡ span mid.memory.frames.page off len → Spends (writes_work mid.memory r.object.0 (off / mid.memory.frames.page) n) pages 0 frames mid.memory.frames.meters m.frames.meters → CopiesAtMost (fixed_bytes k (Some (pages_at k.config.page r.object.0 off len))) k.memory m
lend_costs k mid m r off len n pages frames v w good owned d none count spends =
    let page : mid.memory.frames.page ≡ k.config.page = d.page ∙ good.sized.page in
    let its : writes_work mid.memory r.object.0 (off / mid.memory.frames.page) n ≡ mid.memory.frames.page * count_pages (is_fixed mid.memory r.object.0) (off / mid.memory.frames.page) n = writes_bytes mid.memory r.object.0 (off / mid.memory.frames.page) n in
    let same : mid.memory.frames.page * count_pages (is_fixed mid.memory r.object.0) (off / mid.memory.frames.page) n ≡ mid.memory.frames.page * count_pages (is_fixed mid.memory r.object.0) (off / k.config.page) (span k.config.page off len) = ap (λ (z : ℕ). mid.memory.frames.page * count_pages (is_fixed mid.memory r.object.0) (off / mid.memory.frames.page) z) count ∙ ap (λ (z : ℕ). mid.memory.frames.page * count_pages (is_fixed mid.memory r.object.0) (off / z) (span z off len)) page in
    let fewer = fixed_fewer (objects_of k.hidden) k.memory mid.memory (pages_at k.config.page r.object.0 off len) d (unhidden k good r owned) in
    let size : k.memory.frames.page * count_pages (is_fixed k.memory r.object.0) (off / k.config.page) (span k.config.page off len) ≡ fixed_bytes k (Some (pages_at k.config.page r.object.0 off len)) = ap (λ (z : ℕ). z * count_pages (is_fixed k.memory r.object.0) (off / k.config.page) (span k.config.page off len)) good.sized.page in
    let spent = spends.work in
    omega (arith, none, its, same, fewer, size, spent)

-- what moves no byte beside
pub costs_left : (bytes : ℕ) (old m left : Memory) → left.frames.meters ≡ m.frames.meters → CopiesAtMost bytes old m → CopiesAtMost bytes old left
costs_left bytes old m left e c = let same = ap work e in omega (arith, same, c)

pub costs_before : (bytes : ℕ) (old m left : Memory) → m.frames.meters ≡ old.frames.meters → CopiesAtMost bytes m left → CopiesAtMost bytes old left
costs_before bytes old m left e c = let same = ap work e in omega (arith, same, c)

pub costs_more : (bytes more : ℕ) (old m : Memory) → bytes ≤ more → CopiesAtMost bytes old m → CopiesAtMost more old m
costs_more bytes more old m l c = omega (arith, l, c)

pub share_keeps : (k new : Kernel) (c : Call) (a : ℕ) (r : Region) (off : ℕ) (answer : Reply) → class_of c.sem ≡ class.Share → stores_nothing answer ≡ false → Reaches k c a r off → CopiesAtMost (fixed_bytes k (Some (pages_at k.config.page r.object.0 off c.len))) k.memory new.memory → KeepsToBound k (input_event c (Some a)) new answer
share_keeps k new c a r off answer is stored reach cost =
    let pages : pages_reached k c.pid a c.len ≡ Some (pages_at k.config.page r.object.0 off c.len) = ap (option_map (pages_in k.config.page a c.len)) reach.found ∙ ap (λ (z : ℕ). Some (pages_at k.config.page r.object.0 z c.len)) (sym reach.place) in
    let row = share_row k c.sem c.pid (Some a) c.len is ∙ ap (fixed_bytes k) pages in
    let all : bound k (input_event c (Some a)) answer ≡ input_bound k c.sem c.pid (Some a) c.len = ap (λ (b : Bool). if b then 0 else input_bound k c.sem c.pid (Some a) c.len) stored in
    omega (arith, cost, row, all)

pub weak_keeps : (k new : Kernel) (c : Call) (answer : Reply) (most : ℕ) → class_of c.sem ≡ class.WeakMove → stores_nothing answer ≡ false → most ≤ weak_move_bound k c.pid (pages_of k c) → CopiesAtMost most k.memory new.memory → KeepsToBound k (input_event c None) new answer
weak_keeps k new c answer most is stored less cost =
    let row : input_bound k c.sem c.pid None c.len ≡ weak_move_bound k c.pid (pages_of k c) = weak_row k c.sem c.pid None c.len is in
    let all : bound k (input_event c None) answer ≡ input_bound k c.sem c.pid None c.len = ap (λ (b : Bool). if b then 0 else input_bound k c.sem c.pid None c.len) stored in
    omega (arith, cost, row, all, less)

not_some : {A : Type 0} (o : Option A) → not (is_some o) ≡ true → o ≡ None
not_some None h = refl
not_some (Some x) h = let clash : false ≡ true = h in absurd (cc)

among : (kind : ℕ → Bool) (first n k : ℕ) → n ≤ k → count_pages kind first n ≤ count_pages kind first k
among kind first n k l =
    let all : n + (k - n) ≡ k = omega (arith, l) in
    subst (λ m. count_pages kind first n ≤ count_pages kind first m) all (count_longer kind first n (k - n))

-- the region of its number is itself
reused_region : (k : Kernel) (c : Call) (r : Region) → IsGood k → IsReusable k c r → find (has_id r.id.0) (regions_of (entry k.spaces.processes c.pid)) ≡ Some r
reused_region k c r good x =
    let regions = regions_of (entry k.spaces.processes c.pid) in
    let some = any_found (has_id r.id.0) regions (has_any (has_id r.id.0) r regions (reused_has k c r x) (eq-eqb r.id.0 r.id.0 refl)) in
    let h = find_has (has_id r.id.0) regions some.0 some.1 in
    some.1 ∙ ap Some (same_number k some.0 r good (has_owned some.0 k.spaces.processes c.pid h.0) (reused_owned k c r x) (eqb-true some.0.id.0 r.id.0 h.1))

-- as many pages as the bytes need hold them
pub few_pages : (k : Kernel) (c : Call) → IsGood k → span k.config.page 0 c.len ≤ pages_of k c
few_pages k c good =
    let whole = whole_pages k.config.page c.len (page_some k good) in
    let within = pages_within k.config.page 0 c.len (pages_of k c) (page_some k good) (omega (arith, whole)) in
    omega (arith, within)

zero_div : (page : ℕ) → 0 < page → 0 / page ≡ 0
zero_div page some = omega (arith, div-add-mod 0 page, some)

-- a region that is used again: its first pages are among all of its pages
pub refill_less : (k : Kernel) (c : Call) (r : Region) → IsGood k → is_some (entry k.spaces.processes c.pid) ≡ true → IsReusable k c r → fixed_bytes k (Some (pages_at k.config.page r.object.0 0 c.len)) ≤ weak_move_bound k c.pid (pages_of k c)
refill_less k c r good alive x =
    let again : reusable (outline k) c.pid (pages_of k c) ≡ Some r.id.0 = reusable_view k (no_bytes k.config.page) c.pid (pages_of k c) alive ∙ x.first in
    let its : pages_numbered r.id.0 (regions_of (entry k.spaces.processes c.pid)) ≡ Some (ranges.pages_of r) = ap (λ (o : Option Region). elim o [ None ↦ None | Some q ↦ Some (ranges.pages_of q) ]) (reused_region k c r good x) in
    let row : weak_move_bound k c.pid (pages_of k c) ≡ fixed_bytes k (Some (ranges.pages_of r)) = ap (buffer_bound k c.pid (pages_of k c)) again ∙ ap (fixed_bytes k) its in
    let most = few_pages k c good in
    let start : 0 / k.config.page ≡ 0 = zero_div k.config.page (page_some k good) in
    let longer : count_pages (is_fixed k.memory r.object.0) 0 (span k.config.page 0 c.len) ≤ count_pages (is_fixed k.memory r.object.0) 0 r.pages = among (is_fixed k.memory r.object.0) 0 (span k.config.page 0 c.len) r.pages (let pages = reused_pages k c r x in omega (arith, pages, most)) in
    let fewer = bytes_fewer k.config.page _ _ longer in
    let same : fixed_bytes k (Some (pages_at k.config.page r.object.0 0 c.len)) ≡ k.config.page * count_pages (is_fixed k.memory r.object.0) 0 (span k.config.page 0 c.len) = ap (λ (z : ℕ). k.config.page * count_pages (is_fixed k.memory r.object.0) z (span k.config.page 0 c.len)) start in
    omega (arith, row, fewer, same)

-- a new region: no more than all of its pages
pub fill_less : (k mid : Kernel) (c : Call) (r : Region) → IsGood k → mid.config ≡ k.config → must_make (outline k) c.pid class.WeakMove c.len ≡ true → fixed_bytes mid (Some (pages_at mid.config.page r.object.0 0 c.len)) ≤ weak_move_bound k c.pid (pages_of k c)
fill_less k mid c r good config made =
    let none : reusable (outline k) c.pid (pages_of k c) ≡ None = not_some (reusable (outline k) c.pid (pages_of k c)) made in
    let row : weak_move_bound k c.pid (pages_of k c) ≡ k.config.page * pages_of k c = ap (buffer_bound k c.pid (pages_of k c)) none in
    let page : mid.config.page ≡ k.config.page = ap (λ (z : Config). z.page) config in
    let most = count_most (is_fixed mid.memory r.object.0) (0 / mid.config.page) (span mid.config.page 0 c.len) in
    let few = few_pages k c good in
    let spans : span mid.config.page 0 c.len ≡ span k.config.page 0 c.len = ap (λ (z : ℕ). span z 0 c.len) page in
    let fewer = bytes_fewer mid.config.page (count_pages (is_fixed mid.memory r.object.0) (0 / mid.config.page) (span mid.config.page 0 c.len)) (pages_of k c) (omega (arith, most, few, spans)) in
    let same : mid.config.page * pages_of k c ≡ k.config.page * pages_of k c = ap (λ (z : ℕ). z * pages_of k c) page in
    omega (arith, row, fewer, same)
