-- How many pages an input call gets from the store.
use Rattle.std.proofs.Common.{◌≡◌, ℕ, ◌≤◌, ◌+◌, refl, subst, sym, ap, arith, ◌∙◌}
use Rattle.std.specs.Prelude.{Bool, Option, None, Some}
use Rattle.std.specs.Option.{option_map}
use Rattle.genie_base.specs.Counts.{span}
use Rattle.genie_base.specs.Transfers.{class_of}
use Rattle.genie_base.specs.declared.semantics.Class.TheVariants as class
use Rattle.genie_base.specs.declared.semantics.Semantics.{Semantics}
use Rattle.genie_base.specs.declared.semantics.Semantics.TheVariants.{Copy, EmulatedCopy, Share, EmulatedShare, Move, EmulatedMove, WeakMove, EmulatedWeakMove}
use Rattle.genie_frame.specs.declared.frame.Meters.{Meters}
use Rattle.genie_frame.specs.FrameTable.{FrameTable}
use Rattle.genie_object.specs.declared.memory.Memory.{Memory}
use Rattle.genie_object.specs.Costs.{Spends}
use Rattle.genie_region.specs.declared.region.Region.{Region}
use Rattle.genie_model.specs.Inputs.{address_or_zero, pages_for}
use Rattle.genie_kernel.specs.declared.kernel.Kernel.{Kernel}
use Rattle.genie_kernel.specs.declared.transfer.Loans.{Loans}
use Rattle.genie_kernel.specs.Good.{IsGood}
use Rattle.genie_kernel.specs.View.{outline}
use Rattle.genie_copying.specs.Getting.{input_pages, number_of, pages_most}
use Rattle.genie_copying.specs.Ranges.{pages_at, pages_in, pages_reached}
use Rattle.genie_inputs.specs.declared.call.Call.{Call}
use Rattle.genie_inputs.specs.Buffers.{LendsBuffer}
use Rattle.genie_inputs.specs.Calls.{input_event}
use Rattle.genie_inputs.specs.Claiming.{LendsObject}
use Rattle.genie_inputs.specs.Targets.{Reaches}
use Rattle.genie_inputs.proofs.Costing.{few_pages}

-- the pages that a weak call names, by its class
share_pages : (k : Kernel) (sem : Semantics) (p : ℕ) (addr : Option ℕ) (n : ℕ) → class_of sem ≡ class.Share → input_pages k sem p addr n ≡ number_of (pages_reached k p (address_or_zero addr) n)
share_pages k Copy p addr n is = cc
share_pages k EmulatedCopy p addr n is = cc
share_pages k Share p addr n is = refl
share_pages k EmulatedShare p addr n is = refl
share_pages k Move p addr n is = cc
share_pages k EmulatedMove p addr n is = cc
share_pages k WeakMove p addr n is = cc
share_pages k EmulatedWeakMove p addr n is = cc

weak_pages : (k : Kernel) (sem : Semantics) (p : ℕ) (addr : Option ℕ) (n : ℕ) → class_of sem ≡ class.WeakMove → input_pages k sem p addr n ≡ pages_for (outline k) n
weak_pages k Copy p addr n is = cc
weak_pages k EmulatedCopy p addr n is = cc
weak_pages k Share p addr n is = cc
weak_pages k EmulatedShare p addr n is = cc
weak_pages k Move p addr n is = cc
weak_pages k EmulatedMove p addr n is = cc
weak_pages k WeakMove p addr n is = refl
weak_pages k EmulatedWeakMove p addr n is = refl

-- a buffer of new frames gets none
pub got_buffer : (n at len : ℕ) (early : Bool) (old new : Memory) (loans : Loans) → LendsBuffer n at len early old new loans → new.frames.meters.gets ≡ old.frames.meters.gets
got_buffer n at len early old new loans x = ap (λ (w : Meters). w.gets) x.fresh.meters

pub got_object : (n len o : ℕ) (old new : Memory) (loans : Loans) → LendsObject n len o old new loans → new.frames.meters.gets ≡ old.frames.meters.gets
got_object n len o old new loans x = ap (λ (w : Meters). w.gets) x.buffer.fresh.meters ∙ ap (λ (t : FrameTable). t.meters.gets) x.removes.frames

-- pages of a region that are lent in place, once room was made
pub got_lent : (k mid : Kernel) (m : Memory) (off len n bytes frames : ℕ) → IsGood k → mid.memory.frames.page ≡ k.memory.frames.page → mid.memory.frames.meters.gets ≡ k.memory.frames.meters.gets → n ≡ span mid.memory.frames.page off len → Spends bytes n 0 frames mid.memory.frames.meters m.frames.meters → m.frames.meters.gets ≤ k.memory.frames.meters.gets + span k.config.page off len
got_lent k mid m off len n bytes frames good page none count s =
    let all : n ≡ span k.config.page off len = count ∙ ap (λ z. span z off len) (page ∙ good.sized.page) in
    omega (arith, none, all, s.most_gets)

-- what comes before the pages are lent, and afterwards, gets none
pub got_left : (n : ℕ) (a b left : Meters) → left ≡ b → b.gets ≤ a.gets + n → left.gets ≤ a.gets + n
got_left n a b left e l = subst (λ (z : Meters). z.gets ≤ a.gets + n) (sym e) l

pub got_before : (n : ℕ) (old a left : Meters) → a ≡ old → left.gets ≤ a.gets + n → left.gets ≤ old.gets + n
got_before n old a left e l = subst (λ (z : Meters). left.gets ≤ z.gets + n) e l

-- so a weak call gets no more pages than it names
pub got_shared : (k new : Kernel) (c : Call) (a : ℕ) (r : Region) (off : ℕ) → class_of c.sem ≡ class.Share → Reaches k c a r off → new.memory.frames.meters.gets ≤ k.memory.frames.meters.gets + span k.config.page off c.len → new.memory.frames.meters.gets ≤ k.memory.frames.meters.gets + pages_most k (input_event c (Some a))
got_shared k new c a r off is reach s =
    let pages : pages_reached k c.pid a c.len ≡ Some (pages_at k.config.page r.object.0 off c.len) = ap (option_map (pages_in k.config.page a c.len)) reach.found ∙ ap (λ (z : ℕ). Some (pages_at k.config.page r.object.0 z c.len)) (sym reach.place) in
    let row : input_pages k c.sem c.pid (Some a) c.len ≡ span k.config.page off c.len = share_pages k c.sem c.pid (Some a) c.len is ∙ ap number_of pages in
    omega (arith, row, s)

pub got_weakly : (k new : Kernel) (c : Call) (page : ℕ) → class_of c.sem ≡ class.WeakMove → IsGood k → page ≡ k.config.page → new.memory.frames.meters.gets ≤ k.memory.frames.meters.gets + span page 0 c.len → new.memory.frames.meters.gets ≤ k.memory.frames.meters.gets + pages_most k (input_event c None)
got_weakly k new c page is good same s =
    let all : span page 0 c.len ≡ span k.config.page 0 c.len = ap (λ z. span z 0 c.len) same in
    let row : input_pages k c.sem c.pid None c.len ≡ pages_for (outline k) c.len = weak_pages k c.sem c.pid None c.len is in
    let few : span k.config.page 0 c.len ≤ pages_for (outline k) c.len = few_pages k c good in
    omega (arith, all, row, few, s)
