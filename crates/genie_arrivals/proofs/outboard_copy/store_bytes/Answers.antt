use Rattle.std.proofs.Common.{◌≡◌, ℕ, ◌^◌, ◌≤◌, List, length, sym, subst, arith, ◌∙◌}
use Rattle.genie_base.specs.Counts.{span}
use Rattle.genie_frame.specs.declared.frame.InLoan.{InLoan}
use Rattle.genie_frame.specs.FrameTable.{FrameTable}
use Rattle.genie_object.specs.declared.memory.Memory.{Memory}
use Rattle.genie_object.specs.Sound.{IsSound}
use Rattle.genie_plan.specs.Fresh.{ShowsBesides}
use Rattle.genie_plan.specs.Plans.{input_frames}
use Rattle.genie_arrivals.specs.FreshStored.{CanStoreBytes}
use Rattle.genie_arrivals.specs.Stored.{CanStoreBuffer, StoresBuffer}
use Rattle.genie_arrivals.proofs.FreshStored.{bytes_stored, can_store_full}
use Rattle.genie_arrivals.proofs.Rising.{rises_landed}
use Rattle.genie_arrivals.proofs.outboard_copy.store_bytes.Goals as goal
use Rattle.genie_arrivals.proofs.OutboardCosts.{bytes_copies}
use Rattle.genie_frame.specs.declared.frame.Owner.TheVariants.{System}
use Rattle.genie_copying.specs.Spending.{CopiesAtMost}
use Rattle.genie_arrivals.specs.EarlyCosts.{store_work}

pub store_buffer-requires : goal.store_buffer-requires
store_buffer-requires c =
    let m : Memory = c.args.memory.now in
    let a : Memory = c.aligned_buffer-plan.new.memory in
    let p = c.aligned_buffer-plan.result in
    let e = c.aligned_buffer-plan.ensures in
    let o = c.args.range.now.object.0 in
    let off = c.args.range.now.off in
    let with_frames : (f : FrameTable) → record a { frames = f } ≡ record m { frames = f } = λ f k. record { frames = f; pages = e.pages k; objects = e.objects k; slots = e.slots k } in
    let fs : List ℕ = input_frames p.loans.items in
    let u : FrameTable = c.land_bytes.new.frames in
    let can = subst (λ (l : ℕ). CanStoreBytes m o off l c.args.few) (sym e.len) c.requires.can in
    let one = can_store_full m a.frames u c.args.id.0 fs p.first p.len c.args.bytes.now c.requires.can.sound e.fresh (subst IsSound (with_frames a.frames) e.sound) (subst (ShowsBesides fs m) (with_frames a.frames) e.seen) e.buffers e.ready (e.len ∙ c.requires.size) c.land_bytes.ensures.only c.land_bytes.ensures.content o off c.args.few can (subst (λ (l : ℕ). length fs ≡ span m.frames.page off l) (sym e.len) e.number) in
    let two = subst (λ (l : ℕ). CanStoreBuffer (record m { frames = u }) o off l c.args.few fs) e.len one in
    let three = subst (λ (z : Memory). CanStoreBuffer z o off c.args.range.now.len c.args.few fs) (sym (with_frames u)) two in
    subst (λ (l : List InLoan). CanStoreBuffer (record a { frames = u }) o off c.args.range.now.len c.args.few (input_frames l)) (sym c.as_slice.ensures.value) three

pub returns-clause-stores : goal.returns-clause-stores
returns-clause-stores c =
    let m : Memory = c.args.memory.now in
    let a : Memory = c.aligned_buffer-plan.new.memory in
    let p = c.aligned_buffer-plan.result in
    let e = c.aligned_buffer-plan.ensures in
    let o = c.args.range.now.object.0 in
    let off = c.args.range.now.off in
    let with_frames : (f : FrameTable) → record a { frames = f } ≡ record m { frames = f } = λ f k. record { frames = f; pages = e.pages k; objects = e.objects k; slots = e.slots k } in
    let fs : List ℕ = input_frames p.loans.items in
    let u : FrameTable = c.land_bytes.new.frames in
    let new : Memory = c.store_buffer.new.memory in
    let one = subst (λ (l : List InLoan). StoresBuffer (record a { frames = u }) new o off c.args.range.now.len (input_frames l)) c.as_slice.ensures.value c.store_buffer.ensures.stores in
    let two = subst (λ (z : Memory). StoresBuffer z new o off c.args.range.now.len fs) (with_frames u) one in
    let three = subst (λ (l : ℕ). StoresBuffer (record m { frames = u }) new o off l fs) (sym e.len) two in
    let few : length fs ≤ 2 ^ 33 = omega (arith, e.number, c.requires.can.most) in
    let short : length c.args.bytes.now ≤ 2 ^ 33 = omega (arith, c.requires.size, c.requires.can.fits) in
    let rises = rises_landed _ fs p.first p.len (length c.args.bytes.now) (2 ^ 33) m.frames a.frames u few short e.fresh c.land_bytes.ensures.only c.land_bytes.ensures.most in
    bytes_stored m a.frames u c.args.id.0 fs p.first p.len c.args.bytes.now c.requires.can.sound e.fresh (subst IsSound (with_frames a.frames) e.sound) (subst (ShowsBesides fs m) (with_frames a.frames) e.seen) e.buffers e.ready (e.len ∙ c.requires.size) c.land_bytes.ensures.only c.land_bytes.ensures.content c.landings_show_nowhere_else.ensures new o off e.first three rises

pub returns-clause-copies : goal.returns-clause-copies
returns-clause-copies c =
    let m : Memory = c.args.memory.now in
    let a : Memory = c.aligned_buffer-plan.new.memory in
    let e = c.aligned_buffer-plan.ensures in
    let o = c.args.range.now.object.0 in
    let off = c.args.range.now.off in
    let len = c.args.range.now.len in
    let with_frames : (f : FrameTable) → record a { frames = f } ≡ record m { frames = f } = λ f k. record { frames = f; pages = e.pages k; objects = e.objects k; slots = e.slots k } in
    let u : FrameTable = c.land_bytes.new.frames in
    let stored : CopiesAtMost (store_work (record m { frames = u }) o off len c.args.few) (record m { frames = u }) c.store_buffer.new.memory = subst (λ (z : Memory). CopiesAtMost (store_work z o off len c.args.few) z c.store_buffer.new.memory) (with_frames u) c.store_buffer.ensures.copies in
    bytes_copies m a.frames u (System c.args.id.0) (input_frames c.aligned_buffer-plan.result.loans.items) c.requires.can.sound e.fresh c.land_bytes.ensures.only.counts c.land_bytes.ensures.only.page c.land_bytes.ensures.only.meters c.store_buffer.new.memory o off len c.args.few stored
