-- What the ends of inputs on early devices copy.
use Rattle.std.proofs.Common.{◌≡◌, ℕ, ◌<◌, ◌≤◌, ◌+◌, ◌-◌, ◌*◌, ◌/◌, ◌%◌, suc, zero, Bool, true, false, List, length, refl, sym, ap, subst, arith, rules, ◌∙◌}
use Rattle.std.specs.Prelude.{Option, Some, None, find, ◌==◌, ◌||◌, ◌&&◌, nat_le, nat_lt, if◌then◌else◌}
use Rattle.std.proofs.Math.Nat.{div-add-mod}
use Rattle.genie_base.specs.Counts.{span}
use Rattle.genie_base.specs.Transfers.{class_of}
use Rattle.genie_base.specs.declared.config.DeviceConfig.{DeviceConfig}
use Rattle.genie_base.specs.declared.config.Kind.{Kind}
use Rattle.genie_base.specs.declared.config.Kind.TheVariants.{Early, Pooled, Outboard}
use Rattle.genie_base.specs.declared.event.Event.TheVariants as event
use Rattle.genie_base.specs.declared.reply.Note.{Note}
use Rattle.genie_base.specs.declared.reply.Reply.{Reply}
use Rattle.genie_base.specs.declared.reply.Reply.TheVariants as reply
use Rattle.genie_base.specs.declared.semantics.Class.TheVariants as class
use Rattle.genie_base.specs.declared.semantics.Direction.TheVariants.{Inward}
use Rattle.genie_base.specs.declared.semantics.Semantics.{Semantics}
use Rattle.genie_base.specs.declared.semantics.Semantics.TheVariants.{Copy, EmulatedCopy, Share, EmulatedShare, Move, EmulatedMove, WeakMove, EmulatedWeakMove}
use Rattle.genie_device.specs.Device.{DeviceView}
use Rattle.genie_frame.specs.FrameTable.{FrameTable}
use Rattle.genie_finish.specs.Ranges.{StoresRange, piece_len, stored_works}
use Rattle.genie_finish.specs.Storing.{held_in, is_held_at, stored_work}
use Rattle.genie_input.specs.Pools.{PoolState}
use Rattle.genie_object.specs.declared.memory.Memory.{Memory}
use Rattle.genie_object.specs.Costs.{work}
use Rattle.genie_object.specs.Leaving.{IsEmpty}
use Rattle.genie_object.specs.Memory.{frame_of}
use Rattle.genie_plan.specs.Loans.{Ended, Loan}
use Rattle.genie_model.specs.Pending.{is_early}
use Rattle.genie_model.specs.Tables.{entry}
use Rattle.genie_kernel.specs.declared.kernel.Kernel.{Kernel}
use Rattle.genie_kernel.specs.declared.transfer.Transfer.{Transfer}
use Rattle.genie_kernel.specs.Calls.{has_number}
use Rattle.genie_kernel.specs.Good.{IsGood}
use Rattle.genie_kernel.specs.Planned.{is_early_device}
use Rattle.genie_kernel.specs.Sizes.{IsEquipped}
use Rattle.genie_changes.specs.Ending.{IsGivenBack}
use Rattle.genie_copying.specs.Bounds.{KeepsToBound, begins_there, bound, end_bound, finish_bound, is_aligned, stored_bound}
use Rattle.genie_copying.specs.Spending.{CopiesAtMost}
use Rattle.genie_copying.specs.Lemmas.Counting.{bytes_fewer}
use Rattle.genie_arrivals.specs.Cases.{IsInputOf}
use Rattle.genie_arrivals.specs.Clearing.{ClearsObject}
use Rattle.genie_arrivals.specs.EarlyCosts.{store_work}

-- an end that moves no byte keeps to every bound
pub alone_keeps : (old new : Kernel) (n : ℕ) (r : Reply) → new.memory.frames.meters ≡ old.memory.frames.meters → KeepsToBound old (event.Finish n) new r
alone_keeps old new n r e = let same = ap work e in omega (arith, same)

-- and so does one that gives its buffer back
pub back_keeps : (old : Kernel) (F : FrameTable) (n : ℕ) (r : Reply) (t : Transfer) → IsGivenBack t old.memory.frames F → work F.meters ≤ work old.memory.frames.meters + bound old (event.Finish n) r
back_keeps old F n r t back = let same = ap work (back.loans.meters ∙ back.wires.only.meters) in omega (arith, same)

-- a buffer is stored, and the loans of its other frames end
pub copies_stored : (old mid : Memory) (F : FrameTable) (o off len few : ℕ) (frames : List ℕ) (loans : List Loan) → length frames ≡ span old.frames.page off len → StoresRange old mid o off len few frames → Ended loans mid.frames F → work F.meters ≤ work old.frames.meters + store_work old o off len few
copies_stored old mid F o off len few frames loans number x ended =
    let same = ap work ended.meters in
    let all = ap (λ (z : ℕ). stored_works old o (off / old.frames.page) (off % old.frames.page) len few z) number in
    omega (arith, same, all, x.spends.work)

-- in an object without pages only the last page is zeroed, behind what is stored
empty_unheld : (m : Memory) (o i : ℕ) → IsEmpty m o i → is_held_at m o i ≡ false
empty_unheld m o i e = ap (λ p. held_in m (frame_of m.pages.pages p)) e

few_rest : (page n : ℕ) (h a b : Bool) → h ≡ false → (b ≡ true → n ≤ 0) → (if h || (a && b) then n else page - n) ≤ page - n
few_rest page n true a b e z = absurd (cc)
few_rest page n false true true e z = omega (arith, z refl)
few_rest page n false true false e z = omega arith
few_rest page n false false b e z = omega arith

rest_most : (m : Memory) (o i n : ℕ) → IsEmpty m o i → stored_work m o i n 0 ≤ m.frames.page - n
rest_most m o i n e = few_rest m.frames.page n (is_held_at m o i) (nat_lt n m.frames.page) (nat_le n 0) (empty_unheld m o i e) (λ t. grind (arith, rules, t))

empty_none : (m : Memory) (o i first len k : ℕ) → first ≡ 0 → ((j : ℕ) → IsEmpty m o j) → m.frames.page * k ≤ len → stored_works m o i first len 0 k ≤ 0
empty_none m o i first len zero z h l = omega arith
empty_none m o i first len (suc k) z h l =
    let more : m.frames.page * suc k ≡ m.frames.page * k + m.frames.page = grind arith in
    omega (arith, more, l, z, rest_most m o (i + k) (piece_len m.frames.page first len k) (h (i + k)), empty_none m o i first len k z h (omega (arith, more, l)))

empty_most : (m : Memory) (o i first len n : ℕ) → first ≡ 0 → ((j : ℕ) → IsEmpty m o j) → m.frames.page * (n - 1) ≤ len → stored_works m o i first len 0 n ≤ m.frames.page
empty_most m o i first len zero z h l = omega arith
empty_most m o i first len (suc k) z h l =
    let one : suc k - 1 ≡ k = omega arith in
    omega (arith, rest_most m o (i + k) (piece_len m.frames.page first len k) (h (i + k)), empty_none m o i first len k z h (subst (λ (x : ℕ). m.frames.page * x ≤ len) one l))

span_low : (page len : ℕ) → 0 < page → page * (span page 0 len - 1) ≤ len
span_low page len some = elim (len == 0) as (λ (b : Bool). page * ((if b then 0 else (0 + len - 1) / page - 0 / page + 1) - 1) ≤ len) [
  | true ↦ (let none : page * (0 - 1) ≡ 0 = grind arith in omega (arith, none))
  | false ↦ (
      let fewer : (0 + len - 1) / page - 0 / page + 1 - 1 ≤ (0 + len - 1) / page = omega arith in
      omega (arith, bytes_fewer page _ _ fewer, div-add-mod (0 + len - 1) page))
]

pub fill_copies : (old clear new : Memory) (o len : ℕ) → ClearsObject old clear o → CopiesAtMost (store_work clear o 0 len 0) clear new → CopiesAtMost old.frames.page old new
fill_copies old clear new o len x c =
    let frames = x.empties.frames in
    let page : clear.frames.page ≡ old.frames.page = ap (λ (f : FrameTable). f.page) frames in
    let same : work clear.frames.meters ≡ work old.frames.meters = ap (λ (f : FrameTable). work f.meters) frames in
    let size = x.empties.sound.shaped.size in
    let some : 0 < clear.frames.page = grind (arith, rules, size) in
    let none : 0 % clear.frames.page ≡ 0 = omega (arith, div-add-mod 0 clear.frames.page) in
    let most = empty_most clear o (0 / clear.frames.page) (0 % clear.frames.page) len (span clear.frames.page 0 len) none x.empty (span_low clear.frames.page len some) in
    omega (arith, page, same, most, c)

-- what is left after a change of regions alone
pub copies_same : (bytes : ℕ) (old mid new : Memory) → new.frames.meters ≡ mid.frames.meters → CopiesAtMost bytes old mid → CopiesAtMost bytes old new
copies_same bytes old mid new e c = let same = ap work e in omega (arith, same, c)

-- the buffers of an early device begin anywhere
early_begins : (kind : Kind) (offset place : ℕ) → is_early kind ≡ true → begins_there kind offset place ≡ true
early_begins Early offset place e = refl
early_begins Pooled offset place e = absurd (cc)
early_begins Outboard offset place e = absurd (cc)

aligned_with : (page place : ℕ) (c : Option DeviceConfig) (v : Option DeviceView) (p : Option PoolState) → IsEquipped page c v p → is_early_device v ≡ true → (elim c [ None ↦ true | Some device ↦ begins_there device.kind device.offset place ]) ≡ true
aligned_with page place None v p x e = refl
aligned_with page place (Some c) None p x e = absurd (cc)
aligned_with page place (Some c) (Some v) p x e = early_begins c.kind c.offset place (ap (λ (z : DeviceConfig). is_early z.kind) (sym x.0.config) ∙ e)

pub early_aligned : (k : Kernel) (d place : ℕ) → IsGood k → is_early_device (entry k.devices d) ≡ true → is_aligned k.config d place ≡ true
early_aligned k d place g e = aligned_with k.config.page place (entry k.config.devices d) (entry k.devices d) (entry k.pools d) (g.equipped.each d) e

-- the bound of a process's input
pub input_bound : (k : Kernel) (n p : ℕ) (t : Transfer) (at : Option ℕ) (s : ℕ) (note : Note) → find (has_number n) k.transfers ≡ Some t → t.dir ≡ Inward → t.owner ≡ Some p → bound k (event.Finish n) (reply.Input at s note) ≡ stored_bound k p t t.sem
input_bound k n p t at s note found inward owner = ap (finish_bound k) found ∙ (λ i. end_bound k t (inward i) (owner i))

pub fault_bound : (k : Kernel) (n p : ℕ) (t : Transfer) → find (has_number n) k.transfers ≡ Some t → t.dir ≡ Inward → t.owner ≡ Some p → bound k (event.Finish n) reply.StoreFault ≡ stored_bound k p t t.sem
fault_bound k n p t found inward owner = ap (finish_bound k) found ∙ (λ i. end_bound k t (inward i) (owner i))

pub move_row : (k : Kernel) (p : ℕ) (t : Transfer) (sem : Semantics) → class_of sem ≡ class.Move → is_aligned k.config t.dev 0 ≡ true → stored_bound k p t sem ≡ k.config.page
move_row k p t Copy c a = cc
move_row k p t EmulatedCopy c a = cc
move_row k p t Share c a = cc
move_row k p t EmulatedShare c a = cc
move_row k p t Move c a = ap (λ (b : Bool). if b then k.config.page else t.stored + k.config.page) a
move_row k p t EmulatedMove c a = ap (λ (b : Bool). if b then k.config.page else t.stored + k.config.page) a
move_row k p t WeakMove c a = cc
move_row k p t EmulatedWeakMove c a = cc

-- a move zeroes at most a page
pub move_keeps : (k new : Kernel) (n p : ℕ) (t : Transfer) (at : Option ℕ) (s : ℕ) (note : Note) → IsGood k → find (has_number n) k.transfers ≡ Some t → IsInputOf class.Move k.devices t → t.owner ≡ Some p → CopiesAtMost k.memory.frames.page k.memory new.memory → KeepsToBound k (event.Finish n) new (reply.Input at s note)
move_keeps k new n p t at s note g found is owner c =
    let row = input_bound k n p t at s note found is.inward owner ∙ move_row k p t t.sem is.class_is (early_aligned k t.dev 0 g is.early) in
    omega (arith, row, g.sized.page, c)
