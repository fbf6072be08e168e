-- What the ends of inputs on outboard devices copy.
use Rattle.std.proofs.Common.{◌≡◌, ℕ, ◌+◌, ◌-◌, ◌<◌, ◌/◌, ◌%◌, suc, zero, Bool, true, false, List, refl, sym, ap, subst, arith, ◌∙◌, find}
use Rattle.std.specs.Prelude.{Option, Some, None, IsSome, ◌||◌, ◌&&◌, nat_le, nat_lt, if◌then◌else◌}
use Rattle.genie_base.specs.Counts.{span}
use Rattle.genie_base.specs.Transfers.{class_of}
use Rattle.genie_base.specs.declared.config.DeviceConfig.{DeviceConfig}
use Rattle.genie_base.specs.declared.config.Kind.{Kind}
use Rattle.genie_base.specs.declared.config.Kind.TheVariants.{Early, Pooled, Outboard}
use Rattle.genie_base.specs.declared.event.Event.TheVariants as event
use Rattle.genie_base.specs.declared.reply.Note.{Note}
use Rattle.genie_base.specs.declared.reply.Reply.TheVariants as reply
use Rattle.genie_base.specs.declared.semantics.Class.TheVariants as class
use Rattle.genie_base.specs.declared.semantics.Direction.TheVariants.{Inward}
use Rattle.genie_device.specs.Device.{DeviceView}
use Rattle.genie_frame.specs.declared.frame.Owner.{Owner}
use Rattle.genie_frame.specs.declared.frame.Owner.TheVariants.{Free, Page}
use Rattle.genie_frame.specs.FrameTable.{FrameTable, counts_at, is_held, owner_at}
use Rattle.genie_finish.specs.Ranges.{piece_len, stored_works}
use Rattle.genie_finish.specs.Storing.{is_held_at, held_in, stored_work}
use Rattle.genie_input.specs.Pools.{PoolState}
use Rattle.genie_object.specs.Costs.{work}
use Rattle.genie_object.specs.Memory.{entry_frame}
use Rattle.genie_object.specs.Sound.{IsSound}
use Rattle.genie_object.specs.declared.memory.Memory.{Memory}
use Rattle.genie_plan.specs.Buffers.{AreLentFresh}
use Rattle.genie_plan.specs.Plans.{times}
use Rattle.genie_plan.specs.Lemmas.Landings.{page_in}
use Rattle.genie_model.specs.Tables.{entry}
use Rattle.genie_kernel.specs.declared.kernel.Kernel.{Kernel}
use Rattle.genie_kernel.specs.declared.transfer.Transfer.{Transfer}
use Rattle.genie_kernel.specs.Calls.{has_number}
use Rattle.genie_kernel.specs.Good.{IsGood}
use Rattle.genie_kernel.specs.Sizes.{IsEquipped}
use Rattle.genie_kernel.specs.Transfers.{is_outboard_device}
use Rattle.genie_model.specs.Pending.{is_outboard}
use Rattle.genie_changes.specs.Ending.{IsGivenBack}
use Rattle.genie_copying.specs.Bounds.{KeepsToBound, begins_there, is_aligned}
use Rattle.genie_copying.specs.Spending.{CopiesAtMost}
use Rattle.genie_arrivals.specs.Clearing.{ClearsObject}
use Rattle.genie_arrivals.specs.EarlyCosts.{store_work}
use Rattle.genie_arrivals.proofs.EarlyCosts.{fill_copies, input_bound, move_row}

-- bytes that are stored through fresh frames cost what they cost before the frames were lent
module _ (m : Memory) (a u : FrameTable) (owner : Owner) (fs : List ℕ) (s : IsSound m) (fresh : AreLentFresh owner fs m.frames a) (counts : u.counts ≡ a.counts) (page : u.page ≡ a.page) (meters : u.meters ≡ a.meters) where
  abbrev landed : Memory
  landed = record m { frames = u }

  none_on : (n : ℕ) → (0 < n → ⊥) → n ≡ 0
  none_on zero h = refl
  none_on (suc n) h = absurd (h (omega arith))

  same_counts : (f p : ℕ) → owner_at m.frames f ≡ Page p → is_held (counts_at u f) ≡ is_held (counts_at m.frames f)
  same_counts f p own =
      let none : times fs f ≡ 0 = none_on (times fs f) (λ l. let clash : Page p ≡ Free = sym own ∙ fresh.were_free f l in cc) in
      let at : counts_at u f ≡ counts_at a f = ap (λ cs. counts_at (record a { counts = cs }) f) counts in
      ap is_held at ∙ ap is_held (fresh.counts f) ∙ ap (λ n. is_held (record (counts_at m.frames f) { input = (counts_at m.frames f).input + n })) none ∙ ap is_held (plus_none (counts_at m.frames f).input f)
    where
      plus_none : (n f : ℕ) → record (counts_at m.frames f) { input = (counts_at m.frames f).input + 0 } ≡ counts_at m.frames f
      plus_none n f = let e : (counts_at m.frames f).input + 0 ≡ (counts_at m.frames f).input = omega arith in ap (λ k. record (counts_at m.frames f) { input = k }) e

  same_held : (o i : ℕ) → is_held_at landed o i ≡ is_held_at m o i
  same_held o i = by_frame (entry_frame m o i) refl
    where
      by_frame : (x : Option ℕ) → entry_frame m o i ≡ x → held_in landed x ≡ held_in m x
      by_frame None e = refl
      by_frame (Some f) e = let y = page_in m o i f e in same_counts f y.number.0 (s.placed.in_frame y.number.0 (record { 0 = f }) y.is_place)

  same_page : u.page ≡ m.frames.page
  same_page = page ∙ fresh.page

  same_work : (o i n few : ℕ) → stored_work landed o i n few ≡ stored_work m o i n few
  same_work o i n few = ap (λ (h : Bool). if h || (nat_lt n u.page && nat_le n few) then n else u.page - n) (same_held o i) ∙ ap (λ (p : ℕ). if is_held_at m o i || (nat_lt n p && nat_le n few) then n else p - n) same_page

  same_works : (o i first len few k : ℕ) → stored_works landed o i first len few k ≡ stored_works m o i first len few k
  same_works o i first len few zero = refl
  same_works o i first len few (suc k) =
      let rest = same_works o i first len few k in
      let piece : stored_work landed o (i + k) (piece_len u.page first len k) few ≡ stored_work m o (i + k) (piece_len m.frames.page first len k) few = same_work o (i + k) (piece_len u.page first len k) few ∙ ap (λ (p : ℕ). stored_work m o (i + k) (piece_len p first len k) few) same_page in
      omega (arith, rest, piece)

  pub bytes_copies : (new : Memory) (o off len few : ℕ) → CopiesAtMost (store_work landed o off len few) landed new → CopiesAtMost (store_work m o off len few) m new
  bytes_copies new o off len few c =
      let all : store_work landed o off len few ≡ store_work m o off len few = same_works o (off / u.page) (off % u.page) len few (span u.page off len) ∙ ap (λ (p : ℕ). stored_works m o (off / p) (off % p) len few (span p off len)) same_page in
      let before : work u.meters ≡ work m.frames.meters = ap work meters ∙ ap work fresh.meters in
      omega (arith, c, all, before)

-- and so it is of an object that was emptied
pub fill_copies_at : (old clear new : Memory) (o off len : ℕ) → off ≡ 0 → ClearsObject old clear o → CopiesAtMost (store_work clear o off len 0) clear new → CopiesAtMost old.frames.page old new
fill_copies_at old clear new o off len start x c = fill_copies old clear new o len x (subst (λ (z : ℕ). CopiesAtMost (store_work clear o z len 0) clear new) start c)

-- an outboard device's buffers begin anywhere
outboard_begins : (kind : Kind) (offset place : ℕ) → is_outboard kind ≡ true → begins_there kind offset place ≡ true
outboard_begins Early offset place e = refl
outboard_begins Pooled offset place e = absurd (cc)
outboard_begins Outboard offset place e = refl

aligned_with : (page place : ℕ) (c : Option DeviceConfig) (v : Option DeviceView) (p : Option PoolState) → IsEquipped page c v p → is_outboard_device v ≡ true → (elim c [ None ↦ true | Some device ↦ begins_there device.kind device.offset place ]) ≡ true
aligned_with page place None v p x e = refl
aligned_with page place (Some c) None p x e = absurd (cc)
aligned_with page place (Some c) (Some v) p x e = outboard_begins c.kind c.offset place (ap (λ (z : DeviceConfig). is_outboard z.kind) (sym x.0.config) ∙ e)

pub outboard_aligned : (k : Kernel) (d place : ℕ) → IsGood k → is_outboard_device (entry k.devices d) ≡ true → is_aligned k.config d place ≡ true
outboard_aligned k d place g e = aligned_with k.config.page place (entry k.config.devices d) (entry k.devices d) (entry k.pools d) (g.equipped.each d) e

some_owner : (o : Option ℕ) → IsSome o → (p : ℕ) × (o ≡ Some p)
some_owner None h = let clash : false ≡ true = h in absurd (cc)
some_owner (Some p) h = (p, refl)

-- a move zeroes at most a page
pub move_keeps_there : (k new : Kernel) (n : ℕ) (t : Transfer) (at : Option ℕ) (s : ℕ) (note : Note) → IsGood k → find (has_number n) k.transfers ≡ Some t → t.dir ≡ Inward → class_of t.sem ≡ class.Move → is_outboard_device (entry k.devices t.dev) ≡ true → IsSome t.owner → CopiesAtMost k.memory.frames.page k.memory new.memory → KeepsToBound k (event.Finish n) new (reply.Input at s note)
move_keeps_there k new n t at s note g found inward class_is outboard owned c =
    let owner = some_owner t.owner owned in
    let row = input_bound k n owner.0 t at s note found inward owner.1 ∙ move_row k owner.0 t t.sem class_is (outboard_aligned k t.dev 0 g outboard) in
    omega (arith, row, g.sized.page, c)

-- where the store fails no byte was moved
pub fault_none : (k new : Kernel) (n : ℕ) → CopiesAtMost 0 k.memory new.memory → KeepsToBound k (event.Finish n) new reply.StoreFault
fault_none k new n none = omega (arith, none)

-- what is left once loans were given back
pub back_copies : (bytes : ℕ) (old m new : Memory) (t : Transfer) → IsGivenBack t m.frames new.frames → CopiesAtMost bytes old m → CopiesAtMost bytes old new
back_copies bytes old m new t back c = let same = ap work (back.loans.meters ∙ back.wires.only.meters) in omega (arith, same, c)

pub copies_on : (bytes : ℕ) (a b c : Memory) → CopiesAtMost 0 a b → CopiesAtMost bytes b c → CopiesAtMost bytes a c
copies_on bytes a b c x y = omega (arith, x, y)
