-- How far the meters rise where an input ends.
use Rattle.std.proofs.Common.{◌≡◌, ℕ, ◌+◌, ◌-◌, ◌*◌, ◌/◌, ◌%◌, ◌^◌, ◌≤◌, zero, suc, true, false, List, sym, ap, subst, arith, ◌∙◌, length}
use Rattle.std.specs.Prelude.{if◌then◌else◌}
use Rattle.genie_finish.specs.Ranges.{StoresRange, piece_len, stored_works}
use Rattle.genie_finish.specs.Ready.{parts_work}
use Rattle.genie_finish.specs.Storing.{is_copied, stored_work}
use Rattle.genie_frame.specs.FrameTable.{FrameTable}
use Rattle.genie_object.specs.declared.memory.Memory.{Memory}
use Rattle.genie_object.specs.Costs.{AreBelow, Spends}
use Rattle.genie_object.specs.Lemmas.Works.{below_more}
use Rattle.genie_plan.specs.Buffers.{AreLentFresh}
use Rattle.genie_plan.specs.Loans.{Ended, Loan}
use Rattle.genie_plan.specs.Plans.{OnlyRange}
use Rattle.genie_frame.specs.declared.frame.Owner.{Owner}
use Rattle.genie_kernel.specs.declared.transfer.Transfer.{Transfer}
use Rattle.genie_kernel.specs.Rising.{MetersRise, NoneFell}
use Rattle.genie_kernel.specs.Lemmas.Rising.{none_fell, rises_left, rises_moved, rises_twice}
use Rattle.genie_changes.specs.Ending.{IsGivenBack}
use Rattle.genie_arrivals.proofs.Readying.{works_most}

work_most : (m : Memory) (o i n few : ℕ) → n ≤ m.frames.page → stored_work m o i n few ≤ m.frames.page
work_most m o i n few l = elim (is_copied m o i n few) as (λ b. (if b then n else m.frames.page - n) ≤ m.frames.page) [ true ↦ l | false ↦ omega arith ]

range_most : (m : Memory) (o i first len few k : ℕ) → m.frames.page ≤ 4096 → stored_works m o i first len few k ≤ 4096 * k
range_most m o i first len few zero l = omega arith
range_most m o i first len few (suc k) l = omega (arith, l, work_most m o (i + k) (piece_len m.frames.page first len k) few (omega arith), range_most m o i first len few k l)

-- a buffer is stored, and the loans of its other frames end
pub rises_stored : (old mid : Memory) (F : FrameTable) (o off len few : ℕ) (frames : List ℕ) (loans : List Loan) → old.frames.page ≤ 4096 → length frames ≤ 65 → StoresRange old mid o off len few frames → Ended loans mid.frames F → MetersRise (2 ^ 20) old.frames F
rises_stored old mid F o off len few frames loans page most x ended =
    let work = range_most old o (off / old.frames.page) (off % old.frames.page) len few (length frames) page in
    rises_left (2 ^ 20) old.frames mid.frames F ended.meters ended.landed (rises_moved (stored_works old o (off / old.frames.page) (off % old.frames.page) len few (length frames)) 0 0 0 (2 ^ 20) old.frames mid.frames x.spends x.landed (omega (arith, work, most)))

-- pages are made ready behind calls that counted so much
pub rises_ready : (a : FrameTable) (m new : Memory) (o i first len n : ℕ) → m.frames.page ≤ 4096 → n ≤ 65 → MetersRise (2 ^ 20) a m.frames → Spends (parts_work m o i first len n) n 0 n m.frames.meters new.frames.meters → new.frames.landed ≡ m.frames.landed → MetersRise (2 ^ 22) a new.frames
rises_ready a m new o i first len n page most x spends landed =
    let all : m.frames.page * n ≤ 4096 * 65 = grind (arith, most, page) in
    let work = works_most m o i first len n in
    rises_twice (2 ^ 20) (2 ^ 20) (2 ^ 22) a m.frames new.frames (omega arith) x (rises_moved (parts_work m o i first len n) n 0 n (2 ^ 20) m.frames new.frames spends landed (omega (arith, all, work, most)))

-- so many bytes are copied
pub rises_copied : (len k : ℕ) (old new : FrameTable) → len ≤ k → new.meters ≡ record (old.meters) { copied = old.meters.copied + len } → new.landed ≡ old.landed → MetersRise k old new
rises_copied len k old new most meters landed = record {
  low = subst (NoneFell old.meters) (sym meters) (record { read = omega arith; written = omega arith; copied = omega arith; zeroed = omega arith; puts = omega arith; gets = omega arith; taken = omega arith });
  meters = λ n a. subst (AreBelow (n + k)) (sym meters) (record { read = omega (arith, a.read); written = omega (arith, a.written); copied = omega (arith, a.copied, most); zeroed = omega (arith, a.zeroed); puts = omega (arith, a.puts); gets = omega (arith, a.gets); taken = omega (arith, a.taken) });
  landed = omega (arith, landed);
}

-- fresh frames are lent, and so many bytes land in them
pub rises_landed : (owner : Owner) (frames : List ℕ) (first len n k : ℕ) (old mid new : FrameTable) → length frames ≤ k → n ≤ k → AreLentFresh owner frames old mid → OnlyRange frames first len mid new → new.landed ≤ mid.landed + n → MetersRise k old new
rises_landed owner frames first len n k old mid new some most x only lands = record {
  low = subst (NoneFell old.meters) (sym (only.meters ∙ x.meters)) (record { read = omega arith; written = omega arith; copied = omega arith; zeroed = omega arith; puts = omega arith; gets = omega arith; taken = omega arith });
  meters = λ b a. subst (AreBelow (b + k)) (sym (only.meters ∙ x.meters)) (record { read = omega (arith, a.read); written = omega (arith, a.written); copied = omega (arith, a.copied); zeroed = omega (arith, a.zeroed); puts = omega (arith, a.puts); gets = omega (arith, a.gets); taken = omega (arith, a.taken, some) });
  landed = omega (arith, lands, x.landed, most);
}

-- the end of loans and wires counts nothing
pub rises_back : (k : ℕ) (t : Transfer) (a old new : FrameTable) → MetersRise k a old → IsGivenBack t old new → MetersRise k a new
rises_back k t a old new x back = rises_left k a old new (back.loans.meters ∙ back.wires.only.meters) (back.loans.landed ∙ back.wires.only.landed) x

-- nor does a change of owners alone
pub rises_owners : (k : ℕ) (old mid new : FrameTable) → mid ≡ record old { owners = mid.owners } → MetersRise k mid new → MetersRise k old new
rises_owners k old mid new only x = record {
  low = subst (λ m. NoneFell m new.meters) (ap (λ (f : FrameTable). f.meters) only) x.low;
  meters = λ n below. x.meters n (subst (AreBelow n) (sym (ap (λ (f : FrameTable). f.meters) only)) below);
  landed = (let same = ap (λ (f : FrameTable). f.landed) only in omega (arith, x.landed, same));
}

-- so many bytes land
pub rises_lands : (n k : ℕ) (old new : FrameTable) → n ≤ k → new.meters ≡ old.meters → new.landed ≤ old.landed + n → MetersRise k old new
rises_lands n k old new most meters lands = record {
  low = none_fell old.meters new.meters meters;
  meters = λ b below. below_more b (b + k) new.meters (omega arith) (subst (AreBelow b) (sym meters) below);
  landed = omega (arith, lands, most);
}
