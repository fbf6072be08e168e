-- What the end of an input costs at most.
use Rattle.std.proofs.Common.{◌≡◌, ℕ, zero, suc, ◌+◌, ◌-◌, ◌*◌, ◌<◌, ◌≤◌, Bool, true, false, refl, ap, sym, ◌∙◌, arith, rules, subst}
use Rattle.std.specs.Prelude.{◌&&◌, ◌||◌, nat_lt, nat_le, if◌then◌else◌}
use Rattle.std.proofs.lemmas.Bool.Decides.{nat_tests}
use Rattle.genie_object.specs.declared.memory.Memory.{Memory}
use Rattle.genie_object.specs.Costs.{write_work}
use Rattle.genie_object.specs.Lemmas.Works.{write_most}
use Rattle.genie_finish.specs.Storing.{is_held_at, is_copied, stored_work}
use Rattle.genie_finish.specs.Ranges.{piece_len}
use Rattle.genie_finish.specs.Ready.{part_work}
use Rattle.genie_finish.specs.Table.{EndsCostLittle}

part_less : (m : Memory) (o i n : ℕ) → part_work m o i n ≤ (if nat_lt n m.frames.page then m.frames.page else 0)
part_less m o i n = chosen (nat_lt n m.frames.page)
  where
    chosen : (b : Bool) → (if b then write_work m o i else 0) ≤ (if b then m.frames.page else 0)
    chosen true = write_most m o i
    chosen false = omega arith

-- by whether a device holds the page, the bytes are a part, and they are few
work_num : (page n : ℕ) (held part few : Bool) → n ≤ page → (part ≡ false → page ≤ n) → (if held || (part && few) then n else page - n) ≤ (if part then page else 0) + (if held then page else 0)
work_num page n true true few l h = omega (arith, l)
work_num page n true false few l h = omega (arith, l)
work_num page n false true true l h = omega (arith, l)
work_num page n false true false l h = omega (arith, l)
work_num page n false false few l h = let w = h refl in omega (arith, w)

not_less : (n page : ℕ) → nat_lt n page ≡ false → page ≤ n
not_less n page e = grind (arith, nat_tests, e)

two_pages : (b : Bool) (page : ℕ) → (if b then page else 0) + (if b then page else 0) ≤ (if b then 2 * page else 0)
two_pages true page = omega arith
two_pages false page = omega arith

pub ends_cost_little : EndsCostLittle
ends_cost_little old now o i first len few zero e = omega arith
ends_cost_little old now o i first len few (suc k) e =
    let p = now.frames.page in
    let n = piece_len p first len k in
    let before = ends_cost_little old now o i first len few k e in
    let ready : part_work old o (i + k) (piece_len old.frames.page first len k) ≤ (if nat_lt n p then p else 0) = subst (λ q. part_work old o (i + k) (piece_len old.frames.page first len k) ≤ (if nat_lt (piece_len q first len k) q then q else 0)) (sym e) (part_less old o (i + k) (piece_len old.frames.page first len k)) in
    let stored : stored_work now o (i + k) n few ≤ (if nat_lt n p then p else 0) + (if is_held_at now o (i + k) then p else 0) = work_num p n (is_held_at now o (i + k)) (nat_lt n p) (nat_le n few) (omega arith) (not_less n p) in
    omega (arith, before, ready, stored, two_pages (nat_lt n p) p)
