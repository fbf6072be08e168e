-- The bytes and the pages of a range, counted piece by piece.
use Rattle.std.proofs.Common.{◌≡◌, ℕ, ◌<◌, ◌≤◌, ◌+◌, ◌-◌, ◌*◌, ◌/◌, ◌%◌, suc, zero, Bool, true, false, refl, sym, ap, subst, arith, rules, ◌∙◌, ⊎_elim, eqb-true}
use Rattle.std.specs.Prelude.{Option, Some, None, ◌==◌, ◌||◌, ◌&&◌, min, nat_le, nat_lt, if◌then◌else◌}
use Rattle.std.proofs.Math.Nat.{add-mul-div_right, div-add-mod, mod-lt}
use Rattle.std.proofs.lemmas.Bool.{cases_lt}
use Rattle.genie_base.specs.Counts.{span}
use Rattle.genie_frame.specs.FrameTable.{counts_at, is_held}
use Rattle.genie_finish.specs.Ranges.{piece_len, stored_works}
use Rattle.genie_finish.specs.Ready.{part_work, parts_work}
use Rattle.genie_finish.specs.Storing.{held_in, is_held_at, stored_work}
use Rattle.genie_finish.specs.Table.{end_work}
use Rattle.genie_object.specs.declared.memory.Memory.{Memory}
use Rattle.genie_object.specs.Costs.{must_copy, write_work}
use Rattle.genie_object.specs.Memory.{entry_frame}
use Rattle.genie_copying.specs.Kinds.{count_pages, is_fixed, is_weakly_held}
use Rattle.genie_copying.specs.Ranges.{part_pages}
use Rattle.genie_copying.specs.Lemmas.Costing.{fixed_copied}
use Rattle.genie_copying.specs.Lemmas.Counting.{bytes_fewer, bytes_next}
use Rattle.genie_arrivals.proofs.Readying.{span_moved}

-- to make pages ready costs no more than a page for each that can't be written in place
write_page : (m : Memory) (o i : ℕ) → write_work m o i ≡ (if is_fixed m o i then m.frames.page else 0)
write_page m o i = ap (λ (b : Bool). if b then m.frames.page else 0) (sym (fixed_copied m o i))

part_write : (m : Memory) (o i n : ℕ) → part_work m o i n ≤ write_work m o i
part_write m o i n = elim (nat_lt n m.frames.page) as (λ b. (if b then write_work m o i else 0) ≤ write_work m o i) [ true ↦ omega arith | false ↦ omega arith ]

pub parts_fixed : (m : Memory) (o i first len n : ℕ) → parts_work m o i first len n ≤ m.frames.page * count_pages (is_fixed m o) i n
parts_fixed m o i first len zero = omega arith
parts_fixed m o i first len (suc n) = omega (arith, bytes_next m.frames.page (is_fixed m o) i n, parts_fixed m o i first len n, part_write m o (i + n) (piece_len m.frames.page first len n), write_page m o (i + n))

-- and no more than before where no page has become dearer
write_less : (page : ℕ) (a b : Bool) → (b ≡ false → a ≡ false) → (if a then page else 0) ≤ (if b then page else 0)
write_less page a true h = elim a as (λ (x : Bool). (if x then page else 0) ≤ page) [ true ↦ omega arith | false ↦ omega arith ]
write_less page a false h = rw (h refl) (omega arith)

part_less : (x y : ℕ) (b : Bool) → x ≤ y → (if b then x else 0) ≤ (if b then y else 0)
part_less x y true l = l
part_less x y false l = omega arith

pub parts_less : (old new : Memory) (page o i first len n : ℕ) → old.frames.page ≡ page → new.frames.page ≡ page → ((j : ℕ) → must_copy old o j ≡ false → must_copy new o j ≡ false) → parts_work new o i first len n ≤ parts_work old o i first len n
parts_less old new page o i first len zero x y h = omega arith
parts_less old new page o i first len (suc n) x y h =
    let one : write_work new o (i + n) ≤ write_work old o (i + n) = subst (λ (z : ℕ). (if must_copy new o (i + n) then z else 0) ≤ write_work old o (i + n)) (x ∙ sym y) (write_less old.frames.page (must_copy new o (i + n)) (must_copy old o (i + n)) (h (i + n))) in
    let part : part_work new o (i + n) (piece_len new.frames.page first len n) ≤ part_work old o (i + n) (piece_len old.frames.page first len n) = subst (λ (z : ℕ). part_work new o (i + n) (piece_len new.frames.page first len n) ≤ (if nat_lt (piece_len z first len n) z then write_work old o (i + n) else 0)) (y ∙ sym x) (part_less (write_work new o (i + n)) (write_work old o (i + n)) (nat_lt (piece_len new.frames.page first len n) new.frames.page) one) in
    omega (arith, part, parts_less old new page o i first len n x y h)

-- where all parts are copied out, no more bytes are moved than are stored
moved_few : (page n few : ℕ) (h a b : Bool) → n ≤ page → (a ≡ false → page ≤ n) → b ≡ true → (if h || (a && b) then n else page - n) ≤ n
moved_few page n few true a b l x y = omega arith
moved_few page n few false true true l x y = omega arith
moved_few page n few false true false l x y = absurd (cc)
moved_few page n few false false b l x y = omega (arith, x refl)

work_few : (m : Memory) (o i n few : ℕ) → n ≤ m.frames.page → m.frames.page ≤ few → stored_work m o i n few ≤ n
work_few m o i n few l f = moved_few m.frames.page n few (is_held_at m o i) (nat_lt n m.frames.page) (nat_le n few) l (λ e. grind (arith, rules, e)) (let s : n ≤ few = omega (arith, l, f) in grind (arith, rules, s))

record Summed (page first len k sum : ℕ) : Type 0 where
  most : sum ≤ len
  before : sum ≤ page * k - first

works_summed : (m : Memory) (o i first len few k : ℕ) → m.frames.page ≤ few → Summed m.frames.page first len k (stored_works m o i first len few k)
works_summed m o i first len few zero f = record { most = omega arith; before = omega arith }
works_summed m o i first len few (suc k) f =
    let x = works_summed m o i first len few k f in
    let one = work_few m o (i + k) (piece_len m.frames.page first len k) few (omega arith) f in
    let more : m.frames.page * suc k ≡ m.frames.page * k + m.frames.page = grind arith in
    record { most = omega (arith, x.most, x.before, one); before = omega (arith, x.before, one, more) }

pub works_few : (m : Memory) (o i first len few k : ℕ) → m.frames.page ≤ few → stored_works m o i first len few k ≤ len
works_few m o i first len few k f = (works_summed m o i first len few k f).most

-- how many of the first n pages the range covers in part
abbrev pub parts : ℕ → ℕ → ℕ → ℕ → ℕ
parts page first len zero = 0
parts page first len (suc k) = parts page first len k + (if nat_lt (piece_len page first len k) page then 1 else 0)

one_more : (page n : ℕ) (b : Bool) → page * (n + (if b then 1 else 0)) ≡ page * n + (if b then page else 0)
one_more page n true = grind arith
one_more page n false = grind arith

pub end_most : (m : Memory) (o i first len n : ℕ) → end_work m o i first len n ≤ 2 * m.frames.page * parts m.frames.page first len n + m.frames.page * count_pages (is_held_at m o) i n
end_most m o i first len zero = omega arith
end_most m o i first len (suc n) =
    let more = one_more (2 * m.frames.page) (parts m.frames.page first len n) (nat_lt (piece_len m.frames.page first len n) m.frames.page) in
    omega (arith, more, bytes_next m.frames.page (is_held_at m o) i n, end_most m o i first len n)

-- pages from number A on, and below number B, are covered wholly
parts_below : (page first len A B n : ℕ) → ((k : ℕ) → A ≤ k → k < B → page ≤ piece_len page first len k) → parts page first len n + (min n B - A) ≤ n
parts_below page first len A B zero h = omega arith
parts_below page first len A B (suc k) h =
    let rest = parts_below page first len A B k h in
    let next : (b : Bool) → nat_lt (piece_len page first len k) page ≡ b → parts page first len k + (if b then 1 else 0) + (min (suc k) B - A) ≤ suc k = λ b. elim b as (λ z. nat_lt (piece_len page first len k) page ≡ z → parts page first len k + (if z then 1 else 0) + (min (suc k) B - A) ≤ suc k) [
      | true ↦ λ e. ⊎_elim
          (λ (low : k < A). omega (arith, rest, low))
          (λ (high : A ≤ k). ⊎_elim
          (λ (in_b : k < B). let whole = h k high in_b in let part : piece_len page first len k < page = grind (arith, rules, e) in absurd (omega (arith, whole, part)))
          (λ (out_b : B ≤ k). omega (arith, rest, out_b))
          (cases_lt k B))
          (cases_lt k A)
      | false ↦ λ e. omega (arith, rest)
    ] in
    next (nat_lt (piece_len page first len k) page) refl

whole_piece : (page a n k : ℕ) → 0 < page → (a + page - 1) / page - a / page ≤ k → k < (a + n) / page - a / page → page ≤ piece_len page (a % page) n k
whole_piece page a n k some low high =
    let q : ℕ = a / page in
    let up : (a / page + k) + 1 ≤ (a + n) / page = omega (arith, high) in
    let down : (a + page - 1) / page ≤ a / page + k = omega (arith, low) in
    let end = bytes_fewer page _ _ up in
    let start = bytes_fewer page _ _ down in
    let one : page * ((a / page + k) + 1) ≡ page * (a / page) + page * k + page = grind arith in
    let two : page * (a / page + k) ≡ page * (a / page) + page * k = grind arith in
    omega (arith, some, end, start, one, two, div-add-mod a page, div-add-mod (a + n) page, div-add-mod (a + page - 1) page, mod-lt (a + page - 1) some)

div_more : (x y page : ℕ) → 0 < page → x ≤ y → x / page ≤ y / page
div_more x y page some l = grind (arith, some, l)

div_next : (x page : ℕ) → 0 < page → (x + page) / page ≡ x / page + 1
div_next x page some = let one : x + 1 * page ≡ x + page = omega arith in ap (λ y. y / page) (sym one) ∙ add-mul-div_right x 1 some

last_within : (page a n : ℕ) → 0 < page → (a + n) / page - a / page ≤ span page a n
last_within page a n some = elim (n == 0) as (λ (b : Bool). (n == 0) ≡ b → (a + n) / page - a / page ≤ (if b then 0 else (a + n - 1) / page - a / page + 1)) [
  | true ↦ λ e. let none : n ≡ 0 = eqb-true n 0 e in let same : a + n ≡ a = omega (arith, none) in let div = ap (λ z. z / page) same in omega (arith, div)
  | false ↦ λ e.
      let more : 0 < n = grind (arith, rules, e) in
      let next = div_more (a + n) (a + n - 1 + page) page some (omega (arith, more, some)) in
      omega (arith, next, div_next (a + n - 1) page some)
] refl

pub parts_pages : (page a n : ℕ) → 0 < page → parts page (a % page) n (span page a n) ≤ part_pages page a n
parts_pages page a n some =
    let below = parts_below page (a % page) n ((a + page - 1) / page - a / page) ((a + n) / page - a / page) (span page a n) (λ k. whole_piece page a n k some) in
    omega (arith, below, last_within page a n some, div_more a (a + page - 1) page some (omega (arith, some)))

-- pages counted in a region are those of the address space
pub part_moved : (page a n s : ℕ) → 0 < page → s * page ≤ a → part_pages page (a - s * page) n ≡ part_pages page a n
part_moved page a n s some low =
    let x : ℕ = a - s * page in
    let end : (x + n) + s * page ≡ a + n = omega (arith, low) in
    let start : (x + page - 1) + s * page ≡ a + page - 1 = omega (arith, low, some) in
    let last : (a + n) / page ≡ (x + n) / page + s = ap (λ y. y / page) (sym end) ∙ add-mul-div_right (x + n) s some in
    let first : (a + page - 1) / page ≡ (x + page - 1) / page + s = ap (λ y. y / page) (sym start) ∙ add-mul-div_right (x + page - 1) s some in
    omega (arith, last, first, span_moved page a n s some low)

-- a page that a device holds
pub same_held : (m : Memory) (o i : ℕ) → is_held_at m o i ≡ is_weakly_held m o i
same_held m o i = of_frame (entry_frame m o i) where
  of_frame : (z : Option ℕ) → held_in m z ≡ (elim z [ None ↦ false | Some f ↦ is_held (counts_at m.frames f) ])
  of_frame None = refl
  of_frame (Some f) = refl
