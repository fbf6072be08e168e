-- What it costs to write in entries, one after another.
use Rattle.std.proofs.Common.{◌≡◌, ℕ, ◌≤◌, ◌+◌, ◌*◌, suc, zero, true, false, refl, arith, rules, inl, inr}
use Rattle.std.specs.Prelude.{IsTrue, if◌then◌else◌}
use Rattle.genie_base.specs.Counts.{is_page_size}
use Rattle.genie_base.specs.Lemmas.Places.{same_or}
use Rattle.genie_frame.specs.declared.frame.Meters.{Meters}
use Rattle.genie_object.specs.declared.memory.Memory.{Memory}
use Rattle.genie_object.specs.declared.pages.Place.{Place}
use Rattle.genie_object.specs.declared.pages.Place.TheVariants.{Zero, Frame, Slot}
use Rattle.genie_object.specs.Costs.{AreBelow, CostsNoMore, read_work, write_work, writes_work, slot_gets, is_untouched, must_copy}

-- an entry costs no more, where no entry does
pub writes_less : (old new : Memory) (o i : ℕ) → CostsNoMore old new → new.frames.page ≡ old.frames.page → write_work new o i ≤ write_work old o i
writes_less old new o i x e = elim (must_copy old o i) as (λ b. must_copy old o i ≡ b → write_work new o i ≤ write_work old o i) [
  | true ↦ λ h. rw h (elim (must_copy new o i) as (λ c. (if c then new.frames.page else 0) ≤ old.frames.page) [ true ↦ omega (arith, e) | false ↦ omega arith ])
  | false ↦ λ h. rw (x.write o i h) (omega arith)
] refl

-- a slot is got once at most
pub one_get : (place : Place) → slot_gets place ≤ 1
one_get Zero = omega arith
one_get (Frame f) = omega arith
one_get (Slot s) = omega arith

-- one entry more
pub writes_next : (m : Memory) (o first i k : ℕ) → k ≡ i + 1 → writes_work m o first k ≡ writes_work m o first i + write_work m o (first + i)
writes_next m o first i zero e = absurd (omega arith)
writes_next m o first i (suc k) e = let same : k ≡ i = omega arith in rw same refl

-- it costs a page at most to write in an entry
pub write_most : (m : Memory) (o i : ℕ) → write_work m o i ≤ m.frames.page
write_most m o i = elim (must_copy m o i) as (λ b. (if b then m.frames.page else 0) ≤ m.frames.page) [ true ↦ omega arith | false ↦ omega arith ]

pub read_most : (m : Memory) (o i : ℕ) → read_work m o i ≤ m.frames.page
read_most m o i = elim (is_untouched m o i) as (λ b. (if b then m.frames.page else 0) ≤ m.frames.page) [ true ↦ omega arith | false ↦ omega arith ]

pub writes_most : (m : Memory) (o first n : ℕ) → m.frames.page ≤ 4096 → writes_work m o first n ≤ 4096 * n
writes_most m o first zero l = omega arith
writes_most m o first (suc n) l = omega (arith, l, write_most m o (first + n), writes_most m o first n l)

pub writes_up : (m : Memory) (o first i n : ℕ) → i ≤ n → writes_work m o first i ≤ writes_work m o first n
writes_up m o first i zero l = let none : i ≡ 0 = omega arith in rw none (omega arith)
writes_up m o first i (suc n) l = elim (same_or i (suc n)) [
  | inl s ↦ rw s (omega arith)
  | inr k ↦ let rest : i ≤ n = omega (arith, l, k) in omega (arith, writes_up m o first i n rest)
]

pub below_more : (n k : ℕ) (x : Meters) → n ≤ k → AreBelow n x → AreBelow k x
below_more n k x l a = record { read = omega (arith, a.read, l); written = omega (arith, a.written, l); copied = omega (arith, a.copied, l); zeroed = omega (arith, a.zeroed, l); puts = omega (arith, a.puts, l); gets = omega (arith, a.gets, l); taken = omega (arith, a.taken, l) }

pub page_most : (page : ℕ) → IsTrue (is_page_size page) → page ≤ 4096
page_most page e = grind (arith, rules, e)
