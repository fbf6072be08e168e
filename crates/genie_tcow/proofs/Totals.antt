-- What entries cost together, and what is left of the meters then.
use Rattle.std.proofs.Common.{◌^◌, mul-le-mul, ◌≡◌, ℕ, zero, suc, ◌+◌, ◌-◌, ◌*◌, ◌<◌, ◌≤◌, Bool, true, false, refl, arith, rules, subst, inl, inr}
use Rattle.std.specs.Prelude.{if◌then◌else◌}
use Rattle.std.proofs.lemmas.Bool.{cases_lt}
use Rattle.genie_frame.specs.declared.frame.Meters.{Meters}
use Rattle.genie_frame.specs.FrameTable.{FrameTable, IsShaped}
use Rattle.genie_object.specs.Costs.{AreBelow, Spends}
use Rattle.genie_object.specs.Lemmas.Spending.{spends_more, spends_on}
use Rattle.genie_tcow.specs.Costs.{total_work}

pub total_most : (cost : ℕ → ℕ) (p n : ℕ) → ((k : ℕ) → cost k ≤ p) → total_work cost n ≤ p * n
total_most cost p zero h = omega arith
total_most cost p (suc n) h = let d : p * suc n ≡ p * n + p = grind arith in omega (arith, d, total_most cost p n h, h n)

pub total_grow : (cost : ℕ → ℕ) (i n : ℕ) → i < n → total_work cost i + cost i ≤ total_work cost n
total_grow cost i zero l = absurd (omega (arith, l))
total_grow cost i (suc n) l = elim (cases_lt i n) [
  | inl h ↦ omega (arith, total_grow cost i n h)
  | inr h ↦ let e : n ≡ i = omega (arith, l, h) in subst (λ k. total_work cost k + cost k ≤ total_work cost (suc n)) e (omega arith)
]

-- a page is charged where a test passes
pub chosen_most : (b : Bool) (n : ℕ) → (if b then n else 0) ≤ n
chosen_most true n = omega arith
chosen_most false n = omega arith

pub chosen_less : (a b : Bool) (p q : ℕ) → q ≡ p → (a ≡ false → b ≡ false) → (if b then q else 0) ≤ (if a then p else 0)
chosen_less a false p q e h = omega arith
chosen_less true true p q e h = omega (arith, e)
chosen_less false true p q e h = let bad : true ≡ false = h refl in cc

pub spends_next : (work : ℕ → ℕ) (cost i : ℕ) (x y z : Meters) → Spends (work i) i 0 i x y → Spends cost 1 0 1 y z → work i + cost ≤ work (suc i) → Spends (work (i + 1)) (i + 1) 0 (i + 1) x z
spends_next work cost i x y z a b h =
    let next : suc i ≡ i + 1 = omega arith in
    let l : work i + cost ≤ work (i + 1) = subst (λ n. work i + cost ≤ work n) next h in
    spends_more _ _ _ _ _ _ _ _ x z (spends_on (work i) i 0 i cost 1 0 1 x y z a b) l (omega arith) (omega arith) (omega arith)

pub below_page : (page i n : ℕ) → page ≤ 4096 → i ≤ 65 → n ≤ page * i → n ≤ 4096 * 65
below_page page i n h l p = let b : page * i ≤ 4096 * 65 = mul-le-mul h l in omega (arith, b, p)

pub page_most : (t : FrameTable) → IsShaped t.page t.owners t.counts t.bytes → t.page ≤ 4096
page_most t s = grind (arith, rules, s.size)

pub below_then : (b i : ℕ) (u v : Meters) → AreBelow (2 ^ 64 - 2 ^ 21) u → Spends b i 0 i u v → b ≤ 4096 * 65 → i ≤ 65 → AreBelow (2 ^ 64 - 2 ^ 20) v
below_then b i u v a x h l = record {
  read = omega (arith, a.read, x.work, x.read, x.written, x.copied, x.zeroed);
  written = omega (arith, a.written, x.work, x.read, x.written, x.copied, x.zeroed);
  copied = omega (arith, a.copied, x.work, x.read, x.written, x.copied, x.zeroed);
  zeroed = omega (arith, a.zeroed, x.work, x.read, x.written, x.copied, x.zeroed);
  puts = omega (arith, a.puts, x.most_puts);
  gets = omega (arith, a.gets, x.most_gets);
  taken = omega (arith, a.taken, x.most_taken);
}
