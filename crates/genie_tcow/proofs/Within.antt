-- An entry among those that a call speaks of.
use Rattle.std.proofs.Common.{◌≡◌, ℕ, ◌+◌, ◌<◌, ◌≤◌, true, false, refl, sym, ◌∙◌, arith, rules, inl, inr}
use Rattle.std.specs.Prelude.{◌==◌, ◌&&◌, nat_le, nat_lt}
use Rattle.std.proofs.lemmas.Bool.Decides.{nat_tests}
use Rattle.genie_object.specs.declared.memory.Memory.{Memory}
use Rattle.genie_object.specs.Touching.{Touches, is_entry, is_in_range}
use Rattle.genie_object.specs.Lemmas.Touching.{touches_more}
use Rattle.genie_tcow.proofs.Counting.{bool_or}

le_true : (a b : ℕ) → a ≤ b → nat_le a b ≡ true
le_true a b h = grind (arith, nat_tests)

lt_true : (a b : ℕ) → a < b → nat_lt a b ≡ true
lt_true a b h = grind (arith, nat_tests)

same_true : (o : ℕ) → (o == o) ≡ true
same_true o = grind (arith, rules)

pub own_entry : (o i : ℕ) → is_entry o i o i ≡ true
own_entry o i = rw (same_true o, same_true i) refl

pub within_spoken : (o i from n : ℕ) → (from ≤ i) × (i < from + n) → is_in_range o from n o i ≡ true
within_spoken o i from n h = rw (same_true o, le_true from i h.0, lt_true i (from + n) h.1) refl

both : (c d o i : ℕ) → ((c == o) && (d == i)) ≡ true → (c ≡ o) × (d ≡ i)
both c d o i t = grind (arith, rules)

-- a call that speaks of one entry speaks of the entries among which it is
pub touches_in : (o i from n : ℕ) (a b : Memory) → (from ≤ i) × (i < from + n) → Touches (is_entry o i) a b → Touches (is_in_range o from n) a b
touches_in o i from n a b h x = touches_more (is_entry o i) (is_in_range o from n) a b (λ c d out. elim (bool_or (is_entry o i c d)) [
  | inr f ↦ f
  | inl t ↦
      let same : (c ≡ o) × (d ≡ i) = both c d o i t in
      let bad : true ≡ false = sym (within_spoken o i from n h) ∙ (λ k. is_in_range o from n (sym same.0 k) (sym same.1 k)) ∙ out in cc
]) x

not_both : (c d o i : ℕ) → (d ≡ i → ⊥) → ((c == o) && (d == i)) ≡ false
not_both c d o i n = grind (arith, rules)

-- another entry of the object
pub other_entry : (o i k : ℕ) → (k ≡ i → ⊥) → is_entry o i o k ≡ false
other_entry o i k n = not_both o k o i n
