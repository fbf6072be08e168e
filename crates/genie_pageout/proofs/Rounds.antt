-- Rounds of the clock.
use Rattle.std.proofs.Common.{◌≡◌, ℕ, ◌<◌, ◌≤◌, ◌+◌, ◌-◌, Bool, false, arith, ap, sym, ◌∙◌, inl, inr, subst}
use Rattle.std.specs.Prelude.{◌⊎◌, nat_lt, nat_le, if◌then◌else◌, length}
use Rattle.std.proofs.lemmas.Bool.{cases_lt}
use Rattle.genie_object.specs.declared.memory.Memory.{Memory}
use Rattle.genie_pageout.specs.Rounds.{start, round_place, GoesRound, Passes}

pub set_on : (from f clock : ℕ) → from ≤ f → f + 1 ≡ (if nat_lt from (f + 1) then f + 1 else clock)
set_on from f clock l = grind arith

stood : (n place clock at : ℕ) → place ≤ at → at ≤ n → (if nat_lt 0 (at - place) then (if nat_le (place + (at - place)) n then place + (at - place) else place + (at - place) - n) else clock) ≡ (if nat_lt place at then at else clock)
stood n place clock at l m = grind arith

stood_past : (n place clock at : ℕ) → place ≤ n → 0 < at → at ≤ n → (if nat_lt 0 (n - place + at) then (if nat_le (place + (n - place + at)) n then place + (n - place + at) else place + (n - place + at) - n) else clock) ≡ at
stood_past n place clock at l m h = grind arith

-- the frames of a round up to a place that isn't past the last frame
inside : (n from at f : ℕ) → from ≤ at → at ≤ n → round_place n from f < at - from → (from ≤ f) × (f < at)
inside n from at f l m h = grind arith

outside : (n from at f : ℕ) → from ≤ n → f < n → round_place n from f < n - from + at → (from ≤ f) ⊎ (f < at)
outside n from at f l m h = grind arith

-- the first range of a round was left with enough done
early : (p q : ℕ → Bool) (old m new : Memory) (n clock mid after at : ℕ) → start n clock ≤ at → at ≤ n → mid ≡ (if nat_lt (start n clock) at then at else clock) → after ≡ mid → ((f : ℕ) → start n clock ≤ f → f < at → q f ≡ false) → new.frames.meters.puts + start n clock ≤ old.frames.meters.puts + at → GoesRound q n old new clock after
early p q old m new n clock mid after at l h e d x y = record {
  passed = at - start n clock;
  most = omega (arith, l, h);
  place = d ∙ e ∙ sym (stood n (start n clock) clock at l h);
  gone = λ f k w. let s = inside n (start n clock) at f l h w in x f s.0 s.1;
  puts = omega (arith, l, y);
}

-- it was passed whole, and frames of the second range too
late : (q : ℕ → Bool) (old new : Memory) (n clock at : ℕ) → start n clock ≤ n → 0 < at → at ≤ start n clock → ((f : ℕ) → start n clock ≤ f → f < n → q f ≡ false) → ((f : ℕ) → f < at → q f ≡ false) → new.frames.meters.puts + start n clock ≤ old.frames.meters.puts + n + at → GoesRound q n old new clock at
late q old new n clock at l s h x z y = record {
  passed = n - start n clock + at;
  most = omega (arith, l, h);
  place = sym (stood_past n (start n clock) clock at l s (omega (arith, l, h)));
  gone = λ f k w. elim (outside n (start n clock) at f l k w) [ inl g ↦ x f g k | inr g ↦ z f g ];
  puts = omega (arith, l, y);
}

some : (a c : ℕ) → 0 < a → (if nat_lt 0 a then a else c) ≡ a
some a c l = grind arith

-- a round is two ranges: from the clock's frame on, and up to it
joined_at : (p q : ℕ → Bool) (before mid left now : Type 0) (old m new : Memory) (n clock c after : ℕ) → ((f : ℕ) → p f ≡ false → q f ≡ false) → (mid → left) → Passes p before mid old m (start n clock) n clock c → Passes q left now m new 0 (start n clock) c after → GoesRound q n old new clock after
joined_at p q before mid left now old m new n clock c after k d x y =
    let b = x.puts in
    let e = y.puts in
    let first : y.at ≡ 0 → GoesRound q n old new clock after = λ z.
    early p q old m new n clock c after x.at x.order x.within x.place (y.place ∙ ap (λ a. if nat_lt 0 a then a else c) z) (λ f g h. k f (x.gone f g h)) (omega (arith, b, e, z)) in
    elim x.end [
      | inl w ↦ first (y.idle (d w))
      | inr w ↦ elim (cases_lt 0 y.at) [
        | inl g ↦ subst (λ a. GoesRound q n old new clock a) (sym (y.place ∙ some y.at c g)) (late q old new n clock y.at (omega (arith, x.order, x.within)) g y.within (λ f a h. k f (x.gone f a (omega (arith, h, w)))) (λ f h. y.gone f (omega arith) h) (omega (arith, b, e, w)))
        | inr g ↦ first (omega (arith, g))
      ]
    ]

pub joined : (p q : ℕ → Bool) (before mid left now : Type 0) (old m new : Memory) (n place clock c after : ℕ) → length old.frames.owners ≡ n → place ≡ start n clock → ((f : ℕ) → p f ≡ false → q f ≡ false) → (mid → left) → Passes p before mid old m place n clock c → Passes q left now m new 0 place c after → GoesRound q (length old.frames.owners) old new clock after
joined p q before mid left now old m new n place clock c after size e k d x y =
    subst (λ l. GoesRound q l old new clock after) (sym size) (joined_at p q before mid left now old m new n clock c after k d (subst (λ a. Passes p before mid old m a n clock c) e x) (subst (λ a. Passes q left now m new 0 a c after) e y))
