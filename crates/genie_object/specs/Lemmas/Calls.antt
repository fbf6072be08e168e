-- One call after another that only moves pages.
use Rattle.std.proofs.Common.{◌≡◌, ℕ, ◌+◌, Bool, false, refl, arith, ◌∙◌}
use Rattle.genie_store.specs.StoreView.{StoreView}
use Rattle.genie_object.specs.declared.memory.Memory.{Memory}
use Rattle.genie_object.specs.Sound.{IsSound, IsSized}
use Rattle.genie_object.specs.Calls.{OnlyMoves, TakesAtMost}
use Rattle.genie_object.specs.Lemmas.Spending.{costs_on}
use Rattle.genie_object.specs.Lemmas.Touching.{keeps_all, keeps_on, touches_more, touches_none, touches_on}

pub moves_none : (spoken : ℕ → ℕ → Bool) (m : Memory) (v : StoreView) → IsSound m → IsSized m v → OnlyMoves spoken m m v v
moves_none spoken m v s z = record {
  sound = s;
  sized = z;
  seen = refl;
  keeps = keeps_all m;
  touches = touches_none spoken m;
  counts = refl;
  landed = refl;
  costs = record { read = λ o i e. e; write = λ o i e. e };
}

pub moves_on : (spoken : ℕ → ℕ → Bool) (a b c : Memory) (u v w : StoreView) → OnlyMoves spoken a b u v → OnlyMoves spoken b c v w → OnlyMoves spoken a c u w
moves_on spoken a b c u v w x y = record {
  sound = y.sound;
  sized = y.sized;
  seen = y.seen ∙ x.seen;
  keeps = keeps_on a b c x.keeps y.keeps;
  touches = touches_on spoken a b c x.touches y.touches;
  counts = y.counts ∙ x.counts;
  landed = y.landed ∙ x.landed;
  costs = costs_on a b c x.costs y.costs;
}

-- a call that speaks of fewer entries leaves more as it was
pub moves_more : (few many : ℕ → ℕ → Bool) (a b : Memory) (v w : StoreView) → ((o i : ℕ) → many o i ≡ false → few o i ≡ false) → OnlyMoves few a b v w → OnlyMoves many a b v w
moves_more few many a b v w h x = record {
  sound = x.sound;
  sized = x.sized;
  seen = x.seen;
  keeps = x.keeps;
  touches = touches_more few many a b h x.touches;
  counts = x.counts;
  landed = x.landed;
  costs = x.costs;
}

pub takes_on : (f g p q : ℕ) (a b c : Memory) → TakesAtMost f p a b → TakesAtMost g q b c → TakesAtMost (f + g) (p + q) a c
takes_on f g p q a b c x y = record { free = omega (arith, x.free, y.free); added = omega (arith, x.added, y.added) }
