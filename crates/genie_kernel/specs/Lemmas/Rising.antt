-- How far meters rise over several calls.
use Rattle.std.proofs.Common.{◌≡◌, sym, subst, ap, ℕ, ◌+◌, ◌≤◌, arith}
use Rattle.genie_frame.specs.declared.frame.Meters.{Meters}
use Rattle.genie_frame.specs.FrameTable.{FrameTable}
use Rattle.genie_object.specs.Costs.{AreBelow, Spends}
use Rattle.genie_object.specs.Lemmas.Spending.{below_spent}
use Rattle.genie_object.specs.Lemmas.Works.{below_more}
use Rattle.genie_kernel.specs.Rising.{MetersRise, NoneFell}

-- meters that stay
pub none_fell : (x y : Meters) → y ≡ x → NoneFell x y
none_fell x y same = subst (NoneFell x) (sym same) (record { read = omega arith; written = omega arith; copied = omega arith; zeroed = omega arith; puts = omega arith; gets = omega arith; taken = omega arith })

fell_spent : (b g p f : ℕ) (x y : Meters) → Spends b g p f x y → NoneFell x y
fell_spent b g p f x y s = record { read = s.read; written = s.written; copied = s.copied; zeroed = s.zeroed; puts = s.puts; gets = s.gets; taken = s.taken }

fell_on : (x y z : Meters) → NoneFell x y → NoneFell y z → NoneFell x z
fell_on x y z a b = record {
  read = omega (arith, a.read, b.read);
  written = omega (arith, a.written, b.written);
  copied = omega (arith, a.copied, b.copied);
  zeroed = omega (arith, a.zeroed, b.zeroed);
  puts = omega (arith, a.puts, b.puts);
  gets = omega (arith, a.gets, b.gets);
  taken = omega (arith, a.taken, b.taken);
}

-- by what a call spends, and by the bytes that have landed
pub rises_spent : (b g p f l k : ℕ) (old new : FrameTable) → Spends b g p f old.meters new.meters → new.landed ≤ old.landed + l → b + g + p + f ≤ k → l ≤ k → MetersRise k old new
rises_spent b g p f l k old new s lands most landed = record {
  low = fell_spent b g p f old.meters new.meters s;
  meters = λ n a. below_more (n + b + g + p + f) (n + k) new.meters (omega (arith, most)) (below_spent n b g p f old.meters new.meters a s);
  landed = omega (arith, lands, landed);
}

-- by nothing, where the meters and the landed bytes are equal
pub rises_same : (k : ℕ) (old new : FrameTable) → new.meters ≡ old.meters → new.landed ≡ old.landed → MetersRise k old new
rises_same k old new meters landed = record {
  low = none_fell old.meters new.meters meters;
  meters = λ n a. below_more n (n + k) new.meters (omega arith) (subst (AreBelow n) (sym meters) a);
  landed = omega (arith, landed);
}

pub rises_none : (k : ℕ) (old new : FrameTable) → new ≡ old → MetersRise k old new
rises_none k old new e = rises_same k old new (ap (λ (t : FrameTable). t.meters) e) (ap (λ (t : FrameTable). t.landed) e)

-- by the sum, over one call after the other
pub rises_on : (k l : ℕ) (a b c : FrameTable) → MetersRise k a b → MetersRise l b c → MetersRise (k + l) a c
rises_on k l a b c x y = record {
  low = fell_on a.meters b.meters c.meters x.low y.low;
  meters = λ n below. below_more (n + k + l) (n + (k + l)) c.meters (omega arith) (y.meters (n + k) (x.meters n below));
  landed = omega (arith, x.landed, y.landed);
}

-- by more, where more is allowed
pub rises_most : (k l : ℕ) (old new : FrameTable) → k ≤ l → MetersRise k old new → MetersRise l old new
rises_most k l old new most r = record {
  low = r.low;
  meters = λ n a. below_more (n + k) (n + l) new.meters (omega (arith, most)) (r.meters n a);
  landed = omega (arith, r.landed, most);
}

-- by what a call spends that lands nothing
pub rises_moved : (b g p f k : ℕ) (old new : FrameTable) → Spends b g p f old.meters new.meters → new.landed ≡ old.landed → b + g + p + f ≤ k → MetersRise k old new
rises_moved b g p f k old new s landed most = rises_spent b g p f 0 k old new s (omega (arith, landed)) most (omega arith)

-- by no more than n, over two calls that together raise them by no more
pub rises_twice : (k l n : ℕ) (a b c : FrameTable) → k + l ≤ n → MetersRise k a b → MetersRise l b c → MetersRise n a c
rises_twice k l n a b c most x y = rises_most (k + l) n a c most (rises_on k l a b c x y)

-- by no more, where meters and landed bytes stay afterwards
pub rises_left : (k : ℕ) (a b c : FrameTable) → c.meters ≡ b.meters → c.landed ≡ b.landed → MetersRise k a b → MetersRise k a c
rises_left k a b c meters landed x = rises_twice k 0 k a b c (omega arith) x (rises_same 0 b c meters landed)
