-- What the events of a run cost adds up to how far the meters rose.
use Rattle.std.proofs.Common.{◌≡◌, ℕ, ◌+◌, ◌-◌, ◌≤◌, List, [], ◌∷◌, refl, ap, ◌∙◌, arith}
use Rattle.genie_base.specs.declared.event.Event.{Event}
use Rattle.genie_frame.specs.declared.frame.Meters.{Meters}
use Rattle.genie_kernel.specs.declared.kernel.Kernel.{Kernel}
use Rattle.genie_kernel.specs.Rising.{NoneFell}
use Rattle.genie_playing.specs.Costs.{AddUp, Answer, raise, sum_of}
use Rattle.genie_playing.specs.Moments.{Moment, Steps, meters_of}

-- one of the meters
pub record IsMeter (meter : Meters → ℕ) : Type 0 where
  pub low : (old new : Meters) → NoneFell old new → meter old ≤ meter new
  pub raise : (old new : Meters) → meter (raise old new) ≡ meter new - meter old

one_more : (start before after last cost rest : ℕ) → before ≡ start → before ≤ after → cost ≡ after - before → last ≡ after + rest → last ≡ start + (cost + rest)
one_more start before after last cost rest same low is sum = omega (arith, same, low, is, sum)

sums : (meter : Meters → ℕ) → IsMeter meter → (start : Moment) (es : List Event) (answers : List Answer) (last : Moment) → Steps start es answers last → meter (meters_of last) ≡ meter (meters_of start) + sum_of meter answers
sums meter is start [] [] last s = let same = ap (λ (k : Kernel). meter k.memory.frames.meters) s.kernel in omega (arith, same)
sums meter is start [] (a ∷ answers) last s = absurd s
sums meter is start (e ∷ es) [] last s = absurd s
sums meter is start (e ∷ es) (a ∷ answers) last s =
    one_more _ (meter (meters_of s.0)) (meter (meters_of s.1)) _ (meter a.cost) _
    (ap (λ (k : Kernel). meter k.memory.frames.meters) s.2.kernel)
    (is.low (meters_of s.0) (meters_of s.1) s.3.serves.rises.low)
    (ap meter s.3.cost ∙ is.raise (meters_of s.0) (meters_of s.1))
    (sums meter is s.1 es answers last s.4)

pub steps_cost : (start : Moment) (es : List Event) (answers : List Answer) (last : Moment) → Steps start es answers last → AddUp (meters_of start) answers (meters_of last)
steps_cost start es answers last s = record {
  read = sums (λ m. m.read) (record { low = λ old new n. n.read; raise = λ old new. refl }) start es answers last s;
  written = sums (λ m. m.written) (record { low = λ old new n. n.written; raise = λ old new. refl }) start es answers last s;
  copied = sums (λ m. m.copied) (record { low = λ old new n. n.copied; raise = λ old new. refl }) start es answers last s;
  zeroed = sums (λ m. m.zeroed) (record { low = λ old new n. n.zeroed; raise = λ old new. refl }) start es answers last s;
  puts = sums (λ m. m.puts) (record { low = λ old new n. n.puts; raise = λ old new. refl }) start es answers last s;
  gets = sums (λ m. m.gets) (record { low = λ old new n. n.gets; raise = λ old new. refl }) start es answers last s;
  taken = sums (λ m. m.taken) (record { low = λ old new n. n.taken; raise = λ old new. refl }) start es answers last s;
}
