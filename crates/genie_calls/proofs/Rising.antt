-- How far the meters rise in the events of devices.
use Rattle.std.proofs.Common.{◌≡◌, ℕ, ◌+◌, ◌^◌, ◌<◌, ◌≤◌, ap, sym, subst, arith}
use Rattle.genie_object.specs.declared.memory.Memory.{Memory}
use Rattle.genie_object.specs.Costs.{AreBelow}
use Rattle.genie_object.specs.Lemmas.Works.{below_more}
use Rattle.genie_kernel.specs.Rising.{MetersRise}
use Rattle.genie_kernel.specs.Lemmas.Rising.{none_fell, rises_none}
use Rattle.genie_receiving.specs.Receiving.{OnlyLanded}

-- the memory stays
pub stays_rise : (old new : Memory) → new ≡ old → MetersRise (2 ^ 36) old.frames new.frames
stays_rise old new same = rises_none (2 ^ 36) old.frames new.frames (ap (λ (m : Memory). m.frames) same)

-- only bytes land, as many as one receive step may take
pub received_rises : (old new : Memory) (n : ℕ) → n < 2 ^ 32 → OnlyLanded old new → new.frames.landed ≤ old.frames.landed + n → MetersRise (2 ^ 36) old.frames new.frames
received_rises old new n small only landed = record {
  low = none_fell old.frames.meters new.frames.meters (ap (λ (m : Memory). m.frames.meters) only);
  meters = λ b below. below_more b (b + 2 ^ 36) new.frames.meters (omega arith) (subst (λ (m : Memory). AreBelow b m.frames.meters) (sym only) below);
  landed = omega (arith, landed, small);
}
