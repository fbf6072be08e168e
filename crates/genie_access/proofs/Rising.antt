-- How far an access lets the meters rise.
use Rattle.std.proofs.Common.{◌≡◌, ℕ, ◌+◌, ◌^◌, ◌≤◌, List, sym, ap, subst, arith}
use Rattle.genie_frame.specs.declared.frame.Meters.{Meters}
use Rattle.genie_frame.specs.FrameTable.{FrameTable}
use Rattle.genie_frame.specs.Frames.{more_written, stored}
use Rattle.genie_object.specs.Costs.{AreBelow, Spends}
use Rattle.genie_kernel.specs.Rising.{MetersRise, NoneFell}
use Rattle.genie_kernel.specs.Lemmas.Rising.{rises_moved}

-- a page that is made ready, and bytes of it that are read
pub rises_page : (b g : ℕ) (old new : FrameTable) → Spends b g 0 1 old.meters new.meters → new.landed ≡ old.landed → b ≤ 8192 → g ≤ 1 → MetersRise (2 ^ 14) old new
rises_page b g old new s landed most one = rises_moved b g 0 1 (2 ^ 14) old new s landed (omega (arith, most, one))

-- bytes that are stored in a page
pub rises_put : (t u : FrameTable) (f x n : ℕ) (b : List ℕ) → u ≡ more_written (stored t f x b) n → n ≤ 4096 → MetersRise (2 ^ 12) t u
rises_put t u f x n b e most = record {
  low = subst (NoneFell t.meters) (sym (ap (λ (z : FrameTable). z.meters) e)) (record { read = omega arith; written = omega arith; copied = omega arith; zeroed = omega arith; puts = omega arith; gets = omega arith; taken = omega arith });
  meters = λ m a. subst (λ (w : Meters). AreBelow (m + 2 ^ 12) w) (sym (ap (λ (z : FrameTable). z.meters) e)) (record {
    read = omega (arith, a.read);
    written = omega (arith, a.written, most);
    copied = omega (arith, a.copied);
    zeroed = omega (arith, a.zeroed);
    puts = omega (arith, a.puts);
    gets = omega (arith, a.gets);
    taken = omega (arith, a.taken);
  });
  landed = (let same : u.landed ≡ t.landed = ap (λ (z : FrameTable). z.landed) e in omega (arith, same));
}
