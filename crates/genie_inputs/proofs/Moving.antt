-- That a strong input call makes the processor move no byte.
use Rattle.std.proofs.Common.{◌≡◌, ℕ, Bool, true, ap, arith}
use Rattle.genie_frame.specs.FrameTable.{FrameTable}
use Rattle.genie_object.specs.declared.memory.Memory.{Memory}
use Rattle.genie_object.specs.Costs.{work}
use Rattle.genie_kernel.specs.declared.transfer.Loans.{Loans}
use Rattle.genie_copying.specs.Spending.{CopiesAtMost}
use Rattle.genie_inputs.specs.Buffers.{LendsBuffer}
use Rattle.genie_inputs.specs.Claiming.{LendsObject}

-- none was moved where the meters stay
pub moves_none : (old new : Memory) → new.frames.meters ≡ old.frames.meters → CopiesAtMost 0 old new
moves_none old new same = let equal : work new.frames.meters ≡ work old.frames.meters = ap work same in omega (arith, equal)

-- nor over two calls that move none
pub moves_on : (a b c : Memory) → CopiesAtMost 0 a b → CopiesAtMost 0 b c → CopiesAtMost 0 a c
moves_on a b c x y = omega (arith, x, y)

-- frames that are taken for a buffer keep their bytes
pub moves_buffer : (n at len : ℕ) (early : Bool) (old new : Memory) (loans : Loans) → LendsBuffer n at len early old new loans → CopiesAtMost 0 old new
moves_buffer n at len early old new loans x = let equal : work new.frames.meters ≡ work old.frames.meters = ap work x.fresh.meters in omega (arith, equal)

-- so it is where the buffer takes the place of an object
pub moves_object : (n len o : ℕ) (old new : Memory) (loans : Loans) → LendsObject n len o old new loans → CopiesAtMost 0 old new
moves_object n len o old new loans x = moves_on old x.gone new (moves_none old x.gone (ap (λ (t : FrameTable). t.meters) x.removes.frames)) (moves_buffer n 0 len true x.gone new loans x.buffer)
