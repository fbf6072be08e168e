use Rattle.std.proofs.Common.{arith, sym}
use Rattle.genie_gen.proofs.Filled.{filled}
use Rattle.genie_gen.proofs.reader.Reader.read.Goals as goal

pub invariant_of-self : goal.invariant_of-self
invariant_of-self c = (c.next-self-inside.ensures.place, omega arith, λ none. filled _ c.next-self-inside.ensures.place (sym none))
