use Rattle.std.proofs.Common.{arith, sym}
use Rattle.genie_gen.proofs.Filled.{filled}
use Rattle.genie_gen.proofs.reader.Reader.new.Goals as goal

pub invariant_of-result : goal.invariant_of-result
invariant_of-result c = (c.requires, omega arith, λ none. filled _ c.requires (sym none))
