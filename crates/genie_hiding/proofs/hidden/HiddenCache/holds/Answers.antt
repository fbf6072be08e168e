use Rattle.std.proofs.Common.{arith}
use Rattle.genie_hiding.specs.Hidden.{objects_of}
use Rattle.genie_hiding.specs.Lemmas.Naming.{kept_there}
use Rattle.genie_hiding.specs.Lemmas.Searching.{hidden_length}
use Rattle.genie_hiding.proofs.hidden.HiddenCache.holds.Goals as goal

pub find-requires : goal.find-requires
find-requires c = λ k l. kept_there (objects_of c.args.self.now) c.args.memory.now k c.requires.fits (omega (arith, l, hidden_length c.args.self.now))
