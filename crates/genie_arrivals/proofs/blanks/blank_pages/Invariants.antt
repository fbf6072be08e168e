use Rattle.genie_arrivals.specs.Blanks.{BlanksSoFar}
use Rattle.genie_arrivals.proofs.blanks.blank_pages.Given as goal

abbrev pub invariant-entries : goal.invariant-entries
invariant-entries l = BlanksSoFar l.fn.memory l.memory l.object.0 l.index
