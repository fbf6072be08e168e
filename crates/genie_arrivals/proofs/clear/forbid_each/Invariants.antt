use Rattle.genie_arrivals.specs.Clearing.{Forbids}
use Rattle.genie_arrivals.proofs.clear.forbid_each.Given as goal

abbrev pub invariant-entries : goal.invariant-entries
invariant-entries l = Forbids l.object.0 l.index l.fn.objects l.objects
