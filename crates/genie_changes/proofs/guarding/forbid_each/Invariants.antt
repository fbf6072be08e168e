use Rattle.genie_changes.specs.Guarding.{Forbids}
use Rattle.genie_changes.proofs.guarding.forbid_each.Given as goal

abbrev pub invariant-entries : goal.invariant-entries
invariant-entries l = Forbids l.object.0 l.index l.fn.objects l.objects
