use Rattle.genie_spaces.specs.Permissions.{Forbids}
use Rattle.genie_spaces.proofs.protect.forbid_each.Given as goal

abbrev pub invariant-entries : goal.invariant-entries
invariant-entries l = Forbids l.object.0 l.index l.fn.objects l.objects
