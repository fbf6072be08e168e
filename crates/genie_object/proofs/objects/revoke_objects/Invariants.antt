use Rattle.std.proofs.Common.{◌≡◌, ◌++◌, map, take, drop}
use Rattle.genie_object.specs.Objects.{revoked}
use Rattle.genie_object.proofs.objects.revoke_objects.Given as goal

abbrev pub invariant-loop-object : goal.invariant-loop-object
invariant-loop-object l = l.objects ≡ map (map (revoked l.page.0)) (take l.object-index l.initial.objects) ++ drop l.object-index l.initial.objects
