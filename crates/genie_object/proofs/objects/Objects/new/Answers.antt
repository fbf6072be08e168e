use Rattle.genie_object.specs.Lemmas.ObjectLaws.{none_made}
use Rattle.genie_object.proofs.objects.Objects.new.Goals as goal

pub invariant_of-result : goal.invariant_of-result
invariant_of-result c = none_made _ _ c.in_ok-items.ensures c.in_ok-free.ensures
