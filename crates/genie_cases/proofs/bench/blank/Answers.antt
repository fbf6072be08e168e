use Rattle.std.proofs.Common.{ap}
use Rattle.genie_object.specs.declared.memory.Memory.{Memory}
use Rattle.genie_cases.proofs.Objects.{first_object}
use Rattle.genie_cases.proofs.bench.blank.Goals as goal

pub returns-clause-objects : goal.returns-clause-objects
returns-clause-objects g c = first_object _ _ _ _ c.in-Ok.ensures.unused.absent (ap (λ (m : Memory). m.objects) c.make_object-object.ensures.made)
