use Rattle.genie_cases.proofs.Objects.{other_well, other_idle}
use Rattle.genie_cases.proofs.bench.Bench.make_other.Goals as goal

pub returns-clause-well : goal.returns-clause-well
returns-clause-well g c = other_well _ _ _ _ _ _ _ _ _ c.requires.well c.requires.some c.make_object.ensures.was_absent c.make_object.ensures.made c.make_object.ensures.sound

pub returns-clause-idle : goal.returns-clause-idle
returns-clause-idle g c = other_idle _ _ _ _ c.make_object.ensures.made c.requires.idle
