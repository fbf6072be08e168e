use Rattle.genie_hiding.specs.Lemmas.Making.{no_store}
use Rattle.genie_cases.proofs.hiding.shed.Goals as goal

pub returns-clause-sound : goal.returns-clause-sound
returns-clause-sound c = (c.shed_until.ensures.room no_store).sound

pub returns-clause-fits : goal.returns-clause-fits
returns-clause-fits c = (c.shed_until.ensures.room no_store).fits

pub returns-clause-sizes : goal.returns-clause-sizes
returns-clause-sizes c = (c.shed_until.ensures.room no_store).keeps.entries
