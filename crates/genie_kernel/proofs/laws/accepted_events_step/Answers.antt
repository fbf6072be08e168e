use Rattle.genie_kernel.specs.Lemmas.Stepping.{accepted_step, stays_orderly, alone_told}
use Rattle.genie_kernel.proofs.laws.accepted_events_step.Goals as goal

pub returns-clause-step : goal.returns-clause-step
returns-clause-step c = accepted_step

pub returns-clause-orderly : goal.returns-clause-orderly
returns-clause-orderly c = stays_orderly c.steps_stay_orderly.ensures

pub returns-clause-alone : goal.returns-clause-alone
returns-clause-alone c = alone_told
