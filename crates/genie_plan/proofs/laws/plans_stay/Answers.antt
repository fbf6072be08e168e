use Rattle.genie_plan.specs.Lemmas.Staying.{outputs_stay, inputs_stay, calls_leave_plans}
use Rattle.genie_plan.proofs.laws.plans_stay.Goals as goal

pub returns-clause-outputs : goal.returns-clause-outputs
returns-clause-outputs c = outputs_stay

pub returns-clause-inputs : goal.returns-clause-inputs
returns-clause-inputs c = inputs_stay

pub returns-clause-calls : goal.returns-clause-calls
returns-clause-calls c = calls_leave_plans
