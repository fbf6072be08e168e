use Rattle.genie_plan.specs.Lemmas.Ended.{ends_soundly, shows_after}
use Rattle.genie_plan.specs.Lemmas.Ending.{leaves_others_out}
use Rattle.genie_plan.proofs.laws.ended_loans_show_what_was_seen.Goals as goal

pub returns-clause-sound : goal.returns-clause-sound
returns-clause-sound c = ends_soundly

pub returns-clause-seen : goal.returns-clause-seen
returns-clause-seen c = shows_after

pub returns-clause-others : goal.returns-clause-others
returns-clause-others c = leaves_others_out
