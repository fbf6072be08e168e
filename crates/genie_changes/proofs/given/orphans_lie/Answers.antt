use Rattle.genie_changes.proofs.Premises.{nobodys_show, orphans_lie as lemma, others_lie}
use Rattle.genie_changes.proofs.given.orphans_lie.Goals as goal

pub returns-clause-show : goal.returns-clause-show
returns-clause-show c = nobodys_show

pub returns-clause-all : goal.returns-clause-all
returns-clause-all c = lemma

pub returns-clause-others : goal.returns-clause-others
returns-clause-others c = others_lie
