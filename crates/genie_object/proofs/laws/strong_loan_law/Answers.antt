use Rattle.genie_object.specs.Lemmas.Lent.{lends_soundly}
use Rattle.genie_object.proofs.laws.strong_loan_law.Goals as goal

pub returns : goal.returns
returns c = lends_soundly
