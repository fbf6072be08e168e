use Rattle.genie_changes.proofs.EndedTransfer.{settled_lends, ends_loans, given_back_keeps, given_back_shows, outlines_show}
use Rattle.genie_changes.proofs.GivenBack.{leaves_others}
use Rattle.genie_changes.proofs.ends.loans_are_given_back.Goals as goal

pub returns-clause-others : goal.returns-clause-others
returns-clause-others c = leaves_others

pub returns-clause-settled : goal.returns-clause-settled
returns-clause-settled c = settled_lends

pub returns-clause-ends : goal.returns-clause-ends
returns-clause-ends c = ends_loans

pub returns-clause-kept : goal.returns-clause-kept
returns-clause-kept c = given_back_keeps

pub returns-clause-shown : goal.returns-clause-shown
returns-clause-shown c = given_back_shows

pub returns-clause-outlines : goal.returns-clause-outlines
returns-clause-outlines c = outlines_show
