use Rattle.genie_changes.proofs.Fitting.{listed_in}
use Rattle.genie_changes.proofs.Rising.{transfers_rise, only_in}
use Rattle.genie_changes.proofs.given.numbers_differ.Goals as goal

pub returns-clause-transfers : goal.returns-clause-transfers
returns-clause-transfers c = transfers_rise

pub returns-clause-regions : goal.returns-clause-regions
returns-clause-regions c = only_in

pub returns-clause-listed : goal.returns-clause-listed
returns-clause-listed c = listed_in
