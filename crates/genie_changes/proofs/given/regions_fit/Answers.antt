use Rattle.genie_changes.proofs.Fitting.{regions_fit as lemma, page_has_bytes}
use Rattle.genie_changes.proofs.given.regions_fit.Goals as goal

pub returns-clause-regions : goal.returns-clause-regions
returns-clause-regions c = lemma

pub returns-clause-page : goal.returns-clause-page
returns-clause-page c = page_has_bytes
