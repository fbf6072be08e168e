use Rattle.genie_changes.proofs.LeftPages.{leaves_pages}
use Rattle.genie_changes.proofs.given.regions_leave_pages.Goals as goal

pub returns : goal.returns
returns c = leaves_pages
