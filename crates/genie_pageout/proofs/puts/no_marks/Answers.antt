use Rattle.genie_pageout.proofs.Swept.{none_marked}
use Rattle.genie_pageout.proofs.puts.no_marks.Goals as goal

pub returns-clause-none : goal.returns-clause-none
returns-clause-none c = none_marked 4096
