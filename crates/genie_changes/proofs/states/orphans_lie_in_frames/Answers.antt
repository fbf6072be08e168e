use Rattle.genie_changes.proofs.Lying.{orphan_lies}
use Rattle.genie_changes.proofs.Places.{byte_of_page}
use Rattle.genie_changes.proofs.states.orphans_lie_in_frames.Goals as goal

pub returns-clause-byte : goal.returns-clause-byte
returns-clause-byte c = byte_of_page

pub returns-clause-lies : goal.returns-clause-lies
returns-clause-lies c = orphan_lies
