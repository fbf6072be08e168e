use Rattle.genie_room.proofs.Wired.{loans_wired}
use Rattle.genie_room.proofs.laws.loans_are_wired.Goals as goal

pub returns : goal.returns
returns c = loans_wired
