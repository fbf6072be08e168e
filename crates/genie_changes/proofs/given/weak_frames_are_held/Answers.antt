use Rattle.genie_changes.proofs.Premises.{weak_frames_held}
use Rattle.genie_changes.proofs.given.weak_frames_are_held.Goals as goal

pub returns : goal.returns
returns c = weak_frames_held
