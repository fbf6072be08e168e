use Rattle.std.proofs.Common.{length}
use Rattle.genie_replay.proofs.files.+open_files.Given as goal

abbrev pub decreases-open_files : goal.decreases-open_files
decreases-open_files g l = length l.devices.now
