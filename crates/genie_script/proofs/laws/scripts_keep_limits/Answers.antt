-- The boot part of a script keeps every limit, and its events are whole.
use Rattle.genie_script.proofs.Limits.{scripts_keep_limits}
use Rattle.genie_script.proofs.laws.scripts_keep_limits.Goals as goal

pub returns : goal.returns
returns c = scripts_keep_limits
