use Rattle.genie_base.specs.declared.semantics.Direction.TheVariants.{Inward, Outward}
use Rattle.genie_replay.specs.Files.{file_opening}
use Rattle.genie_replay.specs.Lemmas.Filing.{opening_cut, opening_more}
use Rattle.genie_replay.proofs.files.open_line.Goals as goal

pub returns-in-Ok-clause-opening : goal.returns-in-Ok-clause-opening
returns-in-Ok-clause-opening g c = opening_more _ (file_opening Inward c.args.device.now.input) (file_opening Outward c.args.device.now.output) _ _ _ _ _ c.in-Ok.ensures.opening c.in-Ok.ensures.opened c.open_output.ensures.opening

pub returns-in-Err-clause-opening : goal.returns-in-Err-clause-opening
returns-in-Err-clause-opening g c = opening_cut _ (file_opening Inward c.args.device.now.input) (file_opening Outward c.args.device.now.output) _ _ _ c.in-Err.ensures.opening
