use Rattle.genie_model.specs.Regions.{change_process}
use Rattle.genie_model.specs.Inputs.{moved_in_of}
use Rattle.genie_tables.proofs.ChangedInPlace.{mapped_more}
use Rattle.genie_tables.proofs.table.move_in_in_each.Goals as goal

pub loop-process-preserved : goal.loop-process-preserved
loop-process-preserved c = mapped_more (change_process (moved_in_of c.args.number)) c.args.processes.now c.loop-process.processes c.loop-process.process-index _ c.move_in_in.new.process c.loop-process-test.true c.loop-process.invariant c.move_in_in.ensures
