use Rattle.genie_model.specs.Regions.{change_process}
use Rattle.genie_model.specs.Outputs.{moved_out_of}
use Rattle.genie_tables.proofs.ChangedInPlace.{mapped_more}
use Rattle.genie_tables.proofs.table.move_out_in_each.Goals as goal

pub loop-process-preserved : goal.loop-process-preserved
loop-process-preserved c = mapped_more (change_process (moved_out_of c.args.number)) c.args.processes.now c.loop-process.processes c.loop-process.process-index _ c.move_out_in.new.process c.loop-process-test.true c.loop-process.invariant c.in_ok-move_out_in.ensures
