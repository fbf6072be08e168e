use Rattle.genie_model.specs.Regions.{change_process}
use Rattle.genie_model.specs.Space.{without_region}
use Rattle.genie_tables.proofs.ChangedInPlace.{mapped_more}
use Rattle.genie_tables.proofs.table.remove_from_each.Goals as goal

pub loop-process-preserved : goal.loop-process-preserved
loop-process-preserved c = mapped_more (change_process (without_region c.args.number)) c.args.processes.now c.loop-process.processes c.loop-process.process-index _ c.remove_from.new.process c.loop-process-test.true c.loop-process.invariant c.remove_from.ensures
