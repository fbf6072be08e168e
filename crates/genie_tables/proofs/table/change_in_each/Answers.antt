use Rattle.genie_tables.specs.Changes.{change_of}
use Rattle.genie_model.specs.Regions.{change_process, changed_in}
use Rattle.genie_tables.proofs.ChangedInPlace.{mapped_more}
use Rattle.genie_tables.proofs.table.change_in_each.Goals as goal

pub loop-process-preserved : goal.loop-process-preserved
loop-process-preserved c = mapped_more (change_process (changed_in c.args.number (change_of c.args.change.now))) c.args.processes.now c.loop-process.processes c.loop-process.process-index _ c.change_in.new.process c.loop-process-test.true c.loop-process.invariant c.change_in.ensures
