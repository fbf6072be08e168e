use Rattle.genie_tables.specs.Changes.{change_of}
use Rattle.genie_model.specs.Regions.{changed}
use Rattle.genie_tables.proofs.ChangedInPlace.{mapped_more}
use Rattle.genie_tables.proofs.process.change_in_all.Goals as goal

pub loop-region-preserved : goal.loop-region-preserved
loop-region-preserved c = mapped_more (changed c.args.number (change_of c.args.change.now)) c.args.regions.now c.loop-region.regions c.loop-region.region-index _ c.change.new.self c.loop-region-test.true c.loop-region.invariant c.change.ensures
