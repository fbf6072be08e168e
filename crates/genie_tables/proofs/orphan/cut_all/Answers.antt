use Rattle.genie_model.specs.Space.{cut}
use Rattle.genie_tables.proofs.ChangedInPlace.{mapped_more}
use Rattle.genie_tables.proofs.orphan.cut_all.Goals as goal

pub loop-orphan-preserved : goal.loop-orphan-preserved
loop-orphan-preserved c = mapped_more (cut c.args.transfers.now) c.args.orphans.now c.loop-orphan.orphans c.loop-orphan.orphan-index _ c.cut.new.self c.loop-orphan-test.true c.loop-orphan.invariant c.cut.ensures
