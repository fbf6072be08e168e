use Rattle.genie_model.specs.Regions.{stored_in_orphan}
use Rattle.genie_tables.proofs.ChangedInPlace.{mapped_more}
use Rattle.genie_tables.proofs.orphan.store_in_orphan.Goals as goal

pub loop-orphan-preserved : goal.loop-orphan-preserved
loop-orphan-preserved c = mapped_more (stored_in_orphan c.args.number c.args.at c.args.bytes.now) c.args.orphans.now c.loop-orphan.orphans c.loop-orphan.orphan-index _ c.store.new.self c.loop-orphan-test.true c.loop-orphan.invariant c.store.ensures
