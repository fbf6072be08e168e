use Rattle.genie_model.specs.Regions.{stored_at}
use Rattle.genie_tables.proofs.ChangedInPlace.{mapped_more}
use Rattle.genie_tables.proofs.orphan.store_in_each.Goals as goal

pub loop-pair-preserved : goal.loop-pair-preserved
loop-pair-preserved c = mapped_more (stored_at c.args.at c.args.bytes.now) c.args.pairs.now c.loop-pair.pairs c.loop-pair.pair-index _ c.stored.result c.loop-pair-test.true c.loop-pair.invariant c.stored.ensures
