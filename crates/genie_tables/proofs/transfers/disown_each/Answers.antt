use Rattle.genie_model.specs.Space.{disowned}
use Rattle.genie_tables.proofs.ChangedInPlace.{mapped_more}
use Rattle.genie_tables.proofs.transfers.disown_each.Goals as goal

pub loop-transfer-preserved : goal.loop-transfer-preserved
loop-transfer-preserved c = mapped_more (disowned c.args.pid) c.args.transfers.now c.loop-transfer.transfers c.loop-transfer.transfer-index _ c.disown.new.self c.loop-transfer-test.true c.loop-transfer.invariant c.disown.ensures
