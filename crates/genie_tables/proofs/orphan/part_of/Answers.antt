use Rattle.std.proofs.Common.{refl}
use Rattle.genie_model.specs.Regions.{byte_within, bytes_within}
use Rattle.genie_tables.proofs.Collected.{collected_more}
use Rattle.genie_tables.proofs.orphan.part_of.Goals as goal

pub loop-pair-preserved : goal.loop-pair-preserved
loop-pair-preserved c = collected_more (bytes_within c.args.at c.args.n) (byte_within c.args.at c.args.n) (λ x rest. refl) c.args.pairs.now c.loop-pair.pair-index _ c.loop-pair.part.items _ _ c.loop-pair-test.true c.loop-pair.invariant c.in_ok-push_within.ensures
