use Rattle.genie_calls.proofs.Closed.{closes, good_lends, lends_none, rest_closes}
use Rattle.genie_calls.proofs.close.close.Goals as goal

pub end_transfers-requires : goal.end_transfers-requires
end_transfers-requires c = good_lends c.args.kernel.now c.requires.good (c.good_kernels_are_settled.ensures.settled c.args.kernel.now c.requires.good)

pub end_pools-requires : goal.end_pools-requires
end_pools-requires c = record { lent = lends_none c.end_transfers.new.kernel c.end_transfers.ensures.lent c.end_transfers.ensures.none }

pub returns-clause-closed : goal.returns-clause-closed
returns-clause-closed c = closes c.end_transfers.new.kernel c.end_pools.new.memory c.end_pools.new.pools c.end_transfers.ensures.lent c.end_transfers.ensures.none c.end_pools.ensures.lent

pub returns-clause-rest : goal.returns-clause-rest
returns-clause-rest c = rest_closes c.args.kernel.now c.end_transfers.new.kernel c.end_pools.new.memory c.end_pools.new.pools c.end_transfers.ensures.rest c.end_pools.ensures.keeps
