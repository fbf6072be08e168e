use Rattle.genie_cases.proofs.Exchanged.{exchanged_back}
use Rattle.genie_cases.proofs.pools.exchanges.Goals as goal

pub returns-then-eq-2 : goal.returns-then-eq-2
returns-then-eq-2 c = record { same = exchanged_back c.args.pool.now c.exchange-old.new.self c.exchange-back.new.self c.args.buffer c.args.i _ _ c.exchange-old.ensures.old c.exchange-old.ensures.exchanged c.exchange-back.ensures.exchanged }
