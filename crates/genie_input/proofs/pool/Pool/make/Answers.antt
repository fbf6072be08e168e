use Rattle.genie_input.proofs.Buffers.{fresh_pooled}
use Rattle.genie_input.proofs.pool.Pool.make.Goals as goal

pub returns-clause-pooled : goal.returns-clause-pooled
returns-clause-pooled c = fresh_pooled c.args.memory.now c.lend_fresh-loans.new.frames c.args.dev _ c.requires.sound c.lend_fresh-loans.ensures.fresh
