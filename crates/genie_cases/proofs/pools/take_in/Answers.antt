use Rattle.std.proofs.Common.{arith}
use Rattle.genie_cases.proofs.Exchanged.{begun_and_arrived}
use Rattle.genie_cases.proofs.pools.take_in.Goals as goal

pub returns-clause-held : goal.returns-clause-held
returns-clause-held c = begun_and_arrived c.args.pool.now c.begin-begun.new.self c.arrive-arrived.new.self _ _ (omega (arith, c.if-arrived-begun.false)) c.begin-begun.ensures.begun c.arrive-arrived.ensures.arrived
