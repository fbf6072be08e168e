use Rattle.genie_input.proofs.Pools.{freed_one, system_there}
use Rattle.std.proofs.Common.{arith, ap}
use Rattle.genie_frame.specs.declared.frame.Counts.{Counts}
use Rattle.genie_input.proofs.pool.end_loan.Goals as goal

pub back_in-requires-clause-there : goal.back_in-requires-clause-there
back_in-requires-clause-there c = system_there c.args.frames.now c.args.loan.frame.0 c.requires.owned

pub back_in-requires-clause-out : goal.back_in-requires-clause-out
back_in-requires-clause-out c = omega (arith, ap (λ (x : Counts). x.input) c.requires.counts)

pub returns : goal.returns
returns c = record { freed = freed_one c.args.frames.now c.back_in.new.self c.disown.new.self c.args.loan.frame.0 c.len.ensures.shaped c.requires.owned c.requires.counts c.back_in.ensures.frames c.disown.ensures.frames }
