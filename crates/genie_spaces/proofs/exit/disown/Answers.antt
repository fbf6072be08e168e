use Rattle.std.proofs.Common.{arith}
use Rattle.genie_kernel.specs.Order.{no_transfer}
use Rattle.genie_spaces.proofs.Disowning.{disowns_all, disowns_more}
use Rattle.genie_spaces.proofs.exit.disown.Goals as goal

pub each-preserved : goal.each-preserved
each-preserved c =
    let below = c.each-test.true in
    let number = c.len-i-end.ensures.number in
    disowns_more c.args.pid c.each.i c.args.transfers.now c.each.transfers c.disown_at.new.transfers no_transfer (omega (arith, below, number)) c.disown_at.ensures c.each.invariant

pub returns : goal.returns
returns c =
    let past = c.each-test.false in
    let number = c.len-i-end.ensures.number in
    disowns_all c.args.pid c.each.i c.args.transfers.now c.each.transfers (omega (arith, past, number)) c.each.invariant
