use Rattle.std.proofs.Common.{arith}
use Rattle.genie_calls.proofs.Ending.{rest_refl, rest_trans}
use Rattle.genie_calls.proofs.close.end_transfers.Goals as goal

pub transfers-init : goal.transfers-init
transfers-init c = let number = c.len-pending.ensures.number in (c.requires, rest_refl c.args.kernel.now, omega (arith, number))

pub transfers-preserved : goal.transfers-preserved
transfers-preserved c =
    let fewer = c.end_first.ensures.fewer in
    let before = c.transfers.invariant.2 in
    (c.end_first.ensures.lent, rest_trans c.args.kernel.now c.transfers.kernel c.end_first.new.kernel c.transfers.invariant.1 c.end_first.ensures.rest, omega (arith, fewer, before))
