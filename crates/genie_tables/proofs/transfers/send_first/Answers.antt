use Rattle.std.proofs.Common.{◌≡◌, get_or, sym, ◌∙◌, true, arith}
use Rattle.genie_model.specs.State.{Transfer}
use Rattle.genie_model.specs.Pending.{waits_for}
use Rattle.genie_model.specs.Sending.{after_sending}
use Rattle.genie_tables.proofs.FirstPassing.{passed_changed, passed_unchanged}
use Rattle.genie_tables.proofs.transfers.send_first.Goals as goal

pub returns-then-is_queued_for : goal.returns-then-is_queued_for
returns-then-is_queued_for c =
    let d : Transfer = c.index-transfers-i.result in
    let same = c.loop-i.invariant.same in
    let waits : waits_for c.args.device (get_or c.args.transfers.now c.loop-i.i d) ≡ true = rw same at (sym c.is_queued_for.ensures ∙ c.if-is_queued_for.true) in
    let sent : c.send.new.self ≡ after_sending c.args.k (get_or c.args.transfers.now c.loop-i.i d) = rw same at c.send.ensures in
    rw (same, sent) (passed_changed (waits_for c.args.device) c.args.transfers.now c.loop-i.i d (omega arith) c.loop-i.invariant.passed waits (after_sending c.args.k))

pub returns : goal.returns
returns c = rw c.loop-i.invariant.same (passed_unchanged (waits_for c.args.device) (after_sending c.args.k) c.args.transfers.now c.loop-i.i (omega arith) c.loop-i.invariant.passed)
