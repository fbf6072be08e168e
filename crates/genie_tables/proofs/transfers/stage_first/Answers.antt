use Rattle.std.proofs.Common.{◌≡◌, get_or, sym, ◌∙◌, true, arith}
use Rattle.genie_model.specs.State.{Transfer}
use Rattle.genie_model.specs.Pending.{waits_for}
use Rattle.genie_model.specs.Sending.{after_staging}
use Rattle.genie_tables.proofs.FirstPassing.{passed_changed}
use Rattle.genie_tables.specs.Lemmas.Succeeding.{on_ok}
use Rattle.genie_tables.proofs.transfers.stage_first.Goals as goal

pub returns-then-is_queued_for : goal.returns-then-is_queued_for
returns-then-is_queued_for c =
    let d : Transfer = c.index-transfers-i.result in
    let same = c.loop-i.invariant.same in
    let waits : waits_for c.args.device (get_or c.args.transfers.now c.loop-i.i d) ≡ true = rw same at (sym c.is_queued_for.ensures ∙ c.if-is_queued_for.true) in
    on_ok c.stage.result (λ made.
    let staged : c.stage.new.self ≡ after_staging c.args.k c.args.bytes.now (get_or c.args.transfers.now c.loop-i.i d) = rw same at made in
    rw (same, staged) (passed_changed (waits_for c.args.device) c.args.transfers.now c.loop-i.i d (omega arith) c.loop-i.invariant.passed waits (after_staging c.args.k c.args.bytes.now)))
    c.stage.ensures
