use Rattle.std.proofs.Common.{◌≡◌}
use Rattle.genie_model.specs.Pending.{waits_for}
use Rattle.genie_tables.proofs.FirstPassing.{Passed}
use Rattle.genie_tables.proofs.transfers.send_first.Given as goal

abbrev pub invariant-loop-i : goal.invariant-loop-i
invariant-loop-i l = record {
  same : l.transfers ≡ l.fn.transfers;
  passed : Passed (waits_for l.device) l.fn.transfers l.i;
}
