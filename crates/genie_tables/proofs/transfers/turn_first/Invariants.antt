use Rattle.std.proofs.Common.{◌≡◌}
use Rattle.genie_model.specs.Pending.{is_numbered}
use Rattle.genie_tables.proofs.FirstPassing.{Passed}
use Rattle.genie_tables.proofs.transfers.turn_first.Given as goal

abbrev pub invariant-loop-i : goal.invariant-loop-i
invariant-loop-i l = record {
  same : l.transfers ≡ l.fn.transfers;
  passed : Passed (is_numbered l.number) l.fn.transfers l.i;
}
