use Rattle.std.proofs.Common.{◌≡◌}
use Rattle.genie_model.specs.Pending.{is_numbered}
use Rattle.genie_tables.proofs.FirstPassing.{Passed}
use Rattle.genie_tables.proofs.transfers.take.Given as goal

abbrev pub invariant-loop-i : goal.invariant-loop-i
invariant-loop-i l = record {
  same : l.transfers.items ≡ l.fn.transfers.items;
  passed : Passed (is_numbered l.number) l.fn.transfers.items l.i;
}
