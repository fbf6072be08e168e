use Rattle.std.proofs.Common.{◌≡◌, ◌≤◌, ◌*◌, ◌^◌, take}
use Rattle.std.specs.Prelude.{sum_by}
use Rattle.genie_model.specs.Pending.{cost_of}
use Rattle.genie_tables.proofs.transfers.wired.Given as goal

abbrev pub invariant-loop-transfer : goal.invariant-loop-transfer
invariant-loop-transfer l = record {
  so_far : l.wired ≡ sum_by (cost_of l.page) (take l.transfer-index l.transfers);
  small : l.wired ≤ 2 ^ 33 * l.transfer-index;
}
