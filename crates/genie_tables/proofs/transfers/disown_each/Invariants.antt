use Rattle.std.proofs.Common.{◌≡◌, ◌++◌, take, drop}
use Rattle.std.specs.Prelude.{map}
use Rattle.genie_model.specs.Space.{disowned}
use Rattle.genie_tables.proofs.transfers.disown_each.Given as goal

abbrev pub invariant-loop-transfer : goal.invariant-loop-transfer
invariant-loop-transfer l = l.transfers ≡ map (disowned l.pid) (take l.transfer-index l.fn.transfers) ++ drop l.transfer-index l.fn.transfers
