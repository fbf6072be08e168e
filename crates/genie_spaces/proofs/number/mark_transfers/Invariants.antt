use Rattle.std.proofs.Common.{take}
use Rattle.std.specs.List.{list_any}
use Rattle.genie_kernel.specs.Calls.{names_weakly}
use Rattle.genie_spaces.specs.Marks.{Marks}
use Rattle.genie_spaces.proofs.number.mark_transfers.Given as goal

abbrev pub invariant-transfers : goal.invariant-transfers
invariant-transfers l = Marks (λ n. list_any (names_weakly n) (take l.i l.transfers)) l.fn.marks l.marks
