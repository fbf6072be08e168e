use Rattle.std.proofs.Common.{take}
use Rattle.std.specs.List.{list_any}
use Rattle.genie_spaces.specs.Marks.{Marks, has_region}
use Rattle.genie_spaces.proofs.number.mark_spaces.Given as goal

abbrev pub invariant-processes : goal.invariant-processes
invariant-processes l = Marks (λ n. list_any (has_region n) (take l.pid l.spaces.processes)) l.fn.marks l.marks
