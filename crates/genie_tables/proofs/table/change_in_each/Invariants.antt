use Rattle.std.proofs.Common.{◌≡◌, ◌++◌, take, drop}
use Rattle.std.specs.Prelude.{map}
use Rattle.genie_tables.specs.Changes.{change_of}
use Rattle.genie_model.specs.Regions.{change_process, changed_in}
use Rattle.genie_tables.proofs.table.change_in_each.Given as goal

abbrev pub invariant-loop-process : goal.invariant-loop-process
invariant-loop-process l = l.processes ≡ map (change_process (changed_in l.number (change_of l.change))) (take l.process-index l.fn.processes) ++ drop l.process-index l.fn.processes
