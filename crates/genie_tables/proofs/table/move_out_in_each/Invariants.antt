use Rattle.std.proofs.Common.{◌≡◌, ◌++◌, take, drop}
use Rattle.std.specs.Prelude.{map}
use Rattle.genie_model.specs.Regions.{change_process}
use Rattle.genie_model.specs.Outputs.{moved_out_of}
use Rattle.genie_tables.proofs.table.move_out_in_each.Given as goal

abbrev pub invariant-loop-process : goal.invariant-loop-process
invariant-loop-process l = l.processes ≡ map (change_process (moved_out_of l.number)) (take l.process-index l.fn.processes) ++ drop l.process-index l.fn.processes
