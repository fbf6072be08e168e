use Rattle.std.proofs.Common.{◌≡◌, ◌≤◌, ◌*◌, ◌^◌, take}
use Rattle.std.specs.Prelude.{sum_by}
use Rattle.genie_model.specs.Regions.{region_pages}
use Rattle.genie_tables.proofs.table.committed.Given as goal

abbrev pub invariant-loop-process : goal.invariant-loop-process
invariant-loop-process l = record {
  so_far : l.pages ≡ sum_by region_pages (take l.process-index l.processes);
  small : l.pages ≤ 2 ^ 37 * l.process-index;
}
