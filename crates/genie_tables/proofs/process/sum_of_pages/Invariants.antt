use Rattle.std.proofs.Common.{◌≡◌, ◌≤◌, ◌*◌, ◌^◌, take}
use Rattle.std.specs.Prelude.{sum_by}
use Rattle.genie_tables.proofs.process.sum_of_pages.Given as goal

abbrev pub invariant-loop-region : goal.invariant-loop-region
invariant-loop-region l = record {
  so_far : l.pages ≡ sum_by (λ r. r.pages) (take l.region-index l.regions);
  small : l.pages ≤ 2 ^ 32 * l.region-index;
}
