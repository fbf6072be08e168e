use Rattle.std.proofs.Common.{◌≡◌, ℕ, ◌<◌, ◌≤◌, ◌^◌, false, get_or}
use Rattle.genie_base.specs.Regions.{is_free}
use Rattle.genie_region.specs.declared.region.Region.{Region}
use Rattle.genie_region.specs.Layouts.{extent, end_of}
use Rattle.genie_region.proofs.regions.lowest_fit.Given as goal

abbrev pub invariant-loop-region : goal.invariant-loop-region
invariant-loop-region l = record {
  low : 512 ≤ l.start;
  most : l.start < 2 ^ 33;
  behind : (i : ℕ) (d : Region) → i < l.region-index → end_of (get_or l.regions i d) ≤ l.start;
  taken : (lower : ℕ) → 512 ≤ lower → lower < l.start → is_free extent lower l.pages l.regions ≡ false;
}
