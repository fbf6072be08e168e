use Rattle.std.proofs.Common.{◌≡◌, ◌+◌}
use Rattle.std.specs.Prelude.{count_by, vec_capacity}
use Rattle.genie_hiding.specs.Hidden.{is_of, IsKept}
use Rattle.genie_hiding.proofs.Discarded.{Discarding}
use Rattle.genie_hiding.proofs.hidden.discard_from.Given as goal

abbrev pub invariant-regions : goal.invariant-regions
invariant-regions l = record {
  so_far : Discarding l.pid l.fn.kept.items l.kept.items l.fn.memory l.memory;
  fewer : count_by (is_of l.pid) l.kept.items + l.done ≡ count_by (is_of l.pid) l.fn.kept.items;
  few : IsKept l.kept.items (vec_capacity l.kept);
}
