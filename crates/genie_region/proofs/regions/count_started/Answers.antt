use Rattle.std.proofs.Common.{◌*◌, rules}
use Rattle.std.proofs.lemmas.List.Sorted.{IsPartitionPoint-from_clause, IsPartitionedBy-leb}
use Rattle.genie_region.specs.Layouts.{starts_by}
use Rattle.genie_region.proofs.Orders.{starts_rise}
use Rattle.genie_region.proofs.regions.count_started.Goals as goal

pub returns-clause-point : goal.returns-clause-point
returns-clause-point c =
    let parted = IsPartitionedBy-leb (λ r. r.start * c.args.page) _ c.args.addr (starts_rise c.args.page _ c.requires) in
    IsPartitionPoint-from_clause (starts_by c.args.page c.args.addr) _ _ c.partition_point.ensures.partitioned parted (λ a r q k. search rules)
