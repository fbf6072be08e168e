use Rattle.std.proofs.Common.{rules}
use Rattle.std.proofs.lemmas.List.Sorted.{IsPartitionPoint-from_clause, IsPartitionedBy-leb}
use Rattle.genie_region.specs.Layouts.{ends_by, end_of}
use Rattle.genie_region.proofs.Orders.{ends_rise}
use Rattle.genie_region.proofs.regions.count_ended.Goals as goal

pub returns-clause-point : goal.returns-clause-point
returns-clause-point c =
    let parted = IsPartitionedBy-leb end_of _ c.args.page (ends_rise _ c.requires) in
    IsPartitionPoint-from_clause (ends_by c.args.page) _ _ c.partition_point.ensures.partitioned parted (λ a r q k. search rules)
