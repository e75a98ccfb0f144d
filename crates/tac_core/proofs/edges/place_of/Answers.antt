use Rattle.std.proofs.Common.{rules}
use Rattle.std.proofs.lemmas.List.Sorted.{IsPartitionPoint-from_clause}
use Rattle.tac_core.specs.Counts.{is_before}
use Rattle.tac_core.proofs.edges.place_of.Goals as goal

pub returns : goal.returns
returns c =
    IsPartitionPoint-from_clause (λ e. is_before e.from e.to c.args.from c.args.to) _ _ c.partition_point.ensures.partitioned c.requires (λ a r q k. search rules)
