use Rattle.std.proofs.Common.{nat_lt, rules}
use Rattle.std.proofs.lemmas.List.Sorted.{IsPartitionPoint-from_clause, IsPartitionedBy-ltb}
use Rattle.seat_questions.proofs.Coverages.{parted}
use Rattle.seat_questions.proofs.coverage.below.Goals as goal

pub returns : goal.returns
returns c =
    let up = IsPartitionedBy-ltb (λ n. n) c.args.ascending.now c.args.number c.requires in
    let point = IsPartitionPoint-from_clause (λ n. nat_lt n c.args.number) _ _ c.partition_point.ensures.partitioned up (λ a r q k. search rules) in
    parted (λ n. nat_lt n c.args.number) c.args.ascending.now c.partition_point.result point c.partition_point.ensures.bound
