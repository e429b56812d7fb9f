use Rattle.std.proofs.Common.{ltb, ltb-true, ltb-false, arith, rules}
use Rattle.std.proofs.lemmas.List.Sorted.{IsPartitionPoint-from_clause, IsPartitionedBy-ltb}
use Rattle.seat_questions.proofs.winning.first_at.Goals as goal

pub returns : goal.returns
returns c =
    let parted = IsPartitionedBy-ltb (λ x. x) _ c.args.at c.requires in
    let point = IsPartitionPoint-from_clause (λ x. ltb x c.args.at) _ _ c.partition_point.ensures.partitioned parted (λ a r q k. search rules) in
    record {
      inside = c.partition_point.ensures.bound;
      below = λ k lt. ltb-true _ _ (point.0 k 0 (omega arith) lt);
      rest = λ k le lt. ltb-false _ _ (point.1 k 0 le lt);
    }
