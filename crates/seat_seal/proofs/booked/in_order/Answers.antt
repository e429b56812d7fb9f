use Rattle.std.proofs.Common.{rules, subst, sym}
use Rattle.std.proofs.lemmas.List.Sorted.{IsNonDecreasingBy-from_sort_by_key}
use Rattle.seat_seal.specs.Booked.{AreInOrder}
use Rattle.seat_seal.proofs.booked.in_order.Goals as goal

pub returns-clause-sorted : goal.returns-clause-sorted
returns-clause-sorted c =
    let sorted : AreInOrder c.sort_unstable_by_key.new.self.items =
    IsNonDecreasingBy-from_sort_by_key (λ one. one.bytes) _ c.sort_unstable_by_key.ensures.sorted (λ a r q k. search rules) in
    subst AreInOrder (sym c.from_vec.ensures) sorted
