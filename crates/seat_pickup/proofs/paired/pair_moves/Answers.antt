use Rattle.std.proofs.Common.{◌∙◌, ap, drop, sym, take}
use Rattle.std.proofs.lemmas.List.{take_rest}
use Rattle.seat_pickup.specs.Moves.{cancelled_by, confirmed_by, sold_by}
use Rattle.seat_pickup.proofs.Between.{counted_there}
use Rattle.seat_pickup.proofs.paired.pair_moves.Goals as goal

pub returns-clause-moved : goal.returns-clause-moved
returns-clause-moved c =
    let one = c.same.ensures ∙ sym c.same-2.ensures in
    let ahead = ap (take c.args.lines) c.journal.ensures.value in
    let since = take_rest c.journal-2.result.now c.args.lines ∙ ap (drop c.args.lines) c.journal-2.ensures.value in
    record {
      sold_ahead = counted_there sold_by c.in_ok-count.count c.same.result c.same-2.result _ (take c.args.lines c.args.core.now.journal) c.in_ok-sold_in.field-0.items one ahead c.in_ok-sold_in.ensures;
      cancelled_ahead = counted_there cancelled_by c.in_ok-count.count c.same.result c.same-2.result _ (take c.args.lines c.args.core.now.journal) c.in_ok-cancelled_in.field-0.items one ahead c.in_ok-cancelled_in.ensures;
      confirmed_ahead = counted_there confirmed_by c.in_ok-count.count c.same.result c.same-2.result _ (take c.args.lines c.args.core.now.journal) c.in_ok-confirmed_in.field-0.items one ahead c.in_ok-confirmed_in.ensures;
      sold = counted_there sold_by c.in_ok-count.count c.same.result c.same-2.result _ (drop c.args.lines c.args.core.now.journal) c.in_ok-sold_in-2.field-0.items one since c.in_ok-sold_in-2.ensures;
      cancelled = counted_there cancelled_by c.in_ok-count.count c.same.result c.same-2.result _ (drop c.args.lines c.args.core.now.journal) c.in_ok-cancelled_in-2.field-0.items one since c.in_ok-cancelled_in-2.ensures;
      confirmed = counted_there confirmed_by c.in_ok-count.count c.same.result c.same-2.result _ (drop c.args.lines c.args.core.now.journal) c.in_ok-confirmed_in-2.field-0.items one since c.in_ok-confirmed_in-2.ensures;
    }
