use Rattle.std.proofs.Common.{◌∙◌, List, ap, drop, subst}
use Rattle.std.proofs.lemmas.List.{take_rest}
use Rattle.seat_journal.specs.declared.entry.Entry.{Entry}
use Rattle.seat_pickup.specs.Counting.{AreCounts}
use Rattle.seat_pickup.specs.Moves.{cancelled_by, confirmed_by, is_at, sold_by, sum_of}
use Rattle.seat_pickup.proofs.moved.moves_behind.Goals as goal

pub returns-clause-moved : goal.returns-clause-moved
returns-clause-moved c =
    let since = take_rest c.journal.result.now c.args.lines ∙ ap (drop c.args.lines) c.journal.ensures.value in
    record {
      sold = subst (λ (l : List Entry). AreCounts c.args.flights (sum_of (sold_by (is_at c.args.split)) l) c.in_ok-sold_in.field-0.items) since c.in_ok-sold_in.ensures;
      cancelled = subst (λ (l : List Entry). AreCounts c.args.flights (sum_of (cancelled_by (is_at c.args.split)) l) c.in_ok-cancelled_in.field-0.items) since c.in_ok-cancelled_in.ensures;
      confirmed = subst (λ (l : List Entry). AreCounts c.args.flights (sum_of (confirmed_by (is_at c.args.split)) l) c.in_ok-confirmed_in.field-0.items) since c.in_ok-confirmed_in.ensures;
    }
