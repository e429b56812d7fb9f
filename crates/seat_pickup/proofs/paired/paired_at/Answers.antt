use Rattle.std.proofs.Common.{◌≡◌, ◌∙◌, ℕ, List, ap}
use Rattle.seat_pickup.specs.Counting.{count_at}
use Rattle.seat_pickup.specs.declared.moved.MoveSums.{MoveSums}
use Rattle.seat_pickup.proofs.Between.{pair_sums_are}
use Rattle.seat_pickup.proofs.paired.paired_at.Goals as goal

pub returns : goal.returns
returns c =
    let n : ℕ = c.args.number in
    let made : MoveSums = record {
      before = c.in_ok-before.before;
      sold = c.count_at-sold.result;
      cancelled = c.count_at-cancelled.result;
      confirmed = c.count_at-confirmed.result;
      held = c.in_ok-held.held;
    } in
    pair_sums_are c.args.core.now.grid c.args.core.now.journal c.args.lines c.args.moves.now n c.count_at-sold_ahead.result
    c.count_at-cancelled_ahead.result c.count_at-confirmed_ahead.result made c.journal.ensures.legal c.requires.moved c.requires.inside
    (c.count_at-sold_ahead.ensures ∙ ap (λ (row : List ℕ). count_at row n 65) c.deref.ensures.value)
    (c.count_at-cancelled_ahead.ensures ∙ ap (λ (row : List ℕ). count_at row n 65) c.deref-2.ensures.value)
    (c.count_at-confirmed_ahead.ensures ∙ ap (λ (row : List ℕ). count_at row n 65) c.deref-3.ensures.value)
    (c.count_at-sold.ensures ∙ ap (λ (row : List ℕ). count_at row n 65) c.deref-4.ensures.value)
    (c.count_at-cancelled.ensures ∙ ap (λ (row : List ℕ). count_at row n 65) c.deref-5.ensures.value)
    (c.count_at-confirmed.ensures ∙ ap (λ (row : List ℕ). count_at row n 65) c.deref-6.ensures.value)
    c.in_ok-before.ensures c.in_ok-held.ensures
