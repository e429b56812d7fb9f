use Rattle.std.proofs.Common.{◌≡◌, ◌∙◌, ℕ, List, ap}
use Rattle.seat_pickup.specs.Counting.{count_at}
use Rattle.seat_pickup.specs.declared.moved.MoveSums.{MoveSums}
use Rattle.seat_pickup.proofs.Picking.{sums_are}
use Rattle.seat_pickup.proofs.moved.moved_at.Goals as goal

pub returns : goal.returns
returns c =
    let sold : c.count_at-sold.result ≡ count_at c.args.moves.now.sold.items c.args.flight c.args.letter =
    c.count_at-sold.ensures ∙ ap (λ (row : List ℕ). count_at row c.args.flight c.args.letter) c.deref.ensures.value in
    let cancelled : c.count_at-cancelled.result ≡ count_at c.args.moves.now.cancelled.items c.args.flight c.args.letter =
    c.count_at-cancelled.ensures ∙ ap (λ (row : List ℕ). count_at row c.args.flight c.args.letter) c.deref-2.ensures.value in
    let confirmed : c.count_at-confirmed.result ≡ count_at c.args.moves.now.confirmed.items c.args.flight c.args.letter =
    c.count_at-confirmed.ensures ∙ ap (λ (row : List ℕ). count_at row c.args.flight c.args.letter) c.deref-3.ensures.value in
    let made : MoveSums = record {
      before = c.in_ok-before.before;
      sold = c.count_at-sold.result;
      cancelled = c.count_at-cancelled.result;
      confirmed = c.count_at-confirmed.result;
      held = c.held_in-held.result;
    } in
    sums_are c.args.core.now.grid c.args.core.now.journal c.args.lines c.args.moves.now c.args.flight c.args.letter made c.journal.ensures.legal c.requires.moved c.requires.inside
    c.requires.from c.requires.to c.held_in-held.ensures sold cancelled confirmed c.in_ok-before.ensures
