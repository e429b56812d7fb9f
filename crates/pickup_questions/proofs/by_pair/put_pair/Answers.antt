use Rattle.seat_pickup.specs.Pairs.{pairs_at}
use Rattle.seat_pickup.specs.Pickups.{moved_behind}
use Rattle.pickup_questions.proofs.Pairing.{pair_kept, pair_left}
use Rattle.pickup_questions.proofs.by_pair.put_pair.Goals as goal

pub returns-then-not-has_any : goal.returns-then-not-has_any
returns-then-not-has_any c =
    pair_left (moved_behind c.args.core.now.grid c.args.core.now.journal c.args.lines (pairs_at c.args.moves.now.pairing)) c.args.number c.args.pair.now c.in_ok-sums.sums c.has_any.result c.args.sheet.now
    c.in_ok-sums.ensures c.has_any.ensures c.if-not-has_any.true c.requires.ready

pub returns : goal.returns
returns c =
    pair_kept (moved_behind c.args.core.now.grid c.args.core.now.journal c.args.lines (pairs_at c.args.moves.now.pairing)) c.args.number c.args.pair.now c.in_ok-sums.sums c.has_any.result c.args.sheet.now c.put_cells.new.sheet
    c.in_ok-sums.ensures c.has_any.ensures c.if-not-has_any.false c.in_ok-put_cells.ensures
