use Rattle.seat_pickup.specs.Moves.{is_at}
use Rattle.seat_pickup.specs.Pickups.{moved_behind}
use Rattle.pickup_questions.proofs.Grouping.{leg_kept, leg_left}
use Rattle.pickup_questions.proofs.by_leg.put_leg.Goals as goal

pub returns-then-not-has_any : goal.returns-then-not-has_any
returns-then-not-has_any c =
    leg_left (moved_behind c.args.core.now.grid c.args.core.now.journal c.args.lines (is_at c.args.moves.now.split)) c.args.index c.args.flight.now c.args.leg c.args.dated.now c.in_ok-sums.sums c.has_any.result c.args.sheet.now
    c.in_ok-sums.ensures c.has_any.ensures c.if-not-has_any.true c.requires.ready

pub returns : goal.returns
returns c =
    leg_kept (moved_behind c.args.core.now.grid c.args.core.now.journal c.args.lines (is_at c.args.moves.now.split)) c.args.index c.args.flight.now c.args.leg c.args.dated.now c.in_ok-sums.sums c.has_any.result c.args.sheet.now c.put_cells.new.sheet
    c.in_ok-sums.ensures c.has_any.ensures c.if-not-has_any.false c.in_ok-put_cells.ensures
