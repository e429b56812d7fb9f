use Rattle.pickup_questions.proofs.Grouping.{flight_kept, flight_left}
use Rattle.pickup_questions.proofs.by_flight.put_flight.Goals as goal

pub returns-then-not-has_any : goal.returns-then-not-has_any
returns-then-not-has_any c =
    flight_left c.args.moved.now.groups c.args.moved.now.all.now c.args.index c.args.flight.now c.sums_at-sums.result c.has_any.result c.args.sheet.now
    c.requires.flights c.sums_at-sums.ensures c.has_any.ensures c.if-not-has_any.true c.requires.ready

pub returns : goal.returns
returns c =
    flight_kept c.args.moved.now.groups c.args.moved.now.all.now c.args.index c.args.flight.now c.sums_at-sums.result c.has_any.result c.args.sheet.now c.put_cells.new.sheet
    c.requires.flights c.sums_at-sums.ensures c.has_any.ensures c.if-not-has_any.false c.in_ok-put_cells.ensures
