use Rattle.std.proofs.Common.{◌∙◌, ◌≤◌, ◌++◌, List, length, ap, arith}
use Rattle.desk_hall.specs.Departed.{closings_from, closings_on}
use Rattle.desk_hall.proofs.Departing.{flight_put, flights_put, on_legs}
use Rattle.desk_hall.proofs.departed.closings.Goals as goal
use Rattle.seat_nesting.specs.Nesting.{Ladders}
use Rattle.seat_rules.specs.Journal.{replay}
use Rattle.ssim_flights.specs.declared.flight.DatedLeg.{DatedLeg}

pub loop-number-preserved : goal.loop-number-preserved
loop-number-preserved g c =
    let limits : Ladders = (replay c.args.serving.now.grid c.args.serving.now.journal).grid in
    flight_put limits c.args.today c.loop-number.number c.args.flights.now c.flight-flight.result
    (closings_from limits c.args.today 0 c.args.flights.now) c.loop-number.all.items c.put_legs.new.all.items c.flight-flight.ensures.value
    c.loop-number.invariant
    (c.in_ok-put_legs.ensures
    ∙ ap (λ (l : List DatedLeg). c.loop-number.all.items ++ closings_on limits c.args.today c.loop-number.number 0 l) c.as_slice.ensures)

pub returns-clause-legs : goal.returns-clause-legs
returns-clause-legs g c =
    let limits : Ladders = (replay c.args.serving.now.grid c.args.serving.now.journal).grid in
    let over : length c.args.flights.now ≤ c.loop-number.number = omega (arith, c.loop-number-test.false, c.len-number-end.ensures.value) in
    on_legs c.args.flights.now limits c.args.today c.loop-number.all.items
    (flights_put limits c.args.today c.loop-number.number c.args.flights.now (closings_from limits c.args.today 0 c.args.flights.now)
    c.loop-number.all.items over c.loop-number.invariant)

pub returns-clause-value : goal.returns-clause-value
returns-clause-value g c =
    let limits : Ladders = (replay c.args.serving.now.grid c.args.serving.now.journal).grid in
    let over : length c.args.flights.now ≤ c.loop-number.number = omega (arith, c.loop-number-test.false, c.len-number-end.ensures.value) in
    flights_put limits c.args.today c.loop-number.number c.args.flights.now (closings_from limits c.args.today 0 c.args.flights.now)
    c.loop-number.all.items over c.loop-number.invariant
