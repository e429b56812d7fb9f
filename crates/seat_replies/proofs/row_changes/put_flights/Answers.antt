use Rattle.std.proofs.Common.{ℕ, List, ap, get_or, ◌∙◌, ◌++◌}
use Rattle.std.proofs.lemmas.List.{get_or_default}
use Rattle.flight_days.proofs.Leaving.{listed_inside}
use Rattle.seat_journal.specs.declared.entry.Control.{Control}
use Rattle.seat_replies.proofs.DayLegs.{day_legs, number_put, numbers_put, on_numbers}
use Rattle.seat_replies.proofs.row_changes.put_flights.Goals as goal

pub flight-flight-requires : goal.flight-flight-requires
flight-flight-requires c =
    listed_inside c.args.days.now c.args.flights.now c.args.row.now.day c.on-numbers.result.now c.loop-number.number-index c.requires.days
    c.on-numbers.ensures c.loop-number-test.true

pub loop-number-preserved : goal.loop-number-preserved
loop-number-preserved c =
    let numbers : List ℕ = c.on-numbers.result.now in
    let k : ℕ = c.loop-number.number-index in
    let number : ℕ = get_or numbers k 0 in
    number_put c.args.row.now c.args.flights.now numbers k number c.flight-flight.result
    (c.args.all.now.items ++ on_numbers c.args.row.now c.args.flights.now numbers) c.loop-number.all.items c.put_flight.new.all.items
    c.loop-number-test.true (get_or_default numbers k 0 number c.loop-number-test.true) c.flight-flight.ensures.value
    c.loop-number.invariant c.in_ok-put_flight.ensures

pub returns : goal.returns
returns c =
    let numbers : List ℕ = c.on-numbers.result.now in
    numbers_put c.args.row.now c.args.flights.now numbers c.loop-number.number-index
    (c.args.all.now.items ++ on_numbers c.args.row.now c.args.flights.now numbers) c.loop-number.all.items c.loop-number-test.false c.loop-number.invariant
    ∙ ap (λ (l : List Control). c.args.all.now.items ++ l) (day_legs c.args.row.now c.args.flights.now c.args.days.now numbers c.requires.days c.on-numbers.ensures)
