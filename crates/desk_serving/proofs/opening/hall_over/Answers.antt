use Rattle.std.proofs.Common.{◌≡◌, ℕ, List, ap, rules, subst, sym, ◌∙◌}
use Rattle.airline_base.specs.Days.{IsCenturyDay}
use Rattle.seat_desk.specs.Loading.{IsGridOf}
use Rattle.seat_serving.specs.Served.{Served}
use Rattle.ssim_flights.specs.declared.flight.Flight.{Flight as Flown}
use Rattle.desk_serving.proofs.opening.hall_over.Goals as goal

grid_as : {D : Type 0} (flights : List Flown) (s host : Served D) → s ≡ host → IsGridOf flights host.grid → IsGridOf flights s.grid
grid_as {D} flights s host same is = subst (λ (x : Served D). IsGridOf flights x.grid) (sym same) is

day_as : (today day : ℕ) → today ≡ day → IsCenturyDay day → IsCenturyDay today
day_as today day same is = subst IsCenturyDay (sym same) is

tape_as : {D : Type 0} (s host : Served D) (tape : D) → s ≡ host → tape ≡ s.tape → tape ≡ host.tape
tape_as {D} s host tape same is = is ∙ ap (λ (x : Served D). x.tape) same

pub over-requires-clause-grid : goal.over-requires-clause-grid
over-requires-clause-grid g c =
    grid_as c.args.flights.now c.into_serving-serving.result c.args.host.serving (search rules) c.requires.grid

pub over-requires-clause-today : goal.over-requires-clause-today
over-requires-clause-today g c = day_as c.today-today.result c.args.host.desk.today (search rules) c.requires.today

pub returns-clause-serving : goal.returns-clause-serving
returns-clause-serving g c =
    let same : c.into_serving-serving.result ≡ c.args.host.serving = search rules in
    c.over.ensures.parts.1 ∙ same

pub returns-in_default-clause-tape : goal.returns-in_default-clause-tape
returns-in_default-clause-tape g c =
    tape_as c.into_serving-serving.result c.args.host.serving c.close.result (search rules) c.close.ensures.tape

pub returns-in_default-new-clause-tape : goal.returns-in_default-new-clause-tape
returns-in_default-new-clause-tape g c =
    tape_as c.into_serving-serving.result c.args.host.serving c.close-in_default-new.result (search rules)
    c.close-in_default-new.ensures.tape

pub returns-in_default-silent_desks-clause-tape : goal.returns-in_default-silent_desks-clause-tape
returns-in_default-silent_desks-clause-tape g c =
    tape_as c.into_serving-serving.result c.args.host.serving c.close-in_default-silent_desks.result (search rules)
    c.close-in_default-silent_desks.ensures.tape

pub returns-in_default-no_calls-clause-tape : goal.returns-in_default-no_calls-clause-tape
returns-in_default-no_calls-clause-tape g c =
    tape_as c.into_serving-serving.result c.args.host.serving c.close-in_default-no_calls.result (search rules)
    c.close-in_default-no_calls.ensures.tape
