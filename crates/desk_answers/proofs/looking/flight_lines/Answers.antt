use Rattle.std.proofs.Common.{ℕ, ◌+◌, List, [], ◌++◌, ap, get_or, length, refl, subst, ◌∙◌}
use Rattle.std.proofs.lemmas.List.{get_or_default}
use Rattle.ssim_flights.specs.declared.flight.Flight.{Flight}
use Rattle.flight_days.proofs.Leaving.{listed_inside}
use Rattle.seat_desk.proofs.Texts.{put_more, text_whole}
use Rattle.desk_answers.specs.Looks.{IsFlightLine}
use Rattle.desk_answers.proofs.Days.{day_text, IsNumbered}
use Rattle.desk_answers.proofs.looking.flight_lines.Goals as goal

pub flight-flight-requires : goal.flight-flight-requires
flight-flight-requires g c =
    listed_inside c.args.days.now c.args.flights.now c.args.look.now.day c.on-numbers.result.now c.loop-index.index-index c.requires.days c.on-numbers.ensures c.loop-index-test.true

pub loop-index-preserved : goal.loop-index-preserved
loop-index-preserved g c =
    let line : List ℕ = c.in_ok-line.line.items in
    let flights : List Flight = c.args.flights.now in
    let grid = g.S.Seats.ladders c.args.seats.now in
    let state = g.S.Seats.state c.args.seats.now in
    let count = g.S.Seats.count c.args.seats.now in
    let look = c.args.look.now in
    let numbers : List ℕ = c.on-numbers.result.now in
    let k : ℕ = c.loop-index.index-index in
    let index : ℕ = get_or numbers k 0 in
    let is_line : IsFlightLine flights grid state count look index c.flight-flight.result line =
    subst (λ (l : List Flight). IsFlightLine l grid state count look index c.flight-flight.result line) c.requires.served c.in_ok-line.ensures in
    let numbered : IsNumbered flights grid state count look (0 + k) index line =
    record { flown = c.flight-flight.result; at = c.flight-flight.ensures.value; is_line = is_line } in
    put_more (IsNumbered flights grid state count look) 0 k numbers index [] c.loop-index.text.items c.put.new.text.items line
    c.loop-index.invariant c.loop-index-test.true (get_or_default numbers k 0 index c.loop-index-test.true) numbered
    (c.in_ok-put.ensures ∙ ap (λ (l : List ℕ). c.loop-index.text.items ++ l) c.as_slice.ensures.value)

pub returns : goal.returns
returns g c =
    let flights : List Flight = c.args.flights.now in
    let grid = g.S.Seats.ladders c.args.seats.now in
    let state = g.S.Seats.state c.args.seats.now in
    let count = g.S.Seats.count c.args.seats.now in
    let look = c.args.look.now in
    let numbers : List ℕ = c.on-numbers.result.now in
    day_text flights grid state count look c.args.days.now numbers c.loop-index.text.items c.requires.days c.on-numbers.ensures
    (text_whole (IsNumbered flights grid state count look) 0 c.loop-index.index-index (length numbers) numbers c.loop-index.text.items c.loop-index.invariant refl c.loop-index-test.false)
