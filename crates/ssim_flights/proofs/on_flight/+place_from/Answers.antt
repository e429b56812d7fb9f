use Rattle.std.proofs.Common.{◌≡◌, ◌∷◌, rules}
use Rattle.ssim_flights.proofs.FirstPlaces.{from_first, from_rest}
use Rattle.ssim_flights.proofs.on_flight.+place_from.Goals as goal

pub returns-in-Some : goal.returns-in-Some
returns-in-Some t c =
    let parts : c.args.legs.now ≡ c.in_ok-first.first.now ∷ c.in_ok-first.rest.now = search rules in
    from_first _ c.args.flight.now c.args.n c.args.from c.in_ok-first.first.now c.in_ok-first.rest.now c.args.legs.now c.in-Some.place parts c.in-Some.ensures

pub returns-in-None : goal.returns-in-None
returns-in-None t c =
    let parts : c.args.legs.now ≡ c.in_ok-first.first.now ∷ c.in_ok-first.rest.now = search rules in
    from_rest _ c.args.flight.now c.args.n c.args.from c.in_ok-first.first.now c.in_ok-first.rest.now c.args.legs.now _ parts c.in-None.ensures c.place_from.ensures
