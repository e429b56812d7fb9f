use Rattle.std.proofs.Common.{sym, ◌∙◌}
use Rattle.ssim_flights.proofs.FirstPlaces.{ends_elsewhere}
use Rattle.ssim_flights.proofs.on_flight.place_beginning.Goals as goal

pub returns-else-departs : goal.returns-else-departs
returns-else-departs c =
    ends_elsewhere c.args.flight.now c.args.place.flight c.args.place.from c.args.first.now c.args.place.to c.args.legs.now c.args.wanted.now (sym c.departs.ensures ∙ c.if-departs.false)
