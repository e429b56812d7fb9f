use Rattle.seat_nesting.specs.OwnLadders.{pool_of}
use Rattle.seat_nesting.proofs.CountedLegs.{fits_there}
use Rattle.seat_nesting.proofs.counts.Counts.fits.Goals as goal

pub returns-then-place : goal.returns-then-place
returns-then-place c =
    fits_there (pool_of c.self.inside.layout.shared.items c.self.inside.own.items) c.self.inside.flights c.args.self.now c.args.place c.from.result c.legs_on.result c.self.view_is c.from.ensures c.legs_on.ensures c.if-place.true
