use Rattle.carry_parts.proofs.Kept.{few_kept}
use Rattle.carry_parts.specs.Parts.{has_flight}
use Rattle.carry_parts.proofs.keeping.own_owned.Goals as goal

pub returns-clause-few : goal.returns-clause-few
returns-clause-few c =
    few_kept (λ o. has_flight c.args.part c.args.flights.now o.booking.place.flight) c.args.kept.now c.loop-owned.own.items c.loop-owned.owned-index c.loop-owned.invariant
    c.loop-owned-test.false
