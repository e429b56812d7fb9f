use Rattle.std.proofs.Common.{◌≡◌, ◌<◌, length, arith}
use Rattle.std.proofs.lemmas.Bool.Decides.{nat_tests}
use Rattle.seat_nesting.proofs.FlatCounts.{finds_legs, finds_no_legs}
use Rattle.seat_nesting.proofs.counted_flights.CountedFlights.legs_on.Goals as goal

pub returns-in-Some : goal.returns-in-Some
returns-in-Some c =
    let there = c.in-Some.ensures.lookup.0 in
    let lt : c.args.flight < length c.deref.result.now = grind (arith, nat_tests, there) in
    finds_legs c.self.inside.run.items c.self.inside.legs.items c.self.inside.flights.items c.deref.result.now c.args.self.now c.args.flight c.in-Some.part.now c.self.invariant c.self.view_is c.deref.ensures.value lt c.in-Some.ensures.lookup.1

pub returns-in-None : goal.returns-in-None
returns-in-None c =
    finds_no_legs c.self.inside.run.items c.self.inside.legs.items c.self.inside.flights.items c.deref.result.now c.args.self.now c.args.flight c.self.invariant c.self.view_is c.deref.ensures.value c.in-None.ensures.lookup.0
