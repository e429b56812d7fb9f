use Rattle.std.proofs.Common.{◌≡◌, map, take}
use Rattle.ssim_flights.specs.declared.flight.DatedLeg.{DatedLeg}
use Rattle.seat_limits.specs.Authorised.{authorised, leg_pair, AreNumbers}
use Rattle.seat_limits.specs.RowStretches.{AllKnow}
use Rattle.seat_limits.proofs.building.add_flight.Given as goal

abbrev pub invariant-loop-j : goal.invariant-loop-j
invariant-loop-j l = record {
  flights : l.plan.flights ≡ l.fn.plan.flights;
  legs : l.plan.legs ≡ take l.j (map (λ (leg : DatedLeg). authorised l.rows (leg_pair l.flight leg) leg.day) l.legs);
  numbers : AreNumbers l.numbers.beside.items l.rows l.plan.ladders;
  nears : AllKnow l.index.last l.nears;
}
