use Rattle.std.proofs.Common.{◌≡◌, [], map, take}
use Rattle.seat_limits.specs.Authorised.{authorised_legs, AreNumbers}
use Rattle.seat_limits.specs.RowStretches.{AllKnow}
use Rattle.seat_limits.proofs.building.plan_of.Given as goal

abbrev pub invariant-loop-i : goal.invariant-loop-i
invariant-loop-i l = record {
  flights : l.plan.flights ≡ map (authorised_legs l.rows) (take l.i l.flights);
  closed : l.plan.legs ≡ [];
  numbers : AreNumbers l.numbers.beside.items l.rows l.plan.ladders;
  nears : AllKnow l.index.last l.nears;
}
