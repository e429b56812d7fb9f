-- The ladders of the flights so far are there, and each of them, and of the file's, is a ladder or none.
use Rattle.std.proofs.Common.{◌≡◌, ◌++◌, [], ℕ, drop}
use Rattle.seat_nesting.specs.Nesting.{IsLegLadder, ladder_at}
use Rattle.limit_changes.specs.Legs.{each_from}
use Rattle.carry_limits.specs.Legs.{flight_ladders}
use Rattle.carry_limits.specs.Lifting.{lifted_limits, lifted_on}
use Rattle.carry_limits.proofs.Grids.{FlightsNest}
use Rattle.carry_limits.proofs.lifting.lifted_limits.Given as goal

abbrev pub invariant-loop-flight : goal.invariant-loop-flight
invariant-loop-flight l = record {
  so_far : l.plan.flights ++ each_from (flight_ladders (lifted_on l.seasons l.by)) l.flight (drop l.flight l.flights)
      ≡ lifted_limits l.seasons l.by;
  closed : l.plan.legs ≡ [];
  nested : (flight leg : ℕ) → IsLegLadder (ladder_at l.plan.flights flight leg);
  file : FlightsNest l.seasons.file.now l.flights l.flight;
}
