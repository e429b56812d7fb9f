-- The ladders of the legs so far are there, and each of them, and of the file's, is a ladder or none.
use Rattle.std.proofs.Common.{◌≡◌, ◌++◌, ℕ, drop}
use Rattle.seat_nesting.specs.Nesting.{IsLegLadder, steps_at}
use Rattle.limit_changes.specs.Legs.{each_from}
use Rattle.carry_limits.specs.Legs.{leg_ladder, leg_ladders}
use Rattle.carry_limits.specs.Lifting.{LegsNest, lifted_on}
use Rattle.carry_limits.proofs.lifting.add_flight.Given as goal

abbrev pub invariant-loop-leg : goal.invariant-loop-leg
invariant-loop-leg l = record {
  flights : l.plan.flights ≡ l.fn.plan.flights;
  so_far : l.plan.legs ++ each_from (leg_ladder (lifted_on l.seasons l.by l.flight)) l.leg (drop l.leg l.legs)
      ≡ leg_ladders (lifted_on l.seasons l.by l.flight) l.legs;
  nested : (leg : ℕ) → IsLegLadder (steps_at l.plan.legs leg);
  file : LegsNest l.seasons.file.now l.flight l.leg;
}
