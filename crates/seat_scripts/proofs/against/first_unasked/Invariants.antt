-- The sessions so far are as asked.
use Rattle.std.proofs.Common.{◌-◌, ◌≤◌}
use Rattle.seat_scripts.specs.Against.{AreAskedBelow}
use Rattle.seat_scripts.proofs.against.first_unasked.Given as goal

abbrev pub invariant-loop-session : goal.invariant-loop-session
invariant-loop-session l = record {
  from_one : 1 ≤ l.session;
  within : l.session ≤ 9;
  below : AreAskedBelow l.flights l.scripts l.lines l.session;
}

abbrev pub decreases-loop-session : goal.decreases-loop-session
decreases-loop-session l = 9 - l.session
