-- The sessions so far have begun their scripts.
use Rattle.std.proofs.Common.{◌-◌, ◌≤◌}
use Rattle.seat_scripts.specs.Resuming.{HaveBegunBelow}
use Rattle.seat_scripts.proofs.resuming.all_begun.Given as goal

abbrev pub invariant-loop-session : goal.invariant-loop-session
invariant-loop-session l = record {
  from_one : 1 ≤ l.session;
  within : l.session ≤ 9;
  below : HaveBegunBelow l.flights l.scripts l.lines l.session;
}

abbrev pub decreases-loop-session : goal.decreases-loop-session
decreases-loop-session l = 9 - l.session
