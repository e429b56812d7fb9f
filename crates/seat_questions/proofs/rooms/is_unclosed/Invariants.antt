-- The ranks looked at so far have other classes.
use Rattle.std.proofs.Common.{◌≡◌, drop}
use Rattle.seat_questions.specs.Rooms.{is_unclosed}
use Rattle.seat_questions.proofs.rooms.is_unclosed.Given as goal

abbrev pub invariant-loop-step : goal.invariant-loop-step
invariant-loop-step l = is_unclosed (drop l.step-index l.steps) l.class ≡ is_unclosed l.steps l.class
