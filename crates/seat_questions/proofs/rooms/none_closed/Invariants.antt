-- No leg so far has the class closed.
use Rattle.std.proofs.Common.{◌≡◌, ◌-◌}
use Rattle.seat_nesting.specs.Nesting.{each_leg, ladder_at}
use Rattle.seat_rules.specs.Inventory.{state_now}
use Rattle.seat_questions.specs.Rooms.{is_unclosed}
use Rattle.seat_questions.proofs.rooms.none_closed.Given as goal

abbrev pub invariant-loop-leg : goal.invariant-loop-leg
invariant-loop-leg l =
    l.all ≡ each_leg (λ leg. is_unclosed (ladder_at (state_now l.core).grid l.flight leg) l.class) l.fn.place.from (l.leg - l.fn.place.from)
