-- The bars of the ranks so far are written, and those that are left make the text whole.
use Rattle.std.proofs.Common.{◌≡◌, ◌++◌, drop}
use Rattle.seat_rules.specs.Bookings.{held}
use Rattle.seat_rules.specs.Inventory.{state_now}
use Rattle.seat_questions.specs.Rooms.{bar_lines, leg_bars}
use Rattle.seat_questions.proofs.rooms.put_leg_bars.Given as goal

abbrev pub invariant-loop-i : goal.invariant-loop-i
invariant-loop-i l =
    l.text.items ++ bar_lines l.bars (held (state_now l.core).bookings l.flight l.leg) (drop l.i l.steps)
    ≡ l.initial.text.items ++ leg_bars l.bars (state_now l.core) l.flight l.leg
