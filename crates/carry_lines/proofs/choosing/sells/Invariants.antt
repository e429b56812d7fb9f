-- Each of the legs so far has the class, and it is open.
use Rattle.std.proofs.Common.{◌≡◌, ◌-◌}
use Rattle.seat_nesting.specs.Nesting.{each_leg, is_open_on, ladder_at}
use Rattle.carry_lines.proofs.choosing.sells.Given as goal

abbrev pub invariant-loop-leg : goal.invariant-loop-leg
invariant-loop-leg l = l.sold ≡ each_leg (λ leg. is_open_on (ladder_at l.grid l.flight leg) l.class) l.fn.place.from (l.leg - l.fn.place.from)
