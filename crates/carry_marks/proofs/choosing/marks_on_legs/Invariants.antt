-- Those of the legs so far are there.
use Rattle.std.proofs.Common.{◌≡◌, take}
use Rattle.seat_rules.specs.Inventory.{state_now}
use Rattle.carry_marks.specs.Marks.{marks_on_legs}
use Rattle.carry_marks.proofs.choosing.marks_on_legs.Given as goal

abbrev pub invariant-loop-leg : goal.invariant-loop-leg
invariant-loop-leg l = l.all.items ≡ marks_on_legs (state_now l.core).grid l.new l.grid (take l.leg-index l.legs)
