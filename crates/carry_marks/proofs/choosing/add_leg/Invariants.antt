-- Those of the steps so far are there.
use Rattle.std.proofs.Common.{◌≡◌, ◌++◌, flat_map, option_to_list, take}
use Rattle.carry_marks.specs.Marks.{mark_of}
use Rattle.carry_marks.proofs.choosing.add_leg.Given as goal

abbrev pub invariant-loop-step : goal.invariant-loop-step
invariant-loop-step l =
    l.all.items ≡ l.initial.all.items ++ flat_map (λ s. option_to_list (mark_of l.new l.grid l.leg s)) (take l.step-index l.steps)
