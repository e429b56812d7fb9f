-- The classes so far are written.
use Rattle.std.proofs.Common.{◌≡◌, ◌++◌, take}
use Rattle.std.specs.List.{flat_map}
use Rattle.desk_answers.specs.Looks.{class_text}
use Rattle.desk_answers.proofs.looking.put_classes.Given as goal

abbrev pub invariant-loop-step : goal.invariant-loop-step
invariant-loop-step g l = l.text.items ≡ l.initial.text.items ++ flat_map (class_text (g.S.Seats.state l.seats) l.place) (take l.step-index l.steps)
