use Rattle.std.proofs.Common.{◌≡◌, is_some, length}
use Rattle.seat_limits.specs.LadderText.{steps_in}
use Rattle.seat_limits.proofs.ladder_text.are_entries.Given as goal

abbrev pub invariant-loop-after : goal.invariant-loop-after
invariant-loop-after l = is_some (steps_in l.text) ≡ is_some (steps_in l.rest)

abbrev pub decreases-loop-after : goal.decreases-loop-after
decreases-loop-after l = length l.rest
