-- No session above has a line.
use Rattle.std.proofs.Common.{◌≡◌, ◌≤◌}
use Rattle.seat_replies.specs.Going.{highest_to}
use Rattle.seat_scripts.proofs.past.highest.Given as goal

abbrev pub invariant-loop-session : goal.invariant-loop-session
invariant-loop-session l = (highest_to 8 l.core.journal ≡ highest_to l.session l.core.journal) × (l.session ≤ 8)

abbrev pub decreases-loop-session : goal.decreases-loop-session
decreases-loop-session l = l.session
