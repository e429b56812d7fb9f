-- What the lines so far moved is added.
use Rattle.std.proofs.Common.{take}
use Rattle.seat_pickup.specs.Counting.{Adds}
use Rattle.seat_pickup.specs.Moves.{confirmed_by, sum_of}
use Rattle.seat_pickup.specs.Pairs.{tally_at}
use Rattle.seat_pickup.proofs.moves.add_confirmed.Given as goal

abbrev pub invariant-loop-line : goal.invariant-loop-line
invariant-loop-line l = Adds (sum_of (confirmed_by (tally_at l.tally)) (take l.line-index l.lines)) l.initial.row.items l.row.items
