-- What the advices so far confirmed is added.
use Rattle.std.proofs.Common.{take}
use Rattle.seat_pickup.specs.Counting.{Adds}
use Rattle.seat_pickup.specs.Moves.{advised, sum_of}
use Rattle.seat_pickup.specs.Pairs.{tally_at}
use Rattle.seat_pickup.proofs.moves.add_advised.Given as goal

abbrev pub invariant-loop-advice : goal.invariant-loop-advice
invariant-loop-advice l = Adds (sum_of (advised (tally_at l.tally)) (take l.advice-index l.advices)) l.initial.row.items l.row.items
