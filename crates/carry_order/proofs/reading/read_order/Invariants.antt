-- What is left comes to what the list comes to.
use Rattle.std.proofs.Common.{◌+◌, ◌≤◌, length}
use Rattle.carry_order.proofs.Listing.{GoesOn}
use Rattle.carry_order.proofs.reading.read_order.Given as goal

abbrev pub invariant-loop-rest : goal.invariant-loop-rest
invariant-loop-rest l = record {
  goes : GoesOn l.bytes l.line l.rest l.all.items;
  counted : l.line + length l.rest ≤ length l.bytes;
}

abbrev pub decreases-loop-rest : goal.decreases-loop-rest
decreases-loop-rest l = length l.rest
