-- What is left comes to what the list comes to, and the lines so far are found by name.
use Rattle.std.proofs.Common.{◌+◌, ◌≤◌, length}
use Rattle.partner_lists.specs.Names.{Finds}
use Rattle.partner_lists.specs.Reading.{numbered_names}
use Rattle.partner_lists.proofs.Walking.{GoesOn}
use Rattle.partner_lists.proofs.reading.read_list.Given as goal

abbrev pub invariant-loop-rest : goal.invariant-loop-rest
invariant-loop-rest l = record {
  goes : GoesOn l.first l.bytes l.line l.rest l.rows;
  finds : Finds l.names (numbered_names l.rows);
  counted : l.line + length l.rest ≤ length l.bytes;
}

abbrev pub decreases-loop-rest : goal.decreases-loop-rest
decreases-loop-rest l = length l.rest
