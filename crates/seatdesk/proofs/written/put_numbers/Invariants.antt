-- The text goes on with what it was.
use Rattle.std.specs.String.{string_bytes}
use Rattle.seatdesk.specs.Rows.{Begins}
use Rattle.seatdesk.proofs.written.put_numbers.Given as goal

abbrev pub invariant-loop-at : goal.invariant-loop-at
invariant-loop-at l = Begins (string_bytes l.fn.text) (string_bytes l.text)
