-- The reading from here is the reading from the start.
use Rattle.std.proofs.Common.{◌≡◌, ◌+◌, ◌≤◌, length}
use Rattle.std.specs.Str.Lines.{lines}
use Rattle.seat_availability.specs.Partners.{thresholds_from, thresholds_in}
use Rattle.seat_availability.proofs.partner.read_thresholds.Given as goal

abbrev pub invariant-loop-rest : goal.invariant-loop-rest
invariant-loop-rest l = record {
  read : thresholds_from (l.line + 1) l.rows (lines l.rest) ≡ thresholds_in l.bytes;
  counted : l.line + length l.rest ≤ length l.bytes;
}

abbrev pub decreases-loop-rest : goal.decreases-loop-rest
decreases-loop-rest l = length l.rest
