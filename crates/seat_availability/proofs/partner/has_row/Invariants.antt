use Rattle.std.proofs.Common.{◌≡◌, drop}
use Rattle.seat_availability.specs.Partners.{has_row}
use Rattle.seat_availability.proofs.partner.has_row.Given as goal

abbrev pub invariant-loop-row : goal.invariant-loop-row
invariant-loop-row l = has_row (drop l.row-index l.rows) l.class ≡ has_row l.rows l.class
