use Rattle.std.proofs.Common.{◌≡◌, drop}
use Rattle.seat_availability.specs.Partners.{threshold_of}
use Rattle.seat_availability.proofs.partner.threshold_of.Given as goal

abbrev pub invariant-loop-row : goal.invariant-loop-row
invariant-loop-row l = threshold_of (drop l.row-index l.rows) l.class ≡ threshold_of l.rows l.class
