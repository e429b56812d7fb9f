-- What is behind the rows so far.
use Rattle.std.proofs.Common.{◌≡◌, length}
use Rattle.script_refusals.specs.Listing.{behind_row, rows_behind}
use Rattle.script_refusals.proofs.listing.rows_behind.Given as goal

abbrev pub invariant-loop-rest : goal.invariant-loop-rest
invariant-loop-rest l = behind_row l.row l.rest l.others ≡ rows_behind l.listed l.rows

abbrev pub decreases-loop-rest : goal.decreases-loop-rest
decreases-loop-rest l = length l.rest
