-- The rows so far are put.
use Rattle.std.proofs.Common.{◌≡◌, ◌++◌, length}
use Rattle.script_refusals.specs.Listing.{rows_text}
use Rattle.script_refusals.proofs.listing.put_refusals.Given as goal

abbrev pub invariant-loop-rest : goal.invariant-loop-rest
invariant-loop-rest l = l.text.items ++ rows_text l.session l.rest ≡ l.fn.text.items ++ rows_text l.session l.refusals

abbrev pub decreases-loop-rest : goal.decreases-loop-rest
decreases-loop-rest l = length l.rest
