-- What is left is a list where the whole text is.
use Rattle.std.proofs.Common.{◌≡◌, length}
use Rattle.script_refusals.specs.Listing.{is_list}
use Rattle.script_refusals.proofs.listing.is_list.Given as goal

abbrev pub invariant-loop-rest : goal.invariant-loop-rest
invariant-loop-rest l = is_list l.rest ≡ is_list l.bytes

abbrev pub decreases-loop-rest : goal.decreases-loop-rest
decreases-loop-rest l = length l.rest
