-- What is left behind the sessions so far.
use Rattle.std.proofs.Common.{◌≡◌, length, map}
use Rattle.script_refusals.specs.Listing.{rows_behind_all}
use Rattle.script_refusals.proofs.listing.stray_row.Given as goal

abbrev pub invariant-loop-rest : goal.invariant-loop-rest
invariant-loop-rest l = rows_behind_all l.left (map (λ rows. rows.items) l.rest) ≡ rows_behind_all l.listed (map (λ rows. rows.items) l.sessions)

abbrev pub decreases-loop-rest : goal.decreases-loop-rest
decreases-loop-rest l = length l.rest
