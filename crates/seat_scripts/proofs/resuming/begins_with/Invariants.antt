-- The lines of the session so far are the first requests.
use Rattle.std.proofs.Common.{take}
use Rattle.seat_scripts.proofs.Comparing.{AgreeSoFar}
use Rattle.seat_scripts.proofs.resuming.begins_with.Given as goal

abbrev pub invariant-loop-entry : goal.invariant-loop-entry
invariant-loop-entry l = AgreeSoFar l.flights l.session l.requests l.calls (take l.entry-index l.lines)
