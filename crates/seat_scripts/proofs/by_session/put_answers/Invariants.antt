-- The lines of the session so far are answered.
use Rattle.std.proofs.Common.{take}
use Rattle.seat_scripts.proofs.Sessions.{AnsweredSoFar}
use Rattle.seat_scripts.proofs.by_session.put_answers.Given as goal

abbrev pub invariant-loop-entry : goal.invariant-loop-entry
invariant-loop-entry l = AnsweredSoFar l.wanted l.flights l.requests l.journal l.session l.place (take l.entry-index l.lines) l.initial.text.items l.text.items
