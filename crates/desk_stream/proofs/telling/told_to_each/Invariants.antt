-- The sessions so far are told.
use Rattle.desk_stream.proofs.Told.{AreLedSoFar}
use Rattle.desk_stream.proofs.telling.told_to_each.Given as goal

abbrev pub invariant-loop-session : goal.invariant-loop-session
invariant-loop-session g l =
    AreLedSoFar l.flights l.serving.grid l.serving.journal l.turn l.session-index l.sessions l.text.items l.calls.items
