-- The lines so far are told.
use Rattle.std.specs.Prelude.{◌≡◌, length}
use Rattle.desk_stream.proofs.Told.{AreToldSoFar}
use Rattle.desk_stream.proofs.telling.told_of.Given as goal

abbrev pub invariant-loop-turn : goal.invariant-loop-turn
invariant-loop-turn g l = AreToldSoFar l.flights l.serving.grid l.serving.journal l.turn-index l.turns l.text.items × (length l.calls.items ≡ 9)
