use Rattle.std.proofs.Common.{◌≡◌, length}
use Rattle.std.proofs.Common.{◌++◌, map, string_bytes}
use Rattle.seat_season.specs.Line.{texts}
use Rattle.seat_season.proofs.words.texts_of.Given as goal

abbrev pub invariant-loop-rest : goal.invariant-loop-rest
invariant-loop-rest l = texts l.kept.items ++ map string_bytes l.rest ≡ map string_bytes l.words

abbrev pub decreases-loop-rest : goal.decreases-loop-rest
decreases-loop-rest l = length l.rest
