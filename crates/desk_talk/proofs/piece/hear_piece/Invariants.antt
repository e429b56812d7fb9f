-- The bytes so far were heard.
use Rattle.std.proofs.Common.{true, take}
use Rattle.desk_talk.specs.Talks.{TalksOn}
use Rattle.desk_talk.proofs.piece.hear_piece.Given as goal

abbrev pub invariant-loop-byte : goal.invariant-loop-byte
invariant-loop-byte g l = TalksOn g.D.Tape.seen g.D.Tape.may_leave g.D.Tape.unsynced g.D.Failures.failure_count l.initial.host l.initial.line.items (take l.byte-index l.piece) l.host l.line.items true (g.W.Write.contents l.initial.out) (g.W.Write.contents l.out) (g.W.Failures.failure_count l.initial.out) (g.W.Failures.failure_count l.out)
