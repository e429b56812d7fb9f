-- What was read so far was heard.
use Rattle.std.proofs.Common.{◌≡◌, true}
use Rattle.desk_talk.specs.Talks.{Reads}
use Rattle.desk_talk.proofs.talks.talk.Given as goal

abbrev pub invariant-loop : goal.invariant-loop
invariant-loop g l = Reads g.D.Tape.seen g.D.Tape.may_leave g.D.Tape.unsynced g.D.Failures.failure_count l.initial.host l.initial.line.items l.host l.line.items true (g.I.Read.remaining l.initial.input) (g.I.Read.remaining l.input) (g.W.Write.contents l.initial.out) (g.W.Write.contents l.out) (g.W.Failures.failure_count l.initial.out) (g.W.Failures.failure_count l.out) × (g.I.Failures.failure_count l.input ≡ g.I.Failures.failure_count l.initial.input)
