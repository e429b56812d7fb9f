-- What was read so far is answered, and the seal has the day.
use Rattle.std.proofs.Common.{◌≡◌, ℕ, ◌≤◌, []}
use Rattle.std.specs.Prelude.{IfSome}
use Rattle.desk_serving.specs.Daily.{IsSealedOn}
use Rattle.desk_serving.specs.Going.{GoesOn}
use Rattle.desk_status.specs.Tallies.{Counts}
use Rattle.desk_serving.specs.Streaming.{later_day, Lived, Reads}
use Rattle.desk_serving.proofs.streaming.stream.Given as goal

abbrev pub invariant-loop : goal.invariant-loop
invariant-loop g l = Reads l.initial.feed l.initial.line.items l.feed l.line.items (g.I.Read.remaining l.initial.input) (g.I.Read.remaining l.input) (g.W.Write.contents l.initial.out) (g.W.Write.contents l.out)
    × Lived l.initial.feed l.feed
    × GoesOn g.D.Tape.seen g.D.Tape.may_leave g.D.Tape.unsynced g.D.Failures.failure_count l.initial.feed.serving l.feed.serving
    × IsSealedOn g.K.Replaced.named g.K.Replaced.may_leave g.K.Replaced.kept_may_leave g.K.Failures.failure_count l.day l.initial.entry l.entry l.initial.seals l.seals
    × (l.feed.pending.asked.items ≡ [])
    × Counts l.tally l.feed.serving.journal
    × (l.day ≡ later_day l.initial.day l.feed.reading.today)
    × IfSome l.feed.reading.today (λ (it : ℕ). it ≤ l.day)
    × (g.I.Failures.failure_count l.input ≡ g.I.Failures.failure_count l.initial.input)
    × (g.W.Failures.failure_count l.out ≡ g.W.Failures.failure_count l.initial.out)
