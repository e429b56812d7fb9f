use Rattle.std.proofs.Common.{ap, refl, rules, ◌∙◌}
use Rattle.airline_base.specs.Noting.{noted}
use Rattle.desk_serving.proofs.Daily.{sealed_further, sealed_same, stays_behind}
use Rattle.desk_serving.proofs.Goes.{goes_further, goes_same}
use Rattle.desk_serving.proofs.Breaking.{breaks_behind}
use Rattle.desk_serving.proofs.Days.{dating_behind, day_behind, day_stays, since_behind}
use Rattle.desk_serving.proofs.Hearing.{lived_none, lived_on}
use Rattle.desk_serving.proofs.Streamed.{reads_none, reads_on, strange_behind, streamed}
use Rattle.desk_serving.proofs.Tallied.{counts_front}
use Rattle.desk_serving.proofs.Written.{broken_off}
use Rattle.desk_serving.proofs.streaming.stream.Goals as goal

pub returns-in-Err-clause-breaks : goal.returns-in-Err-clause-breaks
returns-in-Err-clause-breaks g c =
    breaks_behind g.D.Tape.seen g.D.Tape.may_leave g.D.Tape.unsynced g.D.Failures.failure_count c.args.feed.now.serving c.loop.feed.serving
    c.turn.new.feed.serving c.in-Err.fault c.loop.invariant.2 c.in-Err.ensures.breaks

pub returns-in-Err-clause-stays : goal.returns-in-Err-clause-stays
returns-in-Err-clause-stays g c =
    stays_behind g.K.Replaced.named g.K.Replaced.may_leave g.K.Replaced.kept_may_leave g.K.Failures.failure_count c.loop.day
    c.args.entry.now c.loop.entry c.args.seals.now c.loop.seals c.turn.new.seals c.loop.invariant.3 c.turn.ensures.stays

pub returns-in-Err-clause-strange : goal.returns-in-Err-clause-strange
returns-in-Err-clause-strange g c =
    strange_behind c.args.feed.now c.loop.feed c.turn.new.feed c.in-Err.fault c.loop.invariant.1 c.in-Err.ensures.strange

pub returns-in-Err-clause-broken : goal.returns-in-Err-clause-broken
returns-in-Err-clause-broken g c =
    broken_off c.args.feed.now c.loop.feed c.turn.new.feed c.new-line.result.items c.loop.line.items c.in-Err.fault (g.I.Read.remaining c.args.input.now)
    (g.I.Read.remaining c.loop.input) (g.W.Write.contents c.args.out.now) (g.W.Write.contents c.loop.out) (g.W.Write.contents c.turn.new.out)
    (search rules) c.loop.invariant.0 c.in-Err.ensures.broken

pub returns-in-Err-clause-input : goal.returns-in-Err-clause-input
returns-in-Err-clause-input g c = λ is. c.in-Err.ensures.input is ∙ ap noted c.loop.invariant.8

pub returns-in-Err-clause-output : goal.returns-in-Err-clause-output
returns-in-Err-clause-output g c = λ is. c.in-Err.ensures.output is ∙ ap noted c.loop.invariant.9

pub returns-in-Err-clause-dating : goal.returns-in-Err-clause-dating
returns-in-Err-clause-dating g c = λ is.
    dating_behind g.K.Replaced.named g.K.Replaced.may_leave g.K.Replaced.kept_may_leave g.K.Failures.failure_count c.loop.day c.args.entry.now
    c.loop.entry c.args.seals.now c.loop.seals c.turn.new.seals c.loop.invariant.3 (c.in-Err.ensures.dating is)

pub loop-preserved : goal.loop-preserved
loop-preserved g c = (
  reads_on c.args.feed.now c.loop.feed c.turn.new.feed c.new-line.result.items c.loop.line.items c.turn.new.line.items c.in-Ok-true.field-0 _ _ _ _ _ _
      c.loop.invariant.0 c.in-Ok-true.ensures.turns (search rules),
  lived_on c.args.feed.now c.loop.feed c.turn.new.feed c.loop.invariant.1 c.in-Ok-true.ensures.lived,
  goes_further g.D.Tape.seen g.D.Tape.may_leave g.D.Tape.unsynced g.D.Failures.failure_count c.args.feed.now.serving c.loop.feed.serving
      c.turn.new.feed.serving c.loop.invariant.2 c.in-Ok-true.ensures.goes,
  sealed_further g.K.Replaced.named g.K.Replaced.may_leave g.K.Replaced.kept_may_leave g.K.Failures.failure_count c.loop.day
      c.turn.new.day c.args.entry.now c.loop.entry c.turn.new.entry c.args.seals.now c.loop.seals
      c.turn.new.seals c.loop.invariant.3 c.in-Ok-true.ensures.sealed,
  c.in-Ok-true.ensures.none,
  c.count.ensures.counts,
  day_behind c.args.day.now c.loop.day c.turn.new.day c.loop.feed.reading.today c.turn.new.feed.reading.today c.loop.invariant.6
      c.in-Ok-true.ensures.days c.in-Ok-true.ensures.day,
  since_behind c.loop.day c.turn.new.day c.turn.new.feed.reading.today c.in-Ok-true.ensures.day,
  c.in-Ok-true.ensures.counted.0 ∙ c.loop.invariant.8,
  c.in-Ok-true.ensures.counted.1 ∙ c.loop.invariant.9,
)

pub loop-init : goal.loop-init
loop-init g c = (
  reads_none c.args.feed.now c.new-line.result.items (g.I.Read.remaining c.args.input.now) (g.W.Write.contents c.args.out.now),
  lived_none c.args.feed.now,
  goes_same g.D.Tape.seen g.D.Tape.may_leave g.D.Tape.unsynced g.D.Failures.failure_count c.args.feed.now.serving c.args.feed.now.serving c.requires.ready refl,
  sealed_same g.K.Replaced.named g.K.Replaced.may_leave g.K.Replaced.kept_may_leave g.K.Failures.failure_count c.args.day.now c.args.day.now c.args.entry.now c.args.seals.now refl c.requires.dated,
  c.requires.none,
  c.begun-tally.ensures,
  day_stays c.args.day.now c.args.feed.now.reading.today c.requires.since,
  c.requires.since,
  refl,
  refl,
)

pub turn-requires-clause-ready : goal.turn-requires-clause-ready
turn-requires-clause-ready g c = c.loop.invariant.2.is_ready

pub turn-requires-clause-dated : goal.turn-requires-clause-dated
turn-requires-clause-dated g c = c.loop.invariant.3.on_day

pub turn-requires-clause-none : goal.turn-requires-clause-none
turn-requires-clause-none g c = c.loop.invariant.4

pub turn-requires-clause-since : goal.turn-requires-clause-since
turn-requires-clause-since g c = c.loop.invariant.7

pub count-requires : goal.count-requires
count-requires g c = record {
  front = counts_front g.D.Tape.seen g.D.Tape.may_leave g.D.Tape.unsynced g.D.Failures.failure_count c.loop.feed.serving
      c.turn.new.feed.serving c.loop.tally c.loop.invariant.2.is_ready c.in-Ok-true.ensures.goes c.loop.invariant.5;
}

pub returns-in-Ok-false-clause-streamed : goal.returns-in-Ok-false-clause-streamed
returns-in-Ok-false-clause-streamed g c =
    streamed c.args.feed.now c.loop.feed c.turn.new.feed c.new-line.result.items c.loop.line.items c.turn.new.line.items c.in-Ok-false.field-0
    (g.I.Read.remaining c.args.input.now) (g.I.Read.remaining c.loop.input) (g.I.Read.remaining c.turn.new.input)
    (g.W.Write.contents c.args.out.now) (g.W.Write.contents c.loop.out) (g.W.Write.contents c.turn.new.out)
    (search rules) c.loop.invariant.0 c.in-Ok-false.ensures.turns (search rules)

pub returns-in-Ok-false-clause-none : goal.returns-in-Ok-false-clause-none
returns-in-Ok-false-clause-none g c = c.in-Ok-false.ensures.none

pub returns-in-Ok-false-clause-lived : goal.returns-in-Ok-false-clause-lived
returns-in-Ok-false-clause-lived g c = lived_on c.args.feed.now c.loop.feed c.turn.new.feed c.loop.invariant.1 c.in-Ok-false.ensures.lived

pub returns-in-Ok-false-clause-goes : goal.returns-in-Ok-false-clause-goes
returns-in-Ok-false-clause-goes g c =
    goes_further g.D.Tape.seen g.D.Tape.may_leave g.D.Tape.unsynced g.D.Failures.failure_count c.args.feed.now.serving c.loop.feed.serving
    c.turn.new.feed.serving c.loop.invariant.2 c.in-Ok-false.ensures.goes

pub returns-in-Ok-false-clause-sealed : goal.returns-in-Ok-false-clause-sealed
returns-in-Ok-false-clause-sealed g c =
    sealed_further g.K.Replaced.named g.K.Replaced.may_leave g.K.Replaced.kept_may_leave g.K.Failures.failure_count c.loop.day c.turn.new.day
    c.args.entry.now c.loop.entry c.turn.new.entry c.args.seals.now c.loop.seals c.turn.new.seals c.loop.invariant.3 c.in-Ok-false.ensures.sealed

pub returns-in-Ok-false-clause-day : goal.returns-in-Ok-false-clause-day
returns-in-Ok-false-clause-day g c =
    day_behind c.args.day.now c.loop.day c.turn.new.day c.loop.feed.reading.today c.turn.new.feed.reading.today c.loop.invariant.6
    c.in-Ok-false.ensures.days c.in-Ok-false.ensures.day

pub returns-in-Ok-false-clause-stays : goal.returns-in-Ok-false-clause-stays
returns-in-Ok-false-clause-stays g c =
    stays_behind g.K.Replaced.named g.K.Replaced.may_leave g.K.Replaced.kept_may_leave g.K.Failures.failure_count c.loop.day
    c.args.entry.now c.loop.entry c.args.seals.now c.loop.seals c.turn.new.seals c.loop.invariant.3 c.turn.ensures.stays
