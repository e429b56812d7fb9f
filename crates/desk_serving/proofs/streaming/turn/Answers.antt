use Rattle.std.proofs.Common.{refl, rules}
use Rattle.desk_serving.proofs.Breaking.{breaks_input, never_input}
use Rattle.desk_serving.proofs.Daily.{sealed_same, stays_same}
use Rattle.desk_serving.proofs.Days.{day_stays, same_day}
use Rattle.desk_serving.proofs.Goes.{goes_same}
use Rattle.desk_serving.proofs.Hearing.{lived_none}
use Rattle.desk_serving.proofs.Streamed.{no_input, takes}
use Rattle.desk_serving.proofs.Written.{broken_input, broken_piece}
use Rattle.desk_serving.proofs.streaming.turn.Goals as goal

pub answer_piece-requires-clause-ready : goal.answer_piece-requires-clause-ready
answer_piece-requires-clause-ready g c = c.requires.ready

pub answer_piece-requires-clause-dated : goal.answer_piece-requires-clause-dated
answer_piece-requires-clause-dated g c = c.requires.dated

pub returns-in-Ok-eq0-clause-none : goal.returns-in-Ok-eq0-clause-none
returns-in-Ok-eq0-clause-none g c = c.requires.none

pub returns-in-Ok-eq0-clause-lived : goal.returns-in-Ok-eq0-clause-lived
returns-in-Ok-eq0-clause-lived g c = lived_none c.args.feed.now

pub returns-in-Ok-eq0-clause-goes : goal.returns-in-Ok-eq0-clause-goes
returns-in-Ok-eq0-clause-goes g c =
    goes_same g.D.Tape.seen g.D.Tape.may_leave g.D.Tape.unsynced g.D.Failures.failure_count c.args.feed.now.serving c.args.feed.now.serving
    c.requires.ready refl

pub returns-in-Ok-eq0-clause-sealed : goal.returns-in-Ok-eq0-clause-sealed
returns-in-Ok-eq0-clause-sealed g c =
    sealed_same g.K.Replaced.named g.K.Replaced.may_leave g.K.Replaced.kept_may_leave g.K.Failures.failure_count c.args.day.now
    c.args.day.now c.args.entry.now c.args.seals.now refl c.requires.dated

pub returns-in-Ok-eq0-clause-day : goal.returns-in-Ok-eq0-clause-day
returns-in-Ok-eq0-clause-day g c = day_stays c.args.day.now c.args.feed.now.reading.today c.requires.since

pub returns-in-Ok-eq0-clause-days : goal.returns-in-Ok-eq0-clause-days
returns-in-Ok-eq0-clause-days g c = same_day c.args.feed.now.reading.today

pub returns-in-Ok-eq0-clause-stays : goal.returns-in-Ok-eq0-clause-stays
returns-in-Ok-eq0-clause-stays g c =
    stays_same g.K.Replaced.named g.K.Replaced.may_leave g.K.Replaced.kept_may_leave g.K.Failures.failure_count c.args.entry.now
    c.args.seals.now

pub returns-in-Ok-answer_piece-clause-turns : goal.returns-in-Ok-answer_piece-clause-turns
returns-in-Ok-answer_piece-clause-turns g c =
    takes c.args.feed.now c.answer_piece.new.feed c.args.line.now.items _ c.answer_piece.new.line.items
    (g.I.Read.remaining c.args.input.now) (g.I.Read.remaining c.read_noted.new.self) (g.W.Write.contents c.args.out.now)
    (g.W.Write.contents c.answer_piece.new.out) (search rules) c.in-Ok-answer_piece.ensures.piece

pub returns-in-Ok-answer_piece-clause-none : goal.returns-in-Ok-answer_piece-clause-none
returns-in-Ok-answer_piece-clause-none g c = c.in-Ok-answer_piece.ensures.none

pub returns-in-Ok-answer_piece-clause-lived : goal.returns-in-Ok-answer_piece-clause-lived
returns-in-Ok-answer_piece-clause-lived g c = c.in-Ok-answer_piece.ensures.lived

pub returns-in-Ok-answer_piece-clause-goes : goal.returns-in-Ok-answer_piece-clause-goes
returns-in-Ok-answer_piece-clause-goes g c = c.in-Ok-answer_piece.ensures.goes

pub returns-in-Ok-answer_piece-clause-sealed : goal.returns-in-Ok-answer_piece-clause-sealed
returns-in-Ok-answer_piece-clause-sealed g c = c.in-Ok-answer_piece.ensures.sealed

pub returns-in-Ok-answer_piece-clause-day : goal.returns-in-Ok-answer_piece-clause-day
returns-in-Ok-answer_piece-clause-day g c = c.in-Ok-answer_piece.ensures.day

pub returns-in-Ok-answer_piece-clause-days : goal.returns-in-Ok-answer_piece-clause-days
returns-in-Ok-answer_piece-clause-days g c = c.in-Ok-answer_piece.ensures.days

pub returns-in-Ok-answer_piece-clause-stays : goal.returns-in-Ok-answer_piece-clause-stays
returns-in-Ok-answer_piece-clause-stays g c = c.answer_piece.ensures.stays

pub returns-in-Err-answer_piece-clause-breaks : goal.returns-in-Err-answer_piece-clause-breaks
returns-in-Err-answer_piece-clause-breaks g c = c.in-Err-answer_piece.ensures.breaks

pub returns-in-Err-answer_piece-clause-stays : goal.returns-in-Err-answer_piece-clause-stays
returns-in-Err-answer_piece-clause-stays g c = c.answer_piece.ensures.stays

pub returns-in-Err-answer_piece-clause-strange : goal.returns-in-Err-answer_piece-clause-strange
returns-in-Err-answer_piece-clause-strange g c = c.in-Err-answer_piece.ensures.strange

pub returns-in-Err-answer_piece-clause-broken : goal.returns-in-Err-answer_piece-clause-broken
returns-in-Err-answer_piece-clause-broken g c =
    broken_piece c.args.feed.now c.answer_piece.new.feed c.args.line.now.items _ c.in-Err-answer_piece.fault
    (g.I.Read.remaining c.args.input.now) (g.I.Read.remaining c.read_noted.new.self) (g.W.Write.contents c.args.out.now)
    (g.W.Write.contents c.answer_piece.new.out) (search rules) c.in-Err-answer_piece.ensures.broken

pub returns-in-Err-answer_piece-clause-input : goal.returns-in-Err-answer_piece-clause-input
returns-in-Err-answer_piece-clause-input g c = never_input c.in-Err-answer_piece.fault _ _ c.in-Err-answer_piece.ensures.input

pub returns-in-Err-answer_piece-clause-output : goal.returns-in-Err-answer_piece-clause-output
returns-in-Err-answer_piece-clause-output g c = c.in-Err-answer_piece.ensures.output

pub returns-in-Err-answer_piece-clause-dating : goal.returns-in-Err-answer_piece-clause-dating
returns-in-Err-answer_piece-clause-dating g c = c.in-Err-answer_piece.ensures.dating

pub returns-in-Err-clause-breaks : goal.returns-in-Err-clause-breaks
returns-in-Err-clause-breaks g c =
    breaks_input g.D.Tape.seen g.D.Tape.may_leave g.D.Tape.unsynced g.D.Failures.failure_count c.args.feed.now.serving c.requires.ready

pub returns-in-Err-clause-stays : goal.returns-in-Err-clause-stays
returns-in-Err-clause-stays g c =
    stays_same g.K.Replaced.named g.K.Replaced.may_leave g.K.Replaced.kept_may_leave g.K.Failures.failure_count c.args.entry.now
    c.args.seals.now

pub returns-in-Err-clause-strange : goal.returns-in-Err-clause-strange
returns-in-Err-clause-strange g c = no_input c.args.feed.now c.args.feed.now

pub returns-in-Err-clause-broken : goal.returns-in-Err-clause-broken
returns-in-Err-clause-broken g c =
    broken_input c.args.feed.now c.args.line.now.items (g.I.Read.remaining c.args.input.now) (g.W.Write.contents c.args.out.now)
