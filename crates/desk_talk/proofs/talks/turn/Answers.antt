use Rattle.std.proofs.Common.{rules}
use Rattle.desk_talk.proofs.Broken.{breaks_read, breaks_unread}
use Rattle.desk_talk.proofs.Talking.{begins_all, ready_told}
use Rattle.desk_talk.proofs.talks.turn.Goals as goal

pub returns-in-Ok-clause-broken : goal.returns-in-Ok-clause-broken
returns-in-Ok-clause-broken g c =
    breaks_read c.args.host.now c.args.line.now.items _ c.hear_piece.result (g.D.Tape.may_leave c.hear_piece.new.host.serving.tape)
    (g.I.Read.remaining c.args.input.now) (g.I.Read.remaining c.read_noted.new.self) _ _ (search rules) c.hear_piece.ensures.broken

pub returns-in-Err-clause-broken : goal.returns-in-Err-clause-broken
returns-in-Err-clause-broken g c =
    breaks_unread g.D.Tape.seen g.D.Tape.may_leave g.D.Tape.unsynced g.D.Failures.failure_count c.args.host.now c.args.line.now.items _ _ c.requires.ready

pub returns-in-Ok-clause-told : goal.returns-in-Ok-clause-told
returns-in-Ok-clause-told g c = c.hear_piece.ensures.told

pub returns-in-Err-clause-front : goal.returns-in-Err-clause-front
returns-in-Err-clause-front g c = begins_all c.args.host.now.serving.kept

pub returns-in-Err-clause-told : goal.returns-in-Err-clause-told
returns-in-Err-clause-told g c = ready_told g.D.Tape.seen g.D.Tape.may_leave g.D.Tape.unsynced g.D.Failures.failure_count c.args.host.now c.requires.ready

pub returns-in-Err-clause-still : goal.returns-in-Err-clause-still
returns-in-Err-clause-still g c = λ _. c.requires.ready

pub returns-in-Ok-clause-output : goal.returns-in-Ok-clause-output
returns-in-Ok-clause-output g c = c.hear_piece.ensures.output

pub returns-in-Ok-clause-journal : goal.returns-in-Ok-clause-journal
returns-in-Ok-clause-journal g c = c.hear_piece.ensures.journal

pub returns-in-Ok-clause-memory : goal.returns-in-Ok-clause-memory
returns-in-Ok-clause-memory g c = c.hear_piece.ensures.memory

pub returns-in-Ok-clause-still : goal.returns-in-Ok-clause-still
returns-in-Ok-clause-still g c = c.hear_piece.ensures.still

pub returns-in-Ok-clause-front : goal.returns-in-Ok-clause-front
returns-in-Ok-clause-front g c = c.hear_piece.ensures.front
