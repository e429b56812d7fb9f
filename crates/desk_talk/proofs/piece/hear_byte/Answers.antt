use Rattle.std.proofs.Common.{◌∙◌, ◌∷◌, [], ◌++◌}
use Rattle.std.proofs.lemmas.Result.{err_from_is_err_and}
use Rattle.desk_talk.specs.Talks.{held}
use Rattle.desk_talk.proofs.Broken.{breaks_held}
use Rattle.desk_talk.proofs.Talking.{byte_held, line_ended}
use Rattle.desk_talk.proofs.piece.hear_byte.Goals as goal

pub returns-then-byte-ne10-clause-talks : goal.returns-then-byte-ne10-clause-talks
returns-then-byte-ne10-clause-talks g c =
    byte_held g.D.Tape.seen g.D.Tape.may_leave g.D.Tape.unsynced g.D.Failures.failure_count c.args.host.now c.args.line.now.items c.hold.new.line.items
    c.args.byte (g.W.Write.contents c.args.out.now) (g.W.Failures.failure_count c.args.out.now) c.requires.ready c.if-byte-ne10.true c.hold.ensures

pub returns-clause-talks : goal.returns-clause-talks
returns-clause-talks g c =
    line_ended g.D.Tape.seen g.D.Tape.may_leave g.D.Tape.unsynced g.D.Failures.failure_count c.args.host.now c.tell.new.host c.args.line.now.items
    c.as_slice.result.now c.clear.new.self.items c.args.byte c.in_ok-stays.stays (g.W.Write.contents c.args.out.now) (g.W.Write.contents c.tell.new.out)
    (g.W.Failures.failure_count c.args.out.now) (g.W.Failures.failure_count c.tell.new.out) c.in_ok-stays.ensures.tells c.if-byte-ne10.false
    (c.as_slice.ensures.value ∙ c.hold.ensures) c.clear.ensures

pub returns-in_err-stays-clause-broken : goal.returns-in_err-stays-clause-broken
returns-in_err-stays-clause-broken g c =
    let p = err_from_is_err_and c.from_residual.result c.from_residual.ensures.1 in
    rw (p.1, p.2) (breaks_held c.args.host.now c.as_slice.result.now (held (c.args.line.now.items ++ c.args.byte ∷ [])) c.args.byte _
    (g.D.Tape.may_leave c.tell.new.host.serving.tape) (g.W.Write.contents c.args.out.now) (g.W.Write.contents c.tell.new.out) c.if-byte-ne10.false
    (c.as_slice.ensures.value ∙ c.hold.ensures) c.in_err-stays.ensures.broken)
