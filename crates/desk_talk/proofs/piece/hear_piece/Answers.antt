use Rattle.std.proofs.Common.{◌∙◌, ap, arith, refl, take, true}
use Rattle.std.proofs.lemmas.Result.{err_from_is_err_and}
use Rattle.airline_base.specs.Noting.{noted}
use Rattle.desk_talk.proofs.Talking.{front_before, on_err_any, talks_all, talks_left, talks_more, talks_none, told_before}
use Rattle.desk_talk.proofs.Broken.{breaks_piece}
use Rattle.desk_talk.proofs.piece.hear_piece.Goals as goal

pub returns-in_err-hear_byte-clause-told : goal.returns-in_err-hear_byte-clause-told
returns-in_err-hear_byte-clause-told g c =
    on_err_any _ _ (told_before g.D.Tape.seen g.D.Tape.may_leave g.D.Tape.unsynced g.D.Failures.failure_count c.args.host.now c.loop-byte.host c.args.line.now.items c.loop-byte.line.items
    (take c.loop-byte.byte-index c.args.piece.now) (g.D.Tape.may_leave c.hear_byte.new.host.serving.tape) true _ _ _ _ c.loop-byte.invariant c.in_err-hear_byte.ensures.told)

pub returns-in_err-hear_byte-clause-front : goal.returns-in_err-hear_byte-clause-front
returns-in_err-hear_byte-clause-front g c =
    on_err_any _ _ (front_before g.D.Tape.seen g.D.Tape.may_leave g.D.Tape.unsynced g.D.Failures.failure_count c.args.host.now c.loop-byte.host c.args.line.now.items c.loop-byte.line.items
    (take c.loop-byte.byte-index c.args.piece.now) c.hear_byte.new.host.serving.kept true _ _ _ _ c.loop-byte.invariant c.in_err-hear_byte.ensures.front)

pub returns-in_err-hear_byte-clause-broken : goal.returns-in_err-hear_byte-clause-broken
returns-in_err-hear_byte-clause-broken g c =
    let p = err_from_is_err_and c.from_residual.result c.from_residual.ensures.1 in
    rw (p.1, p.2) (breaks_piece g.D.Tape.seen g.D.Tape.may_leave g.D.Tape.unsynced g.D.Failures.failure_count c.args.host.now c.loop-byte.host c.args.line.now.items c.loop-byte.line.items
    c.args.piece.now c.loop-byte.byte-index _ _ (g.D.Tape.may_leave c.hear_byte.new.host.serving.tape) _ _ _ _ _ c.loop-byte.invariant (omega (arith, c.loop-byte-test.true)) refl c.in_err-hear_byte.ensures.broken)

pub returns-then-not-branch-clause-talks : goal.returns-then-not-branch-clause-talks
returns-then-not-branch-clause-talks g c =
    talks_left g.D.Tape.seen g.D.Tape.may_leave g.D.Tape.unsynced g.D.Failures.failure_count c.args.host.now c.loop-byte.host c.hear_byte.new.host c.args.line.now.items c.loop-byte.line.items
    c.hear_byte.new.line.items c.args.piece.now c.loop-byte.byte-index _ c.in_ok-hear_byte.field-0 _ _ _ _ _ _ c.loop-byte.invariant (omega (arith, c.loop-byte-test.true)) refl c.in_ok-hear_byte.ensures.talks c.if-not-branch.true

pub loop-byte-preserved : goal.loop-byte-preserved
loop-byte-preserved g c =
    talks_more g.D.Tape.seen g.D.Tape.may_leave g.D.Tape.unsynced g.D.Failures.failure_count c.args.host.now c.loop-byte.host c.hear_byte.new.host c.args.line.now.items c.loop-byte.line.items
    c.hear_byte.new.line.items c.args.piece.now c.loop-byte.byte-index _ c.in_ok-hear_byte.field-0 true _ _ _ _ _ _ c.loop-byte.invariant (omega (arith, c.loop-byte-test.true)) refl c.in_ok-hear_byte.ensures.talks c.if-not-branch.false

pub returns-in_err-hear_byte-clause-memory : goal.returns-in_err-hear_byte-clause-memory
returns-in_err-hear_byte-clause-memory g c =
    let p = err_from_is_err_and c.from_residual.result c.from_residual.ensures.1 in
    rw (p.1, p.2) c.in_err-hear_byte.ensures.memory

pub returns-in_err-hear_byte-clause-still : goal.returns-in_err-hear_byte-clause-still
returns-in_err-hear_byte-clause-still g c =
    let p = err_from_is_err_and c.from_residual.result c.from_residual.ensures.1 in
    rw (p.1, p.2) c.in_err-hear_byte.ensures.still

pub returns-in_err-hear_byte-clause-input : goal.returns-in_err-hear_byte-clause-input
returns-in_err-hear_byte-clause-input g c =
    let p = err_from_is_err_and c.from_residual.result c.from_residual.ensures.1 in
    rw (p.1, p.2) c.in_err-hear_byte.ensures.input

pub returns-in_err-hear_byte-clause-output : goal.returns-in_err-hear_byte-clause-output
returns-in_err-hear_byte-clause-output g c =
    let p = err_from_is_err_and c.from_residual.result c.from_residual.ensures.1 in
    rw (p.1, p.2) (λ is. c.in_err-hear_byte.ensures.output is ∙ ap noted c.loop-byte.invariant.counted)

pub returns-in_err-hear_byte-clause-journal : goal.returns-in_err-hear_byte-clause-journal
returns-in_err-hear_byte-clause-journal g c =
    let p = err_from_is_err_and c.from_residual.result c.from_residual.ensures.1 in
    rw (p.1, p.2) (λ is. c.in_err-hear_byte.ensures.journal is ∙ ap noted c.loop-byte.invariant.tape_counted)

pub loop-byte-init : goal.loop-byte-init
loop-byte-init g c =
    talks_none g.D.Tape.seen g.D.Tape.may_leave g.D.Tape.unsynced g.D.Failures.failure_count c.args.host.now c.args.line.now.items
    (g.W.Write.contents c.args.out.now) (g.W.Failures.failure_count c.args.out.now) c.requires.ready

pub returns-clause-talks : goal.returns-clause-talks
returns-clause-talks g c =
    talks_all g.D.Tape.seen g.D.Tape.may_leave g.D.Tape.unsynced g.D.Failures.failure_count c.args.host.now c.loop-byte.host c.args.line.now.items c.loop-byte.line.items
    c.args.piece.now c.loop-byte.byte-index _ _ _ _ c.loop-byte.invariant (omega (arith, c.loop-byte-test.false))
