use Rattle.std.proofs.Common.{ap, ◌∙◌}
use Rattle.airline_base.specs.Noting.{noted}
use Rattle.std.proofs.lemmas.Result.{err_from_is_err_and}
use Rattle.desk_hall.proofs.Groups.{all_booked, booking_ends, booking_front, booking_more, booking_none, booking_right, booking_room, booking_some, booking_told, none_left}
use Rattle.desk_hall.proofs.booking.book.Goals as goal

pub book_group-requires-clause-right : goal.book_group-requires-clause-right
book_group-requires-clause-right g c =
    booking_right g.D.Tape.seen g.D.Tape.may_leave g.D.Tape.unsynced g.D.Failures.failure_count c.args.serving.now c.loop-rest.serving c.args.asked.now c.loop-rest.rest.now c.loop-rest.invariant
    c.requires.right

pub book_group-requires-clause-room : goal.book_group-requires-clause-room
book_group-requires-clause-room g c =
    booking_room g.D.Tape.seen g.D.Tape.may_leave g.D.Tape.unsynced g.D.Failures.failure_count c.args.serving.now c.loop-rest.serving c.args.asked.now c.loop-rest.rest.now c.loop-rest.invariant
    c.requires.room

pub returns-in_err-count-clause-told : goal.returns-in_err-count-clause-told
returns-in_err-count-clause-told g c =
    booking_ends g.D.Tape.seen g.D.Tape.may_leave g.D.Tape.unsynced g.D.Failures.failure_count c.args.serving.now c.loop-rest.serving c.args.asked.now c.loop-rest.rest.now
    (g.D.Tape.may_leave c.book_group.new.serving.tape) c.loop-rest.invariant c.in_err-count.ensures.told

pub loop-rest-preserved : goal.loop-rest-preserved
loop-rest-preserved g c =
    booking_more g.D.Tape.seen g.D.Tape.may_leave g.D.Tape.unsynced g.D.Failures.failure_count c.args.serving.now c.loop-rest.serving c.book_group.new.serving c.args.asked.now c.loop-rest.rest.now
    c.rest_of-more.result.now c.in_ok-count.count c.loop-rest.invariant c.in_ok-count.ensures.booked c.rest_of-more.ensures
    c.in_ok-count.ensures.ready c.in_ok-count.ensures.front c.in_ok-count.ensures.counted c.in_ok-count.ensures.same.0
    c.in_ok-count.ensures.same.1

pub returns-clause-told : goal.returns-clause-told
returns-clause-told g c =
    booking_told g.D.Tape.seen g.D.Tape.may_leave g.D.Tape.unsynced g.D.Failures.failure_count c.args.serving.now c.loop-rest.serving c.args.asked.now c.loop-rest.rest.now c.loop-rest.invariant

pub loop-rest-init : goal.loop-rest-init
loop-rest-init g c = booking_none g.D.Tape.seen g.D.Tape.may_leave g.D.Tape.unsynced g.D.Failures.failure_count c.args.serving.now c.args.asked.now c.requires.ready

pub returns-clause-booked : goal.returns-clause-booked
returns-clause-booked g c =
    all_booked g.D.Tape.seen g.D.Tape.may_leave g.D.Tape.unsynced g.D.Failures.failure_count c.args.serving.now c.loop-rest.serving c.args.asked.now c.loop-rest.rest.now
    c.loop-rest.invariant (none_left c.loop-rest.rest.now c.is_empty.result c.is_empty.ensures c.loop-rest-test.false)

pub returns-in_err-count-clause-memory : goal.returns-in_err-count-clause-memory
returns-in_err-count-clause-memory g c =
    let p = err_from_is_err_and c.from_residual.result c.from_residual.ensures.1 in
    rw (p.1, p.2) (λ is. booking_some g.D.Tape.seen g.D.Tape.may_leave g.D.Tape.unsynced g.D.Failures.failure_count c.args.serving.now c.loop-rest.serving c.book_group.new.serving
    c.args.asked.now c.loop-rest.rest.now c.loop-rest.invariant (c.in_err-count.ensures.memory is).0 (c.in_err-count.ensures.memory is).1)

pub returns-in_err-count-clause-front : goal.returns-in_err-count-clause-front
returns-in_err-count-clause-front g c =
    booking_front g.D.Tape.seen g.D.Tape.may_leave g.D.Tape.unsynced g.D.Failures.failure_count c.args.serving.now c.loop-rest.serving c.args.asked.now c.loop-rest.rest.now
    c.book_group.new.serving.kept c.loop-rest.invariant c.in_err-count.ensures.front

pub book_group-requires-clause-ready : goal.book_group-requires-clause-ready
book_group-requires-clause-ready g c = c.loop-rest.invariant.is_ready

pub returns-clause-counted : goal.returns-clause-counted
returns-clause-counted g c = c.loop-rest.invariant.counted

pub returns-clause-ready : goal.returns-clause-ready
returns-clause-ready g c = c.loop-rest.invariant.is_ready

pub returns-clause-front : goal.returns-clause-front
returns-clause-front g c = c.loop-rest.invariant.grows

pub returns-clause-same : goal.returns-clause-same
returns-clause-same g c = (c.loop-rest.invariant.grid_is, c.loop-rest.invariant.cap_is)

pub returns-in_err-count-clause-booked : goal.returns-in_err-count-clause-booked
returns-in_err-count-clause-booked g c =
    let p = err_from_is_err_and c.from_residual.result c.from_residual.ensures.1 in
    rw p.1 tt

pub returns-in_err-count-clause-counted : goal.returns-in_err-count-clause-counted
returns-in_err-count-clause-counted g c =
    let p = err_from_is_err_and c.from_residual.result c.from_residual.ensures.1 in
    rw p.1 tt

pub returns-in_err-count-clause-ready : goal.returns-in_err-count-clause-ready
returns-in_err-count-clause-ready g c =
    let p = err_from_is_err_and c.from_residual.result c.from_residual.ensures.1 in
    rw p.1 tt

pub returns-in_err-count-clause-device : goal.returns-in_err-count-clause-device
returns-in_err-count-clause-device g c =
    let p = err_from_is_err_and c.from_residual.result c.from_residual.ensures.1 in
    rw (p.1, p.2) (λ device. ((c.in_err-count.ensures.device device).0, (c.in_err-count.ensures.device device).1 ∙ ap noted c.loop-rest.invariant.counted))

pub returns-in_err-count-clause-same : goal.returns-in_err-count-clause-same
returns-in_err-count-clause-same g c = (c.in_err-count.ensures.same.0 ∙ c.loop-rest.invariant.grid_is, c.in_err-count.ensures.same.1 ∙ c.loop-rest.invariant.cap_is)
