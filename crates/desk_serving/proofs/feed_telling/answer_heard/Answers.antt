use Rattle.std.proofs.Common.{ap, ◌∙◌}
use Rattle.desk_serving.proofs.Answering.{is_answered, lived_answered, since_booked}
use Rattle.desk_serving.proofs.Breaking.{breaks_booked, breaks_sealed, breaks_told, dating_failed, no_dating, no_output, of_booking, of_telling, said_booked, said_told, told_undated}
use Rattle.desk_serving.proofs.Goes.{goes_as}
use Rattle.desk_serving.proofs.Written.{ends_booked, ends_told, ends_undated}
use Rattle.desk_serving.specs.Streaming.{later_day, no_file_line}
use Rattle.desk_serving.proofs.feed_telling.answer_heard.Goals as goal

-- the seal's file failed

pub returns-in-Err-clause-breaks : goal.returns-in-Err-clause-breaks
returns-in-Err-clause-breaks g c =
    breaks_sealed g.D.Tape.seen g.D.Tape.may_leave g.D.Tape.unsynced g.D.Failures.failure_count c.args.feed.now.serving c.in-Err.fault
    c.requires.ready

pub returns-in-Err-clause-stays : goal.returns-in-Err-clause-stays
returns-in-Err-clause-stays g c = c.keep_later.ensures.stays

pub returns-in-Err-clause-dating : goal.returns-in-Err-clause-dating
returns-in-Err-clause-dating g c =
    dating_failed g.K.Failures.failure_count c.args.seals.now c.keep_later.new.seals c.in-Err.fault c.in-Err.ensures.device

pub returns-in-Err-clause-ends : goal.returns-in-Err-clause-ends
returns-in-Err-clause-ends g c =
    ends_undated c.args.feed.now c.in-Err.fault (g.W.Write.contents c.args.out.now) (g.W.Write.contents c.say_no_file.new.out)
    c.say_no_file.ensures.front

pub returns-in-Err-clause-said : goal.returns-in-Err-clause-said
returns-in-Err-clause-said g c = λ is. c.say_no_file.ensures.said

-- the journal's failed, or memory is wanting

pub returns-in-Err-book_heard-clause-breaks : goal.returns-in-Err-book_heard-clause-breaks
returns-in-Err-book_heard-clause-breaks g c =
    breaks_booked g.D.Tape.seen g.D.Tape.may_leave g.D.Tape.unsynced g.D.Failures.failure_count c.args.feed.now.serving
    c.book_heard.new.feed.serving c.in-Err-book_heard.fault c.unbooked.result c.in-Err-book_heard.ensures.fails c.unbooked.ensures.value

pub returns-in-Err-book_heard-clause-stays : goal.returns-in-Err-book_heard-clause-stays
returns-in-Err-book_heard-clause-stays g c = c.keep_later.ensures.stays

pub returns-in-Err-book_heard-clause-output : goal.returns-in-Err-book_heard-clause-output
returns-in-Err-book_heard-clause-output g c = no_output c.in-Err-book_heard.fault c.unbooked.result _ _ c.unbooked.ensures.value

pub returns-in-Err-book_heard-clause-dating : goal.returns-in-Err-book_heard-clause-dating
returns-in-Err-book_heard-clause-dating g c =
    no_dating g.K.Failures.failure_count c.args.seals.now c.keep_later.new.seals c.in-Err-book_heard.fault c.unbooked.result
    c.unbooked.ensures.value

pub returns-in-Err-book_heard-clause-ends : goal.returns-in-Err-book_heard-clause-ends
returns-in-Err-book_heard-clause-ends g c =
    ends_booked c.args.feed.now c.book_heard.new.feed c.in-Err-book_heard.fault c.unbooked.result (g.W.Write.contents c.args.out.now)
    (g.W.Write.contents c.unbooked.new.out) c.unbooked.ensures.value c.in-Err-book_heard.ensures.ends c.unbooked.ensures.says

pub returns-in-Err-book_heard-clause-kind : goal.returns-in-Err-book_heard-clause-kind
returns-in-Err-book_heard-clause-kind g c = of_booking c.in-Err-book_heard.fault c.unbooked.result c.unbooked.ensures.value

pub returns-in-Err-book_heard-clause-said : goal.returns-in-Err-book_heard-clause-said
returns-in-Err-book_heard-clause-said g c =
    said_booked g.W.Failures.failure_count g.W.Write.contents no_file_line c.args.out.now c.unbooked.new.out c.in-Err-book_heard.fault
    c.unbooked.result c.unbooked.ensures.value c.unbooked.ensures.said

-- it is not told

pub returns-in-Err-tell_heard-clause-breaks : goal.returns-in-Err-tell_heard-clause-breaks
returns-in-Err-tell_heard-clause-breaks g c =
    breaks_told g.D.Tape.seen g.D.Tape.may_leave g.D.Tape.unsynced g.D.Failures.failure_count c.args.feed.now.serving
    c.book_heard.new.feed.serving c.tell_heard.new.feed.serving c.in-Err-tell_heard.fault c.in_default-book_heard.ensures.goes
    c.tell_heard.ensures.same c.in-Err-tell_heard.ensures.kind

pub returns-in-Err-tell_heard-clause-stays : goal.returns-in-Err-tell_heard-clause-stays
returns-in-Err-tell_heard-clause-stays g c = c.keep_later.ensures.stays

pub returns-in-Err-tell_heard-clause-output : goal.returns-in-Err-tell_heard-clause-output
returns-in-Err-tell_heard-clause-output g c = c.in-Err-tell_heard.ensures.output

pub returns-in-Err-tell_heard-clause-dating : goal.returns-in-Err-tell_heard-clause-dating
returns-in-Err-tell_heard-clause-dating g c =
    told_undated g.K.Failures.failure_count c.args.seals.now c.keep_later.new.seals c.in-Err-tell_heard.fault
    c.in-Err-tell_heard.ensures.kind

pub returns-in-Err-tell_heard-clause-ends : goal.returns-in-Err-tell_heard-clause-ends
returns-in-Err-tell_heard-clause-ends g c =
    ends_told c.args.feed.now c.book_heard.new.feed c.tell_heard.new.feed c.in-Err-tell_heard.fault (g.W.Write.contents c.args.out.now)
    (g.W.Write.contents c.tell_heard.new.out) c.in_default-book_heard.ensures.booked c.in-Err-tell_heard.ensures.untold
    c.in-Err-tell_heard.ensures.kind c.in-Err-tell_heard.ensures.ends

pub returns-in-Err-tell_heard-clause-kind : goal.returns-in-Err-tell_heard-clause-kind
returns-in-Err-tell_heard-clause-kind g c = of_telling c.in-Err-tell_heard.fault c.in-Err-tell_heard.ensures.kind

pub returns-in-Err-tell_heard-clause-said : goal.returns-in-Err-tell_heard-clause-said
returns-in-Err-tell_heard-clause-said g c =
    said_told g.W.Failures.failure_count g.W.Write.contents no_file_line c.args.out.now c.tell_heard.new.out c.in-Err-tell_heard.fault
    c.in-Err-tell_heard.ensures.kind

-- it is answered

pub tell_heard-requires-clause-dated : goal.tell_heard-requires-clause-dated
tell_heard-requires-clause-dated g c = c.in_default.ensures.sealed.on_day

pub tell_heard-requires-clause-since : goal.tell_heard-requires-clause-since
tell_heard-requires-clause-since g c =
    since_booked c.args.feed.now c.book_heard.new.feed c.today.result c.keep_later.new.day c.in_default-book_heard.ensures.booked
    c.today.ensures c.in_default.ensures.since

pub returns-in-Ok-clause-answered : goal.returns-in-Ok-clause-answered
returns-in-Ok-clause-answered g c =
    is_answered c.args.feed.now c.book_heard.new.feed c.tell_heard.new.feed (g.W.Write.contents c.args.out.now)
    (g.W.Write.contents c.tell_heard.new.out) c.in_default-book_heard.ensures.booked c.in-Ok.ensures.told

pub returns-in-Ok-clause-lived : goal.returns-in-Ok-clause-lived
returns-in-Ok-clause-lived g c =
    lived_answered c.args.feed.now c.book_heard.new.feed c.tell_heard.new.feed (g.W.Write.contents c.args.out.now)
    (g.W.Write.contents c.tell_heard.new.out) c.in_default-book_heard.ensures.booked c.in-Ok.ensures.told

pub returns-in-Ok-clause-goes : goal.returns-in-Ok-clause-goes
returns-in-Ok-clause-goes g c =
    goes_as g.D.Tape.seen g.D.Tape.may_leave g.D.Tape.unsynced g.D.Failures.failure_count c.args.feed.now.serving
    c.book_heard.new.feed.serving c.tell_heard.new.feed.serving c.in_default-book_heard.ensures.goes c.tell_heard.ensures.same

pub returns-in-Ok-clause-sealed : goal.returns-in-Ok-clause-sealed
returns-in-Ok-clause-sealed g c = c.in_default.ensures.sealed

pub returns-in-Ok-clause-stays : goal.returns-in-Ok-clause-stays
returns-in-Ok-clause-stays g c = c.keep_later.ensures.stays

pub returns-in-Ok-clause-counted : goal.returns-in-Ok-clause-counted
returns-in-Ok-clause-counted g c = c.in-Ok.ensures.counted

pub returns-in-Ok-clause-day : goal.returns-in-Ok-clause-day
returns-in-Ok-clause-day g c = c.in_default.ensures.day ∙ ap (later_day c.args.day.now) c.today.ensures
