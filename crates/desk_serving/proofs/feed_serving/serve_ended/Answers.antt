use Rattle.std.proofs.Common.{◌≡◌, ℕ, List, refl, rules}
use Rattle.std.specs.Prelude.{Option}
use Rattle.desk_serving.proofs.Daily.{some_day, stays_same}
use Rattle.desk_serving.proofs.Ended.{ended_front, ended_so, left_at_once, lost_none, told_at_once}
use Rattle.desk_serving.proofs.Fresh.{since_begun}
use Rattle.desk_serving.proofs.Goes.{goes_from, ready_as}
use Rattle.desk_serving.proofs.Opened.{breaks_over, counts_broken, counts_ended, fed_out, fed_to, left_broken, left_ended, lived_to, no_broken_streamed, no_journal_yet, no_opening_date, no_opening_input, no_opening_output, no_opening_streamed, no_stranger, none_asked_yet, of_feed, told_broken}
use Rattle.desk_serving.proofs.Strangers.{strange_fed}
use Rattle.desk_serving.proofs.Written.{fed_off, no_stream, nothing_written}
use Rattle.desk_serving.specs.Serving.{IsStrangeFed}
use Rattle.desk_serving.specs.declared.fault.FedFault.TheVariants.{Broken, End}
use Rattle.desk_serving.specs.declared.fault.StreamFault.{StreamFault}
use Rattle.desk_serving.specs.declared.fault.StreamFault.TheVariants.{Strange}
use Rattle.seat_desk.specs.declared.fault.DeskFault.TheVariants.{Device as NoSeal}
use Rattle.seat_serving.specs.Served.{Served}
use Rattle.seat_serving.specs.declared.serving.ServeFault.{ServeFault}
use Rattle.ssim_flights.specs.declared.flight.Flight.{Flight as Flown}
use Rattle.desk_serving.proofs.feed_serving.serve_ended.Goals as goal

same_fault : (x b : StreamFault) → Broken x ≡ Broken b → x ≡ b
same_fault x b is = cc is

no_end_strange : {D : Type 0} (flights : List Flown) (serving : Served D) (epoch count : ℕ) (e : ServeFault) (seen : Option (List ℕ))
    (leaves : List ℕ → Type 0) → (line number : ℕ) → End e ≡ Broken (Strange line number)
    → IsStrangeFed flights serving epoch count line number seen leaves
no_end_strange {D} flights serving epoch count e seen leaves line number is = absurd (cc is)

pub returns-in-Ok-end-clause-fed : goal.returns-in-Ok-end-clause-fed
returns-in-Ok-end-clause-fed g c =
    fed_to c.args.flights.now c.args.host.serving c.args.entry.now.era.epoch c.args.behind c.args.host.desk.today _
    c.stream-streamed.new.day
    c.stream-streamed.new.entry.era c.in-Ok.opened c.stream-streamed.new.feed c.into_serving-serving.result
    (g.I.Read.remaining c.args.input.now) (g.W.Write.contents c.args.out.now)
    (g.W.Write.contents c.stream-streamed.new.out) c.in-Ok-end.ended.0.journal c.in-Ok.ensures.over c.in-Ok-streamed.ensures.streamed
    (search rules) c.in-Ok-end.ensures.journal (search rules) c.in-Ok-streamed.ensures.day c.in-Ok-streamed.ensures.sealed.on_day.dated

pub returns-in-Ok-end-clause-lived : goal.returns-in-Ok-end-clause-lived
returns-in-Ok-end-clause-lived g c =
    lived_to c.args.flights.now c.args.host.serving c.args.entry.now.era.epoch c.args.behind c.in-Ok.opened c.stream-streamed.new.feed
    c.into_serving-serving.result c.in-Ok-end.ended.0.journal c.in-Ok.ensures.over c.in-Ok-streamed.ensures.lived
    c.in-Ok-streamed.ensures.none (search rules) c.in-Ok-end.ensures.journal

pub returns-in-Ok-end-clause-ended : goal.returns-in-Ok-end-clause-ended
returns-in-Ok-end-clause-ended g c =
    ended_so g.D.Tape.seen g.D.Tape.may_leave g.D.Tape.unsynced g.D.Failures.failure_count c.args.host.serving
    c.stream-streamed.new.feed.serving c.into_serving-serving.result c.in-Ok-end.ended.0 (g.D.Tape.seen c.in-Ok-end.ended.1)
    (g.D.Tape.may_leave c.in-Ok-end.ended.1) (g.D.Tape.unsynced c.in-Ok-end.ended.1)
    (goes_from g.D.Tape.seen g.D.Tape.may_leave g.D.Tape.unsynced g.D.Failures.failure_count c.args.host.serving
    c.in-Ok.opened.serving c.stream-streamed.new.feed.serving c.in-Ok-streamed.ensures.goes c.in-Ok.ensures.serving)
    (search rules) c.in-Ok-end.ensures.headline c.in-Ok-end.ensures.journal c.in-Ok-end.ensures.text c.in-Ok-end.ensures.disk
    c.in-Ok-end.ensures.synced c.in-Ok-end.ensures.readable c.in-Ok-end.ensures.faultless

pub returns-in-Err-end-clause-told : goal.returns-in-Err-end-clause-told
returns-in-Err-end-clause-told g c =
    lost_none g.D.Tape.seen g.D.Tape.may_leave g.D.Tape.unsynced g.D.Failures.failure_count c.args.host.serving
    c.stream-streamed.new.feed.serving c.into_serving-serving.result (g.D.Tape.may_leave c.in-Err-end.refused.1)
    (goes_from g.D.Tape.seen g.D.Tape.may_leave g.D.Tape.unsynced g.D.Failures.failure_count c.args.host.serving
    c.in-Ok.opened.serving c.stream-streamed.new.feed.serving c.in-Ok-streamed.ensures.goes c.in-Ok.ensures.serving)
    (search rules) c.in-Err-end.ensures.lost

pub returns-in-Err-streamed-clause-strange : goal.returns-in-Err-streamed-clause-strange
returns-in-Err-streamed-clause-strange g c =
    strange_fed g.D.Tape.seen g.D.Tape.may_leave g.D.Tape.unsynced g.D.Failures.failure_count c.args.flights.now c.args.host.serving
    c.args.entry.now.era.epoch c.args.behind c.in-Ok.opened c.stream-streamed.new.feed c.into_serving-serving.result
    c.in-Err-streamed.fault c.close.result c.in-Ok.ensures.over
    (breaks_over g.D.Tape.seen g.D.Tape.may_leave g.D.Tape.unsynced g.D.Failures.failure_count c.args.host.serving c.in-Ok.opened.serving
    c.stream-streamed.new.feed.serving c.in-Err-streamed.fault c.in-Err-streamed.ensures.breaks c.in-Ok.ensures.serving)
    c.in-Err-streamed.ensures.strange (search rules) c.close.ensures.tape

pub returns-in-Err-streamed-clause-open : goal.returns-in-Err-streamed-clause-open
returns-in-Err-streamed-clause-open g c =
    left_broken g.D.Tape.seen g.D.Tape.may_leave g.D.Tape.unsynced g.D.Failures.failure_count c.args.host.serving
    c.stream-streamed.new.feed.serving c.into_serving-serving.result c.in-Err-streamed.fault c.close.result
    (breaks_over g.D.Tape.seen g.D.Tape.may_leave g.D.Tape.unsynced g.D.Failures.failure_count c.args.host.serving c.in-Ok.opened.serving
    c.stream-streamed.new.feed.serving c.in-Err-streamed.fault c.in-Err-streamed.ensures.breaks c.in-Ok.ensures.serving)
    (search rules) c.close.ensures.tape

pub returns-in-Err-streamed-clause-broken : goal.returns-in-Err-streamed-clause-broken
returns-in-Err-streamed-clause-broken g c =
    fed_off g.D.Tape.seen g.D.Tape.may_leave g.D.Tape.unsynced g.D.Failures.failure_count c.args.flights.now c.args.host.serving
    c.args.entry.now.era.epoch c.args.behind c.in-Ok.opened c.stream-streamed.new.feed c.in-Ok.opened.serving c.into_serving-serving.result
    c.in-Err-streamed.fault c.close.result (g.I.Read.remaining c.args.input.now) (g.W.Write.contents c.args.out.now)
    (g.W.Write.contents c.stream-streamed.new.out) c.in-Ok.ensures.over c.in-Err-streamed.ensures.broken c.in-Err-streamed.ensures.breaks
    (search rules) c.close.ensures.tape

pub returns-in-Err-end-clause-streamed : goal.returns-in-Err-end-clause-streamed
returns-in-Err-end-clause-streamed g c =
    fed_out c.args.flights.now c.args.host.serving c.args.entry.now.era.epoch c.args.behind c.in-Ok.opened c.stream-streamed.new.feed
    c.in-Err-end.refused.0 (g.I.Read.remaining c.args.input.now) (g.W.Write.contents c.args.out.now)
    (g.W.Write.contents c.stream-streamed.new.out) c.in-Ok.ensures.over c.in-Ok-streamed.ensures.streamed

pub returns-in-Ok-end-clause-front : goal.returns-in-Ok-end-clause-front
returns-in-Ok-end-clause-front g c =
    ended_front g.D.Tape.seen g.D.Tape.may_leave g.D.Tape.unsynced g.D.Failures.failure_count c.args.host.serving
    c.stream-streamed.new.feed.serving c.into_serving-serving.result c.in-Ok-end.ended.0.journal
    (goes_from g.D.Tape.seen g.D.Tape.may_leave g.D.Tape.unsynced g.D.Failures.failure_count c.args.host.serving
    c.in-Ok.opened.serving c.stream-streamed.new.feed.serving c.in-Ok-streamed.ensures.goes c.in-Ok.ensures.serving)
    (search rules) c.in-Ok-end.ensures.journal

pub returns-in-Err-end-clause-open : goal.returns-in-Err-end-clause-open
returns-in-Err-end-clause-open g c =
    left_ended g.D.Tape.seen g.D.Tape.may_leave g.D.Tape.unsynced g.D.Failures.failure_count c.args.host.serving
    c.stream-streamed.new.feed.serving c.into_serving-serving.result c.in-Err-end.refused.0 c.in-Err-end.refused.1
    (goes_from g.D.Tape.seen g.D.Tape.may_leave g.D.Tape.unsynced g.D.Failures.failure_count c.args.host.serving
    c.in-Ok.opened.serving c.stream-streamed.new.feed.serving c.in-Ok-streamed.ensures.goes c.in-Ok.ensures.serving)
    (search rules) c.in-Err-end.ensures.memory

pub returns-in-Err-end-clause-journal : goal.returns-in-Err-end-clause-journal
returns-in-Err-end-clause-journal g c =
    counts_ended g.D.Tape.seen g.D.Tape.may_leave g.D.Tape.unsynced g.D.Failures.failure_count c.args.host.serving
    c.stream-streamed.new.feed.serving c.into_serving-serving.result c.in-Err-end.refused.0 c.in-Err-end.refused.1
    (goes_from g.D.Tape.seen g.D.Tape.may_leave g.D.Tape.unsynced g.D.Failures.failure_count c.args.host.serving
    c.in-Ok.opened.serving c.stream-streamed.new.feed.serving c.in-Ok-streamed.ensures.goes c.in-Ok.ensures.serving)
    (search rules) c.in-Err-end.ensures.device

pub returns-in-Err-streamed-clause-told : goal.returns-in-Err-streamed-clause-told
returns-in-Err-streamed-clause-told g c =
    told_broken g.D.Tape.seen g.D.Tape.may_leave g.D.Tape.unsynced g.D.Failures.failure_count c.args.host.serving
    c.stream-streamed.new.feed.serving c.into_serving-serving.result c.in-Err-streamed.fault c.close.result
    (breaks_over g.D.Tape.seen g.D.Tape.may_leave g.D.Tape.unsynced g.D.Failures.failure_count c.args.host.serving c.in-Ok.opened.serving
    c.stream-streamed.new.feed.serving c.in-Err-streamed.fault c.in-Err-streamed.ensures.breaks c.in-Ok.ensures.serving)
    (search rules) c.close.ensures.tape

pub returns-in-Err-streamed-clause-journal : goal.returns-in-Err-streamed-clause-journal
returns-in-Err-streamed-clause-journal g c =
    counts_broken g.D.Tape.seen g.D.Tape.may_leave g.D.Tape.unsynced g.D.Failures.failure_count c.args.host.serving
    c.stream-streamed.new.feed.serving c.into_serving-serving.result c.in-Err-streamed.fault c.close.result
    (breaks_over g.D.Tape.seen g.D.Tape.may_leave g.D.Tape.unsynced g.D.Failures.failure_count c.args.host.serving c.in-Ok.opened.serving
    c.stream-streamed.new.feed.serving c.in-Err-streamed.fault c.in-Err-streamed.ensures.breaks c.in-Ok.ensures.serving)
    (search rules) c.close.ensures.tape

pub returns-in-Err-clause-told : goal.returns-in-Err-clause-told
returns-in-Err-clause-told g c =
    told_at_once g.D.Tape.seen g.D.Tape.may_leave g.D.Tape.unsynced g.D.Failures.failure_count c.args.host.serving c.in-Err.refused.1
    c.requires.ready c.in-Err.ensures.tape

pub returns-in-Err-clause-open : goal.returns-in-Err-clause-open
returns-in-Err-clause-open g c = λ of.
    left_at_once g.D.Tape.seen g.D.Tape.may_leave g.D.Tape.unsynced g.D.Failures.failure_count c.args.host.serving c.in-Err.refused.1
    c.requires.ready c.in-Err.ensures.tape

pub returns-in-Err-clause-journal : goal.returns-in-Err-clause-journal
returns-in-Err-clause-journal g c = no_journal_yet c.in-Err.refused.0 _ _ c.in-Err.ensures.kind

pub returns-in-Err-clause-behind : goal.returns-in-Err-clause-behind
returns-in-Err-clause-behind g c = c.in-Err.ensures.behind

pub returns-in-Err-clause-strange : goal.returns-in-Err-clause-strange
returns-in-Err-clause-strange g c =
    no_stranger c.args.flights.now c.args.host.serving c.args.entry.now.era.epoch c.args.behind c.in-Err.refused.0
    (g.D.Tape.seen c.in-Err.refused.1) (g.D.Tape.may_leave c.in-Err.refused.1) c.in-Err.ensures.kind

pub returns-in-Err-clause-broken : goal.returns-in-Err-clause-broken
returns-in-Err-clause-broken g c =
    nothing_written g.D.Tape.seen g.D.Tape.may_leave g.D.Tape.unsynced g.D.Failures.failure_count c.args.flights.now c.args.host.serving
    c.args.entry.now.era.epoch c.args.behind c.in-Err.refused.0 c.in-Err.refused.1 (g.I.Read.remaining c.args.input.now)
    (g.W.Write.contents c.args.out.now)
    c.requires.ready c.in-Err.ensures.tape c.in-Err.ensures.kind c.in-Err.ensures.memory

pub returns-in-Err-clause-streamed : goal.returns-in-Err-clause-streamed
returns-in-Err-clause-streamed g c =
    no_opening_streamed c.args.flights.now c.args.host.serving c.args.entry.now.era.epoch c.args.behind c.in-Err.refused.0
    (g.I.Read.remaining c.args.input.now) (g.W.Write.contents c.args.out.now) (g.W.Write.contents c.args.out.now) c.in-Err.ensures.kind

pub returns-in-Err-clause-input : goal.returns-in-Err-clause-input
returns-in-Err-clause-input g c = no_opening_input c.in-Err.refused.0 _ _ c.in-Err.ensures.kind

pub returns-in-Err-clause-output : goal.returns-in-Err-clause-output
returns-in-Err-clause-output g c = no_opening_output c.in-Err.refused.0 _ _ c.in-Err.ensures.kind

pub returns-in-Err-clause-dating : goal.returns-in-Err-clause-dating
returns-in-Err-clause-dating g c =
    no_opening_date g.K.Failures.failure_count c.args.seals.now c.args.seals.now c.in-Err.refused.0 NoSeal c.in-Err.ensures.kind

pub returns-in-Err-clause-unheard : goal.returns-in-Err-clause-unheard
returns-in-Err-clause-unheard g c = λ is. (refl, refl, refl, c.in-Err.ensures.tape)

pub returns-in-Err-clause-kind : goal.returns-in-Err-clause-kind
returns-in-Err-clause-kind g c = of_feed c.in-Err.refused.0 c.in-Err.ensures.kind

pub returns-in-Err-clause-stays : goal.returns-in-Err-clause-stays
returns-in-Err-clause-stays g c =
    stays_same g.K.Replaced.named g.K.Replaced.may_leave g.K.Replaced.kept_may_leave g.K.Failures.failure_count c.args.entry.now
    c.args.seals.now

pub returns-in-Ok-end-clause-sealed : goal.returns-in-Ok-end-clause-sealed
returns-in-Ok-end-clause-sealed g c =
    some_day g.K.Replaced.named g.K.Replaced.may_leave g.K.Replaced.kept_may_leave g.K.Failures.failure_count c.stream-streamed.new.day
    c.args.entry.now c.stream-streamed.new.entry c.args.seals.now c.stream-streamed.new.seals c.in-Ok-streamed.ensures.sealed

pub returns-in-Ok-end-clause-stays : goal.returns-in-Ok-end-clause-stays
returns-in-Ok-end-clause-stays g c = c.stream-streamed.ensures.stays

pub returns-in-Err-end-clause-stays : goal.returns-in-Err-end-clause-stays
returns-in-Err-end-clause-stays g c = c.stream-streamed.ensures.stays

pub returns-in-Err-streamed-clause-stays : goal.returns-in-Err-streamed-clause-stays
returns-in-Err-streamed-clause-stays g c = c.stream-streamed.ensures.stays

pub stream-streamed-requires-clause-none : goal.stream-streamed-requires-clause-none
stream-streamed-requires-clause-none g c =
    none_asked_yet c.args.flights.now c.args.host.serving c.args.entry.now.era.epoch c.args.behind c.in-Ok.opened c.in-Ok.ensures.over

pub stream-streamed-requires-clause-ready : goal.stream-streamed-requires-clause-ready
stream-streamed-requires-clause-ready g c =
    ready_as g.D.Tape.seen g.D.Tape.may_leave g.D.Tape.unsynced g.D.Failures.failure_count c.args.host.serving c.in-Ok.opened.serving
    c.requires.ready
    c.in-Ok.ensures.serving

pub stream-streamed-requires-clause-since : goal.stream-streamed-requires-clause-since
stream-streamed-requires-clause-since g c =
    since_begun c.args.flights.now c.args.host.serving c.args.entry.now.era.epoch c.args.behind _ c.in-Ok.opened c.in-Ok.ensures.over

pub returns-in-Err-end-clause-broken : goal.returns-in-Err-end-clause-broken
returns-in-Err-end-clause-broken g c =
    no_stream c.args.flights.now c.args.host.serving c.args.entry.now.era.epoch c.args.behind c.in-Err-end.refused.0
    (g.I.Read.remaining c.args.input.now)
    (g.W.Write.contents c.args.out.now) (g.W.Write.contents c.stream-streamed.new.out) (g.D.Tape.seen c.in-Err-end.refused.1)
    (g.D.Tape.may_leave c.in-Err-end.refused.1)

pub returns-in-Err-end-clause-strange : goal.returns-in-Err-end-clause-strange
returns-in-Err-end-clause-strange g c =
    no_end_strange c.args.flights.now c.args.host.serving c.args.entry.now.era.epoch c.args.behind c.in-Err-end.refused.0
    (g.D.Tape.seen c.in-Err-end.refused.1)
    (g.D.Tape.may_leave c.in-Err-end.refused.1)

pub returns-in-Err-streamed-clause-streamed : goal.returns-in-Err-streamed-clause-streamed
returns-in-Err-streamed-clause-streamed g c =
    no_broken_streamed c.args.flights.now c.args.host.serving c.args.entry.now.era.epoch c.args.behind c.in-Err-streamed.fault
    (g.I.Read.remaining c.args.input.now)
    (g.W.Write.contents c.args.out.now) (g.W.Write.contents c.stream-streamed.new.out)

pub returns-in-Err-streamed-clause-input : goal.returns-in-Err-streamed-clause-input
returns-in-Err-streamed-clause-input g c = λ is. c.in-Err-streamed.ensures.input (same_fault c.in-Err-streamed.fault _ is)

pub returns-in-Err-streamed-clause-output : goal.returns-in-Err-streamed-clause-output
returns-in-Err-streamed-clause-output g c = λ is. c.in-Err-streamed.ensures.output (same_fault c.in-Err-streamed.fault _ is)

pub returns-in-Err-streamed-clause-dating : goal.returns-in-Err-streamed-clause-dating
returns-in-Err-streamed-clause-dating g c = λ is. c.in-Err-streamed.ensures.dating (same_fault c.in-Err-streamed.fault _ is)
