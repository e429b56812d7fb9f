use Rattle.std.proofs.Common.{◌≡◌, rules, ap, ◌∙◌}
use Rattle.desk_serving.proofs.Daily.{told_by, counts_none, day_as, fails_by_from, some_day, stays_same}
use Rattle.desk_serving.proofs.Ended.{lost_none, ended_front, ended_so, left_at_once, left_open, told_at_once}
use Rattle.desk_serving.proofs.Goes.{goes_from, ready_as}
use Rattle.desk_serving.proofs.Groups.{served_to}
use Rattle.seat_serving.specs.declared.serving.ServeFault.TheVariants.{Device, Memory as NoMemory}
use Rattle.airline_base.specs.Noting.{noted}
use Rattle.seat_serving.specs.Served.{Served}
use Rattle.seat_serving.specs.declared.serving.ServeFault.{ServeFault}
use Rattle.desk_serving.specs.declared.day.GroupFault.TheVariants.{Serve}
use Rattle.desk_serving.proofs.serving.serve_ended.Goals as goal

no_device : Serve NoMemory ≡ Serve Device → ⊥
no_device is = absurd (cc is)

same_fault : (fault e : ServeFault) → Serve fault ≡ Serve e → fault ≡ e
same_fault fault e is = cc is

pub returns-in-Err-end-clause-told : goal.returns-in-Err-end-clause-told
returns-in-Err-end-clause-told g c =
    lost_none g.D.Tape.seen g.D.Tape.may_leave g.D.Tape.unsynced g.D.Failures.failure_count c.args.host.serving
    c.serve-served.new.hall.serving c.into_serving-serving.result (g.D.Tape.may_leave c.in-Err-end.refused.1)
    (goes_from g.D.Tape.seen g.D.Tape.may_leave g.D.Tape.unsynced g.D.Failures.failure_count c.args.host.serving
    c.in-Ok.opened.serving c.serve-served.new.hall.serving c.in-Ok-served.ensures.goes c.in-Ok.ensures.serving)
    (search rules) c.in-Err-end.ensures.lost

pub returns-in-Err-served-clause-told : goal.returns-in-Err-served-clause-told
returns-in-Err-served-clause-told g c =
    told_by g.D.Tape.seen g.D.Tape.may_leave g.D.Tape.unsynced g.D.Failures.failure_count c.args.host.serving c.in-Ok.opened.serving
    c.serve-served.new.hall.serving c.into_serving-serving.result c.in-Err-served.fault c.close.result c.in-Err-served.ensures.fails
    c.in-Ok.ensures.serving (search rules) c.close.ensures.tape

pub returns-in-Ok-end-clause-served : goal.returns-in-Ok-end-clause-served
returns-in-Ok-end-clause-served g c =
    served_to c.args.closes c.args.flights.now c.args.host.serving c.into_serving-serving.result c.args.host.desk.today c.args.host.desk.epoch c.in-Ok.opened
    c.serve-served.new.hall c.in-Ok-end.ended.0.journal c.in-Ok.ensures.over c.in-Ok-served.ensures.served (search rules) c.in-Ok-end.ensures.journal

pub hall_over-requires-clause-grid : goal.hall_over-requires-clause-grid
hall_over-requires-clause-grid g c = c.requires.grid

pub hall_over-requires-clause-today : goal.hall_over-requires-clause-today
hall_over-requires-clause-today g c = c.requires.today

pub serve-served-requires-clause-ready : goal.serve-served-requires-clause-ready
serve-served-requires-clause-ready g c =
    ready_as g.D.Tape.seen g.D.Tape.may_leave g.D.Tape.unsynced g.D.Failures.failure_count c.args.host.serving c.in-Ok.opened.serving c.requires.ready
    c.in-Ok.ensures.serving

pub serve-served-requires-clause-dated : goal.serve-served-requires-clause-dated
serve-served-requires-clause-dated g c =
    day_as c.args.host.desk.today c.in-Ok.opened.today c.args.entry.now (g.K.Replaced.may_leave c.args.seals.now) c.requires.dated c.in-Ok.ensures.today

pub returns-in-Err-clause-told : goal.returns-in-Err-clause-told
returns-in-Err-clause-told g c =
    told_at_once g.D.Tape.seen g.D.Tape.may_leave g.D.Tape.unsynced g.D.Failures.failure_count c.args.host.serving c.in-Err.tape c.requires.ready
    c.in-Err.ensures.tape

pub returns-in-Err-clause-open : goal.returns-in-Err-clause-open
returns-in-Err-clause-open g c =
    λ _. left_at_once g.D.Tape.seen g.D.Tape.may_leave g.D.Tape.unsynced g.D.Failures.failure_count c.args.host.serving c.in-Err.tape c.requires.ready
    c.in-Err.ensures.tape

pub returns-in-Err-clause-journal : goal.returns-in-Err-clause-journal
returns-in-Err-clause-journal g c = λ is. absurd (no_device is)

pub returns-in-Err-clause-stays : goal.returns-in-Err-clause-stays
returns-in-Err-clause-stays g c =
    stays_same g.K.Replaced.named g.K.Replaced.may_leave g.K.Replaced.kept_may_leave g.K.Failures.failure_count c.args.entry.now c.args.seals.now

pub returns-in-Err-clause-unsealed : goal.returns-in-Err-clause-unsealed
returns-in-Err-clause-unsealed g c = counts_none g.K.Failures.failure_count c.args.seals.now c.args.seals.now NoMemory

pub returns-in-Ok-end-clause-ended : goal.returns-in-Ok-end-clause-ended
returns-in-Ok-end-clause-ended g c =
    ended_so g.D.Tape.seen g.D.Tape.may_leave g.D.Tape.unsynced g.D.Failures.failure_count c.args.host.serving c.serve-served.new.hall.serving
    c.into_serving-serving.result c.in-Ok-end.ended.0 (g.D.Tape.seen c.in-Ok-end.ended.1) (g.D.Tape.may_leave c.in-Ok-end.ended.1) (g.D.Tape.unsynced
    c.in-Ok-end.ended.1) (goes_from g.D.Tape.seen g.D.Tape.may_leave g.D.Tape.unsynced g.D.Failures.failure_count c.args.host.serving c.in-Ok.opened.serving
    c.serve-served.new.hall.serving c.in-Ok-served.ensures.goes c.in-Ok.ensures.serving) c.into_serving-serving.ensures c.in-Ok-end.ensures.headline
    c.in-Ok-end.ensures.journal c.in-Ok-end.ensures.text c.in-Ok-end.ensures.disk c.in-Ok-end.ensures.synced c.in-Ok-end.ensures.readable
    c.in-Ok-end.ensures.faultless

pub returns-in-Ok-end-clause-front : goal.returns-in-Ok-end-clause-front
returns-in-Ok-end-clause-front g c =
    ended_front g.D.Tape.seen g.D.Tape.may_leave g.D.Tape.unsynced g.D.Failures.failure_count c.args.host.serving c.serve-served.new.hall.serving
    c.into_serving-serving.result c.in-Ok-end.ended.0.journal (goes_from g.D.Tape.seen g.D.Tape.may_leave g.D.Tape.unsynced g.D.Failures.failure_count
    c.args.host.serving c.in-Ok.opened.serving c.serve-served.new.hall.serving c.in-Ok-served.ensures.goes c.in-Ok.ensures.serving)
    c.into_serving-serving.ensures c.in-Ok-end.ensures.journal

pub returns-in-Ok-end-clause-sealed : goal.returns-in-Ok-end-clause-sealed
returns-in-Ok-end-clause-sealed g c =
    some_day g.K.Replaced.named g.K.Replaced.may_leave g.K.Replaced.kept_may_leave g.K.Failures.failure_count c.serve-served.new.hall.today c.args.entry.now
    c.serve-served.new.entry c.args.seals.now c.serve-served.new.seals c.in-Ok-served.ensures.sealed

pub returns-in-Ok-end-clause-stays : goal.returns-in-Ok-end-clause-stays
returns-in-Ok-end-clause-stays g c = c.serve-served.ensures.stays

pub returns-in-Err-end-clause-stays : goal.returns-in-Err-end-clause-stays
returns-in-Err-end-clause-stays g c = c.serve-served.ensures.stays

pub returns-in-Err-served-clause-stays : goal.returns-in-Err-served-clause-stays
returns-in-Err-served-clause-stays g c = c.serve-served.ensures.stays

pub returns-in-Err-served-clause-unsealed : goal.returns-in-Err-served-clause-unsealed
returns-in-Err-served-clause-unsealed g c = c.in-Err-served.ensures.unsealed

pub returns-in-Err-end-clause-unsealed : goal.returns-in-Err-end-clause-unsealed
returns-in-Err-end-clause-unsealed g c = counts_none g.K.Failures.failure_count c.args.seals.now c.serve-served.new.seals c.in-Err-end.refused.0

pub returns-in-Err-end-clause-open : goal.returns-in-Err-end-clause-open
returns-in-Err-end-clause-open g c =
    λ is. left_open g.D.Tape.seen g.D.Tape.may_leave g.D.Tape.unsynced g.D.Failures.failure_count c.args.host.serving c.serve-served.new.hall.serving
    c.into_serving-serving.result c.in-Err-end.refused.1 (goes_from g.D.Tape.seen g.D.Tape.may_leave g.D.Tape.unsynced g.D.Failures.failure_count
    c.args.host.serving c.in-Ok.opened.serving c.serve-served.new.hall.serving c.in-Ok-served.ensures.goes c.in-Ok.ensures.serving).is_ready
    c.into_serving-serving.ensures (c.in-Err-end.ensures.memory (same_fault c.in-Err-end.refused.0 NoMemory is)) (goes_from g.D.Tape.seen g.D.Tape.may_leave
    g.D.Tape.unsynced g.D.Failures.failure_count c.args.host.serving c.in-Ok.opened.serving c.serve-served.new.hall.serving c.in-Ok-served.ensures.goes
    c.in-Ok.ensures.serving).grows

pub returns-in-Err-end-clause-journal : goal.returns-in-Err-end-clause-journal
returns-in-Err-end-clause-journal g c =
    λ is. c.in-Err-end.ensures.device (same_fault c.in-Err-end.refused.0 Device is) ∙ ap (λ (t : _). noted (g.D.Failures.failure_count t)) (ap (λ (s : Served
    _). s.tape) c.into_serving-serving.ensures) ∙ ap noted (goes_from g.D.Tape.seen g.D.Tape.may_leave g.D.Tape.unsynced g.D.Failures.failure_count
    c.args.host.serving c.in-Ok.opened.serving c.serve-served.new.hall.serving c.in-Ok-served.ensures.goes c.in-Ok.ensures.serving).counted

pub returns-in-Err-served-clause-open : goal.returns-in-Err-served-clause-open
returns-in-Err-served-clause-open g c =
    λ is. left_open g.D.Tape.seen g.D.Tape.may_leave g.D.Tape.unsynced g.D.Failures.failure_count c.args.host.serving c.serve-served.new.hall.serving
    c.into_serving-serving.result c.close.result ((fails_by_from g.D.Tape.seen g.D.Tape.may_leave g.D.Tape.unsynced g.D.Failures.failure_count
    c.args.host.serving c.in-Ok.opened.serving c.serve-served.new.hall.serving c.in-Err-served.fault c.in-Err-served.ensures.fails
    c.in-Ok.ensures.serving).memory is) c.into_serving-serving.ensures c.close.ensures.tape (fails_by_from g.D.Tape.seen g.D.Tape.may_leave g.D.Tape.unsynced
    g.D.Failures.failure_count c.args.host.serving c.in-Ok.opened.serving c.serve-served.new.hall.serving c.in-Err-served.fault c.in-Err-served.ensures.fails
    c.in-Ok.ensures.serving).grows

pub returns-in-Err-served-clause-journal : goal.returns-in-Err-served-clause-journal
returns-in-Err-served-clause-journal g c =
    λ is. ap (λ (t : _). g.D.Failures.failure_count t) (c.close.ensures.tape ∙ ap (λ (s : Served _). s.tape) c.into_serving-serving.ensures) ∙ (fails_by_from
    g.D.Tape.seen g.D.Tape.may_leave g.D.Tape.unsynced g.D.Failures.failure_count c.args.host.serving c.in-Ok.opened.serving c.serve-served.new.hall.serving
    c.in-Err-served.fault c.in-Err-served.ensures.fails c.in-Ok.ensures.serving).device is
