use Rattle.desk_talk.proofs.Closed.{ended_named, ended_told, few_ended, still_named}
use Rattle.std.proofs.Common.{◌≡◌, sym, ◌∙◌}
use Rattle.seat_serving.specs.declared.serving.ServeFault.TheVariants.{Memory as NoMemory, Device}
use Rattle.desk_serving.proofs.Daily.{hosted_day, names_on, unsealed_by, dating_failed, failed_behind, no_closed_seal, no_more_behind, of_epoch, on_day, sealed_end}
use Rattle.seat_desk.specs.declared.fault.DeskFault.{DeskFault}
use Rattle.seat_desk.specs.declared.fault.DeskFault.TheVariants.{Device as NoFile}
use Rattle.seat_serving.specs.declared.serving.ServeFault.{ServeFault}
use Rattle.desk_serving.specs.declared.serving.HostedFault.TheVariants.{Dating, Day, Seal}
use Rattle.desk_serving.proofs.serving.serve_desks.Goals as goal

no_day : (fault : DeskFault) (e : ServeFault) → Seal fault ≡ Day e → ⊥
no_day fault e is = absurd (cc is)

no_dating : (fault e : DeskFault) → Seal fault ≡ Dating e → ⊥
no_dating fault e is = absurd (cc is)

same_seal : (fault e : DeskFault) → Seal fault ≡ Seal e → fault ≡ e
same_seal fault e is = cc is

pub returns-in-Ok-seal_closed-clause-accepted : goal.returns-in-Ok-seal_closed-clause-accepted
returns-in-Ok-seal_closed-clause-accepted g c =
    ended_named c.args.host.serving.kept (g.K.Replaced.may_leave c.serve_ended.new.seals)
    (names_on g.K.Replaced.named g.K.Replaced.may_leave g.K.Replaced.kept_may_leave g.K.Failures.failure_count c.args.begun c.args.host.serving.kept
    c.args.seals.now c.serve_ended.new.seals c.requires.stands c.requires.named c.serve_ended.ensures.stays)
    c.args.host.serving.grid c.args.host.serving.cap c.in-Ok.served.0 (g.D.Tape.seen c.in-Ok.served.1) (g.D.Tape.may_leave c.in-Ok.served.1)
    (g.K.Replaced.may_leave c.seal_closed.new.seals) (g.D.Tape.unsynced c.in-Ok.served.1)
    c.in-Ok.ensures.front c.in-Ok.ensures.ended c.seal_closed.ensures.accepted

pub returns-in-Err-seal_closed-clause-agrees : goal.returns-in-Err-seal_closed-clause-agrees
returns-in-Err-seal_closed-clause-agrees g c =
    ended_named c.args.host.serving.kept (g.K.Replaced.may_leave c.serve_ended.new.seals)
    (names_on g.K.Replaced.named g.K.Replaced.may_leave g.K.Replaced.kept_may_leave g.K.Failures.failure_count c.args.begun c.args.host.serving.kept
    c.args.seals.now c.serve_ended.new.seals c.requires.stands c.requires.named c.serve_ended.ensures.stays)
    c.args.host.serving.grid c.args.host.serving.cap c.in-Ok.served.0 (g.D.Tape.seen c.in-Ok.served.1) (g.D.Tape.may_leave c.in-Ok.served.1)
    (g.K.Replaced.may_leave c.seal_closed.new.seals) (g.D.Tape.unsynced c.in-Ok.served.1)
    c.in-Ok.ensures.front c.in-Ok.ensures.ended c.seal_closed.ensures.accepted

pub returns-in-Err-seal_closed-clause-told : goal.returns-in-Err-seal_closed-clause-told
returns-in-Err-seal_closed-clause-told g c =
    ended_told c.args.host.serving.kept c.args.host.serving.grid c.args.host.serving.cap c.in-Ok.served.0 (g.D.Tape.seen c.in-Ok.served.1)
    (g.D.Tape.may_leave c.in-Ok.served.1) (g.D.Tape.unsynced c.in-Ok.served.1) c.in-Ok.ensures.front c.in-Ok.ensures.ended

pub returns-in-Err-clause-open : goal.returns-in-Err-clause-open
returns-in-Err-clause-open g c = λ is. c.in-Err.ensures.open (hosted_day c.in-Err.refused.0 NoMemory (sym c.hosted_fault.ensures ∙ is))

pub returns-in-Err-seal_closed-clause-over : goal.returns-in-Err-seal_closed-clause-over
returns-in-Err-seal_closed-clause-over g c =
    unsealed_by g.K.Replaced.named g.K.Replaced.may_leave g.K.Replaced.kept_may_leave g.K.Failures.failure_count c.args.basis.now
    c.args.host.serving.kept c.args.host.serving.grid c.args.host.serving.cap c.in-Ok.served.0 (g.D.Tape.seen c.in-Ok.served.1)
    (g.D.Tape.may_leave c.in-Ok.served.1) (g.D.Tape.unsynced c.in-Ok.served.1) c.args.begun c.serve_ended.new.entry c.args.seals.now
    c.serve_ended.new.seals c.seal_closed.new.seals c.in-Err-seal_closed.fault c.in-Ok.ensures.sealed c.in-Ok.ensures.front c.in-Ok.ensures.ended
    (names_on g.K.Replaced.named g.K.Replaced.may_leave g.K.Replaced.kept_may_leave g.K.Failures.failure_count c.args.begun c.args.host.serving.kept
    c.args.seals.now c.serve_ended.new.seals c.requires.stands c.requires.named c.serve_ended.ensures.stays)
    c.in-Err-seal_closed.ensures.large c.in-Err-seal_closed.ensures.untouched

pub serve_ended-requires-clause-grid : goal.serve_ended-requires-clause-grid
serve_ended-requires-clause-grid g c = c.requires.grid

pub serve_ended-requires-clause-today : goal.serve_ended-requires-clause-today
serve_ended-requires-clause-today g c = c.requires.today

pub serve_ended-requires-clause-ready : goal.serve_ended-requires-clause-ready
serve_ended-requires-clause-ready g c = c.requires.ready

pub serve_ended-requires-clause-dated : goal.serve_ended-requires-clause-dated
serve_ended-requires-clause-dated g c =
    on_day c.args.host.desk.today c.args.begun c.args.host.serving.kept (g.K.Replaced.may_leave c.args.seals.now) c.requires.dated c.requires.stands

pub seal_closed-requires : goal.seal_closed-requires
seal_closed-requires g c =
    record {
      few = few_ended c.args.host.serving.grid c.args.host.serving.cap c.in-Ok.served.0 (g.D.Tape.seen c.in-Ok.served.1) (g.D.Tape.may_leave
          c.in-Ok.served.1) (g.D.Tape.unsynced c.in-Ok.served.1) c.in-Ok.ensures.ended c.requires.cap;
    }

pub returns-in-Err-clause-agrees : goal.returns-in-Err-clause-agrees
returns-in-Err-clause-agrees g c =
    still_named c.args.host.serving.kept (g.K.Replaced.may_leave c.serve_ended.new.seals) (names_on g.K.Replaced.named g.K.Replaced.may_leave
    g.K.Replaced.kept_may_leave g.K.Failures.failure_count c.args.begun c.args.host.serving.kept c.args.seals.now c.serve_ended.new.seals c.requires.stands
    c.requires.named c.serve_ended.ensures.stays) (g.D.Tape.may_leave c.in-Err.refused.1) c.in-Err.ensures.told

pub returns-in-Err-clause-only : goal.returns-in-Err-clause-only
returns-in-Err-clause-only g c = c.serve_ended.ensures.stays.only

pub returns-in-Err-clause-told : goal.returns-in-Err-clause-told
returns-in-Err-clause-told g c = c.in-Err.ensures.told

pub returns-in-Err-clause-journal : goal.returns-in-Err-clause-journal
returns-in-Err-clause-journal g c = λ is. c.in-Err.ensures.journal (hosted_day c.in-Err.refused.0 Device (sym c.hosted_fault.ensures ∙ is))

pub returns-in-Err-clause-unsealed : goal.returns-in-Err-clause-unsealed
returns-in-Err-clause-unsealed g c =
    λ _ _. names_on g.K.Replaced.named g.K.Replaced.may_leave g.K.Replaced.kept_may_leave g.K.Failures.failure_count c.args.begun c.args.host.serving.kept
    c.args.seals.now c.serve_ended.new.seals c.requires.stands c.requires.named c.serve_ended.ensures.stays

pub returns-in-Err-clause-over : goal.returns-in-Err-clause-over
returns-in-Err-clause-over g c =
    no_closed_seal c.args.host.serving.kept c.args.basis.now c.args.begun.runs (g.D.Tape.seen c.in-Err.refused.1) (g.D.Tape.may_leave c.in-Err.refused.1)
    (g.D.Tape.unsynced c.in-Err.refused.1) (g.K.Replaced.may_leave c.serve_ended.new.seals) c.in-Err.refused.0 c.hosted_fault.result c.hosted_fault.ensures

pub returns-in-Err-clause-dating : goal.returns-in-Err-clause-dating
returns-in-Err-clause-dating g c =
    λ is. dating_failed g.K.Failures.failure_count c.args.seals.now c.serve_ended.new.seals c.in-Err.refused.0 c.in-Err.ensures.unsealed (sym
    c.hosted_fault.ensures ∙ is)

pub returns-in-Ok-seal_closed-clause-served : goal.returns-in-Ok-seal_closed-clause-served
returns-in-Ok-seal_closed-clause-served g c = c.in-Ok.ensures.served

pub returns-in-Ok-seal_closed-clause-ended : goal.returns-in-Ok-seal_closed-clause-ended
returns-in-Ok-seal_closed-clause-ended g c = c.in-Ok.ensures.ended

pub returns-in-Ok-seal_closed-clause-front : goal.returns-in-Ok-seal_closed-clause-front
returns-in-Ok-seal_closed-clause-front g c = c.in-Ok.ensures.front

pub returns-in-Ok-seal_closed-clause-sealed : goal.returns-in-Ok-seal_closed-clause-sealed
returns-in-Ok-seal_closed-clause-sealed g c =
    sealed_end g.K.Replaced.named g.K.Replaced.may_leave g.K.Replaced.kept_may_leave g.K.Failures.failure_count c.args.basis.now c.in-Ok.served.0.journal
    c.args.begun c.serve_ended.new.entry c.args.seals.now c.serve_ended.new.seals c.seal_closed.new.seals c.in-Ok.ensures.sealed c.in-Ok-seal_closed.ensures.ok

pub returns-in-Ok-seal_closed-clause-dated : goal.returns-in-Ok-seal_closed-clause-dated
returns-in-Ok-seal_closed-clause-dated g c =
    of_epoch g.K.Replaced.named g.K.Replaced.may_leave g.K.Replaced.kept_may_leave g.K.Failures.failure_count c.args.begun c.serve_ended.new.entry
    c.args.seals.now c.serve_ended.new.seals c.seal_closed.new.seals c.in-Ok.ensures.sealed c.seal_closed.ensures.dated

pub returns-in-Ok-seal_closed-clause-only : goal.returns-in-Ok-seal_closed-clause-only
returns-in-Ok-seal_closed-clause-only g c =
    no_more_behind g.K.Replaced.named g.K.Replaced.may_leave g.K.Replaced.kept_may_leave g.K.Failures.failure_count c.args.begun c.serve_ended.new.entry
    c.args.seals.now c.serve_ended.new.seals c.seal_closed.new.seals c.in-Ok.ensures.sealed c.seal_closed.ensures.only

pub returns-in-Err-seal_closed-clause-only : goal.returns-in-Err-seal_closed-clause-only
returns-in-Err-seal_closed-clause-only g c =
    no_more_behind g.K.Replaced.named g.K.Replaced.may_leave g.K.Replaced.kept_may_leave g.K.Failures.failure_count c.args.begun c.serve_ended.new.entry
    c.args.seals.now c.serve_ended.new.seals c.seal_closed.new.seals c.in-Ok.ensures.sealed c.seal_closed.ensures.only

pub returns-in-Err-seal_closed-clause-open : goal.returns-in-Err-seal_closed-clause-open
returns-in-Err-seal_closed-clause-open g c = λ is. absurd (no_day c.in-Err-seal_closed.fault NoMemory is)

pub returns-in-Err-seal_closed-clause-journal : goal.returns-in-Err-seal_closed-clause-journal
returns-in-Err-seal_closed-clause-journal g c = λ is. absurd (no_day c.in-Err-seal_closed.fault Device is)

pub returns-in-Err-seal_closed-clause-unsealed : goal.returns-in-Err-seal_closed-clause-unsealed
returns-in-Err-seal_closed-clause-unsealed g c = λ e is. absurd (no_day c.in-Err-seal_closed.fault e is)

pub returns-in-Err-seal_closed-clause-dating : goal.returns-in-Err-seal_closed-clause-dating
returns-in-Err-seal_closed-clause-dating g c = λ is. absurd (no_dating c.in-Err-seal_closed.fault NoFile is)

pub returns-in-Err-seal_closed-clause-device : goal.returns-in-Err-seal_closed-clause-device
returns-in-Err-seal_closed-clause-device g c =
    λ is. failed_behind g.K.Replaced.named g.K.Replaced.may_leave g.K.Replaced.kept_may_leave g.K.Failures.failure_count c.args.begun c.serve_ended.new.entry
    c.args.seals.now c.serve_ended.new.seals c.seal_closed.new.seals c.in-Ok.ensures.sealed (c.in-Err-seal_closed.ensures.device (same_seal
    c.in-Err-seal_closed.fault NoFile is))
