use Rattle.std.proofs.Common.{◌≡◌, ℕ, List}
use Rattle.std.specs.Prelude.{Option}
use Rattle.desk_talk.proofs.Closed.{ended_named, ended_told, still_named}
use Rattle.desk_serving.proofs.Daily.{failed_behind, names_on, no_more_behind, of_epoch, sealed_end}
use Rattle.desk_serving.proofs.Opened.{no_seal_failed, no_seal_over, no_seal_streamed}
use Rattle.desk_serving.proofs.Sealing.{fed_sealed, fed_unsealed}
use Rattle.desk_serving.proofs.Written.{no_seal_written}
use Rattle.desk_serving.specs.Serving.{IsStrangeFed}
use Rattle.desk_serving.specs.declared.fault.FedFault.TheVariants.{Broken, Seal}
use Rattle.desk_serving.specs.declared.fault.StreamFault.TheVariants.{Strange}
use Rattle.seat_desk.specs.declared.fault.DeskFault.{DeskFault}
use Rattle.seat_serving.specs.Served.{Served}
use Rattle.ssim_flights.specs.declared.flight.Flight.{Flight as Flown}
use Rattle.desk_serving.proofs.feed_serving.serve_feed.Goals as goal

no_seal_strange : {D : Type 0} (flights : List Flown) (serving : Served D) (epoch count : ℕ) (e : DeskFault) (seen : Option (List ℕ))
    (leaves : List ℕ → Type 0) → (line number : ℕ) → Seal e ≡ Broken (Strange line number)
    → IsStrangeFed flights serving epoch count line number seen leaves
no_seal_strange {D} flights serving epoch count e seen leaves line number is = absurd (cc is)

pub returns-in-Ok-seal_closed-clause-accepted : goal.returns-in-Ok-seal_closed-clause-accepted
returns-in-Ok-seal_closed-clause-accepted g c =
    ended_named c.args.host.serving.kept (g.K.Replaced.may_leave c.serve_ended.new.seals)
    (names_on g.K.Replaced.named g.K.Replaced.may_leave g.K.Replaced.kept_may_leave g.K.Failures.failure_count c.args.begun c.args.host.serving.kept
    c.args.seals.now c.serve_ended.new.seals c.requires.stands c.requires.named c.serve_ended.ensures.stays)
    c.args.host.serving.grid c.args.host.serving.cap c.in-Ok.served.0 (g.D.Tape.seen c.in-Ok.served.1) (g.D.Tape.may_leave c.in-Ok.served.1)
    (g.K.Replaced.may_leave c.seal_closed.new.seals) (g.D.Tape.unsynced c.in-Ok.served.1)
    c.in-Ok.ensures.front c.in-Ok.ensures.ended c.seal_closed.ensures.accepted

pub returns-in-Err-seal_closed-clause-agrees : goal.returns-in-Err-seal_closed-clause-agrees
returns-in-Err-seal_closed-clause-agrees g c =
    ended_named c.args.host.serving.kept (g.K.Replaced.may_leave c.serve_ended.new.seals)
    (names_on g.K.Replaced.named g.K.Replaced.may_leave g.K.Replaced.kept_may_leave g.K.Failures.failure_count c.args.begun c.args.host.serving.kept
    c.args.seals.now c.serve_ended.new.seals c.requires.stands c.requires.named c.serve_ended.ensures.stays)
    c.args.host.serving.grid c.args.host.serving.cap c.in-Ok.served.0 (g.D.Tape.seen c.in-Ok.served.1) (g.D.Tape.may_leave c.in-Ok.served.1)
    (g.K.Replaced.may_leave c.seal_closed.new.seals) (g.D.Tape.unsynced c.in-Ok.served.1)
    c.in-Ok.ensures.front c.in-Ok.ensures.ended c.seal_closed.ensures.accepted

pub returns-in-Err-seal_closed-clause-told : goal.returns-in-Err-seal_closed-clause-told
returns-in-Err-seal_closed-clause-told g c =
    ended_told c.args.host.serving.kept c.args.host.serving.grid c.args.host.serving.cap c.in-Ok.served.0 (g.D.Tape.seen c.in-Ok.served.1)
    (g.D.Tape.may_leave c.in-Ok.served.1) (g.D.Tape.unsynced c.in-Ok.served.1) c.in-Ok.ensures.front c.in-Ok.ensures.ended

pub returns-in-Err-seal_closed-clause-over : goal.returns-in-Err-seal_closed-clause-over
returns-in-Err-seal_closed-clause-over g c =
    fed_unsealed g.K.Replaced.named g.K.Replaced.may_leave g.K.Replaced.kept_may_leave g.K.Failures.failure_count c.args.flights.now
    c.args.host.serving c.args.behind c.args.host.desk.today c.args.begun c.serve_ended.new.entry c.args.seals.now c.serve_ended.new.seals
    c.seal_closed.new.seals c.args.basis.now c.args.host.serving.grid c.args.host.serving.cap c.in-Ok.served.0
    (g.D.Tape.seen c.in-Ok.served.1) (g.D.Tape.may_leave c.in-Ok.served.1) (g.D.Tape.unsynced c.in-Ok.served.1)
    (g.I.Read.remaining c.args.input.now) (g.W.Write.contents c.args.out.now) (g.W.Write.contents c.serve_ended.new.out)
    c.in-Err-seal_closed.fault c.in-Ok.ensures.sealed c.seal_closed.ensures.dated c.in-Ok.ensures.fed c.in-Ok.ensures.front
    c.in-Ok.ensures.ended c.in-Ok.ensures.lived
    (names_on g.K.Replaced.named g.K.Replaced.may_leave g.K.Replaced.kept_may_leave g.K.Failures.failure_count c.args.begun c.args.host.serving.kept
    c.args.seals.now c.serve_ended.new.seals c.requires.stands c.requires.named c.serve_ended.ensures.stays)
    c.in-Err-seal_closed.ensures.large c.in-Err-seal_closed.ensures.untouched

pub returns-in-Ok-seal_closed-clause-fed : goal.returns-in-Ok-seal_closed-clause-fed
returns-in-Ok-seal_closed-clause-fed g c =
    fed_sealed g.K.Replaced.named g.K.Replaced.may_leave g.K.Replaced.kept_may_leave g.K.Failures.failure_count c.args.flights.now
    c.args.host.serving c.args.behind c.args.host.desk.today c.args.begun c.serve_ended.new.entry c.args.seals.now c.serve_ended.new.seals
    c.seal_closed.new.seals (g.I.Read.remaining c.args.input.now) (g.W.Write.contents c.args.out.now)
    (g.W.Write.contents c.serve_ended.new.out)
    c.in-Ok.served.0.journal c.in-Ok.ensures.sealed c.seal_closed.ensures.dated c.in-Ok.ensures.fed

pub returns-in-Ok-seal_closed-clause-sealed : goal.returns-in-Ok-seal_closed-clause-sealed
returns-in-Ok-seal_closed-clause-sealed g c =
    sealed_end g.K.Replaced.named g.K.Replaced.may_leave g.K.Replaced.kept_may_leave g.K.Failures.failure_count c.args.basis.now
    c.in-Ok.served.0.journal c.args.begun c.serve_ended.new.entry c.args.seals.now c.serve_ended.new.seals c.seal_closed.new.seals
    c.in-Ok.ensures.sealed c.in-Ok-seal_closed.ensures.ok

pub returns-in-Ok-seal_closed-clause-dated : goal.returns-in-Ok-seal_closed-clause-dated
returns-in-Ok-seal_closed-clause-dated g c =
    of_epoch g.K.Replaced.named g.K.Replaced.may_leave g.K.Replaced.kept_may_leave g.K.Failures.failure_count c.args.begun
    c.serve_ended.new.entry c.args.seals.now c.serve_ended.new.seals c.seal_closed.new.seals
    c.in-Ok.ensures.sealed c.seal_closed.ensures.dated

pub returns-in-Ok-seal_closed-clause-only : goal.returns-in-Ok-seal_closed-clause-only
returns-in-Ok-seal_closed-clause-only g c =
    no_more_behind g.K.Replaced.named g.K.Replaced.may_leave g.K.Replaced.kept_may_leave g.K.Failures.failure_count c.args.begun
    c.serve_ended.new.entry c.args.seals.now c.serve_ended.new.seals c.seal_closed.new.seals
    c.in-Ok.ensures.sealed c.seal_closed.ensures.only

pub returns-in-Err-seal_closed-clause-only : goal.returns-in-Err-seal_closed-clause-only
returns-in-Err-seal_closed-clause-only g c =
    no_more_behind g.K.Replaced.named g.K.Replaced.may_leave g.K.Replaced.kept_may_leave g.K.Failures.failure_count c.args.begun
    c.serve_ended.new.entry c.args.seals.now c.serve_ended.new.seals c.seal_closed.new.seals
    c.in-Ok.ensures.sealed c.seal_closed.ensures.only

pub returns-in-Err-seal_closed-clause-device : goal.returns-in-Err-seal_closed-clause-device
returns-in-Err-seal_closed-clause-device g c = λ is.
    failed_behind g.K.Replaced.named g.K.Replaced.may_leave g.K.Replaced.kept_may_leave g.K.Failures.failure_count c.args.begun
    c.serve_ended.new.entry c.args.seals.now c.serve_ended.new.seals c.seal_closed.new.seals
    c.in-Ok.ensures.sealed (c.in-Err-seal_closed.ensures.device (cc is))

pub returns-in-Err-seal_closed-clause-broken : goal.returns-in-Err-seal_closed-clause-broken
returns-in-Err-seal_closed-clause-broken g c =
    no_seal_written c.args.flights.now c.args.host.serving c.args.begun.era.epoch c.args.behind c.in-Err-seal_closed.fault
    (g.I.Read.remaining c.args.input.now) (g.W.Write.contents c.args.out.now) (g.W.Write.contents c.serve_ended.new.out)
    (g.D.Tape.seen c.in-Ok.served.1) (g.D.Tape.may_leave c.in-Ok.served.1)

pub returns-in-Err-seal_closed-clause-streamed : goal.returns-in-Err-seal_closed-clause-streamed
returns-in-Err-seal_closed-clause-streamed g c =
    no_seal_streamed c.args.flights.now c.args.host.serving c.args.begun.era.epoch c.args.behind c.in-Err-seal_closed.fault
    (g.I.Read.remaining c.args.input.now) (g.W.Write.contents c.args.out.now)
    (g.W.Write.contents c.serve_ended.new.out)

pub returns-in-Err-seal_closed-clause-strange : goal.returns-in-Err-seal_closed-clause-strange
returns-in-Err-seal_closed-clause-strange g c =
    no_seal_strange c.args.flights.now c.args.host.serving c.args.begun.era.epoch c.args.behind c.in-Err-seal_closed.fault
    (g.D.Tape.seen c.in-Ok.served.1) (g.D.Tape.may_leave c.in-Ok.served.1)

pub returns-in-Err-clause-agrees : goal.returns-in-Err-clause-agrees
returns-in-Err-clause-agrees g c =
    still_named c.args.host.serving.kept (g.K.Replaced.may_leave c.serve_ended.new.seals)
    (names_on g.K.Replaced.named g.K.Replaced.may_leave g.K.Replaced.kept_may_leave g.K.Failures.failure_count c.args.begun c.args.host.serving.kept
    c.args.seals.now c.serve_ended.new.seals c.requires.stands c.requires.named c.serve_ended.ensures.stays)
    (g.D.Tape.may_leave c.in-Err.refused.1) c.in-Err.ensures.told

pub returns-in-Err-clause-unsealed : goal.returns-in-Err-clause-unsealed
returns-in-Err-clause-unsealed g c = λ of.
    (names_on g.K.Replaced.named g.K.Replaced.may_leave g.K.Replaced.kept_may_leave g.K.Failures.failure_count c.args.begun c.args.host.serving.kept
    c.args.seals.now c.serve_ended.new.seals c.requires.stands c.requires.named c.serve_ended.ensures.stays)

pub returns-in-Err-clause-over : goal.returns-in-Err-clause-over
returns-in-Err-clause-over g c =
    no_seal_over c.args.flights.now c.args.host.serving c.args.begun.era.epoch c.args.behind c.args.host.desk.today c.args.basis.now
    c.args.begun.runs
    (g.I.Read.remaining c.args.input.now) (g.W.Write.contents c.args.out.now) (g.W.Write.contents c.serve_ended.new.out)
    (g.D.Tape.seen c.in-Err.refused.1) (g.D.Tape.may_leave c.in-Err.refused.1) (g.D.Tape.unsynced c.in-Err.refused.1)
    (g.K.Replaced.may_leave c.serve_ended.new.seals) c.in-Err.refused.0 c.in-Err.ensures.kind

pub returns-in-Err-clause-device : goal.returns-in-Err-clause-device
returns-in-Err-clause-device g c =
    no_seal_failed g.K.Failures.failure_count c.args.seals.now c.serve_ended.new.seals c.in-Err.refused.0 c.in-Err.ensures.kind

pub serve_ended-requires-clause-grid : goal.serve_ended-requires-clause-grid
serve_ended-requires-clause-grid g c = c.requires.grid

pub serve_ended-requires-clause-today : goal.serve_ended-requires-clause-today
serve_ended-requires-clause-today g c = c.requires.today

pub serve_ended-requires-clause-ready : goal.serve_ended-requires-clause-ready
serve_ended-requires-clause-ready g c = c.requires.ready

pub returns-in-Ok-seal_closed-clause-lived : goal.returns-in-Ok-seal_closed-clause-lived
returns-in-Ok-seal_closed-clause-lived g c = c.in-Ok.ensures.lived

pub returns-in-Ok-seal_closed-clause-ended : goal.returns-in-Ok-seal_closed-clause-ended
returns-in-Ok-seal_closed-clause-ended g c = c.in-Ok.ensures.ended

pub returns-in-Ok-seal_closed-clause-front : goal.returns-in-Ok-seal_closed-clause-front
returns-in-Ok-seal_closed-clause-front g c = c.in-Ok.ensures.front

pub returns-in-Err-clause-told : goal.returns-in-Err-clause-told
returns-in-Err-clause-told g c = c.in-Err.ensures.told

pub returns-in-Err-clause-journal : goal.returns-in-Err-clause-journal
returns-in-Err-clause-journal g c = c.in-Err.ensures.journal

pub returns-in-Err-clause-behind : goal.returns-in-Err-clause-behind
returns-in-Err-clause-behind g c = c.in-Err.ensures.behind

pub returns-in-Err-clause-strange : goal.returns-in-Err-clause-strange
returns-in-Err-clause-strange g c = c.in-Err.ensures.strange

pub returns-in-Err-clause-broken : goal.returns-in-Err-clause-broken
returns-in-Err-clause-broken g c = c.in-Err.ensures.broken

pub returns-in-Err-clause-streamed : goal.returns-in-Err-clause-streamed
returns-in-Err-clause-streamed g c = c.in-Err.ensures.streamed

pub returns-in-Err-clause-input : goal.returns-in-Err-clause-input
returns-in-Err-clause-input g c = c.in-Err.ensures.input

pub returns-in-Err-clause-output : goal.returns-in-Err-clause-output
returns-in-Err-clause-output g c = c.in-Err.ensures.output

pub returns-in-Err-clause-dating : goal.returns-in-Err-clause-dating
returns-in-Err-clause-dating g c = c.in-Err.ensures.dating

pub returns-in-Err-clause-unheard : goal.returns-in-Err-clause-unheard
returns-in-Err-clause-unheard g c = c.in-Err.ensures.unheard

pub returns-in-Err-clause-open : goal.returns-in-Err-clause-open
returns-in-Err-clause-open g c = λ of. c.in-Err.ensures.open

pub returns-in-Err-clause-only : goal.returns-in-Err-clause-only
returns-in-Err-clause-only g c = c.serve_ended.ensures.stays.only
