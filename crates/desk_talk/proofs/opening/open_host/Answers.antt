use Rattle.std.proofs.Common.{◌∙◌, inl, inr, refl}
use Rattle.seat_desk.specs.AuditDesk.{most_lines}
use Rattle.seat_disk.proofs.Keeping.{no_more}
use Rattle.seat_serving.proofs.Recovering.{beside_as_before}
use Rattle.desk_talk.proofs.Opened.{are_viewers, as_before, cut_to, dated_to, epoch_to, era_to, keeps_to, kept_to, lost_to, named_to, no_entry, opened, ready_host, recovered_to, runs_to, sealed_to, stands_to}
use Rattle.desk_talk.proofs.opening.open_host.Goals as goal

pub returns-in-Ok-go_on_sealed-clause-found : goal.returns-in-Ok-go_on_sealed-clause-found
returns-in-Ok-go_on_sealed-clause-found g c =
    recovered_to c.args.grid most_lines c.args.bytes.now c.over-host.result.serving c.in-Ok-go_on_sealed.begun.0 c.in-Ok-find_sealed.found.0.core.journal
    c.over-host.ensures.serving c.in-Ok-go_on_sealed.ensures.lines.0 c.in-Ok-find_sealed.ensures.recovered

pub returns-in-Ok-go_on_sealed-clause-opened : goal.returns-in-Ok-go_on_sealed-clause-opened
returns-in-Ok-go_on_sealed-clause-opened g c =
    opened c.args.flights.now c.args.grid most_lines c.args.today c.over-host.result c.new-desk.result c.in-Ok-go_on_sealed.begun.0
    c.over-host.ensures.parts.0 c.over-host.ensures.parts.1 c.over-host.ensures.parts.2 c.new-desk.ensures.parts.0 c.new-desk.ensures.parts.1
    c.new-desk.ensures.parts.2 c.new-desk.ensures.epoch.1 c.over-host.ensures.serving
    (c.in-Ok-go_on_sealed.ensures.same.0 ∙ c.in-Ok-find_sealed.ensures.core.0) c.in-Ok-go_on_sealed.ensures.same.1

pub returns-in-Ok-go_on_sealed-clause-viewers : goal.returns-in-Ok-go_on_sealed-clause-viewers
returns-in-Ok-go_on_sealed-clause-viewers g c = (
  c.in-Ok-go_on_sealed.ensures.viewers.0,
  are_viewers c.args.grid c.in-Ok-find_sealed.found.0.core.grid c.in-Ok-go_on_sealed.begun.0.book c.in-Ok-go_on_sealed.begun.1.items
      c.in-Ok-find_sealed.ensures.core.0 c.in-Ok-go_on_sealed.ensures.viewers.1,
)

pub returns-in-Ok-go_on_sealed-clause-ready : goal.returns-in-Ok-go_on_sealed-clause-ready
returns-in-Ok-go_on_sealed-clause-ready g c =
    ready_host g.D.Tape.seen g.D.Tape.may_leave g.D.Tape.unsynced c.over-host.result.serving c.in-Ok-go_on_sealed.begun.0 c.over-host.ensures.serving
    c.in-Ok-go_on_sealed.ensures.open c.in-Ok-go_on_sealed.ensures.lines.1 c.in-Ok-go_on_sealed.ensures.disk c.in-Ok-go_on_sealed.ensures.synced

pub returns-in-Ok-go_on_sealed-clause-behind : goal.returns-in-Ok-go_on_sealed-clause-behind
returns-in-Ok-go_on_sealed-clause-behind g c =
    cut_to g.B.Tape.seen g.B.Tape.may_leave g.B.Tape.unsynced c.args.grid most_lines c.args.bytes.now c.over-host.result.serving
    c.in-Ok-go_on_sealed.begun.0 c.in-Ok-find_sealed.found.0.core.journal c.in-Ok-find_sealed.found.0.rest c.args.beside.now c.go_on_sealed.new.beside
    c.over-host.ensures.serving c.in-Ok-go_on_sealed.ensures.lines.0 c.in-Ok-find_sealed.ensures.behind c.in-Ok-go_on_sealed.ensures.aside

pub returns-in-Ok-go_on_sealed-clause-stays : goal.returns-in-Ok-go_on_sealed-clause-stays
returns-in-Ok-go_on_sealed-clause-stays g c = c.in-Ok-go_on_sealed.ensures.stays

pub returns-in-Ok-go_on_sealed-clause-keeps : goal.returns-in-Ok-go_on_sealed-clause-keeps
returns-in-Ok-go_on_sealed-clause-keeps g c =
    keeps_to c.args.seal.now c.args.bytes.now c.over-host.result.serving c.in-Ok-go_on_sealed.begun.0 c.in-Ok-find_sealed.found.0.core.journal
    c.over-host.ensures.serving c.in-Ok-go_on_sealed.ensures.lines.0 c.in-Ok-find_sealed.ensures.keeps

pub returns-in-Ok-go_on_sealed-clause-sealed : goal.returns-in-Ok-go_on_sealed-clause-sealed
returns-in-Ok-go_on_sealed-clause-sealed g c =
    sealed_to c.args.seal.now c.args.basis.now c.args.bytes.now c.over-host.result.serving c.in-Ok-go_on_sealed.begun.0
    c.in-Ok-find_sealed.found.0.core.journal (g.K.Replaced.named c.args.seals.now) (g.K.Replaced.named c.go_on_sealed.new.seals)
    (g.K.Replaced.may_leave c.go_on_sealed.new.seals) c.over-host.ensures.serving c.in-Ok-go_on_sealed.ensures.lines.0 c.in-Ok-go_on_sealed.ensures.sealed

pub returns-in-Ok-go_on_sealed-clause-named : goal.returns-in-Ok-go_on_sealed-clause-named
returns-in-Ok-go_on_sealed-clause-named g c =
    named_to c.over-host.result.serving c.in-Ok-go_on_sealed.begun.0 c.in-Ok-find_sealed.found.0.core.journal
    (g.K.Replaced.may_leave c.go_on_sealed.new.seals) c.over-host.ensures.serving c.in-Ok-go_on_sealed.ensures.lines.0
    c.in-Ok-go_on_sealed.ensures.lines.1 c.in-Ok-go_on_sealed.ensures.named

pub returns-in-Ok-go_on_sealed-clause-stands : goal.returns-in-Ok-go_on_sealed-clause-stands
returns-in-Ok-go_on_sealed-clause-stands g c =
    stands_to c.in-Ok-go_on_sealed.begun.2 c.over-host.result.serving c.in-Ok-go_on_sealed.begun.0 c.in-Ok-find_sealed.found.0.core.journal
    (g.K.Replaced.may_leave c.go_on_sealed.new.seals) c.over-host.ensures.serving c.in-Ok-go_on_sealed.ensures.lines.0
    c.in-Ok-go_on_sealed.ensures.lines.1 c.in-Ok-go_on_sealed.ensures.stands

pub returns-in-Ok-go_on_sealed-clause-era : goal.returns-in-Ok-go_on_sealed-clause-era
returns-in-Ok-go_on_sealed-clause-era g c =
    era_to c.args.seal.now c.args.bytes.now c.args.today c.era_on-era.result c.in-Ok-go_on_sealed.begun.2 c.in-Ok-go_on_sealed.ensures.era c.era_on-era.ensures

pub returns-in-Ok-go_on_sealed-clause-epoch : goal.returns-in-Ok-go_on_sealed-clause-epoch
returns-in-Ok-go_on_sealed-clause-epoch g c =
    epoch_to c.over-host.result c.new-desk.result c.in-Ok-go_on_sealed.begun.2 c.over-host.ensures.parts.2 c.new-desk.ensures.epoch.0

pub returns-in-Ok-go_on_sealed-clause-dated : goal.returns-in-Ok-go_on_sealed-clause-dated
returns-in-Ok-go_on_sealed-clause-dated g c =
    dated_to c.era_on-era.result c.in-Ok-go_on_sealed.begun.2 (g.K.Replaced.may_leave c.go_on_sealed.new.seals) c.in-Ok-go_on_sealed.ensures.era
    c.in-Ok-go_on_sealed.ensures.dated

pub returns-in-Ok-go_on_sealed-clause-runs : goal.returns-in-Ok-go_on_sealed-clause-runs
returns-in-Ok-go_on_sealed-clause-runs g c =
    runs_to c.args.seal.now c.args.bytes.now c.over-host.result.serving c.in-Ok-go_on_sealed.begun.0 c.in-Ok-find_sealed.found.0.core.journal
    c.in-Ok-go_on_sealed.begun.2.runs c.over-host.ensures.serving c.in-Ok-go_on_sealed.ensures.lines.0 c.in-Ok-go_on_sealed.ensures.runs

pub returns-in-Ok-go_on_sealed-clause-both : goal.returns-in-Ok-go_on_sealed-clause-both
returns-in-Ok-go_on_sealed-clause-both g c =
    kept_to c.args.grid c.in-Ok-find_sealed.found.0.core.grid c.in-Ok-find_sealed.found.0.core.cap most_lines c.args.bytes.now
    (g.D.Tape.may_leave c.args.tape) (g.K.Replaced.may_leave c.args.seals.now) (g.K.Replaced.may_leave c.go_on_sealed.new.seals)
    g.D.Tape.may_leave c.over-host.result.serving c.in-Ok-go_on_sealed.begun.0 c.over-host.ensures.serving c.in-Ok-find_sealed.ensures.core.0
    c.in-Ok-find_sealed.ensures.core.1 c.in-Ok-go_on_sealed.ensures.both

pub returns-clause-lost : goal.returns-clause-lost
returns-clause-lost g c =
    lost_to c.args.grid c.in-Ok-find_sealed.found.0.core.grid c.in-Ok-find_sealed.found.0.core.cap most_lines c.args.bytes.now
    (g.D.Tape.may_leave c.args.tape) (g.K.Replaced.may_leave c.args.seals.now) (g.D.Tape.may_leave c.in-Err-go_on_sealed.refused.1)
    (g.K.Replaced.may_leave c.go_on_sealed.new.seals) c.in-Ok-find_sealed.ensures.core.0 c.in-Ok-find_sealed.ensures.core.1
    c.in-Err-go_on_sealed.ensures.lost

pub returns-clause-large : goal.returns-clause-large
returns-clause-large g c = λ is.
    no_entry c.args.grid c.args.seal.now c.args.basis.now c.args.bytes.now c.in-Ok-find_sealed.found.0.core.journal c.in-Ok-find_sealed.ensures.recovered
    (c.in-Err-go_on_sealed.ensures.large is)

pub returns-in-Err-clause-large : goal.returns-in-Err-clause-large
returns-in-Err-clause-large g c = λ is. inl (c.in-Err.ensures.large is)

pub returns-in-Err-clause-lost : goal.returns-in-Err-clause-lost
returns-in-Err-clause-lost g c =
    as_before c.args.grid most_lines c.args.bytes.now (g.D.Tape.may_leave c.args.tape) (g.K.Replaced.may_leave c.args.seals.now)

pub returns-in_default-clause-lost : goal.returns-in_default-clause-lost
returns-in_default-clause-lost g c =
    as_before c.args.grid most_lines c.args.bytes.now (g.D.Tape.may_leave c.args.tape) (g.K.Replaced.may_leave c.args.seals.now)

pub returns-in_default-new-clause-lost : goal.returns-in_default-new-clause-lost
returns-in_default-new-clause-lost g c =
    as_before c.args.grid most_lines c.args.bytes.now (g.D.Tape.may_leave c.args.tape) (g.K.Replaced.may_leave c.args.seals.now)

pub returns-in-Err-clause-stays : goal.returns-in-Err-clause-stays
returns-in-Err-clause-stays g c = inr (beside_as_before g.B.Tape.seen g.B.Tape.may_leave g.B.Tape.unsynced c.args.beside.now)

pub returns-in_default-clause-stays : goal.returns-in_default-clause-stays
returns-in_default-clause-stays g c = inr (beside_as_before g.B.Tape.seen g.B.Tape.may_leave g.B.Tape.unsynced c.args.beside.now)

pub returns-in_default-new-clause-stays : goal.returns-in_default-new-clause-stays
returns-in_default-new-clause-stays g c = inr (beside_as_before g.B.Tape.seen g.B.Tape.may_leave g.B.Tape.unsynced c.args.beside.now)

pub returns-in-Err-clause-only : goal.returns-in-Err-clause-only
returns-in-Err-clause-only g c = no_more (g.K.Replaced.kept_may_leave c.args.seals.now)

pub returns-in_default-clause-only : goal.returns-in_default-clause-only
returns-in_default-clause-only g c = no_more (g.K.Replaced.kept_may_leave c.args.seals.now)

pub returns-in_default-new-clause-only : goal.returns-in_default-new-clause-only
returns-in_default-new-clause-only g c = no_more (g.K.Replaced.kept_may_leave c.args.seals.now)

pub returns-in-Ok-go_on_sealed-clause-only : goal.returns-in-Ok-go_on_sealed-clause-only
returns-in-Ok-go_on_sealed-clause-only g c = c.go_on_sealed.ensures.only

pub returns-in-Ok-go_on_sealed-clause-passes : goal.returns-in-Ok-go_on_sealed-clause-passes
returns-in-Ok-go_on_sealed-clause-passes g c = c.in-Ok-find_sealed.ensures.passes

pub returns-clause-only : goal.returns-clause-only
returns-clause-only g c = c.go_on_sealed.ensures.only

pub returns-clause-stays : goal.returns-clause-stays
returns-clause-stays g c = c.go_on_sealed.ensures.stays

pub returns-clause-untouched : goal.returns-clause-untouched
returns-clause-untouched g c = c.in-Err-go_on_sealed.ensures.untouched

pub returns-clause-device : goal.returns-clause-device
returns-clause-device g c = c.in-Err-go_on_sealed.ensures.device

pub returns-clause-fault : goal.returns-clause-fault
returns-clause-fault g c = λ is. absurd (c.in-Err-go_on_sealed.ensures.kind is)

pub returns-in-Err-clause-fault : goal.returns-in-Err-clause-fault
returns-in-Err-clause-fault g c = c.in-Err.ensures.fault

pub returns-in-Err-clause-device : goal.returns-in-Err-clause-device
returns-in-Err-clause-device g c = λ is. absurd (c.in-Err.ensures.kind is)

pub returns-in-Err-clause-untouched : goal.returns-in-Err-clause-untouched
returns-in-Err-clause-untouched g c = λ _. (refl, refl, refl)

pub returns-in_default-clause-untouched : goal.returns-in_default-clause-untouched
returns-in_default-clause-untouched g c = λ _. (refl, refl, refl)

pub returns-in_default-new-clause-untouched : goal.returns-in_default-new-clause-untouched
returns-in_default-new-clause-untouched g c = λ _. (refl, refl, refl)
