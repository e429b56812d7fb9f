use Rattle.std.proofs.Common.{refl}
use Rattle.seat_disk.proofs.Keeping.{no_more}
use Rattle.desk_talk.proofs.Closed.{ended_named, ended_told, few_ended, still_named, talk_unsealed}
use Rattle.desk_talk.proofs.closing.serve_sealed.Goals as goal

pub returns-in-Ok-seal_closed-clause-accepted : goal.returns-in-Ok-seal_closed-clause-accepted
returns-in-Ok-seal_closed-clause-accepted g c =
    ended_named c.args.host.serving.kept (g.K.Replaced.may_leave c.args.seals.now) c.requires.named
    c.args.host.serving.grid c.args.host.serving.cap c.in-Ok.served.0 (g.D.Tape.seen c.in-Ok.served.1) (g.D.Tape.may_leave c.in-Ok.served.1)
    (g.K.Replaced.may_leave c.seal_closed.new.seals) (g.D.Tape.unsynced c.in-Ok.served.1)
    c.in-Ok.ensures.front c.in-Ok.ensures.ended c.seal_closed.ensures.accepted

pub returns-in-Err-seal_closed-clause-agrees : goal.returns-in-Err-seal_closed-clause-agrees
returns-in-Err-seal_closed-clause-agrees g c =
    ended_named c.args.host.serving.kept (g.K.Replaced.may_leave c.args.seals.now) c.requires.named
    c.args.host.serving.grid c.args.host.serving.cap c.in-Ok.served.0 (g.D.Tape.seen c.in-Ok.served.1) (g.D.Tape.may_leave c.in-Ok.served.1)
    (g.K.Replaced.may_leave c.seal_closed.new.seals) (g.D.Tape.unsynced c.in-Ok.served.1)
    c.in-Ok.ensures.front c.in-Ok.ensures.ended c.seal_closed.ensures.accepted

pub returns-in-Err-seal_closed-clause-told : goal.returns-in-Err-seal_closed-clause-told
returns-in-Err-seal_closed-clause-told g c =
    ended_told c.args.host.serving.kept c.args.host.serving.grid c.args.host.serving.cap c.in-Ok.served.0 (g.D.Tape.seen c.in-Ok.served.1)
    (g.D.Tape.may_leave c.in-Ok.served.1) (g.D.Tape.unsynced c.in-Ok.served.1) c.in-Ok.ensures.front c.in-Ok.ensures.ended

pub returns-in-Err-seal_closed-clause-over : goal.returns-in-Err-seal_closed-clause-over
returns-in-Err-seal_closed-clause-over g c =
    talk_unsealed c.args.host c.args.basis.now c.args.begun.runs c.in-Err-seal_closed.fault (g.I.Read.remaining c.args.input.now)
    (g.W.Write.contents c.args.out.now) (g.W.Write.contents c.serve_desk.new.out) c.args.host.serving.grid c.args.host.serving.cap c.in-Ok.served.0
    (g.D.Tape.seen c.in-Ok.served.1) (g.D.Tape.may_leave c.in-Ok.served.1) (g.D.Tape.unsynced c.in-Ok.served.1)
    c.in-Ok.ensures.front c.in-Ok.ensures.ended c.in-Ok.ensures.talk c.in-Err-seal_closed.ensures.large

pub returns-in-Err-clause-agrees : goal.returns-in-Err-clause-agrees
returns-in-Err-clause-agrees g c =
    still_named c.args.host.serving.kept (g.K.Replaced.may_leave c.args.seals.now) c.requires.named (g.D.Tape.may_leave c.in-Err.refused.1)
    c.in-Err.ensures.told

pub returns-in-Err-clause-only : goal.returns-in-Err-clause-only
returns-in-Err-clause-only g c = no_more (g.K.Replaced.kept_may_leave c.args.seals.now)

pub returns-in-Ok-seal_closed-clause-sealed : goal.returns-in-Ok-seal_closed-clause-sealed
returns-in-Ok-seal_closed-clause-sealed g c = c.in-Ok-seal_closed.ensures.ok

pub seal_closed-requires : goal.seal_closed-requires
seal_closed-requires g c =
    record {
      few = few_ended c.args.host.serving.grid c.args.host.serving.cap c.in-Ok.served.0 (g.D.Tape.seen c.in-Ok.served.1) (g.D.Tape.may_leave c.in-Ok.served.1)
          (g.D.Tape.unsynced c.in-Ok.served.1) c.in-Ok.ensures.ended c.requires.cap;
    }

pub returns-in-Err-clause-told : goal.returns-in-Err-clause-told
returns-in-Err-clause-told g c = c.in-Err.ensures.told

pub returns-in-Err-clause-talked : goal.returns-in-Err-clause-talked
returns-in-Err-clause-talked g c = c.in-Err.ensures.talked

pub returns-in-Err-clause-broken : goal.returns-in-Err-clause-broken
returns-in-Err-clause-broken g c = c.in-Err.ensures.broken

pub returns-in-Err-clause-open : goal.returns-in-Err-clause-open
returns-in-Err-clause-open g c = c.in-Err.ensures.open

pub returns-in-Err-clause-journal : goal.returns-in-Err-clause-journal
returns-in-Err-clause-journal g c = c.in-Err.ensures.journal

pub returns-in-Err-clause-memory : goal.returns-in-Err-clause-memory
returns-in-Err-clause-memory g c = c.in-Err.ensures.memory

pub returns-in-Err-clause-input : goal.returns-in-Err-clause-input
returns-in-Err-clause-input g c = c.in-Err.ensures.input

pub returns-in-Err-clause-output : goal.returns-in-Err-clause-output
returns-in-Err-clause-output g c = c.in-Err.ensures.output

pub returns-in-Err-clause-dated : goal.returns-in-Err-clause-dated
returns-in-Err-clause-dated g c = c.requires.dated

pub returns-in-Err-clause-unsealed : goal.returns-in-Err-clause-unsealed
returns-in-Err-clause-unsealed g c = refl

pub returns-in-Err-seal_closed-clause-untouched : goal.returns-in-Err-seal_closed-clause-untouched
returns-in-Err-seal_closed-clause-untouched g c = c.in-Err-seal_closed.ensures.untouched

pub returns-in-Err-seal_closed-clause-device : goal.returns-in-Err-seal_closed-clause-device
returns-in-Err-seal_closed-clause-device g c = c.in-Err-seal_closed.ensures.device

pub returns-in-Err-seal_closed-clause-dated : goal.returns-in-Err-seal_closed-clause-dated
returns-in-Err-seal_closed-clause-dated g c = c.seal_closed.ensures.dated c.requires.dated

pub returns-in-Err-seal_closed-clause-only : goal.returns-in-Err-seal_closed-clause-only
returns-in-Err-seal_closed-clause-only g c = c.seal_closed.ensures.only

pub returns-in-Ok-seal_closed-clause-dated : goal.returns-in-Ok-seal_closed-clause-dated
returns-in-Ok-seal_closed-clause-dated g c = c.seal_closed.ensures.dated c.requires.dated

pub returns-in-Ok-seal_closed-clause-only : goal.returns-in-Ok-seal_closed-clause-only
returns-in-Ok-seal_closed-clause-only g c = c.seal_closed.ensures.only

pub returns-in-Ok-seal_closed-clause-talk : goal.returns-in-Ok-seal_closed-clause-talk
returns-in-Ok-seal_closed-clause-talk g c = c.in-Ok.ensures.talk

pub returns-in-Ok-seal_closed-clause-ended : goal.returns-in-Ok-seal_closed-clause-ended
returns-in-Ok-seal_closed-clause-ended g c = c.in-Ok.ensures.ended

pub returns-in-Ok-seal_closed-clause-front : goal.returns-in-Ok-seal_closed-clause-front
returns-in-Ok-seal_closed-clause-front g c = c.in-Ok.ensures.front
