use Rattle.std.proofs.Common.{◌≡◌, ◌∙◌, List, ap, rules, subst, sym}
use Rattle.seat_journal.specs.declared.entry.Entry.{Entry}
use Rattle.seat_rules.specs.Prefixes.{Begins}
use Rattle.seat_serving.specs.Served.{Served}
use Rattle.desk_answers.specs.Hosts.{Attended}
use Rattle.desk_talk.specs.declared.talk_fault.TalkFault.TheVariants.{Input, Memory as NoMemory, Output}
use Rattle.desk_talk.proofs.Ended.{broken_left, ended_so, kept_on, left_open, other_fault, talk_fault_is, talk_to, talked_out, untold_in}
use Rattle.desk_talk.proofs.serving.serve_desk.Goals as goal

-- what was kept is at the front of the journal that is ended
front_on : {D : Type 0} (old new : Attended D) (s : Served D) (journal : List Entry) → s ≡ new.serving → journal ≡ s.journal
    → new.serving.kept ≡ new.serving.journal → Begins old.serving.kept new.serving.kept → Begins old.serving.kept journal
front_on {D} old new s journal same is kept front =
    subst (λ (l : List Entry). Begins old.serving.kept l) (kept ∙ sym (is ∙ ap (λ (x : Served D). x.journal) same)) front

pub returns-in-Ok-end-clause-talk : goal.returns-in-Ok-end-clause-talk
returns-in-Ok-end-clause-talk g c =
    talk_to c.args.host c.talk-talked.new.host c.into_serving-serving.result (g.W.Write.contents c.args.out.now) (g.W.Write.contents c.talk-talked.new.out)
    (g.I.Read.remaining c.args.input.now) c.in-Ok-end.ended.0.journal (search rules) c.in-Ok-end.ensures.journal c.in-Ok.ensures.talk

pub returns-in-Err-end-clause-talked : goal.returns-in-Err-end-clause-talked
returns-in-Err-end-clause-talked g c = λ e is.
    talked_out c.args.host c.talk-talked.new.host (g.W.Write.contents c.args.out.now) (g.W.Write.contents c.talk-talked.new.out)
    (g.I.Read.remaining c.args.input.now) c.in-Ok.ensures.talk

pub returns-in-Err-end-clause-told : goal.returns-in-Err-end-clause-told
returns-in-Err-end-clause-told g c =
    kept_on c.args.host c.talk-talked.new.host c.into_serving-serving.result (g.D.Tape.may_leave c.in-Err-end.refused.1) (search rules)
    c.talk-talked.ensures.front c.in-Err-end.ensures.lost

pub returns-in-Err-clause-memory : goal.returns-in-Err-clause-memory
returns-in-Err-clause-memory g c = λ is.
    untold_in c.talk-talked.new.host c.into_serving-serving.result c.close.result (search rules) c.close.ensures.tape
    (c.in-Err.ensures.memory (talk_fault_is c.in-Err.fault NoMemory is))

pub returns-in-Err-clause-broken : goal.returns-in-Err-clause-broken
returns-in-Err-clause-broken g c = λ t is.
    broken_left g.D.Tape.may_leave c.args.host c.talk-talked.new.host c.into_serving-serving.result c.close.result c.in-Err.fault t (g.I.Read.remaining c.args.input.now)
    (g.W.Write.contents c.args.out.now) (g.W.Write.contents c.talk-talked.new.out) (search rules) c.close.ensures.tape
    (talk_fault_is c.in-Err.fault t is) c.in-Err.ensures.broken

pub returns-in-Ok-end-clause-ended : goal.returns-in-Ok-end-clause-ended
returns-in-Ok-end-clause-ended g c =
    ended_so c.args.host c.talk-talked.new.host c.into_serving-serving.result c.in-Ok-end.ended.0 (g.D.Tape.seen c.in-Ok-end.ended.1)
    (g.D.Tape.may_leave c.in-Ok-end.ended.1) (g.D.Tape.unsynced c.in-Ok-end.ended.1) c.in-Ok.ensures.same (search rules)
    c.in-Ok-end.ensures.headline c.in-Ok-end.ensures.journal c.in-Ok-end.ensures.text c.in-Ok-end.ensures.disk c.in-Ok-end.ensures.synced
    c.in-Ok-end.ensures.readable c.in-Ok-end.ensures.faultless

pub returns-in-Err-clause-open : goal.returns-in-Err-clause-open
returns-in-Err-clause-open g c = λ other.
    left_open g.D.Tape.seen g.D.Tape.may_leave g.D.Tape.unsynced c.args.host c.talk-talked.new.host c.into_serving-serving.result c.close.result
    (c.in-Err.ensures.still (other_fault c.in-Err.fault other)) (search rules) c.close.ensures.tape c.talk-talked.ensures.front

pub returns-in-Err-clause-input : goal.returns-in-Err-clause-input
returns-in-Err-clause-input g c = λ is. c.in-Err.ensures.input (talk_fault_is c.in-Err.fault Input is)

pub returns-in-Err-clause-output : goal.returns-in-Err-clause-output
returns-in-Err-clause-output g c = λ is. c.in-Err.ensures.output (talk_fault_is c.in-Err.fault Output is)

pub returns-in-Err-clause-told : goal.returns-in-Err-clause-told
returns-in-Err-clause-told g c =
    kept_on c.args.host c.talk-talked.new.host c.into_serving-serving.result (g.D.Tape.may_leave c.close.result) (search rules)
    c.talk-talked.ensures.front c.close.ensures.told

pub returns-in-Ok-end-clause-front : goal.returns-in-Ok-end-clause-front
returns-in-Ok-end-clause-front g c =
    front_on c.args.host c.talk-talked.new.host c.into_serving-serving.result c.in-Ok-end.ended.0.journal (search rules)
    c.in-Ok-end.ensures.journal c.in-Ok.ensures.ready.kept_is c.talk-talked.ensures.front
