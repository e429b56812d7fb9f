use Rattle.std.proofs.Common.{List, ℕ, inl, refl, rules, subst}
use Rattle.std.specs.Io.KnownBytes.{Appends}
use Rattle.desk_answers.specs.FaultLines.{memory_line}
use Rattle.desk_talk.proofs.Talking.{ends_untold, same_host, wanting_told}
use Rattle.airline_base.specs.Noting.{TookFront}
use Rattle.desk_talk.proofs.Broken.{breaks_journal, breaks_silent, breaks_told, breaks_wanting}
use Rattle.desk_talk.proofs.piece.tell.Goals as goal

pub returns-in-Err-Memory-clause-tells : goal.returns-in-Err-Memory-clause-tells
returns-in-Err-Memory-clause-tells g c =
    wanting_told g.D.Tape.seen g.D.Tape.may_leave g.D.Tape.unsynced g.D.Failures.failure_count c.args.host.now c.hear.new.self c.args.line.now
    (memory_line c.hear.new.self.session c.hear.new.self.desk.lines) (g.W.Write.contents c.args.out.now) (g.W.Write.contents c.tell_wanting.new.out)
    (g.W.Failures.failure_count c.args.out.now) (g.W.Failures.failure_count c.tell_wanting.new.out) c.tell_wanting.result
    c.tell_wanting.ensures.ok refl (same_host c.args.host.now c.hear.new.self c.hear.ensures.same) c.hear.ensures.counts (search rules) (search rules) c.hear.ensures.front (search rules)

pub returns-in-Ok-put_all-clause-tells : goal.returns-in-Ok-put_all-clause-tells
returns-in-Ok-put_all-clause-tells g c = record {
  text = c.in-Ok.heard.text.items;
  told = inl (record { same_host = same_host c.args.host.now c.hear.new.self c.in-Ok.ensures.same; heard = c.in-Ok.heard; answered = c.in-Ok.ensures.answered; stays_is = refl; says = refl });
  written = subst (λ (t : List ℕ). Appends (g.W.Write.contents c.args.out.now) (g.W.Write.contents c.put_all.new.out) t) c.as_slice.ensures.value c.in-Ok-put_all.ensures.ok;
  is_ready = c.in-Ok.ensures.ready;
  grows = c.in-Ok.ensures.front;
  counted = c.in-Ok-put_all.ensures.counted;
  tape_counted = c.in-Ok.ensures.counted;
}

pub returns-in-Err-Memory-clause-broken : goal.returns-in-Err-Memory-clause-broken
returns-in-Err-Memory-clause-broken g c =
    breaks_wanting g.D.Tape.seen g.D.Tape.may_leave g.D.Tape.unsynced c.args.host.now c.hear.new.self c.args.line.now
    (memory_line c.hear.new.self.session c.hear.new.self.desk.lines) (g.W.Write.contents c.args.out.now) (g.W.Write.contents c.tell_wanting.new.out)
    c.tell_wanting.result _ c.requires.ready c.hear.ensures.told (search rules) c.tell_wanting.ensures.output c.tell_wanting.ensures.begun refl
    (same_host c.args.host.now c.hear.new.self c.hear.ensures.same) c.hear.ensures.counts (search rules)

pub returns-clause-broken : goal.returns-clause-broken
returns-clause-broken g c =
    breaks_told g.D.Tape.seen g.D.Tape.may_leave g.D.Tape.unsynced c.args.host.now c.hear.new.self c.args.line.now c.in-Ok.heard.text.items c.in-Ok.heard.stays
    (g.W.Write.contents c.args.out.now) (g.W.Write.contents c.put_all.new.out) c.requires.ready c.in-Ok.ensures.told c.in-Ok.ensures.ready
    (inl (record { same_host = same_host c.args.host.now c.hear.new.self c.in-Ok.ensures.same; heard = c.in-Ok.heard; answered = c.in-Ok.ensures.answered; stays_is = refl; says = refl }))
    (subst (λ (t : List ℕ). TookFront (g.W.Write.contents c.args.out.now) (g.W.Write.contents c.put_all.new.out) t) c.as_slice.ensures.value c.in-Err.ensures.front)

pub returns-in-Err-Device-clause-broken : goal.returns-in-Err-Device-clause-broken
returns-in-Err-Device-clause-broken g c =
    breaks_journal g.D.Tape.seen g.D.Tape.may_leave g.D.Tape.unsynced c.args.host.now c.args.line.now c.no_journal.result
    (g.D.Tape.may_leave c.hear.new.self.serving.tape) (g.W.Write.contents c.args.out.now) (g.W.Write.contents c.no_journal.new.out)
    c.no_journal.ensures.value c.requires.ready c.hear.ensures.told c.no_journal.ensures.says

pub returns-in-Err-Untold-clause-broken : goal.returns-in-Err-Untold-clause-broken
returns-in-Err-Untold-clause-broken g c =
    breaks_silent g.D.Tape.seen g.D.Tape.may_leave g.D.Tape.unsynced c.args.host.now c.args.line.now
    (g.D.Tape.may_leave c.hear.new.self.serving.tape) (g.W.Write.contents c.args.out.now) c.requires.ready c.hear.ensures.told

pub returns-in-Err-Untold-clause-memory : goal.returns-in-Err-Untold-clause-memory
returns-in-Err-Untold-clause-memory g c = λ _.
    ends_untold c.args.host.now c.hear.new.self c.args.line.now (c.in-Err-Untold.ensures.untold c.in-Err-Untold.field-0-is)

pub returns-in-Err-Device-clause-said : goal.returns-in-Err-Device-clause-said
returns-in-Err-Device-clause-said g c = λ _. c.no_journal.ensures.said

pub returns-in-Err-Device-clause-journal : goal.returns-in-Err-Device-clause-journal
returns-in-Err-Device-clause-journal g c = λ _. (c.in-Err-Device.ensures.device c.in-Err-Device.field-0-is).2

pub returns-in-Err-Device-clause-still : goal.returns-in-Err-Device-clause-still
returns-in-Err-Device-clause-still g c = λ other. absurd (other c.no_journal.ensures.value)

pub returns-in-Err-Device-clause-told : goal.returns-in-Err-Device-clause-told
returns-in-Err-Device-clause-told g c = c.hear.ensures.told

pub returns-in-Err-Device-clause-front : goal.returns-in-Err-Device-clause-front
returns-in-Err-Device-clause-front g c = c.hear.ensures.front

pub returns-in-Err-Untold-clause-told : goal.returns-in-Err-Untold-clause-told
returns-in-Err-Untold-clause-told g c = c.hear.ensures.told

pub returns-in-Err-Untold-clause-front : goal.returns-in-Err-Untold-clause-front
returns-in-Err-Untold-clause-front g c = c.hear.ensures.front

pub returns-clause-told : goal.returns-clause-told
returns-clause-told g c = c.hear.ensures.told

pub returns-clause-front : goal.returns-clause-front
returns-clause-front g c = c.hear.ensures.front

pub returns-clause-still : goal.returns-clause-still
returns-clause-still g c = λ _. c.in-Ok.ensures.ready

pub returns-clause-output : goal.returns-clause-output
returns-clause-output g c = λ _. c.in-Err.ensures.device
