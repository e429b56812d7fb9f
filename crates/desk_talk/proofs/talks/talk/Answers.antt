use Rattle.std.proofs.Common.{◌≡◌, List, ℕ, [], ap, refl, rules, subst, true, ◌∙◌}
use Rattle.std.specs.Io.KnownBytes.{Appends}
use Rattle.std.proofs.lemmas.Result.{err_from_is_err_and}
use Rattle.airline_base.specs.Noting.{noted, TookFront}
use Rattle.desk_talk.proofs.Talking.{begins_all, behind_all, front_before, grown_behind, reads_none, reads_on, ready_told, talk_is, told_before}
use Rattle.desk_talk.proofs.Broken.{half_ready, talk_broken}
use Rattle.desk_talk.proofs.talks.talk.Goals as goal

pub loop-init : goal.loop-init
loop-init g c =
    (reads_none g.D.Tape.seen g.D.Tape.may_leave g.D.Tape.unsynced g.D.Failures.failure_count c.args.host.now c.new-line.result.items _ _ _ c.requires.ready, refl)

pub returns-in_err-turn-clause-told : goal.returns-in_err-turn-clause-told
returns-in_err-turn-clause-told g c =
    told_before g.D.Tape.seen g.D.Tape.may_leave g.D.Tape.unsynced g.D.Failures.failure_count c.args.host.now c.loop.host c.new-line.result.items c.loop.line.items
    c.loop.invariant.0.bytes (g.D.Tape.may_leave c.turn.new.host.serving.tape) true _ _ _ _ c.loop.invariant.0.talks c.in_err-turn.ensures.told

pub returns-in_err-turn-clause-front : goal.returns-in_err-turn-clause-front
returns-in_err-turn-clause-front g c =
    front_before g.D.Tape.seen g.D.Tape.may_leave g.D.Tape.unsynced g.D.Failures.failure_count c.args.host.now c.loop.host c.new-line.result.items c.loop.line.items
    c.loop.invariant.0.bytes c.turn.new.host.serving.kept true _ _ _ _ c.loop.invariant.0.talks c.in_err-turn.ensures.front

pub returns-in_err-turn-clause-broken : goal.returns-in_err-turn-clause-broken
returns-in_err-turn-clause-broken g c =
    let put : Appends (g.W.Write.contents c.args.out.now) (g.W.Write.contents c.put_all.new.out) c.ready_of-ready.result.items = subst (λ (t : List ℕ). Appends (g.W.Write.contents c.args.out.now) (g.W.Write.contents c.put_all.new.out) t) c.as_slice.ensures.value c.in-Ok.ensures.ok in
    let empty : c.new-line.result.items ≡ [] = search rules in
    let p = err_from_is_err_and c.from_residual.result c.from_residual.ensures.1 in
    rw (p.1, p.2) (talk_broken g.D.Tape.seen g.D.Tape.may_leave g.D.Tape.unsynced g.D.Failures.failure_count c.args.host.now c.loop.host c.loop.line.items c.new-line.result.items
    c.ready_of-ready.result.items _ (g.D.Tape.may_leave c.turn.new.host.serving.tape) _ _ (g.W.Write.contents c.args.out.now) _ _ _ _ _ c.ready_of-ready.ensures put empty c.loop.invariant.0 c.in_err-turn.ensures.broken)

pub returns-then-not-branch-clause-talk : goal.returns-then-not-branch-clause-talk
returns-then-not-branch-clause-talk g c =
    let put : Appends (g.W.Write.contents c.args.out.now) (g.W.Write.contents c.put_all.new.out) c.ready_of-ready.result.items = subst (λ (t : List ℕ). Appends (g.W.Write.contents c.args.out.now) (g.W.Write.contents c.put_all.new.out) t) c.as_slice.ensures.value c.in-Ok.ensures.ok in
    let empty : c.new-line.result.items ≡ [] = search rules in
    talk_is g.D.Tape.seen g.D.Tape.may_leave g.D.Tape.unsynced g.D.Failures.failure_count c.args.host.now c.loop.host c.turn.new.host c.loop.line.items c.turn.new.line.items c.new-line.result.items
    c.in_ok-turn.field-0 _ _ _ (g.W.Write.contents c.args.out.now) _ _ _ _ _ _ c.ready_of-ready.result.items c.ready_of-ready.ensures put empty c.loop.invariant.0 c.in_ok-turn.ensures.turns c.if-not-branch.true

pub returns-then-not-branch-clause-told : goal.returns-then-not-branch-clause-told
returns-then-not-branch-clause-told g c =
    grown_behind g.D.Tape.seen g.D.Tape.may_leave g.D.Tape.unsynced g.D.Failures.failure_count c.args.host.now c.loop.host c.turn.new.host c.loop.line.items c.turn.new.line.items c.new-line.result.items
    c.in_ok-turn.field-0 _ _ _ _ _ _ _ _ _ c.loop.invariant.0 c.in_ok-turn.ensures.turns c.if-not-branch.true

pub returns-then-not-branch-clause-same : goal.returns-then-not-branch-clause-same
returns-then-not-branch-clause-same g c =
    (behind_all g.D.Tape.seen g.D.Tape.may_leave g.D.Tape.unsynced g.D.Failures.failure_count c.args.host.now c.loop.host c.turn.new.host c.loop.line.items c.turn.new.line.items c.new-line.result.items
    c.in_ok-turn.field-0 _ _ _ _ _ _ _ _ _ c.loop.invariant.0 c.in_ok-turn.ensures.turns c.if-not-branch.true).0

pub returns-then-not-branch-clause-front : goal.returns-then-not-branch-clause-front
returns-then-not-branch-clause-front g c =
    (behind_all g.D.Tape.seen g.D.Tape.may_leave g.D.Tape.unsynced g.D.Failures.failure_count c.args.host.now c.loop.host c.turn.new.host c.loop.line.items c.turn.new.line.items c.new-line.result.items
    c.in_ok-turn.field-0 _ _ _ _ _ _ _ _ _ c.loop.invariant.0 c.in_ok-turn.ensures.turns c.if-not-branch.true).1

pub returns-then-not-branch-clause-counted : goal.returns-then-not-branch-clause-counted
returns-then-not-branch-clause-counted g c =
    (behind_all g.D.Tape.seen g.D.Tape.may_leave g.D.Tape.unsynced g.D.Failures.failure_count c.args.host.now c.loop.host c.turn.new.host c.loop.line.items c.turn.new.line.items c.new-line.result.items
    c.in_ok-turn.field-0 _ _ _ _ _ _ _ _ _ c.loop.invariant.0 c.in_ok-turn.ensures.turns c.if-not-branch.true).2

pub loop-preserved : goal.loop-preserved
loop-preserved g c = (
  reads_on g.D.Tape.seen g.D.Tape.may_leave g.D.Tape.unsynced g.D.Failures.failure_count c.args.host.now c.loop.host c.turn.new.host c.new-line.result.items c.loop.line.items c.turn.new.line.items
      c.in_ok-turn.field-0 _ _ _ _ _ _ _ _ _ c.loop.invariant.0 c.in_ok-turn.ensures.turns c.if-not-branch.false,
  c.in_ok-turn.ensures.counted ∙ c.loop.invariant.1,
)

pub returns-in_default-clause-broken : goal.returns-in_default-clause-broken
returns-in_default-clause-broken g c =
    half_ready g.D.Tape.seen g.D.Tape.may_leave g.D.Tape.unsynced g.D.Failures.failure_count c.args.host.now _ c.ready_of-ready.result.items
    (g.I.Read.remaining c.args.input.now) (g.W.Write.contents c.args.out.now) (g.W.Write.contents c.put_all.new.out) refl c.requires.ready
    c.ready_of-ready.ensures
    (subst (λ (t : List ℕ). TookFront (g.W.Write.contents c.args.out.now) (g.W.Write.contents c.put_all.new.out) t) c.as_slice.ensures.value
    c.in_default.ensures.front)

pub returns-in_default-clause-front : goal.returns-in_default-clause-front
returns-in_default-clause-front g c = begins_all c.args.host.now.serving.kept

pub returns-in_default-clause-told : goal.returns-in_default-clause-told
returns-in_default-clause-told g c = ready_told g.D.Tape.seen g.D.Tape.may_leave g.D.Tape.unsynced g.D.Failures.failure_count c.args.host.now c.requires.ready

pub returns-in_err-turn-clause-still : goal.returns-in_err-turn-clause-still
returns-in_err-turn-clause-still g c =
    let p = err_from_is_err_and c.from_residual.result c.from_residual.ensures.1 in
    rw (p.1, p.2) c.in_err-turn.ensures.still

pub returns-in_default-clause-still : goal.returns-in_default-clause-still
returns-in_default-clause-still g c = λ _. c.requires.ready

pub returns-in_default-clause-output : goal.returns-in_default-clause-output
returns-in_default-clause-output g c = λ _. c.in_default.ensures.device

pub returns-in_err-turn-clause-memory : goal.returns-in_err-turn-clause-memory
returns-in_err-turn-clause-memory g c =
    let p = err_from_is_err_and c.from_residual.result c.from_residual.ensures.1 in
    rw (p.1, p.2) c.in_err-turn.ensures.memory

pub returns-in_err-turn-clause-input : goal.returns-in_err-turn-clause-input
returns-in_err-turn-clause-input g c =
    let p = err_from_is_err_and c.from_residual.result c.from_residual.ensures.1 in
    rw (p.1, p.2) (λ is. c.in_err-turn.ensures.input is ∙ ap noted c.loop.invariant.1)

pub returns-in_err-turn-clause-output : goal.returns-in_err-turn-clause-output
returns-in_err-turn-clause-output g c =
    let p = err_from_is_err_and c.from_residual.result c.from_residual.ensures.1 in
    rw (p.1, p.2) (λ is. c.in_err-turn.ensures.output is ∙ ap noted (c.loop.invariant.0.talks.counted ∙ c.in-Ok.ensures.counted))

pub returns-in_err-turn-clause-journal : goal.returns-in_err-turn-clause-journal
returns-in_err-turn-clause-journal g c =
    let p = err_from_is_err_and c.from_residual.result c.from_residual.ensures.1 in
    rw (p.1, p.2) (λ is. c.in_err-turn.ensures.journal is ∙ ap noted c.loop.invariant.0.talks.tape_counted)
