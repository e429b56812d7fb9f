use Rattle.std.proofs.Common.{◌≡◌, ℕ, arith, get_or, rules, sym}
use Rattle.std.proofs.lemmas.Grind.{get_or_default_zero}
use Rattle.desk_stream.proofs.Told.{led_none_yet, session_few, session_more, sessions_whole}
use Rattle.desk_stream.proofs.telling.told_to_each.Goals as goal

pub loop-session-preserved : goal.loop-session-preserved
loop-session-preserved g c =
    let session : ℕ = get_or c.args.sessions.now c.loop-session.session-index 0 in
    let at : session ≡ get_or c.args.sessions.now c.loop-session.session-index session =
    sym (get_or_default_zero c.args.sessions.now c.loop-session.session-index session c.loop-session-test.true) in
    session_more c.args.flights.now c.args.serving.now.grid c.args.serving.now.journal c.args.turn.now c.loop-session.session-index
    c.args.sessions.now session c.loop-session.text.items c.in_ok-part.part.items c.add_part.new.text.items c.loop-session.calls.items
    c.told_to.new.calls.items c.loop-session.invariant c.loop-session-test.true at c.in_ok-part.ensures.told c.in_ok-add_part.ensures
    c.told_to.ensures.calls

pub loop-session-init : goal.loop-session-init
loop-session-init g c =
    led_none_yet c.args.flights.now c.args.serving.now.grid c.args.serving.now.journal c.args.turn.now c.args.sessions.now
    c.new-text.result.items c.args.calls.now.items (search rules) c.requires.calls

pub told_to-requires-clause-session : goal.told_to-requires-clause-session
told_to-requires-clause-session g c =
    let session : ℕ = get_or c.args.sessions.now c.loop-session.session-index 0 in
    let at : session ≡ get_or c.args.sessions.now c.loop-session.session-index session =
    sym (get_or_default_zero c.args.sessions.now c.loop-session.session-index session c.loop-session-test.true) in
    session_few c.args.sessions.now c.loop-session.session-index session c.requires.few c.loop-session-test.true at

pub told_to-requires-clause-calls : goal.told_to-requires-clause-calls
told_to-requires-clause-calls g c = c.loop-session.invariant.nine

pub returns-clause-told : goal.returns-clause-told
returns-clause-told g c =
    sessions_whole c.args.flights.now c.args.serving.now.grid c.args.serving.now.journal c.args.turn.now c.loop-session.session-index
    c.args.sessions.now c.loop-session.text.items c.loop-session.calls.items c.loop-session.invariant
    (omega (arith, c.loop-session-test.false))

pub returns-clause-calls : goal.returns-clause-calls
returns-clause-calls g c = c.loop-session.invariant.nine

pub returns-in_err-part-clause-calls : goal.returns-in_err-part-clause-calls
returns-in_err-part-clause-calls g c = c.told_to.ensures.calls

pub returns-in_err-add_part-clause-calls : goal.returns-in_err-add_part-clause-calls
returns-in_err-add_part-clause-calls g c = c.told_to.ensures.calls
