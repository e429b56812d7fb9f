use Rattle.std.proofs.Common.{[], arith}
use Rattle.seat_desk.proofs.Texts.{put_none}
use Rattle.seat_scripts.proofs.Sessions.{session_answerable_of, session_more, sessions_all}
use Rattle.seat_scripts.specs.Replying.{AreWantedSessions}
use Rattle.seat_scripts.proofs.by_session.session_replies.Goals as goal

pub loop-session-init : goal.loop-session-init
loop-session-init c = rw c.new-text.ensures.items (put_none (AreWantedSessions c.args.wanted c.args.flights.now c.args.scripts.now c.args.journal.now) 0 [])

pub loop-session-preserved : goal.loop-session-preserved
loop-session-preserved c =
    session_more c.args.wanted c.args.flights.now c.args.scripts.now c.args.journal.now c.args.added.now c.loop-session.session c.loop-session.text.items c.put_session.new.text.items c.loop-session.invariant
    (omega (arith, c.loop-session-test.true, c.loop-session.auto.session-end)) c.in_ok-put_session.ensures

pub put_session-requires : goal.put_session-requires
put_session-requires c = record {
  lines = session_answerable_of c.args.flights.now c.args.scripts.now c.args.journal.now c.args.added.now c.loop-session.session c.requires.lines
      (omega (arith, c.loop-session-test.true, c.loop-session.auto.session-end));
}

pub returns : goal.returns
returns c =
    sessions_all c.args.wanted c.args.flights.now c.args.scripts.now c.args.journal.now c.args.added.now c.loop-session.session c.loop-session.text.items c.loop-session.invariant
    (omega (arith, c.loop-session-test.false, c.loop-session.auto.session-end))
