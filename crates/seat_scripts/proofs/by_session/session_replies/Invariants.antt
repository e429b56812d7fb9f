-- The answers to the sessions so far are written.
use Rattle.std.proofs.Common.{[], length, take}
use Rattle.seat_rules.specs.Histories.{by_session}
use Rattle.seat_desk.specs.FlightsDesk.{IsPut}
use Rattle.seat_scripts.specs.Replying.{AreWantedSessions}
use Rattle.seat_scripts.proofs.by_session.session_replies.Given as goal

abbrev pub invariant-loop-session : goal.invariant-loop-session
invariant-loop-session l = IsPut (AreWantedSessions l.wanted l.flights l.scripts l.journal) 0 (take l.session (by_session (length l.scripts) l.added)) [] l.text.items
