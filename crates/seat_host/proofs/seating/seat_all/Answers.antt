use Rattle.std.proofs.Common.{arith}
use Rattle.seat_host.proofs.Opening.{seating_none}
use Rattle.seat_host.proofs.seating.seat_all.Goals as goal

pub seat_next-requires-clause-seating : goal.seat_next-requires-clause-seating
seat_next-requires-clause-seating g c =
    seating_none g.K.Hosting.book g.K.Hosting.grid c.args.lines.now c.args.line_counts.now c.args.stakes c.args.viewers.items c.requires.line_counts c.requires.stakes c.requires.viewers.1

pub returns-clause-line_counts : goal.returns-clause-line_counts
returns-clause-line_counts g c = c.in-Ok-seat_sessions.ensures.seating.counts

pub seat_next-requires-clause-few : goal.seat_next-requires-clause-few
seat_next-requires-clause-few g c = c.requires.few

pub seat_next-requires-clause-display : goal.seat_next-requires-clause-display
seat_next-requires-clause-display g c = c.requires.display

pub seat_next-requires-clause-some : goal.seat_next-requires-clause-some
seat_next-requires-clause-some g c = omega (arith, c.requires.viewers.0)

pub seat_sessions-requires-clause-few : goal.seat_sessions-requires-clause-few
seat_sessions-requires-clause-few g c = c.requires.few

pub seat_sessions-requires-clause-display : goal.seat_sessions-requires-clause-display
seat_sessions-requires-clause-display g c = c.requires.display

pub seat_sessions-requires-clause-seating : goal.seat_sessions-requires-clause-seating
seat_sessions-requires-clause-seating g c = c.in-Ok.ensures.seating

pub seat_sessions-requires-clause-viewers : goal.seat_sessions-requires-clause-viewers
seat_sessions-requires-clause-viewers g c = omega (arith, c.in-Ok.ensures.len, c.requires.viewers.0)

pub seat_sessions-requires-clause-sessions : goal.seat_sessions-requires-clause-sessions
seat_sessions-requires-clause-sessions g c = c.requires.sessions

pub returns-clause-manager : goal.returns-clause-manager
returns-clause-manager g c = c.in-Ok.ensures.party

pub returns-clause-sessions : goal.returns-clause-sessions
returns-clause-sessions g c = c.in-Ok-seat_sessions.ensures.sessions
