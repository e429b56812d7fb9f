use Rattle.std.proofs.Common.{◌≡◌, ◌+◌}
use Rattle.std.specs.Prelude.{vec_len}
use Rattle.seat_host.specs.Seating.{Seating}
use Rattle.seat_host.specs.Sessions.{seated_sessions}
use Rattle.seat_host.proofs.seating.seat_sessions.Given as goal

abbrev pub invariant-loop-seated : goal.invariant-loop-seated
invariant-loop-seated g l = record {
  seating : Seating g.K.Hosting.book g.K.Hosting.grid l.lines (l.seated + 1) l.line_counts l.stakes l.viewers.items;
  len : vec_len l.viewers + l.seated ≡ l.sessions;
  all : l.seats.items ≡ seated_sessions l.seated l.lines;
}
