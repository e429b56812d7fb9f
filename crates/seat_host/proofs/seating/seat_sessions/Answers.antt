use Rattle.std.proofs.Common.{arith}
use Rattle.seat_host.proofs.Opening.{seated_more}
use Rattle.seat_host.proofs.seating.seat_sessions.Goals as goal

pub loop-seated-preserved : goal.loop-seated-preserved
loop-seated-preserved g c = record {
  seating = c.in-Ok.ensures.seating;
  len = omega (arith, c.loop-seated.invariant.len, c.in-Ok.ensures.len);
  all = seated_more c.loop-seated.seats.items c.push.new.self.items c.in-Ok.party c.loop-seated.seated c.args.lines.now c.loop-seated.invariant.all c.in_ok-push.ensures.items c.in-Ok.ensures.party;
}

pub seat_next-requires-clause-few : goal.seat_next-requires-clause-few
seat_next-requires-clause-few g c = c.requires.few

pub seat_next-requires-clause-display : goal.seat_next-requires-clause-display
seat_next-requires-clause-display g c = c.requires.display

pub seat_next-requires-clause-seating : goal.seat_next-requires-clause-seating
seat_next-requires-clause-seating g c = c.loop-seated.invariant.seating
