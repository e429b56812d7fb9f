use Rattle.std.proofs.Common.{◌≡◌, ◌+◌, ◌-◌, ◌<◌, length, arith}
use Rattle.seat_nesting.specs.Counting.{leg_of, held_on}
use Rattle.seat_nesting.proofs.LegCounting.{kept_now, steps_now, held_seen}
use Rattle.seat_nesting.proofs.Rooms.{room_above}
use Rattle.seat_nesting.proofs.ToldRooms.{room_told}
use Rattle.seat_nesting.proofs.leg_counts.LegCounts.room.Goals as goal

pub overflow_add-held : goal.overflow_add-held
overflow_add-held c =
    let i = c.loop-rank.rank - 1 in
    let next : c.loop-rank.rank ≡ i + 1 = omega arith in
    let inside : i < length c.args.self.now.steps = omega (arith, c.loop-rank.invariant.inside) in
    let is = rw (steps_now c.self.inside.steps.now c.self.inside.held.now c.args.self.now c.self.view_is) at c.index-steps-rank.is in
    let seen = held_seen (leg_of c.self.inside.steps.now c.self.inside.held.now) c.args.self.now i c.loop-rank.rank c.index-steps-rank.result c.self.view_is (kept_now c.self.inside.steps.now c.self.inside.held.now c.args.self.now c.self.view_is c.self.invariant) next inside is in
    omega (arith, seen, c.loop-rank.invariant.carried)

pub overflow_sub-here : goal.overflow_sub-here
overflow_sub-here c =
    let i = c.loop-rank.rank - 1 in
    let next : c.loop-rank.rank ≡ i + 1 = omega arith in
    let inside : i < length c.args.self.now.steps = omega (arith, c.loop-rank.invariant.inside) in
    let is = rw (steps_now c.self.inside.steps.now c.self.inside.held.now c.args.self.now c.self.view_is) at c.index-steps-rank.is in
    let seen = held_seen (leg_of c.self.inside.steps.now c.self.inside.held.now) c.args.self.now i c.loop-rank.rank c.index-steps-rank.result c.self.view_is (kept_now c.self.inside.steps.now c.self.inside.held.now c.args.self.now c.self.view_is c.self.invariant) next inside is in
    omega (arith, seen, c.loop-rank.invariant.carried)

pub loop-rank-preserved-then-eq : goal.loop-rank-preserved-then-eq
loop-rank-preserved-then-eq c =
    let i = c.loop-rank.rank - 1 in
    let next : c.loop-rank.rank ≡ i + 1 = omega arith in
    let inside : i < length c.args.self.now.steps = omega (arith, c.loop-rank.invariant.inside) in
    let is = rw (steps_now c.self.inside.steps.now c.self.inside.held.now c.args.self.now c.self.view_is) at c.index-steps-rank.is in
    let seen = held_seen (leg_of c.self.inside.steps.now c.self.inside.held.now) c.args.self.now i c.loop-rank.rank c.index-steps-rank.result c.self.view_is (kept_now c.self.inside.steps.now c.self.inside.held.now c.args.self.now c.self.view_is c.self.invariant) next inside is in
    record {
      inside = omega arith;
      carried = omega (arith, seen, c.loop-rank.invariant.carried);
      left =
          room_told c.args.self.now.steps i c.loop-rank.rank c.index-steps-rank.result (held_on c.args.self.now) c.args.class _ c.room_at-room.result next inside is
          c.if-eq.ensures c.room_at-room.ensures (omega (arith, seen, c.loop-rank.invariant.carried));
    }

pub loop-rank-preserved : goal.loop-rank-preserved
loop-rank-preserved c =
    let i = c.loop-rank.rank - 1 in
    let next : c.loop-rank.rank ≡ i + 1 = omega arith in
    let inside : i < length c.args.self.now.steps = omega (arith, c.loop-rank.invariant.inside) in
    let is = rw (steps_now c.self.inside.steps.now c.self.inside.held.now c.args.self.now c.self.view_is) at c.index-steps-rank.is in
    let seen = held_seen (leg_of c.self.inside.steps.now c.self.inside.held.now) c.args.self.now i c.loop-rank.rank c.index-steps-rank.result c.self.view_is (kept_now c.self.inside.steps.now c.self.inside.held.now c.args.self.now c.self.view_is c.self.invariant) next inside is in
    let above = room_above c.args.self.now.steps i c.loop-rank.rank c.index-steps-rank.result (held_on c.args.self.now) c.args.class next inside is c.if-eq.ensures in
    record {
      inside = omega arith;
      carried = omega (arith, seen, c.loop-rank.invariant.carried);
      left = omega (arith, seen, above, c.loop-rank.invariant.carried, c.loop-rank.invariant.left, c.min-room.ensures);
    }
