use Rattle.std.proofs.Common.{refl}
use Rattle.seat_nesting.specs.Counting.{leg_of}
use Rattle.seat_nesting.proofs.LegCounting.{seats_seen}
use Rattle.seat_nesting.proofs.leg_counts.LegCounts.holds.Goals as goal

pub returns-in-Some : goal.returns-in-Some
returns-in-Some c =
    let leg = leg_of c.self.inside.steps.now c.self.inside.held.now in
    let held = seats_seen leg c.args.self.now c.args.class c.in-Some.rank c.self.view_is c.rank_of.ensures.kept c.in-Some.ensures.found in
    rw (c.in-Some.ensures.found.there, held) refl
