use Rattle.std.proofs.Common.{List, drop, ◌∙◌}
use Rattle.seat_nesting.specs.Nesting.{Ladders, Table}
use Rattle.seat_nesting.specs.Counting.{limits_of, table_of}
use Rattle.seat_rules.specs.declared.booking.Booking.{Booking}
use Rattle.seat_rules.specs.Tables.{advices_by}
use Rattle.seat_core.proofs.Passes.Skipped.{told_on, back_on}
use Rattle.seat_core.proofs.pass.confirm_each.Goals as goal

pub loop-at-preserved : goal.loop-at-preserved
loop-at-preserved c =
    let before : Ladders = limits_of c.loop-at.counts in
    let grid : Ladders = limits_of c.args.counts.now in
    let t : Table = table_of c.loop-at.counts in
    let u : Table = table_of c.confirm_next.new.counts in
    let queue : List Booking = c.args.queue.now.bookings in
    let same = c.loop-at.invariant.limits in
    record {
      limits = c.confirm_next.ensures.limits ∙ same;
      within = c.in-Ok.ensures.inside;
      told = told_on before grid t u c.loop-at.advices.items c.confirm_next.new.advices.items (advices_by grid (table_of c.args.counts.now) queue) (drop c.loop-at.at queue) (drop c.in-Ok.next queue) same c.in-Ok.ensures.told c.loop-at.invariant.told;
      back = back_on before grid t u (table_of c.args.counts.now) c.loop-at.advices.items c.confirm_next.new.advices.items same c.confirm_next.ensures.back c.loop-at.invariant.back;
    }
