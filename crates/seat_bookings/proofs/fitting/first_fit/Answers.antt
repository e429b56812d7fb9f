use Rattle.std.proofs.Common.{◌∙◌}
use Rattle.seat_nesting.specs.Counting.{limits_of, table_of}
use Rattle.seat_bookings.proofs.Waitlists.Fitting.{first_fits}
use Rattle.seat_bookings.proofs.fitting.first_fit.Goals as goal

pub returns : goal.returns
returns c =
    let counts = c.args.counts.now in
    c.first_below.ensures ∙ first_fits (limits_of counts) (table_of counts) c.args.most.now c.args.bookings.now c.requires
