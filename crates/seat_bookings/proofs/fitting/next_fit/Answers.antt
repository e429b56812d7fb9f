use Rattle.std.proofs.Common.{◌+◌, ◌-◌, refl}
use Rattle.seat_nesting.specs.Counting.{limits_of, table_of}
use Rattle.seat_bookings.proofs.Waitlists.Fitting.{most_behind, next_further, next_nowhere, none_next}
use Rattle.seat_bookings.proofs.Waitlists.Reaching.{reach_within}
use Rattle.seat_bookings.proofs.fitting.next_fit.Goals as goal

pub reach-requires : goal.reach-requires
reach-requires c = c.requires.indexed.ordered

pub returns-in-Some-fit_from : goal.returns-in-Some-fit_from
returns-in-Some-fit_from c =
    let counts = c.args.counts.now in
    next_further (limits_of counts) (table_of counts) c.args.bookings.now c.args.demands.now c.args.from c.in-Some.first c.reach.result c.max-start.result c.in-Some-fit_from.at
    (c.max-start.result - c.args.from + c.in-Some-fit_from.at) c.requires.indexed c.in-Some.ensures.first c.requires.within c.reach.ensures c.max-start.ensures
    c.in-Some-fit_from.ensures refl

pub returns-in-None : goal.returns-in-None
returns-in-None c =
    let counts = c.args.counts.now in
    next_nowhere (limits_of counts) (table_of counts) c.args.bookings.now c.args.demands.now c.args.from c.in-Some.first c.reach.result c.max-start.result
    c.requires.indexed c.in-Some.ensures.first c.requires.within c.reach.ensures c.max-start.ensures c.in-None.ensures

pub returns-in_default : goal.returns-in_default
returns-in_default c =
    none_next (limits_of c.args.counts.now) (table_of c.args.counts.now) c.args.bookings.now c.args.demands.now c.args.from c.requires.indexed c.in_default.ensures.first

pub fit_from-requires-clause-within : goal.fit_from-requires-clause-within
fit_from-requires-clause-within c =
    reach_within _ c.args.bookings.now c.args.from c.reach.result c.max-start.result c.requires.within c.reach.ensures c.max-start.ensures

pub fit_from-requires-clause-most : goal.fit_from-requires-clause-most
fit_from-requires-clause-most c =
    most_behind (limits_of c.args.counts.now) (table_of c.args.counts.now) _ c.args.bookings.now c.args.demands.now c.max-start.result c.requires.indexed c.first_fitting.ensures.most
