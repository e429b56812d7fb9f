use Rattle.std.proofs.Common.{◌≡◌, length, [], ◌∷◌, sym, ◌∙◌, rules}
use Rattle.ssim_flights.proofs.Chaining.{reach_first, reach_from}
use Rattle.ssim_flights.specs.Taken.{has_departure}
use Rattle.ssim_flights.specs.Timetables.{flights_in}
use Rattle.ssim_flights.proofs.Expanding.{short_chain}
use Rattle.ssim_flights.proofs.Addings.{added_none, empty, added_rows}
use Rattle.ssim_flights.proofs.Timetables.{rows_small}
use Rattle.ssim_flights.proofs.adding.add_chain.Goals as goal

pub add-requires-clause-reach : goal.add-requires-clause-reach
add-requires-clause-reach c = reach_from c.args.plan.now c.args.chained.now c.rows-indices.result c.rows-indices.ensures

pub add-requires-clause-short : goal.add-requires-clause-short
add-requires-clause-short c =
    short_chain c.args.plan.now (has_departure c.args.flown.now.taken) (length (flights_in c.args.flown.now.flights)) c.args.legs.now c.args.chained.now c.requires.chained
    (sym c.days_fault.ensures ∙ c.in_default.is)

pub add-requires-clause-small : goal.add-requires-clause-small
add-requires-clause-small c =
    let parts : c.args.chained.now ≡ c.in-Some-split_first.first.now ∷ c.in-Some-split_first._rest.now = search rules in
    rows_small c.args.plan.now c.args.legs.now c.in-Some-split_first.first.now c.in-Some-split_first._rest.now c.args.chained.now c.rows-indices.result c.requires.right c.requires.end c.requires.chained
    parts c.rows-indices.ensures

pub take_all-requires : goal.take_all-requires
take_all-requires c =
    let parts : c.args.chained.now ≡ c.in-Some-split_first.first.now ∷ c.in-Some-split_first._rest.now = search rules in
    reach_first c.in-Some-split_first.first.now c.in-Some-split_first._rest.now c.args.chained.now c.rows-indices.result parts
    (reach_from c.args.plan.now c.args.chained.now c.rows-indices.result c.rows-indices.ensures)

pub returns-in_default-split_first-clause-ok : goal.returns-in_default-split_first-clause-ok
returns-in_default-split_first-clause-ok c =
    let none : length c.args.chained.now ≡ 0 = search rules in
    let parts : c.args.chained.now ≡ [] = empty c.args.chained.now none in
    added_none c.args.plan.now c.args.legs.now c.args.chained.now c.args.flown.now parts (sym c.days_fault.ensures ∙ c.in_default.is) c.requires.table

pub returns-clause-ok : goal.returns-clause-ok
returns-clause-ok c =
    let parts : c.args.chained.now ≡ c.in-Some-split_first.first.now ∷ c.in-Some-split_first._rest.now = search rules in
    added_rows c.args.plan.now c.args.legs.now c.in-Some-split_first.first.now c.in-Some-split_first._rest.now c.args.chained.now c.rows-indices.result c.args.flown.now _ parts
    c.rows-indices.ensures (sym c.days_fault.ensures ∙ c.in_default.is) c.in-Ok.ensures.flights c.in-Ok.ensures.table c.in-Ok-take_all.ensures
