use Rattle.std.proofs.Common.{◌+◌, ◌<◌, ◌≤◌, List, All, length, map, ap, sym, subst, ◌∙◌, arith}
use Rattle.ssim_flights.specs.declared.timetable.PlannedLeg.{PlannedLeg}
use Rattle.ssim_flights.specs.Timetables.{legs_at, planned_on, IsFit, IsRowOf}
use Rattle.ssim_flights.proofs.Timetables.{few_legs_at, flight_known, many_flights, row_known}
use Rattle.ssim_flights.proofs.timetable.Timetable.flight.Goals as goal

pub index-row-requires : goal.index-row-requires
index-row-requires c =
    let many = many_flights c.args.self.now in
    let inside = c.requires.inside in
    omega arith

pub legs_at-requires : goal.legs_at-requires
legs_at-requires c =
    let many = many_flights c.args.self.now in
    let inside = c.requires.inside in
    let here : c.args.i < length c.args.self.now.rows.items = omega arith in
    let row : IsRowOf c.args.self.now.legs.items c.index-row.result.now = row_known c.args.self.now c.args.i c.index-row.result.now c.requires.table here c.index-row.ensures in
    subst (λ (ls : List PlannedLeg). c.index-row.result.now.start + c.index-row.result.now.count ≤ length ls) (sym c.deref.ensures.value) row.inside

pub dated_legs-requires-clause-few : goal.dated_legs-requires-clause-few
dated_legs-requires-clause-few c =
    let many = many_flights c.args.self.now in
    let inside = c.requires.inside in
    let here : c.args.i < length c.args.self.now.rows.items = omega arith in
    let row : IsRowOf c.args.self.now.legs.items c.index-row.result.now = row_known c.args.self.now c.args.i c.index-row.result.now c.requires.table here c.index-row.ensures in
    subst (λ (ls : List PlannedLeg). length ls ≤ 8) (sym (c.legs_at.ensures ∙ ap (λ (ls : List PlannedLeg). legs_at ls c.index-row.result.now) c.deref.ensures.value))
    (few_legs_at c.args.self.now.legs.items c.index-row.result.now row)

pub dated_legs-requires-clause-fit : goal.dated_legs-requires-clause-fit
dated_legs-requires-clause-fit c =
    let many = many_flights c.args.self.now in
    let inside = c.requires.inside in
    let here : c.args.i < length c.args.self.now.rows.items = omega arith in
    let row : IsRowOf c.args.self.now.legs.items c.index-row.result.now = row_known c.args.self.now c.args.i c.index-row.result.now c.requires.table here c.index-row.ensures in
    subst (λ (ls : List PlannedLeg). All (λ leg. IsFit c.index-row.result.now.row leg.days) ls) (sym (c.legs_at.ensures ∙ ap (λ (ls : List PlannedLeg). legs_at ls c.index-row.result.now) c.deref.ensures.value)) row.fit

pub returns : goal.returns
returns c =
    let many = many_flights c.args.self.now in
    let inside = c.requires.inside in
    let here : c.args.i < length c.args.self.now.rows.items = omega arith in
    flight_known c.args.self.now c.args.i c.index-row.result.now c.dated_legs.result here c.index-row.ensures
    (c.dated_legs.ensures ∙ ap (map (planned_on c.index-row.result.now.row)) (c.legs_at.ensures ∙ ap (λ (ls : List PlannedLeg). legs_at ls c.index-row.result.now) c.deref.ensures.value))
