use Rattle.std.proofs.Common.{◌≡◌, ◌≤◌, length, refl, arith}
use Rattle.ssim_flights.proofs.Addings.{on_ok}
use Rattle.ssim_flights.proofs.Timetables.{flights_added, table_added, many_flights}
use Rattle.ssim_flights.proofs.timetable.Timetable.add.Goals as goal

pub overflow_cast-first_row : goal.overflow_cast-first_row
overflow_cast-first_row c =
    let many = many_flights c.args.self.now in
    let small = c.requires.table.small in
    let few = c.requires.few in
    omega arith

pub returns-clause-flights : goal.returns-clause-flights
returns-clause-flights c =
    let start : c.len-2.result ≡ length c.args.self.now.legs.items = omega arith in
    on_ok c.add_rows.result _ _
    (λ rows. flights_added c.args.plan.now c.args.first.now c.args.legs.now c.args.rows.now c.args.self.now _ c.len-2.result (length c.args.legs.now) c.requires.table start refl c.requires.short
    (c.in-Ok.ensures) rows c.requires.reach)
    c.add_rows.ensures

pub returns-clause-table : goal.returns-clause-table
returns-clause-table c =
    let start : c.len-2.result ≡ length c.args.self.now.legs.items = omega arith in
    let some : 1 ≤ length c.args.rows.now = omega arith in
    on_ok c.add_rows.result _ _
    (λ rows. table_added c.args.plan.now c.args.first.now c.args.legs.now c.args.rows.now c.args.self.now _ c.len-2.result (length c.args.legs.now) c.requires.table start refl c.requires.short
    (c.in-Ok.ensures) rows c.requires.reach some)
    c.add_rows.ensures
