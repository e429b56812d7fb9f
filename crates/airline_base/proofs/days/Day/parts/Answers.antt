use Rattle.std.proofs.Common.{arith}
use Rattle.airline_base.proofs.Years.{parted, cast_year}
use Rattle.airline_base.proofs.days.Day.parts.Goals as goal

pub overflow_cast-result : goal.overflow_cast-result
overflow_cast-result c =
    let p = parted c.from_days_since_min-date.result c.self.inside.number c.self.invariant c.from_days_since_min-date.ensures in
    rw (cast_year _ p.0 p.1 p.3) (tt, omega arith)

pub returns-clause-date : goal.returns-clause-date
returns-clause-date c =
    let p = parted c.from_days_since_min-date.result c.self.inside.number c.self.invariant c.from_days_since_min-date.ensures in
    rw (cast_year _ p.0 p.1 p.3, ← c.self.view_is) p.4

pub returns-clause-years : goal.returns-clause-years
returns-clause-years c =
    let p = parted c.from_days_since_min-date.result c.self.inside.number c.self.invariant c.from_days_since_min-date.ensures in
    rw (cast_year _ p.0 p.1 p.3) (p.2, p.3)
