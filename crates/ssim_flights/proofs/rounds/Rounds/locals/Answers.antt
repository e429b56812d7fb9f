use Rattle.std.proofs.Common.{◌≡◌, ◌≤◌, ℤ, List, ℕ, All, length, sym, subst}
use Rattle.ssim_flights.specs.Timetables.{AreShifted}
use Rattle.ssim_flights.proofs.Clocks.{few_days}
use Rattle.ssim_flights.proofs.Timetables.{locals_are, round_range}
use Rattle.ssim_flights.proofs.rounds.Rounds.locals.Goals as goal

pub shifted-requires-clause-days : goal.shifted-requires-clause-days
shifted-requires-clause-days c =
    subst (λ (ds : List ℕ). All (λ d. (10957 ≤ d) × (d ≤ 47846)) ds) (sym c.as_slice.ensures.value)
    (round_range c.self.inside.leg c.self.inside.end c.self.inside.first.items c.self.inside.count c.self.invariant)

pub returns : goal.returns
returns c =
    let first : c.as_slice.result.now ≡ c.self.inside.first.items = c.as_slice.ensures.value in
    let after = few_days c.args.after c.requires.low c.requires.high in
    locals_are c.self.inside.leg c.self.inside.end c.args.self.now c.self.inside.first.items c.self.inside.count c.args.after _ c.self.invariant c.self.view_is c.requires.low c.requires.high
    (subst (λ (ds : List ℕ). AreShifted c.args.after ds (length ds) c.shifted.result) first
    (subst (λ (z : ℤ). AreShifted z c.as_slice.result.now (length c.as_slice.result.now) c.shifted.result) after c.shifted.ensures))
    c.len.ensures.value c.round_days.ensures
