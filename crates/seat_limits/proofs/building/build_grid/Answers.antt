use Rattle.std.proofs.Common.{◌≡◌, subst}
use Rattle.std.specs.Result.{IfOk}
use Rattle.seat_nesting.specs.Nesting.{Ladders}
use Rattle.seat_limits.proofs.building.build_grid.Goals as goal

pub of-requires : goal.of-requires
of-requires c = record { closed = c.in-Ok-plan_of.ensures.closed }

pub returns : goal.returns
returns c = subst (λ (g : Ladders). IfOk c.of.result (λ grid. grid ≡ g)) c.in-Ok-plan_of.ensures.flights c.of.ensures
