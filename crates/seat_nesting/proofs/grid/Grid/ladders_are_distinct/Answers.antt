use Rattle.std.proofs.Common.{subst}
use Rattle.seat_nesting.specs.Nesting.{Ladders}
use Rattle.seat_nesting.specs.FlatCounts.{IsLaid}
use Rattle.seat_nesting.proofs.Grids.{laid_ladders}
use Rattle.seat_nesting.proofs.grid.Grid.ladders_are_distinct.Goals as goal

pub returns : goal.returns
returns c = laid_ladders c.self.inside.layout c.args.self.now (subst (λ (g : Ladders). IsLaid c.self.inside.layout g) c.self.view_is c.self.invariant)
