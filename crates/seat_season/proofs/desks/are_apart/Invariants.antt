use Rattle.std.proofs.Common.{◌≡◌, length}
use Rattle.toml.specs.View.{items_view}
use Rattle.seat_season.specs.Desks.{are_apart}
use Rattle.seat_season.proofs.desks.are_apart.Given as goal

abbrev pub invariant-loop-rest : goal.invariant-loop-rest
invariant-loop-rest l = are_apart (items_view l.rest) ≡ are_apart (items_view l.names)

abbrev pub decreases-loop-rest : goal.decreases-loop-rest
decreases-loop-rest l = length l.rest
