use Rattle.std.proofs.Common.{◌≡◌, length}
use Rattle.std.proofs.Common.{◌+◌, ◌≤◌}
use Rattle.toml.specs.View.{items_view}
use Rattle.seat_season.specs.Desks.{place_from}
use Rattle.seat_season.proofs.desks.session_of.Given as goal

abbrev pub invariant-loop-rest : goal.invariant-loop-rest
invariant-loop-rest l = (place_from l.session l.name (items_view l.rest) ≡ place_from 1 l.name (items_view l.names)) × (l.session + length l.rest ≤ length l.names + 1)

abbrev pub decreases-loop-rest : goal.decreases-loop-rest
decreases-loop-rest l = length l.rest
