use Rattle.std.proofs.Common.{◌≡◌}
use Rattle.toml.specs.View.{members_view}
use Rattle.seat_season.specs.Season.{unknown_in}
use Rattle.seat_season.proofs.season.unknown_key.Given as goal

abbrev pub invariant-members : goal.invariant-members
invariant-members l =
    (goal.iterator-members).can_next l.key-iterator × (goal.iterator-members).is_finite l.key-iterator
    × (unknown_in (members_view l.key-iterator) ≡ unknown_in (members_view l.table.entries))
