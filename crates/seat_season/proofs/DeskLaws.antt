-- Names of desks: how many there are.
use Rattle.std.proofs.Common.{◌≡◌, suc, List, [], ◌∷◌, length, refl, ap}
use Rattle.toml.specs.View.{items_view}
use Rattle.toml.specs.declared.value.Value.{Value}
use Rattle.seat_season.specs.Desks.{count}

pub as_many : (names : List Value) → count (items_view names) ≡ length names
as_many [] = refl
as_many (name ∷ names) = ap suc (as_many names)
