-- What a step adds to that which is kept by name.
use Rattle.std.specs.Prelude.{List, ◌++◌}
use Rattle.partner_lists.specs.Names.{Finds, Kept}
use Rattle.partner_lists.specs.declared.name.Name.{Name}

-- whatever pairs were found before, these are found behind them
pub record Notes {V : Type 0} (pairs : List (Name × V)) (old new : Kept V) : Type 0 where
  pub behind : (before : List (Name × V)) → Finds old before → Finds new (before ++ pairs)
