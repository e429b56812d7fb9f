-- A table of what a journal leaves.
use Rattle.std.specs.Prelude.{Bool, true, false, List, []}
use Rattle.seat_tables.specs.declared.cell.Cell.{Cell}

-- the rows of what is kept, and none of what is not
abbrev pub kept_rows : Bool → List (List Cell) → List (List Cell)
kept_rows true rows = rows
kept_rows false rows = []
