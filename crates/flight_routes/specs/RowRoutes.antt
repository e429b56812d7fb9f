-- Where rows of changes go: each to the shard of its own flight.
use Rattle.std.specs.Prelude.{ℕ, List, [], ◌∷◌, ◌++◌, codes, decimal}
use Rattle.std.specs.List.{flat_map}
use Rattle.std.specs.Str.Lines.{lines}
use Rattle.seat_limits.specs.declared.change_row.ChangeRow.{ChangeRow}
use Rattle.flight_routes.specs.Shards.{name_text, shard_of}

-- a row, its line as it stands in the text, and the shard that it goes to
pub record RowRoute : Type 0 where
  pub shard : ℕ
  pub line : ℕ
  pub text : List ℕ

abbrev pub row_route : ℕ → List ℕ → ChangeRow → RowRoute
row_route shards text row = record {
  shard = shard_of shards (name_text row.airline row.number row.suffix);
  line = row.line;
  text = text;
}

-- each line that is not empty has the next row
abbrev pub own_row : ℕ → List ℕ → List ChangeRow → List RowRoute
own_row shards [] rows = []
own_row shards (c ∷ text) [] = []
own_row shards (c ∷ text) (row ∷ rows) = row_route shards (c ∷ text) row ∷ []

abbrev pub rows_left : List ℕ → List ChangeRow → List ChangeRow
rows_left [] rows = rows
rows_left (c ∷ text) [] = []
rows_left (c ∷ text) (row ∷ rows) = rows

abbrev pub row_routes_from : ℕ → List (List ℕ) → List ChangeRow → List RowRoute
row_routes_from shards [] rows = []
row_routes_from shards (text ∷ texts) rows = own_row shards text rows ++ row_routes_from shards texts (rows_left text rows)

abbrev pub row_routes_of : ℕ → List ℕ → List ChangeRow → List RowRoute
row_routes_of shards bytes rows = row_routes_from shards (lines bytes) rows

-- shard, session 0, number of the line, each with a blank behind it
abbrev pub row_head : ℕ → ℕ → List ℕ
row_head shard line = decimal shard ++ codes " 0 " ++ decimal line ++ codes " "

-- and the row as it stands in the text
abbrev pub row_text : RowRoute → List ℕ
row_text r = row_head r.shard r.line ++ r.text ++ codes "\n"

abbrev pub row_routes_text : List RowRoute → List ℕ
row_routes_text routes = flat_map row_text routes
