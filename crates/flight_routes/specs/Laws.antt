-- The laws of routes: what is said of each line, and that it has one shard.
use Rattle.std.specs.Prelude.{◌≡◌, ◌≤◌, ℕ, List, map}
use Rattle.std.specs.List.{AllByRecursion}
use Rattle.airimp_lines.specs.Script.{IsScript}
use Rattle.airimp_lines.specs.declared.requests.Request.{Request}
use Rattle.seat_limits.specs.ChangeRows.{IsChangeText}
use Rattle.seat_limits.specs.declared.change_row.ChangeRow.{ChangeRow}
use Rattle.flight_routes.specs.RowRoutes.{RowRoute, row_routes_of}
use Rattle.flight_routes.specs.ScriptRoutes.{Route, routes_of}
use Rattle.flight_routes.specs.Shards.{name_text, shard_of}

abbrev pub IsShard : ℕ → ℕ → Type 0
IsShard shards n = (1 ≤ n) × (n ≤ shards)

-- ---- scripts

-- the number of a line, whose booking it is, and the shard that it goes to
abbrev pub sent_of : Route → ℕ × List ℕ × ℕ
sent_of r = (r.line, r.opening.locator, r.shard)

-- a request's line, its booking, and the shard of its flight
abbrev pub sent_for : ℕ → Request → ℕ × List ℕ × ℕ
sent_for shards q =
    (q.line, q.locator, shard_of shards (name_text q.segment.airline q.segment.number q.segment.suffix))

-- the routes of a script are its requests, in order, each to the one shard of its flight
pub record AreSent (shards : ℕ) (script : List ℕ) (requests : List Request) : Type 0 where
  pub each : map sent_of (routes_of shards script) ≡ map (sent_for shards) requests
  pub within : AllByRecursion (λ r. IsShard shards r.shard) (routes_of shards script)

abbrev pub EachLineHasOneShard : Type 0
EachLineHasOneShard = (today shards : ℕ) (script : List ℕ) (requests : List Request) → 1 ≤ shards → IsScript today script requests
    → AreSent shards script requests

-- ---- rows of changes

abbrev pub row_sent_of : RowRoute → ℕ × ℕ
row_sent_of r = (r.line, r.shard)

abbrev pub row_sent_for : ℕ → ChangeRow → ℕ × ℕ
row_sent_for shards row = (row.line, shard_of shards (name_text row.airline row.number row.suffix))

-- the same of the rows of changes
pub record AreRowsSent (shards : ℕ) (bytes : List ℕ) (rows : List ChangeRow) : Type 0 where
  pub each : map row_sent_of (row_routes_of shards bytes rows) ≡ map (row_sent_for shards) rows
  pub within : AllByRecursion (λ r. IsShard shards r.shard) (row_routes_of shards bytes rows)

abbrev pub EachRowHasOneShard : Type 0
EachRowHasOneShard = (shards : ℕ) (bytes : List ℕ) (rows : List ChangeRow) → 1 ≤ shards → IsChangeText bytes rows
    → AreRowsSent shards bytes rows
