-- The lines so far are routed.
use Rattle.std.proofs.Common.{◌≡◌, ◌++◌, length}
use Rattle.std.specs.Str.Lines.{lines}
use Rattle.flight_routes.specs.RowRoutes.{row_routes_from, row_routes_of, row_routes_text}
use Rattle.flight_routes.proofs.row_routes.route_changes.Given as goal

abbrev pub invariant-loop-left : goal.invariant-loop-left
invariant-loop-left l =
    row_routes_text (row_routes_of l.shards l.bytes l.rows) ≡ l.text.items ++ row_routes_text (row_routes_from l.shards (lines l.rest) l.left)

abbrev pub decreases-loop-left : goal.decreases-loop-left
decreases-loop-left l = length l.rest
