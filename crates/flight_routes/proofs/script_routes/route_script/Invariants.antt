-- The lines so far are right and routed.
use Rattle.std.proofs.Common.{◌+◌, ◌≤◌, length}
use Rattle.flight_routes.proofs.Routing.{IsRouted}
use Rattle.flight_routes.proofs.script_routes.route_script.Given as goal

abbrev pub invariant-loop-rest : goal.invariant-loop-rest
invariant-loop-rest l = record {
  routed : IsRouted l.shards l.session l.bytes l.line l.begun l.rest l.text.items;
  counted : l.line + length l.rest ≤ length l.bytes;
}

abbrev pub decreases-loop-rest : goal.decreases-loop-rest
decreases-loop-rest l = length l.rest
