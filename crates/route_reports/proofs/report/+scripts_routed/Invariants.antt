use Rattle.std.proofs.Common.{length}
use Rattle.route_reports.proofs.report.+scripts_routed.Given as goal

abbrev pub decreases-scripts_routed : goal.decreases-scripts_routed
decreases-scripts_routed g l = length l.scripts.now
