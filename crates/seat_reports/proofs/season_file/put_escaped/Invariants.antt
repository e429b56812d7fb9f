use Rattle.std.proofs.Common.{◌≡◌, ◌++◌, length}
use Rattle.seat_reports.specs.SeasonFile.{escaped}
use Rattle.seat_reports.proofs.season_file.put_escaped.Given as goal

abbrev pub invariant-loop-rest : goal.invariant-loop-rest
invariant-loop-rest l = l.text.items ++ escaped l.rest ≡ l.fn.text.items ++ escaped l.name

abbrev pub decreases-loop-rest : goal.decreases-loop-rest
decreases-loop-rest l = length l.rest
