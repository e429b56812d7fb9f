use Rattle.std.proofs.Common.{◌+◌, ◌≤◌, length}
use Rattle.airimp_lines.proofs.Progress.{IsAt}
use Rattle.airimp_lines.proofs.script.read_script.Given as goal

abbrev pub invariant-loop-rest : goal.invariant-loop-rest
invariant-loop-rest l = record {
  at : IsAt l.today l.bytes l.line l.message l.rest l.requests;
  counted : l.line + length l.rest ≤ length l.bytes;
}

abbrev pub decreases-loop-rest : goal.decreases-loop-rest
decreases-loop-rest l = length l.rest
