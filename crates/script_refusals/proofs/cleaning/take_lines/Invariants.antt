-- The lines so far are taken.
use Rattle.std.proofs.Common.{◌≡◌, ◌+◌, ◌≤◌, ◌++◌, length}
use Rattle.std.specs.List.{concat}
use Rattle.script_refusals.specs.Cleaning.{cleaned_lines, lines_left, refusals_from, refusals_of, whole_lines}
use Rattle.script_refusals.proofs.cleaning.take_lines.Given as goal

abbrev pub invariant-loop-rest : goal.invariant-loop-rest
invariant-loop-rest l = record {
  text : lines_left l.bytes ≡ l.text.items ++ concat (cleaned_lines l.passage (whole_lines l.rest));
  refusals : refusals_of l.bytes ≡ l.refusals ++ refusals_from l.passage (l.line + 1) (whole_lines l.rest);
  counted : l.line + length l.rest ≤ length l.bytes;
}

abbrev pub decreases-loop-rest : goal.decreases-loop-rest
decreases-loop-rest l = length l.rest
