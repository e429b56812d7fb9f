-- What is left comes to what the text comes to.
use Rattle.std.proofs.Common.{◌+◌, ◌≤◌, length}
use Rattle.carry_protections.proofs.Following.{GoesOn}
use Rattle.carry_protections.proofs.course.read_courses.Given as goal

abbrev pub invariant-loop-rest : goal.invariant-loop-rest
invariant-loop-rest l = record {
  goes : GoesOn l.old l.new l.bytes l.line l.rest l.all;
  counted : l.line + length l.rest ≤ length l.bytes;
}

abbrev pub decreases-loop-rest : goal.decreases-loop-rest
decreases-loop-rest l = length l.rest
